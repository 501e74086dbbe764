-- A hub request at any hub but a Resource puts nobody in another order (M-108): whoever is met there waited for no lock, and
-- whoever waits there now waits for none (`lockless_still`).
-- Not here: requests at a Resource (Unmoved.antt, Urgent.antt), the other services (Calm.antt). Assumes nothing.
use Prim.Native.Nat.{suc, ℕ}
use Rattle.rules.proofs.Accepted.{Asked, request_tests}
use Rattle.rules.proofs.Cases.{cond_case, same_or}
use Rattle.rules.proofs.Hubs.{core, hubs-wait}
use Rattle.rules.proofs.Inherited.{SameWaits}
use Rattle.rules.proofs.Kept.{unsorted_low, unsorted_serve, unsorted_sound, valid_unsorted}
use Rattle.rules.proofs.Settled.{wait-caller, wait_other}
use Rattle.rules.proofs.Still.{alike_still, answer-waits}
use Rattle.rules.proofs.Unmoved.{met-waits, same_wait}
use Rattle.rules.proofs.Valid.{Valid}
use Rattle.rules.specs.Calls.{HubRequest, serve, settle, wait}
use Rattle.rules.specs.Effective.{effective}
use Rattle.rules.specs.HubTable.{Verdict, fail, met, not_now, verdict}
use Rattle.rules.specs.Lists.{queued, waits}
use Rattle.rules.specs.Meaning.{WaitsFor}
use Rattle.rules.specs.Refusals.{refusal_for}
use Rattle.rules.specs.Reorder.{reordered}
use Rattle.rules.specs.Table.{Hub, Resource, State, Task, hub, kind_of, task}
use Rattle.rules.specs.declared.Call.{Call}
use lib.Dec.{eqb}
use mathlib.Core.Logic.{◌≢◌}
use mathlib.Core.Path.{◌∙◌, ◌≡◌, ap, refl, sym}
use native.Mathlib.Omega.{arith}

module _ (s : State) (v : Valid s) (c : Call) (ok : refusal_for HubRequest s c ≡ 0) (other : kind_of (hub s c.target).kind ≢ Resource) where
  asks : Asked s c
  asks = request_tests s v.listed c ok

  abbrev waiting : State
  waiting = wait (effective s) s c

  -- who waits for a lock waited for it before: the caller waits elsewhere
  not-caller : (j i : ℕ) → WaitsFor waiting j i → j ≢ c.caller
  unfolding core queued waits
  not-caller j i w e =
      let there : (task waiting j).hub ≡ suc c.target = ap (λ (k : ℕ). (task waiting k).hub) e ∙ ap (λ (t : Task). t.hub) (wait-caller (effective s) s c asks.run) in
      let here : w.at ≡ c.target = omega (arith, there, w.there) in
      other (ap (λ (x : Hub). kind_of x.kind) (sym ((hubs-wait (effective s) s c).each c.target)) ∙ rw here at w.resource)

  wait-waits : SameWaits s waiting
  unfolding waits
  wait-waits = record {
    forth = λ j i w. same_wait s waiting j i w
        (wait_other (effective s) s c asks.run j (λ e. omega (arith, w.waiting, ap (λ (k : ℕ). (task s k).state) e, asks.run)))
        ((hubs-wait (effective s) s c).each w.at);
    back = λ j i w. same_wait waiting s j i w
        (sym (wait_other (effective s) s c asks.run j (not-caller j i w)))
        (sym ((hubs-wait (effective s) s c).each w.at));
    own = λ j. same_or j c.caller
        (λ e. rw e (ap (λ (t : Task). t.priority) (wait-caller (effective s) s c asks.run)))
        (λ n. ap (λ (t : Task). t.priority) (wait_other (effective s) s c asks.run j n));
  }

  settled-waits : (u : Verdict) → verdict s c ≡ u → SameWaits s (settle (effective s) u s c)
  unfolding settle
  settled-waits (met n ws x ms) e = met-waits s v c ok n ws x ms e (λ r. absurd (other r))
  settled-waits not_now e = cond_case (SameWaits s) (eqb c.mode 2) _ _ (λ _. answer-waits c.caller 2 0 s) (λ _. wait-waits)
  settled-waits fail e = answer-waits c.caller 2 0 s

  pub lockless_still : reordered s (serve (effective s) HubRequest s c) ≡ serve (effective s) HubRequest s c
  unfolding serve
  lockless_still =
      let g = unsorted_serve (effective s) HubRequest s c (valid_unsorted s v) ok in
      alike_still s (settle (effective s) (verdict s c) s c) (settled-waits (verdict s c) refl)
      (unsorted_sound s (valid_unsorted s v)) (unsorted_sound _ g) (unsorted_low s (valid_unsorted s v)) (unsorted_low _ g)
