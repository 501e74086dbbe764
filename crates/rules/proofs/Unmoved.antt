-- "A met or failed caller keeps its ready place" under M-108: a hub request that is met puts nobody in another order, but for an
-- unlock (`met_still`). Who waits for whom is what it was: whoever is met waited at no Resource, and a lock that is taken was free,
-- so that nobody waited for it.
-- Not here: a request that fails (Urgent.antt), Blank and a state in which nobody waits (Still.antt). Assumes nothing.
use Prim.Native.Nat.{suc, ℕ}
use Rattle.lists.proofs.Laws.{bool_case}
use Rattle.rules.proofs.Accepted.{Asked, request_tests}
use Rattle.rules.proofs.Changes.{set_keeps}
use Rattle.rules.proofs.Hubs.{core, hub_else, hub-target}
use Rattle.rules.proofs.Inherited.{SameWaits}
use Rattle.rules.proofs.Kept.{unsorted_low, unsorted_serve, unsorted_sound, valid_unsorted}
use Rattle.rules.proofs.Settled.{Partners, met_other, met-waiting, partners}
use Rattle.rules.proofs.Still.{alike_still}
use Rattle.rules.proofs.Valid.{GetWaits, MayWait, PutWaits, Valid}
use Rattle.rules.proofs.Verdicts.{Apart, after-kind, each_map, waiters_met}
use Rattle.rules.specs.Calls.{HubRequest, hold, meet_all, serve, settle}
use Rattle.rules.specs.Effective.{effective}
use Rattle.rules.specs.HubTable.{Meeting, Verdict, fail, get_resource, met, not_now, on_get, on_side, verdict}
use Rattle.rules.specs.Lists.{answer, answered, join_ready, leave, queued, readied, wake}
use Rattle.rules.specs.Meaning.{WaitsFor}
use Rattle.rules.specs.Refusals.{refusal_for}
use Rattle.rules.specs.Reorder.{reordered}
use Rattle.rules.specs.Table.{Get, Hub, NoSide, Put, Resource, Side, State, Task, Wipe, hub, kind_of, set_hub, set_ready, side_of, task}
use Rattle.rules.specs.WellFormed.{waits_for}
use Rattle.rules.specs.declared.Call.{Call}
use borrow.Author.Tests.{eq-eqb, eqb-true}
use lib.Dec.{eqb}
use mathlib.Core.Bool.{true}
use mathlib.Core.List.{List, [], ◌∷◌}
use mathlib.Core.Logic.{◌≢◌}
use mathlib.Core.Path.{◌∙◌, ◌≡◌, ap, refl, subst, sym}
use native.Mathlib.Omega.{arith}

-- nobody waits at a Resource that is free
wanted : (d : Side) (x : Hub) (j : ℕ) → MayWait d Resource x j → x.count ≢ 0
unfolding GetWaits MayWait PutWaits
wanted NoSide x j m = absurd m
wanted Put x j m = absurd m
wanted Get x j m = m.0
wanted Wipe x j m = absurd m

-- a lock that is taken was free
taken_free : (x : Hub) (i n : ℕ) (ws : List ℕ) (y : ℕ) (ms : List Meeting) → get_resource x i ≡ met n ws y ms → x.count ≡ 0
unfolding get_resource
taken_free x i n ws y ms e =
    bool_case (eqb x.count 0)
    (λ b. eqb-true x.count 0 b)
    (λ b. bool_case (eqb x.count (suc i))
    (λ d. let f : fail ≡ met n ws y ms = rw (b, d) at e in let z : ◌≡◌ {A = ℕ} 0 1 = cc in omega arith)
    (λ d. let f : not_now ≡ met n ws y ms = rw (b, d) at e in let z : ◌≡◌ {A = ℕ} 0 1 = cc in omega arith))

-- whoever is woken keeps its own priority
wake-priority : (key : ℕ → ℕ) (i a w : ℕ) (s : State) (j : ℕ) → (task (wake key i a w s) j).priority ≡ (task s j).priority
unfolding join_ready leave readied set_ready wake
wake-priority key i a w s j = set_keeps (leave i s) i (readied a w (task s i)) (λ (t : Task). t.priority) refl j

meet_priority : (key : ℕ → ℕ) (ms : List Meeting) (s : State) (j : ℕ) → (task (meet_all key ms s) j).priority ≡ (task s j).priority
unfolding meet_all
meet_priority key [] s j = refl
meet_priority key (m ∷ ms) s j = meet_priority key ms _ j ∙ wake-priority key m.waiter 1 m.word s j

-- a waiter's record and a hub's kind and count, where they are the same
pub same_wait : (s₁ s₂ : State) (j i : ℕ) (w : WaitsFor s₁ j i) → task s₂ j ≡ task s₁ j → core (hub s₂ w.at) ≡ core (hub s₁ w.at) → WaitsFor s₂ j i
unfolding core queued
same_wait s₁ s₂ j i w t h = record {
  at = w.at;
  waiting = ap (λ (y : Task). y.state) t ∙ w.waiting;
  there = ap (λ (y : Task). y.hub) t ∙ w.there;
  resource = ap (λ (y : Hub). kind_of y.kind) h ∙ w.resource;
  owned = ap (λ (y : Hub). y.count) h ∙ w.owned;
}

module _ (s : State) (v : Valid s) (c : Call) (ok : refusal_for HubRequest s c ≡ 0)
    (n : ℕ) (ws : List ℕ) (x : ℕ) (ms : List Meeting) (is : verdict s c ≡ met n ws x ms)
    (lock : kind_of (hub s c.target).kind ≡ Resource → c.side ≡ 2) where
  abbrev done : State
  done = settle (effective s) (met n ws x ms) s c

  asks : Asked s c
  asks = request_tests s v.listed c ok

  with_these : Partners s c ms
  unfolding waiters_met
  with_these = subst (λ (u : Verdict). Partners s c (waiters_met u)) is (partners s v.listed c)

  free : kind_of (hub s c.target).kind ≡ Resource → (hub s c.target).count ≡ 0
  unfolding on_get on_side side_of verdict
  free r = taken_free (hub s c.target) c.caller n ws x ms (rw (lock r, r) at is)

  -- nobody waits at the hub for whoever owns it
  nobody : (j i : ℕ) (w : WaitsFor s j i) → w.at ≢ c.target
  nobody j i w e =
      let r : kind_of (hub s c.target).kind ≡ Resource = rw e at w.resource in
      let z : (hub s c.target).count ≡ suc i = rw e at w.owned in
      omega (arith, z, free r)

  apart : (j i : ℕ) (w : WaitsFor s j i) → Apart ms j
  apart j i w =
      each_map _ _ (λ m q e. nobody j i w (let h : (task s j).hub ≡ suc c.target = ap (λ (k : ℕ). (task s k).hub) e ∙ q.hub in omega (arith, h, w.there))) ms with_these

  forth : (j i : ℕ) → WaitsFor s j i → WaitsFor done j i
  forth j i w =
      same_wait s done j i w
      (met_other (effective s) s c asks.run n ws x ms with_these j (apart j i w) (λ e. omega (arith, w.waiting, ap (λ (k : ℕ). (task s k).state) e, asks.run)))
      (hub_else (effective s) s c (met n ws x ms) w.at (nobody j i w))

  -- who waits now waited before, and not at the hub: there nobody waits whom its owner could hear
  elsewhere : (j i : ℕ) (w : WaitsFor done j i) → task done j ≡ task s j → w.at ≢ c.target
  unfolding core queued
  elsewhere j i w t e =
      let k : kind_of (hub done c.target).kind ≡ kind_of (hub s c.target).kind = ap (λ (y : Hub). kind_of y.kind) (hub-target (effective s) s c (met n ws x ms) asks.named) ∙ ap kind_of (after-kind (hub s c.target) (met n ws x ms)) in
      let r : kind_of (hub s c.target).kind ≡ Resource = sym k ∙ rw e at w.resource in
      let three : (task s j).state ≡ 3 = ap (λ (y : Task). y.state) (sym t) ∙ w.waiting in
      let there : (task s j).hub ≡ suc c.target = ap (λ (y : Task). y.hub) (sym t) ∙ w.there ∙ ap suc e in
      let stands : waits_for s c.target j ≡ true = rw (three, there, eq-eqb (suc c.target) (suc c.target) refl) in
      let may = v.waits.may c.target j stands in
      wanted (side_of (task s j).side) (hub s c.target) j (rw r at may) (free r)

  back : (j i : ℕ) → WaitsFor done j i → WaitsFor s j i
  back j i w =
      let a = met-waiting (effective s) s c asks.run n ws x ms with_these j w.waiting in
      let t = met_other (effective s) s c asks.run n ws x ms with_these j a.0 a.1 in
      same_wait done s j i w (sym t) (sym (hub_else (effective s) s c (met n ws x ms) w.at (elsewhere j i w t)))

  own : (j : ℕ) → (task done j).priority ≡ (task s j).priority
  unfolding answer answered hold set_hub settle
  own j =
      meet_priority (effective s) ms _ j
      ∙ set_keeps (hold c.target n ws s) c.caller (answered 1 x (task s c.caller)) (λ (t : Task). t.priority) refl j

  pub met-waits : SameWaits s done
  met-waits = record { forth = forth; back = back; own = own }

  -- a met caller, and everybody else, keeps its place
  pub met_still : reordered s (serve (effective s) HubRequest s c) ≡ serve (effective s) HubRequest s c
  unfolding serve
  met_still =
      let g = unsorted_serve (effective s) HubRequest s c (valid_unsorted s v) ok in
      let same : settle (effective s) (verdict s c) s c ≡ done = rw is in
      alike_still s (settle (effective s) (verdict s c) s c)
      (subst (SameWaits s) (sym same) met-waits)
      (unsorted_sound s (valid_unsorted s v)) (unsorted_sound _ g) (unsorted_low s (valid_unsorted s v)) (unsorted_low _ g)
