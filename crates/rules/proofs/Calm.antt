-- Services after which nobody is put in another order (M-108): Start, Suspend, Resume, Yield and Sleep. They leave who waits for
-- whom as it was, so no effective priority changes (`calm_still`). In order: a record, a state (`Rest`); the five; the law.
-- Not here: hub requests (Unmoved.antt, Urgent.antt), Blank (Still.antt). Assumes nothing.
use Prim.Native.Nat.{ℕ}
use Rattle.rules.proofs.Accepted.{caller-ready}
use Rattle.rules.proofs.Changes.{set_case}
use Rattle.rules.proofs.Hubs.{core, hubs-serve}
use Rattle.rules.proofs.Inherited.{SameWaits}
use Rattle.rules.proofs.Kept.{unsorted_low, unsorted_serve, unsorted_sound, valid_unsorted}
use Rattle.rules.proofs.Quiet.{Other, is_resume, is_sleep, is_start, is_suspend, is_yield}
use Rattle.rules.proofs.Still.{alike_still}
use Rattle.rules.proofs.Valid.{Valid}
use Rattle.rules.specs.Calls.{AddHub, AddTask, Blank, flag, grant, HubRequest, Resume, serve, Service, Sleep, slept, Start, start, Stop, Suspend, Tick, Unknown, Yield, yielded}
use Rattle.rules.specs.Lists.{answer, answered, asleep, flagged, join_ready, leave, queued, readied}
use Rattle.rules.specs.Refusals.{refusal_for}
use Rattle.rules.specs.Reorder.{reordered}
use Rattle.rules.specs.Reply.{bears_answer}
use Rattle.rules.specs.Table.{Hub, State, Task, hub, kind_of, set_ready, set_task, task}
use Rattle.rules.specs.declared.Call.{Call}
use borrow.Author.Tests.{eqb-true}
use mathlib.Core.Bool.{Bool, false, true}
use mathlib.Core.Logic.{◌≢◌}
use mathlib.Core.Path.{◌∙◌, ◌≡◌, ap, refl, sym}
use native.Mathlib.Omega.{arith}

pub data Calm : Service → Type 0 where
  calm_start : Calm Start
  calm_suspend : Calm Suspend
  calm_resume : Calm Resume
  calm_yield : Calm Yield
  calm_sleep : Calm Sleep

-- ---- a record: who waits goes on at the same hub, nobody starts to, and the priority stays

record Rest1 (t t' : Task) : Type 0 where
  old : t.state ≡ 3 → t'.state ≡ 3
  new : t'.state ≡ 3 → t.state ≡ 3
  there : t.state ≡ 3 → t'.hub ≡ t.hub
  own : t'.priority ≡ t.priority

apart1 : (t t' : Task) → t.state ≢ 3 → t'.state ≢ 3 → t'.priority ≡ t.priority → Rest1 t t'
apart1 t t' n m e = record { old = λ h. absurd (n h); new = λ h. absurd (m h); there = λ h. absurd (n h); own = e }

-- ---- a state

abbrev Rest : State → State → Type 0
Rest s s' = (j : ℕ) → Rest1 (task s j) (task s' j)

rest_same : (s s' : State) → ((j : ℕ) → task s' j ≡ task s j) → Rest s s'
rest_same s s' e j = record {
  old = λ h. ap (λ (t : Task). t.state) (e j) ∙ h;
  new = λ h. sym (ap (λ (t : Task). t.state) (e j)) ∙ h;
  there = λ h. ap (λ (t : Task). t.hub) (e j);
  own = ap (λ (t : Task). t.priority) (e j);
}

rest_set : (s s' : State) (i : ℕ) (t : Task) → Rest s s' → Rest1 (task s i) t → Rest s (set_task i t s')
rest_set s s' i t q h j = set_case s' i t (λ u. Rest1 (task s j) u) j (λ e. rw e h) (q j)

rest_answer : (s s' : State) (i a w : ℕ) → Rest s s' → Rest s (answer i a w s')
unfolding answer answered
rest_answer s s' i a w q = rest_set s s' i _ q (record { old = (q i).old; new = (q i).new; there = (q i).there; own = (q i).own })

rest_grant : (b : Bool) (s s' : State) (c : Call) → (b ≡ true → Rest s s') → Rest s (grant b s' s c)
unfolding grant
rest_grant true s s' c q = rest_answer s s' c.caller 1 0 (q refl)
rest_grant false s s' c q = rest_answer s s c.caller 2 0 (rest_same s s (λ j. refl))

-- ---- the five

rest_start : (key : ℕ → ℕ) (s : State) (i : ℕ) → (task s i).state ≢ 3 → Rest s (start key i s)
unfolding join_ready readied set_ready start
rest_start key s i n = rest_set s s i _ (rest_same s s (λ j. refl)) (apart1 _ _ n (λ e. omega (arith, e)) refl)

rest_flag : (s : State) (f i : ℕ) → Rest s (flag f i s)
unfolding flag flagged
rest_flag s f i = rest_set s s i _ (rest_same s s (λ j. refl)) (record { old = λ h. h; new = λ h. h; there = λ h. refl; own = refl })

rest_yield : (key : ℕ → ℕ) (s : State) (i : ℕ) → Rest s (yielded key i s)
unfolding join_ready leave set_ready yielded
rest_yield key s i = rest_answer s (leave i s) i 1 0 (rest_same s (leave i s) (λ j. refl))

rest_sleep : (s : State) (n i : ℕ) → (task s i).state ≢ 3 → Rest s (slept n i s)
unfolding asleep leave slept
rest_sleep s n i h = rest_set s (leave i s) i _ (rest_same s (leave i s) (λ j. refl)) (apart1 _ _ h (λ e. omega (arith, e)) refl)

calm_rest : (key : ℕ → ℕ) (v : Service) → Calm v → (s : State) (c : Call) → (task s c.caller).state ≡ 2 → Rest s (serve key v s c)
unfolding serve
calm_rest key Start calm_start s c run =
    rest_grant _ s (start key c.target s) c (λ e. rest_start key s c.target (λ h. omega (arith, h, eqb-true (task s c.target).state 1 e)))
calm_rest key Suspend calm_suspend s c run = rest_grant _ s (flag 1 c.target s) c (λ e. rest_flag s 1 c.target)
calm_rest key Resume calm_resume s c run = rest_grant _ s (flag 0 c.target s) c (λ e. rest_flag s 0 c.target)
calm_rest key Yield calm_yield s c run = rest_yield key s c.caller
calm_rest key Sleep calm_sleep s c run = rest_sleep s c.ticks c.caller (λ h. omega (arith, h, run))
calm_rest key Blank x'' s c run = elim x'' [ ]
calm_rest key HubRequest x3 s c run = elim x3 [ ]
calm_rest key Stop x4 s c run = elim x4 [ ]
calm_rest key Tick x5 s c run = elim x5 [ ]
calm_rest key AddTask x6 s c run = elim x6 [ ]
calm_rest key AddHub x7 s c run = elim x7 [ ]
calm_rest key Unknown x8 s c run = elim x8 [ ]

calm_other : (v : Service) → Calm v → Other v
calm_other Start calm_start = is_start
calm_other Suspend calm_suspend = is_suspend
calm_other Resume calm_resume = is_resume
calm_other Yield calm_yield = is_yield
calm_other Sleep calm_sleep = is_sleep
calm_other Blank x' = elim x' [ ]
calm_other HubRequest x'' = elim x'' [ ]
calm_other Stop x3 = elim x3 [ ]
calm_other Tick x4 = elim x4 [ ]
calm_other AddTask x5 = elim x5 [ ]
calm_other AddHub x6 = elim x6 [ ]
calm_other Unknown x7 = elim x7 [ ]

calm_bears : (v : Service) → Calm v → bears_answer v ≡ true
unfolding bears_answer
calm_bears Start calm_start = refl
calm_bears Suspend calm_suspend = refl
calm_bears Resume calm_resume = refl
calm_bears Yield calm_yield = refl
calm_bears Sleep calm_sleep = refl
calm_bears Blank x' = elim x' [ ]
calm_bears HubRequest x'' = elim x'' [ ]
calm_bears Stop x3 = elim x3 [ ]
calm_bears Tick x4 = elim x4 [ ]
calm_bears AddTask x5 = elim x5 [ ]
calm_bears AddHub x6 = elim x6 [ ]
calm_bears Unknown x7 = elim x7 [ ]

-- ---- the law

module _ (key : ℕ → ℕ) (v : Service) (calm : Calm v) (s : State) (good : Valid s) (c : Call) (ok : refusal_for v s c ≡ 0) where
  abbrev done : State
  done = serve key v s c

  rest : Rest s done
  rest = calm_rest key v calm s c (caller-ready s good.listed c v ok (calm_bears v calm))

  kind_same : (h : ℕ) → (hub done h).kind ≡ (hub s h).kind
  unfolding core queued
  kind_same h = ap (λ (x : Hub). x.kind) ((hubs-serve key v (calm_other v calm) s c).each h)

  count_same : (h : ℕ) → (hub done h).count ≡ (hub s h).count
  unfolding core queued
  count_same h = ap (λ (x : Hub). x.count) ((hubs-serve key v (calm_other v calm) s c).each h)

  waits_same : SameWaits s done
  waits_same = record {
    forth = λ j i w. record {
      at = w.at;
      waiting = (rest j).old w.waiting;
      there = (rest j).there w.waiting ∙ w.there;
      resource = ap kind_of (kind_same w.at) ∙ w.resource;
      owned = count_same w.at ∙ w.owned;
    };
    back = λ j i w. record {
      at = w.at;
      waiting = (rest j).new w.waiting;
      there = sym ((rest j).there ((rest j).new w.waiting)) ∙ w.there;
      resource = ap kind_of (sym (kind_same w.at)) ∙ w.resource;
      owned = sym (count_same w.at) ∙ w.owned;
    };
    own = λ j. (rest j).own;
  }

  pub calm_still : reordered s done ≡ done
  calm_still =
      let g = unsorted_serve key v s c (valid_unsorted s good) ok in
      alike_still s done waits_same (unsorted_sound s (valid_unsorted s good)) (unsorted_sound done g) (unsorted_low s (valid_unsorted s good)) (unsorted_low done g)
