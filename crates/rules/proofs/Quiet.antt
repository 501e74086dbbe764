-- What a call may do to the record of a waiting task where it meets no request: the task goes on waiting as it did, is
-- stopped or times out, and nobody starts to wait. True of every service but Blank, Hub request, Stop and Add hub, by any key.
use Prim.Native.Nat.{◌≤◌, suc, zero, ℕ}
use Rattle.rules.proofs.Cases.{cond_case, same_or}
use Rattle.rules.proofs.Changes.{added_other, added_same, past_end, set_case, set_other}
use Rattle.rules.specs.Calls.{add_started, add_task, AddHub, AddTask, Blank, deactivate, flag, grant, HubRequest, Resume, serve, Service, Sleep, slept, Start, start, Stop, Suspend, Tick, tick_all, tick_by, tick_one, Unknown, Yield, yielded}
use Rattle.rules.specs.Lists.{answer, answered, asleep, counted, flagged, join_ready, leave, readied, wake}
use Rattle.rules.specs.Reply.{bears_answer}
use Rattle.rules.specs.Table.{State, Task, inactive, set_ready, set_task, task}
use Rattle.rules.specs.declared.Call.{Call}
use borrow.Author.Tests.{eqb-true}
use lib.Dec.{eqb}
use lib.ListN.{length}
use mathlib.Core.Bool.{Bool, false, true}
use mathlib.Core.Logic.{◌≢◌}
use mathlib.Core.Path.{◌∙◌, ◌≡◌, refl}
use native.Mathlib.Omega.{arith}

-- a waiting task goes on waiting with the same request, or is stopped, or times out
pub data Moved (t t' : Task) : Type 0 where
  stays : t'.state ≡ 3 → t'.hub ≡ t.hub → t'.side ≡ t.side → t'.word ≡ t.word → Moved t t'
  stopped : t'.state ≡ 1 → Moved t t'
  timed : t'.state ≡ 2 → t'.answer ≡ 3 → Moved t t'

pub record Quiet1 (t t' : Task) : Type 0 where
  pub old : t.state ≡ 3 → Moved t t'
  pub new : t'.state ≡ 3 → t.state ≡ 3

unfoldable pub Quiet : State → State → Type 0
Quiet s s' = (j : ℕ) → Quiet1 (task s j) (task s' j)

-- ---- a record

pub same1 : (t t' : Task) → t' ≡ t → Quiet1 t t'
same1 t t' e = record { old = λ h. stays (cc) (cc) (cc) (cc); new = λ h. cc }

other1 : (t t' : Task) → t.state ≢ 3 → t'.state ≢ 3 → Quiet1 t t'
other1 t t' h k = record { old = λ e. absurd (h e); new = λ e. absurd (k e) }

-- ---- a state

pub quiet_same : (s s' : State) → ((j : ℕ) → task s' j ≡ task s j) → Quiet s s'
unfolding Quiet
quiet_same s s' e j = same1 _ _ (e j)

pub quiet_refl : (s : State) → Quiet s s
quiet_refl s = quiet_same s s (λ j. refl)

-- one more record replaced
quiet_set : (s s' : State) (i : ℕ) (t : Task) → Quiet s s' → Quiet1 (task s i) t → Quiet s (set_task i t s')
unfolding Quiet
quiet_set s s' i t q h j = set_case s' i t (λ u. Quiet1 (task s j) u) j (λ e. rw e h) (q j)

pub quiet_answer : (s s' : State) (i a w : ℕ) → Quiet s s' → (task s i).state ≢ 3 → Quiet s (answer i a w s')
unfolding Quiet answer answered
quiet_answer s s' i a w q h = quiet_set s s' i _ q (other1 _ _ h (λ f. h ((q i).new f)))

-- ---- a tick, one task and then all: a task's record is as it was until its turn

module _ (key : ℕ → ℕ) where
  pub tick_by_other : (n : ℕ) (s : State) (i j : ℕ) → j ≢ i → task (tick_by key n i s) j ≡ task s j
  unfolding join_ready leave set_ready tick_by wake
  tick_by_other zero s i j h = refl
  tick_by_other (suc zero) s i j h = set_other (leave i s) i (readied 3 0 (task s i)) j h
  tick_by_other (suc (suc n)) s i j h = set_other s i (counted (suc n) (task s i)) j h

  pub tick_above : (n : ℕ) (s : State) (j : ℕ) → n ≤ j → task (tick_all key n s) j ≡ task s j
  unfolding tick_all tick_one
  tick_above zero s j h = refl
  tick_above (suc n) s j h = tick_by_other _ (tick_all key n s) n j (λ e. omega (arith, e)) ∙ tick_above n s j (omega arith)

  quiet_tick_by : (n : ℕ) (s s' : State) (i : ℕ) → Quiet s s' → task s' i ≡ task s i → Quiet s (tick_by key n i s')
  unfolding Quiet counted join_ready leave readied set_ready tick_by wake
  quiet_tick_by zero s s' i q e = q
  quiet_tick_by (suc zero) s s' i q e =
      quiet_set s (leave i s') i _ q (record { old = λ f. timed refl refl; new = λ f. absurd (omega (arith, f)) })
  quiet_tick_by (suc (suc n)) s s' i q e =
      quiet_set s s' i _ q (rw e (record { old = λ f. stays f refl refl refl; new = λ f. f }))

  quiet_tick : (n : ℕ) (s : State) → Quiet s (tick_all key n s)
  unfolding tick_all tick_one
  quiet_tick zero s = quiet_refl s
  quiet_tick (suc n) s = quiet_tick_by _ s (tick_all key n s) n (quiet_tick n s) (tick_above n s n (omega arith))

-- ---- the other services' parts

quiet_grant : (b : Bool) (s s' : State) (c : Call) → (b ≡ true → Quiet s s') → (task s c.caller).state ≢ 3 → Quiet s (grant b s' s c)
unfolding grant
quiet_grant true s s' c q h = quiet_answer s s' c.caller 1 0 (q refl) h
quiet_grant false s s' c q h = quiet_answer s s c.caller 2 0 (quiet_refl s) h

quiet_start : (key : ℕ → ℕ) (s s' : State) (i : ℕ) → Quiet s s' → (task s i).state ≢ 3 → Quiet s (start key i s')
unfolding Quiet join_ready readied set_ready start
quiet_start key s s' i q h = quiet_set s s' i _ q (other1 _ _ h (λ e. omega (arith, e)))

-- a Stop, before the Resources pass
pub quiet_deactivate : (s : State) (i : ℕ) → Quiet s (deactivate i s)
unfolding deactivate inactive leave
quiet_deactivate s i =
    quiet_set s (leave i s) i _ (quiet_same s _ (λ j. refl)) (record { old = λ e. stopped refl; new = λ e. absurd (omega (arith, e)) })

quiet_flag : (s : State) (f i : ℕ) → Quiet s (flag f i s)
unfolding flag flagged
quiet_flag s f i = quiet_set s s i _ (quiet_refl s) (record { old = λ e. stays e refl refl refl; new = λ e. e })

quiet_yield : (key : ℕ → ℕ) (s : State) (i : ℕ) → (task s i).state ≢ 3 → Quiet s (yielded key i s)
unfolding Quiet join_ready leave set_ready yielded
quiet_yield key s i h = quiet_answer s (leave i s) i 1 0 (quiet_refl s) h

quiet_sleep : (s : State) (n i : ℕ) → (task s i).state ≢ 3 → Quiet s (slept n i s)
unfolding asleep leave slept
quiet_sleep s n i h = quiet_set s (leave i s) i _ (quiet_same s _ (λ j. refl)) (other1 _ _ h (λ e. omega (arith, e)))

quiet_add_task : (s : State) (p : ℕ) → Quiet s (add_task p s)
unfolding Quiet inactive
quiet_add_task s p j =
    same_or j (length s.tasks)
    (λ e. rw (e, added_same p s, past_end s) (other1 _ _ (λ f. omega (arith, f)) (λ f. omega (arith, f))))
    (λ n. same1 _ _ (added_other p s j n))

past_not3 : (s : State) → (task s (length s.tasks)).state ≢ 3
unfolding inactive
past_not3 s e = omega (arith, rw (past_end s) at e)

-- ---- by service

-- every service but Blank, Hub request, Stop and Add hub
pub data Other : Service → Type 0 where
  is_start : Other Start
  is_suspend : Other Suspend
  is_resume : Other Resume
  is_yield : Other Yield
  is_sleep : Other Sleep
  is_tick : Other Tick
  is_add_task : Other AddTask
  is_unknown : Other Unknown

pub quiet_serve : (key : ℕ → ℕ) (v : Service) → Other v → (s : State) (c : Call) → (bears_answer v ≡ true → (task s c.caller).state ≡ 2)
    → Quiet s (serve key v s c)
unfolding bears_answer serve
quiet_serve key v o s c run = by v o (λ b e. omega (arith, e, run b))
  where
    by : (v : Service) → Other v → (bears_answer v ≡ true → (task s c.caller).state ≢ 3) → Quiet s (serve key v s c)
    by Start is_start r =
        quiet_grant _ s _ c
        (λ b. quiet_start key s s c.target (quiet_refl s) (λ e. omega (arith, e, eqb-true (task s c.target).state 1 b)))
        (r refl)
    by Suspend is_suspend r = quiet_grant _ s _ c (λ b. quiet_flag s 1 c.target) (r refl)
    by Resume is_resume r = quiet_grant _ s _ c (λ b. quiet_flag s 0 c.target) (r refl)
    by Yield is_yield r = quiet_yield key s c.caller (r refl)
    by Sleep is_sleep r = quiet_sleep s c.ticks c.caller (r refl)
    by Tick is_tick r = quiet_tick key (length s.tasks) s
    by AddTask is_add_task r =
        cond_case (Quiet s) (eqb c.side 1) _ _
        (λ _. unfold add_started in quiet_start _ s (add_task c.target s) (length s.tasks) (quiet_add_task s c.target) (past_not3 s))
        (λ _. quiet_add_task s c.target)
    by Unknown is_unknown r = quiet_refl s
    by Blank x'' r = elim x'' [ ]
    by HubRequest x3 r = elim x3 [ ]
    by Stop x4 r = elim x4 [ ]
    by AddHub x5 r = elim x5 [ ]
