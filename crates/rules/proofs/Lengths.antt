-- How many tasks and hubs there are after each service, by any key, and that an accepted call leaves room for them.
use Prim.Native.Nat.{◌+◌, ◌≤◌, suc, zero, ℕ}
use Rattle.rules.proofs.Accepted.{hub_tests, task_tests}
use Rattle.rules.proofs.Cases.{cond_case}
use Rattle.rules.proofs.Changes.{length-add_hub, length-add_task, length-set_task}
use Rattle.rules.proofs.Hubs.{hubs-answer, hubs-serve, many_settle, many_stop}
use Rattle.rules.proofs.Passing.{length-stop}
use Rattle.rules.proofs.Quiet.{Other, is_add_task, is_resume, is_sleep, is_start, is_suspend, is_tick, is_unknown, is_yield}
use Rattle.rules.proofs.Settled.{length-answer, length-settle, length-wake}
use Rattle.rules.specs.Calls.{AddHub, AddTask, Blank, HubRequest, Resume, Service, Sleep, Start, Stop, Suspend, Tick, Unknown, Yield, add_hub, add_started, add_task, blank, flag, grant, may_stop, new_hub, serve, slept, start, stop, tick_all, tick_by, tick_one, yielded}
use Rattle.rules.specs.HubTable.{verdict}
use Rattle.rules.specs.Lists.{join_ready, leave}
use Rattle.rules.specs.Refusals.{refusal_for}
use Rattle.rules.specs.Table.{State, set_ready, task}
use Rattle.rules.specs.declared.Call.{Call}
use lib.Dec.{eqb}
use lib.ListN.{length}
use mathlib.Core.Bool.{Bool, false, true}
use mathlib.Core.Path.{◌∙◌, ◌≡◌, refl}
use native.Mathlib.Omega.{arith}

-- ---- tasks

unfoldable pub tasks_after : Service → ℕ → ℕ
tasks_after Blank n = 0
tasks_after HubRequest n = n
tasks_after Start n = n
tasks_after Stop n = n
tasks_after Suspend n = n
tasks_after Resume n = n
tasks_after Yield n = n
tasks_after Sleep n = n
tasks_after Tick n = n
tasks_after AddTask n = n + 1
tasks_after AddHub n = n
tasks_after Unknown n = n

module _ (key : ℕ → ℕ) where
  length-start : (i : ℕ) (s : State) → length (start key i s).tasks ≡ length s.tasks
  unfolding join_ready set_ready start
  length-start i s = length-set_task s i _

  length-tick_by : (n i : ℕ) (s : State) → length (tick_by key n i s).tasks ≡ length s.tasks
  unfolding tick_by
  length-tick_by zero i s = refl
  length-tick_by (suc zero) i s = length-wake key s i 3 0
  length-tick_by (suc (suc n)) i s = length-set_task s i _

  pub length_tick : (n : ℕ) (s : State) → length (tick_all key n s).tasks ≡ length s.tasks
  unfolding tick_all tick_one
  length_tick zero s = refl
  length_tick (suc n) s = length-tick_by _ n (tick_all key n s) ∙ length_tick n s

length-grant : (b : Bool) (s' s : State) (c : Call) → length s'.tasks ≡ length s.tasks → length (grant b s' s c).tasks ≡ length s.tasks
unfolding grant
length-grant true s' s c e = length-answer s' c.caller 1 0 ∙ e
length-grant false s' s c e = length-answer s c.caller 2 0

pub length-serve : (key : ℕ → ℕ) (v : Service) (s : State) (c : Call) → length (serve key v s c).tasks ≡ tasks_after v (length s.tasks)
unfolding flag join_ready leave serve set_ready slept tasks_after yielded
length-serve key Blank s c = unfold blank in refl
length-serve key HubRequest s c = length-settle key (verdict s c) s c
length-serve key Start s c = length-grant _ _ s c (length-start key c.target s)
length-serve key Stop s c = length-grant _ _ s c (length-stop key c.target s)
length-serve key Suspend s c = length-grant _ _ s c (length-set_task s c.target _)
length-serve key Resume s c = length-grant _ _ s c (length-set_task s c.target _)
length-serve key Yield s c = length-answer (leave c.caller s) c.caller 1 0
length-serve key Sleep s c = length-set_task (leave c.caller s) c.caller _
length-serve key Tick s c = length_tick key (length s.tasks) s
length-serve key AddTask s c =
    cond_case (λ (z : State). length z.tasks ≡ length s.tasks + 1) (eqb c.side 1) _ _
    (λ _. unfold add_started in (length-start _ (length s.tasks) (add_task c.target s) ∙ length-add_task c.target s))
    (λ _. length-add_task c.target s)
length-serve key AddHub s c = unfold add_hub in refl
length-serve key Unknown s c = refl

-- no task is dropped but by Blank
pub tasks_grow : (v : Service) → Other v → (n : ℕ) → n ≤ tasks_after v n
unfolding tasks_after
tasks_grow Start is_start n = omega arith
tasks_grow Suspend is_suspend n = omega arith
tasks_grow Resume is_resume n = omega arith
tasks_grow Yield is_yield n = omega arith
tasks_grow Sleep is_sleep n = omega arith
tasks_grow Tick is_tick n = omega arith
tasks_grow AddTask is_add_task n = omega arith
tasks_grow Unknown is_unknown n = omega arith
tasks_grow Blank x' n = elim x' [ ]
tasks_grow HubRequest x'' n = elim x'' [ ]
tasks_grow Stop x3 n = elim x3 [ ]
tasks_grow AddHub x4 n = elim x4 [ ]

pub tasks-room : (key : ℕ → ℕ) (v : Service) (s : State) (c : Call) → refusal_for v s c ≡ 0 → length s.tasks ≤ 16
    → length (serve key v s c).tasks ≤ 16
unfolding tasks_after
tasks-room key v s c e h = rw (length-serve key v s c) (by v e)
  where
    by : (v : Service) → refusal_for v s c ≡ 0 → tasks_after v (length s.tasks) ≤ 16
    by Blank e = omega arith
    by HubRequest e = h
    by Start e = h
    by Stop e = h
    by Suspend e = h
    by Resume e = h
    by Yield e = h
    by Sleep e = h
    by Tick e = h
    by AddTask e = omega (arith, (task_tests s c e).1)
    by AddHub e = h
    by Unknown e = h

-- ---- hubs

many_grant : (b : Bool) (s' s : State) (c : Call) → length s'.hubs ≡ length s.hubs → length (grant b s' s c).hubs ≡ length s.hubs
unfolding grant
many_grant true s' s c e = (hubs-answer c.caller 1 0 s').many ∙ e
many_grant false s' s c e = (hubs-answer c.caller 2 0 s).many

pub hubs-room : (key : ℕ → ℕ) (v : Service) (s : State) (c : Call) → refusal_for v s c ≡ 0 → length s.hubs ≤ 16
    → length (serve key v s c).hubs ≤ 16
hubs-room key v s c e h = by v e
  where
    other : (v : Service) → Other v → length (serve key v s c).hubs ≤ 16
    other v o = rw (hubs-serve key v o s c).many h

    by : (v : Service) → refusal_for v s c ≡ 0 → length (serve key v s c).hubs ≤ 16
    by Blank e = unfold blank serve in (omega arith)
    by HubRequest e = unfold serve in rw (many_settle key s c (verdict s c)) h
    by Start e = other Start is_start
    by Stop e = unfold serve in rw (many_grant (may_stop (task s c.target) c) (stop key c.target s) s c (many_stop key c.target s)) h
    by Suspend e = other Suspend is_suspend
    by Resume e = other Resume is_resume
    by Yield e = other Yield is_yield
    by Sleep e = other Sleep is_sleep
    by Tick e = other Tick is_tick
    by AddTask e = other AddTask is_add_task
    by AddHub e = unfold serve in omega (arith, length-add_hub (new_hub c) s, (hub_tests s c e).1)
    by Unknown e = other Unknown is_unknown
