-- "No call returns 3": after an accepted call of services 1 to 7 the caller's answer word is 0, 1 or 2, so that the outcome
-- is that word.
use Prim.Native.Nat.{◌<◌, ◌≤◌, suc, zero, ℕ}
use Rattle.rules.proofs.Accepted.{caller-ready}
use Rattle.rules.proofs.Cases.{cond_case}
use Rattle.rules.proofs.Changes.{in_use, length-set_task, set_same}
use Rattle.rules.proofs.Inherited.{kept-reordered}
use Rattle.rules.proofs.Passing.{length-stop}
use Rattle.rules.proofs.Reordered.{kept-task}
use Rattle.rules.proofs.Settled.{Partners, answer_same, met-caller, partners, wait-caller}
use Rattle.rules.proofs.Valid.{Valid}
use Rattle.rules.proofs.Verdicts.{waiters_met}
use Rattle.rules.specs.Calls.{AddHub, AddTask, Blank, HubRequest, Resume, Service, Sleep, Start, Stop, Suspend, Tick, Unknown, Yield, flag, grant, serve, served, service_of, settle, slept, start, yielded}
use Rattle.rules.specs.Effective.{effective}
use Rattle.rules.specs.HubTable.{Verdict, fail, met, not_now, verdict}
use Rattle.rules.specs.Lists.{answer, answered, asleep, join_ready, leave, waits}
use Rattle.rules.specs.Refusals.{refusal, refusal_for}
use Rattle.rules.specs.Reorder.{reordered}
use Rattle.rules.specs.Reply.{bears_answer, outcome, outcome_number, outcome_of}
use Rattle.rules.specs.Table.{State, Task, set_ready, task}
use Rattle.rules.specs.declared.Call.{Call}
use lib.Dec.{eqb}
use lib.ListN.{length}
use mathlib.Core.Bool.{Bool, false, false≢true, true}
use mathlib.Core.Path.{◌≡◌, ap, refl}
use native.Mathlib.Omega.{arith}

-- the caller's answer word in a state
abbrev Small : Call → State → Type 0
Small c s = (task s c.caller).answer ≤ 2

small_answer : (s : State) (c : Call) (a w : ℕ) → c.caller < length s.tasks → a ≤ 2 → Small c (answer c.caller a w s)
unfolding answered
small_answer s c a w h b = rw (answer_same s c.caller a w h) b

small_grant : (b : Bool) (s' s : State) (c : Call) → length s'.tasks ≡ length s.tasks → c.caller < length s.tasks → Small c (grant b s' s c)
unfolding grant
small_grant true s' s c e h = small_answer s' c 1 0 (rw e h) (omega arith)
small_grant false s' s c e h = small_answer s c 2 0 h (omega arith)

small_settle : (key : ℕ → ℕ) (v : Verdict) (s : State) (c : Call) → (task s c.caller).state ≡ 2 → Partners s c (waiters_met v)
    → Small c (settle key v s c)
unfolding answered settle waiters_met waits
small_settle key (met n ws x ms) s c run p = omega (arith, ap (λ (t : Task). t.answer) (met-caller key s c run n ws x ms p))
small_settle key not_now s c run p =
    cond_case (Small c) (eqb c.mode 2) _ _
    (λ _. small_answer s c 2 0 (in_use s c.caller 0 run) (omega arith))
    (λ _. omega (arith, ap (λ (t : Task). t.answer) (wait-caller key s c run)))
small_settle key fail s c run p = small_answer s c 2 0 (in_use s c.caller 0 run) (omega arith)

small_serve : (key : ℕ → ℕ) (v : Service) (s : State) (c : Call) → Valid s → refusal_for v s c ≡ 0 → bears_answer v ≡ true → Small c (serve key v s c)
unfolding asleep bears_answer flag join_ready leave serve set_ready slept start yielded
small_serve key v s c g e b = by v b (caller-ready s g.listed c v e b)
  where
    by : (v : Service) → bears_answer v ≡ true → (task s c.caller).state ≡ 2 → Small c (serve key v s c)
    by Blank b run = absurd (false≢true b)
    by HubRequest b run = small_settle key (verdict s c) s c run (partners s g.listed c)
    by Start b run = small_grant _ _ s c (length-set_task s c.target _) (in_use s c.caller 0 run)
    by Stop b run = small_grant _ _ s c (length-stop key c.target s) (in_use s c.caller 0 run)
    by Suspend b run = small_grant _ _ s c (length-set_task s c.target _) (in_use s c.caller 0 run)
    by Resume b run = small_grant _ _ s c (length-set_task s c.target _) (in_use s c.caller 0 run)
    by Yield b run = small_answer (leave c.caller s) c 1 0 (in_use s c.caller 0 run) (omega arith)
    by Sleep b run = rw (set_same (leave c.caller s) c.caller (asleep c.ticks (task s c.caller)) (in_use s c.caller 0 run)) (omega arith)
    by Tick b run = absurd (false≢true b)
    by AddTask b run = absurd (false≢true b)
    by AddHub b run = absurd (false≢true b)
    by Unknown b run = absurd (false≢true b)

pub answer_small : (s : State) (c : Call) → Valid s → refusal s c ≡ 0 → bears_answer (service_of c.service) ≡ true
    → (task (served s c) c.caller).answer ≤ 2
unfolding refusal served
answer_small s c g e b =
    let s' = serve (effective s) (service_of c.service) s c in
    rw (kept-task s' (reordered s s') (kept-reordered s s') c.caller) (small_serve (effective s) (service_of c.service) s c g e b)

outcome_of_lem : (a : ℕ) → a ≤ 2 → outcome_number (outcome_of a) ≡ a
unfolding outcome_of
outcome_of_lem zero h = refl
outcome_of_lem (suc zero) h = refl
outcome_of_lem (suc (suc zero)) h = refl
outcome_of_lem (suc (suc (suc a))) h = absurd (omega arith)

pub answer_word : (s : State) (c : Call) → Valid s → refusal s c ≡ 0 → bears_answer (service_of c.service) ≡ true
    → outcome_number (outcome (served s c) c) ≡ (task (served s c) c.caller).answer
unfolding outcome
answer_word s c g e b = rw b (outcome_of_lem (task (served s c) c.caller).answer (answer_small s c g e b))
