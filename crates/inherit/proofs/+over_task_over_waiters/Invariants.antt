-- `inherit::over_task` and `inherit::over_waiters`, which call each other, meet their contracts. The allowance d falls once for each task:
-- `over_task` at d calls `over_waiters` at d - 1, which calls `over_task` at the same d - 1. So the measures are 2d and 2d + 1.
-- The loops' invariants are `Owning` and `Asking`: what is left to ask comes to what the whole comes to. Links rise, so that
-- whoever follows them ends. Assumes nothing.
use Rattle.std.proofs.Common.{◌-◌, ◌+◌, ◌*◌}
use Rattle.inherit.proofs.Turns.{Asking, Owning}
use Rattle.inherit.proofs.+over_task_over_waiters.Given as goal

abbrev pub decreases-over_task : goal.decreases-over_task
decreases-over_task l = 2 * l.depth

abbrev pub decreases-over_waiters : goal.decreases-over_waiters
decreases-over_waiters l = 2 * l.depth + 1

abbrev pub invariant-over_task-loop-h : goal.invariant-over_task-loop-h
invariant-over_task-loop-h l = Owning l.t.ts.words l.t.words.now l.depth l.p l.n l.best l.h

abbrev pub decreases-over_task-loop-h : goal.decreases-over_task-loop-h
decreases-over_task-loop-h l = 16 - l.h

abbrev pub invariant-over_waiters-loop-e : goal.invariant-over_waiters-loop-e
invariant-over_waiters-loop-e l = Asking l.t.ts.words l.t.words.now l.depth l.p l.at l.best l.e-index
