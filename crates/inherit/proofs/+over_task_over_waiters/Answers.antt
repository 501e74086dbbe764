-- `inherit::over_task` and `inherit::over_waiters`, which call each other, meet their contracts. The allowance d falls once for each task:
-- `over_task` at d calls `over_waiters` at d - 1, which calls `over_task` at the same d - 1. So the measures are 2d and 2d + 1.
-- The loops' invariants are `Owning` and `Asking`: what is left to ask comes to what the whole comes to. Links rise, so that
-- whoever follows them ends. Assumes nothing.
use Rattle.std.proofs.Common.{◌<◌, ◌≤◌, arith}
use Rattle.inherit.proofs.Turns.{allowance_none, asking_begin, asking_end, asking_full, asking_step, lent_long, lent_word, owning_begin, owning_end, owning_step}
use mathlib.Core.Path.{◌∙◌, sym}
use Rattle.inherit.proofs.+over_task_over_waiters.Goals.{over_task-then-q-p, over_task-else-q-p}
use Rattle.inherit.proofs.+over_task_over_waiters.Goals as goal

pub over_task-returns-then-depth-eq0 : goal.over_task-returns-then-depth-eq0
over_task-returns-then-depth-eq0 t c L s y x w low = allowance_none _ s _ _ c.if-depth-eq0.true

pub over_task-loop-h-init : goal.over_task-loop-h-init
over_task-loop-h-init t c =
    let p = c.task_at in
    owning_begin _ _ _ c.requires.linked _ _ _ c.if-depth-eq0.false p.result c.if-q-p.best p.ensures.place
    (elim c.if-q-p.branch [ over_task-then-q-p w ↦ omega arith | over_task-else-q-p w ↦ omega arith ])

pub over_task-over_waiters-best-requires : goal.over_task-over_waiters-best-requires
over_task-over_waiters-best-requires t c =
    (omega (arith, c.decreases, c.if-depth-eq0.false), (c.requires.linked, c.loop-h-test.true))

pub over_task-loop-h-smaller : goal.over_task-loop-h-smaller
over_task-loop-h-smaller t c = omega (arith, c.loop-h-test.true, c.requires.linked.rises c.loop-h.h c.loop-h-test.true)

pub over_task-loop-h-preserved : goal.over_task-loop-h-preserved
over_task-loop-h-preserved t c =
    let l = c.loop-h in
    let w = c.over_waiters-best in
    owning_step _ _ _ c.requires.linked _ _ _ l.best l.h l.invariant c.loop-h-test.true w.result w.ensures

pub over_task-returns : goal.over_task-returns
over_task-returns t c =
    let l = c.loop-h in
    owning_end _ _ _ c.requires.linked _ _ _ l.best l.h l.invariant c.loop-h-test.false

pub over_waiters-loop-e-init : goal.over_waiters-loop-e-init
over_waiters-loop-e-init t c = asking_begin _ _ _ _ _

pub over_waiters-returns-then-e-eq0 : goal.over_waiters-returns-then-e-eq0
over_waiters-returns-then-e-eq0 t c =
    let l = c.loop-e in
    let at = c.waits_at-at.result in
    let low : l.e-index < 16 = omega (arith, c.loop-e-test.true, lent_long c.args.t.now.words.now at (omega (arith, c.requires.h_bound, c.waits_at-at.ensures))) in
    asking_end _ _ _ _ _ l.best l.e-index l.invariant _ c.waits_at-at.ensures low (sym (lent_word c.args.t.now.words.now at l.e-index low) ∙ c.if-e-eq0.true)

pub over_waiters-over_task-best-requires : goal.over_waiters-over_task-best-requires
over_waiters-over_task-best-requires t c = (omega (arith, c.decreases), c.requires.linked)

pub over_waiters-loop-e-preserved : goal.over_waiters-loop-e-preserved
over_waiters-loop-e-preserved t c =
    let l = c.loop-e in
    let at = c.waits_at-at.result in
    let low : l.e-index < 16 = omega (arith, c.loop-e-test.true, lent_long c.args.t.now.words.now at (omega (arith, c.requires.h_bound, c.waits_at-at.ensures))) in
    asking_step _ _ _ _ _ l.best l.e-index l.invariant low _ (lent_word c.args.t.now.words.now at l.e-index low) c.if-e-eq0.false c.over_task-best.result c.over_task-best.ensures

pub over_waiters-returns : goal.over_waiters-returns
over_waiters-returns t c =
    let l = c.loop-e in
    let at = c.waits_at-at.result in
    let past : 16 ≤ l.e-index = omega (arith, c.loop-e-test.false, lent_long c.args.t.now.words.now at (omega (arith, c.requires.h_bound, c.waits_at-at.ensures))) in
    asking_full _ _ _ _ _ l.best l.e-index l.invariant _ c.waits_at-at.ensures past
