-- `reorder::take_changed` meets its contract. The loop's invariant is `Taking`: those below i are out. Assumes nothing.
use Rattle.reorder.proofs.Loops.{taking_begin, taking_end, taking_hit, taking_miss}
use native.Mathlib.Omega.{arith}
use Rattle.reorder.proofs.take_changed.Goals as goal
use Rattle.reorder.proofs.take_changed.Goals.{else-is_changed, then-is_changed}

pub loop-i-init : goal.loop-i-init
loop-i-init c = taking_begin _ _ _ _ _

pub loop-i-preserved : goal.loop-i-preserved
loop-i-preserved c =
    let l = c.loop-i in
    let d = c.is_changed in
    elim c.if-is_changed.branch [
      | then-is_changed w ↦ rw w.t-is (taking_hit _ _ _ _ _ l.t l.i c.loop-i-test.true d.result d.ensures l.invariant w.if-is_changed.true w.leave_list.new.t (omega arith) w.leave_list.ensures)
      | else-is_changed w ↦ rw w.t-is (taking_miss _ _ _ _ _ l.t l.i c.loop-i-test.true d.result d.ensures l.invariant w.if-is_changed.false)
    ]

pub shape_of-t : goal.shape_of-t
shape_of-t c = c.loop-i.invariant.long

pub returns : goal.returns
returns c = taking_end _ _ _ _ _ c.loop-i.t c.loop-i.i c.loop-i.invariant c.loop-i-test.false
