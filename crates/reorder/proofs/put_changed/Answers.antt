-- `reorder::put_changed` meets its contract. The loop's invariant is `Putting`: those below i are back. Assumes nothing.
use Rattle.reorder.proofs.Loops.{putting_begin, putting_end, putting_hit, putting_miss}
use native.Mathlib.Omega.{arith}
use Rattle.reorder.proofs.put_changed.Goals as goal
use Rattle.reorder.proofs.put_changed.Goals.{else-is_changed, then-is_changed}

pub loop-i-init : goal.loop-i-init
loop-i-init c = putting_begin _ _ _ _ _

pub loop-i-preserved : goal.loop-i-preserved
loop-i-preserved c =
    let l = c.loop-i in
    let d = c.is_changed in
    elim c.if-is_changed.branch [
      | then-is_changed w ↦ rw w.t-is (putting_hit _ _ _ _ _ l.t l.i c.loop-i-test.true d.result d.ensures l.invariant w.if-is_changed.true w.put_back.new.t (omega arith) w.put_back.ensures)
      | else-is_changed w ↦ rw w.t-is (putting_miss _ _ _ _ _ l.t l.i c.loop-i-test.true d.result d.ensures l.invariant w.if-is_changed.false)
    ]

pub shape_of-t : goal.shape_of-t
shape_of-t c = c.loop-i.invariant.long

pub returns : goal.returns
returns c = putting_end _ _ _ _ _ c.loop-i.t c.loop-i.i c.loop-i.invariant c.loop-i-test.false
