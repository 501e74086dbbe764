-- `reorder::put_changed` meets its contract. The loop's invariant is `Putting`: those below i are back. Assumes nothing.
use Rattle.reorder.proofs.Loops.{Putting}
use Rattle.reorder.proofs.put_changed.Given as goal

abbrev pub invariant-loop-i : goal.invariant-loop-i
invariant-loop-i l = Putting l.ts.words l.initial.t l.t l.before l.after l.n l.i
