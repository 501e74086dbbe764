-- `reorder::take_changed` meets its contract. The loop's invariant is `Taking`: those below i are out. Assumes nothing.
use Rattle.reorder.proofs.Loops.{Taking}
use Rattle.reorder.proofs.take_changed.Given as goal

abbrev pub invariant-loop-i : goal.invariant-loop-i
invariant-loop-i l = Taking l.ts.words l.initial.t l.t l.before l.after l.n l.i
