-- The lines so far, and those that are left. Assumes nothing.
use Rattle.comparer.proofs.Laws.{lines_left}
use Rattle.comparer.specs.Comparer.{entry_lines}
use Rattle.texts.proofs.Putting.{Joining}
use Rattle.comparer.proofs.put_entries.Given as goal

abbrev pub invariant-loop-k : goal.invariant-loop-k
invariant-loop-k l = Joining l.initial.out l.out (lines_left l.fn.places l.fn.count l.k) (entry_lines l.fn.places 0 l.fn.count)
