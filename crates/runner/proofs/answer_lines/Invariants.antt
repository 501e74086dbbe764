-- `runner::answer_lines` meets its contract. The loop's invariant is `Going`; each turn ends a line, so what is left of the chunk falls.
use Prim.Native.Nat.{◌-◌}
use Rattle.runner.proofs.Runs.{Going}
use lib.ListN.{length}
use Rattle.runner.proofs.answer_lines.Given as goal

abbrev pub invariant-loop-line : goal.invariant-loop-line
invariant-loop-line l = Going l.chunk l.initial.i l.initial.s l.initial.t l.initial.out l.at l.t l.out l.s l.end l.i

abbrev pub decreases-loop-line : goal.decreases-loop-line
decreases-loop-line l = length l.chunk - l.i
