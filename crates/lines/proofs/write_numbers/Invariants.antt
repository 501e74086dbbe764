-- The text so far and what is left is the whole line.
use Rattle.lines.proofs.Writing.{Writing}
use Rattle.lines.proofs.write_numbers.Given as goal

abbrev pub invariant-loop-k : goal.invariant-loop-k
invariant-loop-k l = Writing l.ns l.initial.out l.at l.out l.end l.k
