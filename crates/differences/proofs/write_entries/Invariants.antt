-- `differences::write_entries` meets its contract: the words so far are those of the places so far. Assumes nothing.
use Rattle.differences.proofs.Passes.{Written}
use Rattle.differences.proofs.write_entries.Given as goal

abbrev pub invariant-loop-place : goal.invariant-loop-place
invariant-loop-place l = Written l.first l.second l.initial.places l.places l.at l.place
