-- `differences::count_entries` meets its contract: the count so far is that of the places so far. Assumes nothing.
use Rattle.differences.proofs.Passes.{Counted}
use Rattle.differences.proofs.count_entries.Given as goal

abbrev pub invariant-loop-place : goal.invariant-loop-place
invariant-loop-place l = Counted l.first l.second l.count l.place
