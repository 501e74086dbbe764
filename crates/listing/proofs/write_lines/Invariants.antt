-- `listing::write_lines` meets its contract: the text so far and what is left is the whole. Assumes nothing.
use Prim.Native.Nat.{◌+◌}
use Rattle.listing.proofs.Passes.{Filling}
use Rattle.listing.specs.Listing.{line_at}
use Rattle.listing.proofs.write_lines.Given as goal

abbrev pub invariant-loop-done : goal.invariant-loop-done
invariant-loop-done l = Filling (line_at l.ts.words l.t l.n) (1 + l.n + l.m) l.initial.text l.text l.at l.done
