-- `listing::measure` meets its contract: what is measured and what is left is the whole. Assumes nothing.
use Prim.Native.Nat.{◌*◌, ◌+◌, ◌≤◌}
use Rattle.listing.proofs.Passes.{rest, whole}
use Rattle.listing.specs.Listing.{line_at}
use lib.ListN.{length}
use mathlib.Core.Path.{◌≡◌}
use Rattle.listing.proofs.measure.Given as goal

abbrev pub invariant-loop-k : goal.invariant-loop-k
invariant-loop-k l = (l.bytes ≤ l.k * 88) × (l.bytes + length (rest (line_at l.ts.words l.t l.n) (1 + l.n + l.m) l.k) ≡ length (whole (line_at l.ts.words l.t l.n) (1 + l.n + l.m)))
