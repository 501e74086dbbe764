-- `lines::decimal_length` meets its contract: as many turns as there are digits before the last. Assumes nothing.
use Prim.Native.Nat.{◌+◌, ◌≤◌}
use Rattle.lines.specs.Lines.{decimal}
use lib.ListN.{length}
use mathlib.Core.Path.{◌≡◌}
use Rattle.lines.proofs.decimal_length.Given as goal

abbrev pub invariant-loop-left : goal.invariant-loop-left
invariant-loop-left l = (l.digits + length (decimal l.left) ≡ 1 + length (decimal l.n)) × (l.left ≤ l.n)

abbrev pub decreases-loop-left : goal.decreases-loop-left
decreases-loop-left l = l.left
