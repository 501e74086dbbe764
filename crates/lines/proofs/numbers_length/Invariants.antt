-- What is measured and what is left is the whole line.
use Prim.Native.Nat.{◌*◌, ◌+◌, ◌≤◌}
use Rattle.lines.proofs.Writing.{tail}
use Rattle.lines.specs.Lines.{printed}
use lib.ListN.{drop, length}
use mathlib.Core.Path.{◌≡◌}
use Rattle.lines.proofs.numbers_length.Given as goal

abbrev pub invariant-loop-n : goal.invariant-loop-n
invariant-loop-n l = (l.bytes ≤ l.n-index * 11) × (l.bytes + length (tail (drop l.n-index l.ns)) ≡ length (printed l.ns))
