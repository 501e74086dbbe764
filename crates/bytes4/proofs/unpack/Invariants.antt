-- The words before i are those of the chunks before i. Assumes nothing.
use Rattle.std.specs.Int.{from_le_bytes, w32}
use lib.ListN.{take}
use mathlib.Core.List.{map}
use mathlib.Core.Path.{◌≡◌}
use Rattle.bytes4.proofs.unpack.Given as goal

abbrev pub invariant-loop-i : goal.invariant-loop-i
invariant-loop-i l = take l.i l.t ≡ map (from_le_bytes w32) (take l.i l.words)
