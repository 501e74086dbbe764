-- The bytes before 4 * i are those of the words before i. Assumes nothing.
use Prim.Native.Nat.{◌*◌}
use Rattle.bytes4.specs.Bytes.{bytes_of}
use lib.ListN.{take}
use mathlib.Core.Path.{◌≡◌}
use Rattle.bytes4.proofs.pack.Given as goal

abbrev pub invariant-loop-i : goal.invariant-loop-i
invariant-loop-i l = take (4 * l.i) l.b ≡ bytes_of (take l.i l.t)
