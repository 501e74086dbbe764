-- `rows::Pair::differ` meets its contract: what the words from here on say is what all say. Assumes nothing.
use Prim.Native.Nat.{◌*◌, ◌+◌}
use Rattle.rows.proofs.Marks.{differ_left}
use Rattle.rows.specs.Rows.{differ}
use mathlib.Core.Path.{◌≡◌}
use Rattle.rows.proofs.Pair.differ.Given as goal

abbrev pub invariant-loop-j : goal.invariant-loop-j
invariant-loop-j l = differ_left l.self.left.words.now l.self.right.words.now (l.at + l.i * l.size + l.f) l.n l.j ≡ differ l.self.left.words.now l.self.right.words.now (l.at + l.i * l.size + l.f) l.n
