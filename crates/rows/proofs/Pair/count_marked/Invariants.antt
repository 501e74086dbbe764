-- `rows::Pair::count_marked` meets its contract: the marked rows so far, and those that are left. Assumes nothing.
use Prim.Native.Nat.{◌+◌, ◌≤◌}
use Rattle.rows.proofs.Turns.{marked_all, marked_left}
use mathlib.Core.Path.{◌≡◌}
use Rattle.rows.proofs.Pair.count_marked.Given as goal

abbrev pub invariant-loop-k : goal.invariant-loop-k
invariant-loop-k l =
    let p = l.self in
    (l.count ≤ l.k) × (l.count + marked_left p.left.ts.words p.left.words.now p.right.words.now p.left.runs p.right.runs l.k ≡ marked_all p.left.ts.words p.left.words.now p.right.words.now p.left.runs p.right.runs)
