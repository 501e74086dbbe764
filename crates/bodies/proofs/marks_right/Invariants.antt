-- `bodies::marks_right` meets its contract. The loop's invariant is `Counting`, in every layout: the marks below b, and how many
-- of them are 0. Assumes nothing.
use Prim.Native.Nat.{◌≤◌}
use Rattle.bodies.proofs.Blocks.{Counting}
use Rattle.rules.proofs.Layouts.{Laid}
use Rattle.rules.specs.Table.{Layout}
use Rattle.bodies.proofs.marks_right.Given as goal

abbrev pub invariant-loop-b : goal.invariant-loop-b
invariant-loop-b l = (l.free ≤ l.b) × ((L : Layout) → Laid l.fn.t.ts.words L → Counting L l.t.words.now l.h l.limit l.free l.b)
