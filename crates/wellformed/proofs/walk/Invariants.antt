-- `wellformed::walk` meets its contract. The loop's invariant is `Walking`, in every layout: what is left of the list is what
-- the whole comes to, and what is left to mark makes up the marks. Assumes nothing.
use Rattle.rules.proofs.Layouts.{Laid}
use Rattle.rules.specs.Table.{Layout}
use Rattle.wellformed.proofs.Turns.{Walking}
use Rattle.wellformed.proofs.walk.Given as goal

abbrev pub invariant-loop-k : goal.invariant-loop-k
invariant-loop-k l = (L : Layout) → Laid l.t.ts.words L → Walking L l.t.words.now l.list l.hub l.side l.owner l.initial.marks l.marks l.k
