-- `wellformed::queues_right` meets its contract. The loop's invariant is `Passing`, in every layout: the lists so far are
-- right, and marked. Assumes nothing.
use Rattle.rules.proofs.Layouts.{Laid}
use Rattle.rules.specs.Table.{Layout}
use Rattle.wellformed.proofs.Hubs.{Passing}
use Rattle.wellformed.proofs.queues_right.Given as goal

abbrev pub invariant-loop-h : goal.invariant-loop-h
invariant-loop-h l = (L : Layout) → Laid l.t.ts.words L → Passing L l.t.words.now l.initial.marks l.marks l.h
