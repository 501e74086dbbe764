-- `refusals::running` meets its contract. The loop's invariant: the running task is the first free one of what is left of
-- the ready list. Assumes nothing.
use Rattle.rules.proofs.Layouts.{Laid}
use Rattle.rules.proofs.Valid.{Listed, Room}
use Rattle.rules.specs.Lists.{first_free, next}
use Rattle.rules.specs.Table.{Layout, State, words}
use lib.ListN.{drop}
use mathlib.Core.Path.{◌≡◌}
use Rattle.refusals.proofs.running.Given as goal

abbrev pub invariant-loop-k : goal.invariant-loop-k
invariant-loop-k l =
    (L : Layout) (s : State) → Laid l.ts.words L → Room s → Listed s → l.t ≡ words L s → next s ≡ first_free s (drop l.k s.ready)
