-- `clock::tick` meets its contract. Assumes nothing.
use Rattle.moves.specs.Moves.{key_of}
use Rattle.rules.proofs.Layouts.{Laid}
use Rattle.rules.proofs.Valid.{Sound}
use Rattle.rules.specs.Calls.{tick_all}
use Rattle.rules.specs.Table.{Layout, State, words}
use lib.ListN.{length}
use mathlib.Core.Path.{◌≡◌}
use Rattle.clock.proofs.tick.Given as goal

abbrev pub invariant-loop-i : goal.invariant-loop-i
invariant-loop-i l =
    (L : Layout) (s : State) → Laid l.ts.words L → Sound s → l.initial.t ≡ words L s → (l.n ≡ length s.tasks) × (l.t ≡ words L (tick_all (key_of l.keys) l.i s))
