-- `locks::pass_all` meets its contract. Assumes nothing.
use Rattle.moves.specs.Moves.{key_of}
use Rattle.rules.proofs.Layouts.{Laid}
use Rattle.rules.proofs.Valid.{Sound}
use Rattle.rules.proofs.Waiting.{Good}
use Rattle.rules.specs.Calls.{pass_all}
use Rattle.rules.specs.Table.{Layout, State, words}
use lib.ListN.{length}
use mathlib.Core.Path.{◌≡◌}
use Rattle.locks.proofs.pass_all.Given as goal

abbrev pub invariant-loop-h : goal.invariant-loop-h
invariant-loop-h l =
    (L : Layout) (s : State) → Laid l.ts.words L → Sound s → Good s → l.n ≡ length s.hubs → l.initial.t ≡ words L s → l.t ≡ words L (pass_all (key_of l.keys) l.i.0 l.h s)
