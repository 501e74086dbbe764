-- `requests::meet_all` meets its contract. Assumes nothing.
use Prim.Native.Nat.{◌<◌}
use Rattle.moves.specs.Moves.{key_of}
use Rattle.requests.proofs.Boards.{steps}
use Rattle.rules.proofs.Layouts.{Laid}
use Rattle.rules.proofs.Valid.{Sound}
use Rattle.rules.specs.Table.{Layout, State, words}
use lib.ListN.{length}
use mathlib.Core.Path.{◌≡◌}
use Rattle.requests.proofs.meet_all.Given as goal

abbrev pub invariant-loop : goal.invariant-loop
invariant-loop l =
    (L : Layout) (s : State) → Laid l.ts.words L → Sound s → l.h.0 < length s.hubs → l.initial.t ≡ words L s → l.t ≡ words L (steps (key_of l.keys) l.w l.h.0 l.counter s)
