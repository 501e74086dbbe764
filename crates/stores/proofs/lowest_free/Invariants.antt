-- `stores::lowest_free` meets its contract. The loop's invariant is `Looking`, in every layout and state: no mark below b is 0.
-- Assumes nothing.
use Prim.Native.Nat.{◌<◌, ◌≤◌}
use Rattle.stores.proofs.Blocks.{Looking}
use Rattle.rules.proofs.Layouts.{Laid}
use Rattle.rules.specs.Table.{Layout, State, hub, words}
use lib.ListN.{length}
use mathlib.Core.Path.{◌≡◌}
use Rattle.stores.proofs.lowest_free.Given as goal

abbrev pub invariant-loop-b : goal.invariant-loop-b
invariant-loop-b l =
    (l.b ≤ 8)
    × ((L : Layout) (s : State) → Laid l.ts.words L → l.h.0 < length s.hubs → length (hub s l.h.0).held ≤ 8 → l.t ≡ words L s → Looking (hub s l.h.0).held l.b)
