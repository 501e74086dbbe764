-- `summaries::mask_of` meets its contract. The loop's invariant: the mask so far and the bits of what is left make the
-- mask of the whole list, and what is left is entries, then zeros; so from an empty entry on nothing is left. Assumes nothing.
use Prim.Native.Nat.{◌+◌}
use Rattle.lists.specs.Lists.{numbers, packed}
use Rattle.summaries.specs.Mask.{mask_of}
use lib.ListN.{drop}
use mathlib.Core.Bool.{true}
use mathlib.Core.Path.{◌≡◌}
use Rattle.summaries.proofs.mask_of.Given as goal

abbrev pub invariant-loop-entry : goal.invariant-loop-entry
invariant-loop-entry l =
    (packed (drop l.entry-index l.list) ≡ true) × (l.mask + mask_of (numbers (drop l.entry-index l.list)) ≡ mask_of (numbers l.list))
