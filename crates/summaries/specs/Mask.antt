-- The word that stands for a list of tasks, a bit for each. Definitions alone.
-- Not here: the mask that a summary promises, by who waits (`mask_below` of rules), and that the two are the same (proofs/).
use Rattle.std.specs.Prelude.{◌+◌, ◌^◌, suc, zero, ℕ, List, [], ◌∷◌}

-- the bit of an entry, a task number plus 1; an empty entry has none
unfoldable pub bit_of : ℕ → ℕ
bit_of zero = 0
bit_of (suc i) = 2 ^ i

-- the bits of the tasks of a list, added up
unfoldable pub mask_of : List ℕ → ℕ
mask_of [] = 0
mask_of (i ∷ is) = 2 ^ i + mask_of is
