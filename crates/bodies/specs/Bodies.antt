-- What each function of this crate tests: a hub's record, its store, its owner. In the code's order.
-- Not here: its list, and that together with the rest they are `well_formed_in` (crate wellformed).
use Rattle.std.specs.Prelude.{◌≤◌, ℕ, eqb, leb, get_or, length, Bool, ◌&&◌, cond, List, ◌≡◌}
use Rattle.lists.specs.Lists.{occ}
use Rattle.records.specs.Records.{table_size}
use Rattle.rules.specs.Table.{Layout, hub, kind_of, read, store_from, store_part}
use Rattle.rules.specs.WellFormed.{for_all, kind_right, owner_right, store_right}

-- a table of an edition whose counts are right, so that every place that is read is in it
pub record Used (ts : ℕ) (t : List ℕ) : Type 0 where
  pub low : 8 ≤ ts
  pub high : ts ≤ 9
  pub long : length t ≡ table_size ts
  pub tasks : get_or t 1 0 ≤ 16
  pub hubs : get_or t 2 0 ≤ 16

-- the marks of a Memory hub's blocks, as many as its limit, and how many are free
abbrev pub marks_of : Layout → List ℕ → ℕ → ℕ → List ℕ
marks_of L t h limit = store_from L limit (store_part L t h)

unfoldable pub marks_test : Layout → List ℕ → ℕ → ℕ → ℕ → Bool
marks_test L t h count limit =
    for_all limit (λ b. leb (get_or (marks_of L t h limit) b 0) 1) && eqb count (occ 0 (marks_of L t h limit))

-- a Resource's owner plus 1, else 0
abbrev pub owner_of : ℕ → ℕ → ℕ
owner_of kind count = cond (eqb kind 5) count 0

-- a hub of the table: its record, its store, its owner; all three
unfoldable pub kind_test : Layout → List ℕ → ℕ → Bool
kind_test L t h = kind_right (kind_of (hub (read L t) h).kind) (get_or t 1 0) (hub (read L t) h)

unfoldable pub store_test : Layout → List ℕ → ℕ → Bool
store_test L t h =
    store_right L (kind_of (hub (read L t) h).kind) (hub (read L t) h).count (hub (read L t) h).limit (store_part L t h)

unfoldable pub owner_test : Layout → List ℕ → ℕ → Bool
owner_test L t h = owner_right (read L t) (hub (read L t) h)

unfoldable pub body_test : Layout → List ℕ → ℕ → Bool
body_test L t h = kind_test L t h && (store_test L t h && owner_test L t h)
