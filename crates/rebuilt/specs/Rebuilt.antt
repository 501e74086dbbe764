-- M-100, what is said of a listing: a set-up that is accepted; what a listing builds; what is printed for a text of its form.
-- Not here: the listing itself (crate listing), what a drill prints (crate runner).
use Rattle.std.specs.Prelude.{◌≤◌, ℕ, length, replicate, true, List, [], ◌∷◌, ◌≡◌}
use Rattle.listing.specs.Listing.{HubSetUp, SetUp, stripped, text_of_lines}
use Rattle.rules.specs.Editions.{moved_up}
use Rattle.rules.specs.Refusals.{good_hub}
use Rattle.rules.specs.Table.{State, kind_of, one, two, words}

-- each of a list
unfoldable pub Every : {A : Type 0} → (A → Type 0) → List A → Type 0
Every P [] = Unit {0}
Every P (x ∷ xs) = P x × Every P xs

abbrev pub GoodHub : HubSetUp → Type 0
GoodHub h = good_hub (kind_of h.kind) h.limit h.start ≡ true

-- "any P, K, L, S that are accepted": at most 16 priorities of at most 255, and at most 16 hubs of the kinds table
pub record Acceptable (u : SetUp) : Type 0 where
  pub tasks : length u.priorities ≤ 16
  pub priorities : Every (λ p. p ≤ 255) u.priorities
  pub hubs : length u.hubs ≤ 16
  pub kinds : Every GoodHub u.hubs

-- "the same table with every task inactive, every count at its start, and all lists and stores empty", of a table of either edition;
-- "listings .. build edition 2" (M-105)
abbrev pub rebuilt : State → List ℕ
rebuilt s = words two (stripped s)

-- of a table of edition 1 "the same table" is its move up: in edition 1, and moved
abbrev pub rebuilt_up : State → List ℕ
rebuilt_up s = moved_up (words one (stripped s))

-- "each of its lines prints refusal 0": and answer 0, next 0 and ahead 0, since no task is started
abbrev pub all_accepted : ℕ → List ℕ
all_accepted n = text_of_lines (replicate n (0 ∷ 0 ∷ 0 ∷ 0 ∷ []))
