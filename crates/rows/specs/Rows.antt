-- Two tables of one edition side by side: which rows there are, and which are marked. In order: the rows; whether a table uses what a row
-- is about; the words of the table that a row covers; when a row is marked, when it is shown, and how many are marked; which places a row
-- covers; the keys that the code is handed.
-- Not here: what a row says (crate rowtexts).
-- `ts` is how many words a task record has, `runs` the running task plus 1, or 0.
use Rattle.std.specs.Prelude.{◌%◌, ◌*◌, ◌+◌, ◌-◌, ◌/◌, suc, zero, ℕ, eqb, leb, ltb, get_or, Bool, ◌&&◌, cond, false, not, true, List, [], ◌++◌, ◌∷◌, ◌≡◌}
use Rattle.lists.specs.Lists.{bit}
use Rattle.records.specs.Records.{hubs_at, ready_at, store_size, stores_at, waits_at, width}
use Rattle.rows.specs.declared.Row.TheVariants.{Answer, Contents, Holds, Kind, Priority, ReadyList, State, Waiting}
use Rattle.rows.specs.declared.Row.{Row}
use Rattle.rules.specs.Effective.{effective}
use Rattle.rules.specs.Table.{state_of}

-- ---- the rows, in their order

unfoldable pub task_rows : ℕ → ℕ → List Row
task_rows zero i = []
task_rows (suc n) i = State i ∷ Priority i ∷ Answer i ∷ task_rows n (suc i)

unfoldable pub hub_rows : ℕ → ℕ → List Row
hub_rows zero h = []
hub_rows (suc n) h = Kind h ∷ Holds h ∷ Waiting h ∷ hub_rows n (suc h)

unfoldable pub rows : List Row
rows = Contents ∷ ReadyList ∷ (task_rows 16 0 ++ hub_rows 16 0)

-- row k of them, from 0 (`rows_are`, proofs/)
unfoldable pub task_row : ℕ → ℕ → Row
task_row i j = cond (eqb j 0) (State i) (cond (eqb j 1) (Priority i) (Answer i))

unfoldable pub hub_row : ℕ → ℕ → Row
hub_row h j = cond (eqb j 0) (Kind h) (cond (eqb j 1) (Holds h) (Waiting h))

unfoldable pub row_at : ℕ → Row
row_at k =
    cond (eqb k 0) Contents
    (cond (ltb k 2) ReadyList
    (cond (ltb k 50) (task_row ((k - 2) / 3) ((k - 2) % 3))
    (hub_row ((k - 50) / 3) ((k - 50) % 3))))

-- the task or hub that a row is about
abbrev pub row_number : Row → ℕ
row_number Contents = 0
row_number ReadyList = 0
row_number (State i) = i
row_number (Priority i) = i
row_number (Answer i) = i
row_number (Kind h) = h
row_number (Holds h) = h
row_number (Waiting h) = h

-- ---- whether a table uses what a row is about: tasks 0 to T-1, hubs 0 to H-1

unfoldable pub used : List ℕ → Row → Bool
used t Contents = true
used t ReadyList = true
used t (State i) = ltb i (get_or t 1 0)
used t (Priority i) = ltb i (get_or t 1 0)
used t (Answer i) = ltb i (get_or t 1 0)
used t (Kind h) = ltb h (get_or t 2 0)
used t (Holds h) = ltb h (get_or t 2 0)
used t (Waiting h) = ltb h (get_or t 2 0)

-- ---- the words of the table that a row covers

pub record Range : Type 0 where
  pub from : ℕ
  pub count : ℕ

abbrev pub range : ℕ → ℕ → Range
range p n = record { from = p; count = n }

-- the words of a task record: state, suspended, priority, hub, ticks, side, message (one word or two), answer;
-- of a hub record: kind, count, limit, start
unfoldable pub covers : ℕ → Row → List Range
covers ts Contents = range 0 8 ∷ []
covers ts ReadyList = range (ready_at ts) 16 ∷ []
covers ts (State i) = range (8 + i * ts) 2 ∷ range (8 + i * ts + 3) 3 ∷ []
covers ts (Priority i) = range (8 + i * ts + 2) 1 ∷ []
covers ts (Answer i) = range (8 + i * ts + 6) (width ts + 1) ∷ []
covers ts (Kind h) = range (hubs_at ts + h * 4) 1 ∷ range (hubs_at ts + h * 4 + 2) 2 ∷ []
covers ts (Holds h) = range (hubs_at ts + h * 4 + 1) 1 ∷ range (stores_at ts + h * store_size ts) (store_size ts) ∷ []
covers ts (Waiting h) = range (waits_at ts + h * 16) 16 ∷ []

-- ---- when a row is marked

-- some of n words from place p on differs
unfoldable pub differ : List ℕ → List ℕ → ℕ → ℕ → Bool
differ a b p zero = false
differ a b p (suc n) = cond (eqb (get_or a p 0) (get_or b p 0)) (differ a b (suc p) n) true

unfoldable pub differs : List ℕ → List ℕ → List Range → Bool
differs a b [] = false
differs a b (r ∷ rs) = cond (differ a b r.from r.count) true (differs a b rs)

-- two texts say more than the words that their rows cover: the ready list's which task runs, a priority's the effective one (M-108), and
-- what a hub holds is said by its kind
unfoldable pub more_differs : ℕ → List ℕ → List ℕ → ℕ → ℕ → Row → Bool
more_differs ts a b runs runs' Contents = false
more_differs ts a b runs runs' ReadyList = not (eqb runs runs')
more_differs ts a b runs runs' (State i) = false
more_differs ts a b runs runs' (Priority i) = not (eqb (effective (state_of a) i) (effective (state_of b) i))
more_differs ts a b runs runs' (Answer i) = false
more_differs ts a b runs runs' (Kind h) = false
more_differs ts a b runs runs' (Holds h) = differ a b (hubs_at ts + h * 4) 1
more_differs ts a b runs runs' (Waiting h) = false

unfoldable pub apart : ℕ → List ℕ → List ℕ → ℕ → ℕ → Row → Bool
apart ts a b runs runs' r = cond (differs a b (covers ts r)) true (more_differs ts a b runs runs' r)

-- marked: one table alone uses what the row is about, or they are apart. That is, a word that the row covers differs, or its two
-- texts differ (sidebyside/proofs/Promise, `marked-exactly`)
unfoldable pub marked : ℕ → List ℕ → List ℕ → ℕ → ℕ → Row → Bool
marked ts a b runs runs' r =
    cond (used a r)
    (cond (used b r) (apart ts a b runs runs' r) true)
    (cond (used b r) true (apart ts a b runs runs' r))

-- a row is shown where either table uses what it is about, or where it is marked
unfoldable pub shown : ℕ → List ℕ → List ℕ → ℕ → ℕ → Row → Bool
shown ts a b runs runs' r = cond (used a r) true (cond (used b r) true (marked ts a b runs runs' r))

-- how many of these rows are marked
unfoldable pub marked_in : ℕ → List ℕ → List ℕ → ℕ → ℕ → List Row → ℕ
marked_in ts a b runs runs' [] = 0
marked_in ts a b runs runs' (r ∷ rs) = bit (marked ts a b runs runs' r) + marked_in ts a b runs runs' rs

-- ---- whether a place of the table lies in the words that a row covers

unfoldable pub in_ranges : List Range → ℕ → Bool
in_ranges [] p = false
in_ranges (r ∷ rs) p = cond (leb r.from p && ltb p (r.from + r.count)) true (in_ranges rs p)

abbrev pub lies : ℕ → Row → ℕ → Bool
lies ts r p = in_ranges (covers ts r) p

-- ---- the keys that the code is handed

-- worked out once for a table: word i is task i's effective priority
pub record KeysOf (t keys : List ℕ) : Type 0 where
  pub key : (i : ℕ) → get_or keys i 0 ≡ effective (state_of t) i
