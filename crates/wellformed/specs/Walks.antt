-- What each function of this crate tests: a list of words in one walk, a hub with its list, a task with its mark, the whole. In
-- the code's order. Not here: that together they are `well_formed_in` (proofs/).
use Rattle.std.specs.Prelude.{◌+◌, ◌≤◌, pred, suc, zero, ℕ, eqb, leb, get_or, length, Bool, ◌&&◌, ◌||◌, cond, not, true, List, [], ◌∷◌, ◌≡◌}
use Rattle.bodies.specs.Bodies.{body_test, owner_of}
use Rattle.lists.specs.Lists.{all_zero, bit, occ}
use Rattle.records.specs.Records.{Table}
use Rattle.rules.proofs.Layouts.{Laid}
use Rattle.rules.specs.Effective.{effective}
use Rattle.rules.specs.Table.{Hub, Layout, Stage, State, Task, hub, read, stage_of, task, task_from, wait_part}
use Rattle.rules.specs.WellFormed.{fields_right, hubs_right, lists_exact, owners_right, stage_right, tasks_right, waiters_right, well_formed_in, written}

-- ---- one list

-- entry x: a task in use, at this hub, on this side, and not the owner
unfoldable pub meets : State → ℕ → ℕ → ℕ → ℕ → Bool
meets s h d owner x =
    leb x (length s.tasks)
    && (eqb (task s (pred x)).hub h
    && (eqb (task s (pred x)).side d && not (eqb x owner)))

-- such entries, then nothing but zeros
unfoldable pub walks : State → ℕ → ℕ → ℕ → List ℕ → Bool
walks s h d owner [] = true
walks s h d owner (x ∷ xs) = cond (eqb x 0) (all_zero xs) (meets s h d owner x && walks s h d owner xs)

-- a mark for each task, none above n
pub record Marks (n : ℕ) (m : List ℕ) : Type 0 where
  pub long : length m ≡ 16
  pub low : (j : ℕ) → get_or m j 0 ≤ n

-- what a walk that marks the tasks that it meets gives back
pub record Marked (r test : Bool) (met : ℕ → ℕ) (before after : List ℕ) : Type 0 where
  pub right : r ≡ test
  pub long : length after ≡ length before
  pub marks : r ≡ true → (j : ℕ) → get_or after j 0 ≡ get_or before j 0 + met j

-- ---- a hub

-- who may wait, but for a Resource's owner, where the hub's ranges are right: a Port's count and limit are 0. At a Board only
-- readers, and only while it is unwritten; at a Memory hub only getters, at count 0.
abbrev pub may : ℕ → ℕ → ℕ → ℕ → Bool
may side kind count limit =
    (eqb side 1 && ((not (eqb kind 5) && (not (eqb kind 6) && not (eqb kind 7))) && eqb count limit))
    || (eqb side 2 && ((eqb kind 5 && not (eqb count 0)) || (not (eqb kind 5) && eqb count 0)))

-- a hub's list: the side of the first entry may wait, and all others are on that side
unfoldable pub queue_right : State → ℕ → Hub → List ℕ → Bool
queue_right s h x l =
    cond (eqb (get_or l 0 0) 0) (all_zero l)
    (leb (get_or l 0 0) (length s.tasks)
    && (may (task s (pred (get_or l 0 0))).side x.kind x.count x.limit
    && walks s (suc h) (task s (pred (get_or l 0 0))).side (owner_of x.kind x.count) l))

unfoldable pub queue_test : Layout → List ℕ → ℕ → Bool
queue_test L t h = queue_right (read L t) h (hub (read L t) h) (wait_part L t h)

-- a hub of the table: what stands in its record and its store, and its list
unfoldable pub hub_right : Layout → List ℕ → ℕ → Bool
hub_right L t h = body_test L t h && queue_test L t h

-- how often task j stands in the list of hub h
abbrev pub waits_of : Layout → List ℕ → ℕ → ℕ → ℕ
waits_of L t h j = occ j (hub (read L t) h).waiters

-- how often task j stands in the lists of the hubs below n
unfoldable pub met_at : State → ℕ → ℕ → ℕ
met_at s zero j = 0
met_at s (suc n) j = met_at s n j + occ j (hub s n).waiters

-- ---- a task

-- the words of a task's record
pub record Row (ts : ℕ) (l : List ℕ) : Type 0 where
  pub low : 8 ≤ ts
  pub high : ts ≤ 9
  pub long : length l ≡ ts

-- what is left to test of a record, once its flag and its priority are right, by the state that it names
unfoldable pub rest_right : Stage → State → Task → Bool
rest_right g s x = leb x.ticks 1000000 && (leb x.answer 3 && stage_right g s x)

-- a task stands in a list where it is ready or waits
abbrev pub listed : ℕ → ℕ
listed n = bit (eqb n 2 || eqb n 3)

-- a task's record and its mark
unfoldable pub record_right : State → Task → ℕ → Bool
record_right s x mark = fields_right x && (stage_right (stage_of x.state) s x && eqb mark (listed x.state))

unfoldable pub task_right : State → ℕ → ℕ → Bool
task_right s i mark = record_right s (task s i) mark

-- the record that a list of words holds
abbrev pub record_of : Layout → List ℕ → Task
record_of L l = task_from L (λ k. get_or l k 0)

-- ---- the whole

-- all clauses of `well_formed_in` but the order of the lists
unfoldable pub exact_in : Layout → List ℕ → Bool
exact_in L t =
    written L t
    && (hubs_right (read L t)
    && (lists_exact (read L t)
    && (tasks_right (read L t) && (waiters_right (read L t) && owners_right (read L t)))))

-- a table of which they hold, whatever the layout of this size
pub record ExactTable (ts : ℕ) (t : List ℕ) : Type 0 where
  pub fits : Table ts t
  pub each : (L : Layout) → Laid ts L → exact_in L t ≡ true

-- what the test of a table gives back: the answer, and where it is yes each task's effective priority, its key
pub record Formed (L : Layout) (t : List ℕ) (r : Bool) (ks : List ℕ) : Type 0 where
  pub right : r ≡ well_formed_in L t
  pub long : r ≡ true → length ks ≡ 16
  pub keys : r ≡ true → (j : ℕ) → get_or ks j 0 ≡ effective (read L t) j
