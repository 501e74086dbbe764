-- What a well-formed table's state has, as statements: the meaning of the tests of specs/WellFormed.antt, clause by clause.
-- A number past the end reads as an inactive task, or as no hub, so that no statement asks whether it is in use.
-- Not here: that a test says its statement (Tests.antt), that calls keep it (Kept.antt). Assumes nothing.
use Prim.Native.Nat.{◌<◌, ◌≤◌, pred, suc, ℕ}
use Rattle.lists.specs.Lists.{bit, occ}
use Rattle.rules.specs.Effective.{effective}
use Rattle.rules.specs.Table.{Board, Event, Fifo, Get, Hub, Inactive, Kind, Memory, NoKind, NoSide, NoStage, Port, Put, Ready, Resource, Semaphore, Side, Sleeping, Stage, State, Task, Waiting, Wipe, hub, kind_of, owns, side_of, stage_of, stored, task}
use Rattle.rules.specs.WellFormed.{bears_word, is_ready, waits_for}
use lib.ListN.{get_or, length}
use mathlib.Core.Bool.{true}
use mathlib.Core.List.{List, [], ◌∷◌}
use mathlib.Core.Logic.{◌≢◌}
use mathlib.Core.Path.{◌≡◌}

-- ---- the ready list has exactly the tasks in state 2, a hub's list exactly those in state 3 at that hub, each once

pub record Listed (s : State) : Type 0 where
  pub ready : (i : ℕ) → occ i s.ready ≡ bit (is_ready s i)
  pub waiters : (h i : ℕ) → occ i (hub s h).waiters ≡ bit (waits_for s h i)

-- ---- by rising key

unfoldable pub Below : (ℕ → ℕ) → ℕ → List ℕ → Type 0
Below key n [] = Unit {0}
Below key n (x ∷ xs) = (n ≤ key x) × Below key n xs

unfoldable pub Sorted : (ℕ → ℕ) → List ℕ → Type 0
Sorted key [] = Unit {0}
Sorted key (x ∷ xs) = Below key (key x) xs × Sorted key xs

pub record Ordered (key : ℕ → ℕ) (s : State) : Type 0 where
  pub ready : Sorted key s.ready
  pub waiters : (h : ℕ) → Sorted key (hub s h).waiters

-- ---- who may wait

unfoldable pub GetWaits : Kind → Hub → ℕ → Type 0
GetWaits NoKind h i = ⊥
GetWaits Event h i = h.count ≡ 0
GetWaits Semaphore h i = h.count ≡ 0
GetWaits Port h i = Unit {0}
GetWaits Fifo h i = h.count ≡ 0
GetWaits Resource h i = (h.count ≡ 0 → ⊥) × (h.count ≡ suc i → ⊥)
GetWaits Board h i = h.count ≡ 0
GetWaits Memory h i = h.count ≡ 0

unfoldable pub PutWaits : Kind → Hub → Type 0
PutWaits NoKind h = ⊥
PutWaits Event h = h.count ≡ h.limit
PutWaits Semaphore h = h.count ≡ h.limit
PutWaits Port h = Unit {0}
PutWaits Fifo h = h.count ≡ h.limit
PutWaits Resource h = ⊥
PutWaits Board h = ⊥
PutWaits Memory h = ⊥

unfoldable pub MayWait : Side → Kind → Hub → ℕ → Type 0
MayWait NoSide k h i = ⊥
MayWait Put k h i = PutWaits k h
MayWait Get k h i = GetWaits k h i
MayWait Wipe k h i = ⊥

pub record Waits (s : State) : Type 0 where
  pub may : (h i : ℕ) → waits_for s h i ≡ true → MayWait (side_of (task s i).side) (kind_of (hub s h).kind) (hub s h) i
  pub one_side : (h i j : ℕ) → waits_for s h i ≡ true → waits_for s h j ≡ true → (task s i).side ≡ (task s j).side

-- ---- the kinds table, with what the store holds; T is how many tasks are in use

unfoldable pub Range : Kind → ℕ → Hub → Type 0
Range NoKind T h = ⊥
Range Event T h = (h.count ≤ 1) × (h.limit ≡ 1) × (h.start ≡ 0)
Range Semaphore T h = (h.count ≤ h.limit) × (1 ≤ h.limit) × (h.limit ≤ 65535) × (h.start ≤ h.limit)
Range Port T h = (h.count ≡ 0) × (h.limit ≡ 0) × (h.start ≡ 0)
Range Fifo T h = (h.count ≤ h.limit) × (1 ≤ h.limit) × (h.limit ≤ 8) × (h.start ≡ 0)
Range Resource T h = (h.count ≤ T) × (h.limit ≡ 1) × (h.start ≡ 0)
Range Board T h = (h.count ≤ 1) × (h.limit ≡ 1) × (h.start ≡ 0)
Range Memory T h =
    (1 ≤ h.limit)
    × (h.limit ≤ 8)
    × (h.start ≡ h.limit)
    × ((b : ℕ) → b < h.limit → get_or h.held b 0 ≤ 1)
    × (h.count ≡ occ 0 h.held)

-- a hub holds as many messages as its kind, count and limit say
unfoldable pub Held : Kind → Hub → Type 0
Held k h = stored k h.count h.limit ≡ length h.held

pub record Ranges (s : State) : Type 0 where
  pub range : (h : ℕ) → h < length s.hubs → Range (kind_of (hub s h).kind) (length s.tasks) (hub s h)
  pub held : (h : ℕ) → h < length s.hubs → Held (kind_of (hub s h).kind) (hub s h)

-- ---- the task records, by state

unfoldable pub Shape : Stage → State → Task → Type 0
Shape NoStage s t = ⊥
Shape Inactive s t =
    (t.suspended ≡ 0) × (t.hub ≡ 0) × (t.ticks ≡ 0) × (t.side ≡ 0) × (t.word ≡ 0) × (t.answer ≡ 0)
Shape Ready s t = (t.hub ≡ 0) × (t.ticks ≡ 0) × (t.side ≡ 0) × ((t.answer ≡ 1 → ⊥) → t.word ≡ 0)
Shape Waiting s t =
    (1 ≤ t.hub)
    × (t.hub ≤ length s.hubs)
    × (1 ≤ t.side)
    × (t.side ≤ 2)
    × (t.answer ≡ 0)
    × ((t.word ≡ 0 → ⊥) → (t.side ≡ 1) × (bears_word (kind_of (hub s (pred t.hub)).kind) ≡ true))
Shape Sleeping s t = (t.hub ≡ 0) × (t.side ≡ 0) × (t.word ≡ 0) × (t.answer ≡ 0) × (1 ≤ t.ticks)

pub record TaskOk (s : State) (t : Task) : Type 0 where
  pub suspended : t.suspended ≤ 1
  pub priority : t.priority ≤ 255
  pub ticks : t.ticks ≤ 1000000
  pub answer : t.answer ≤ 3
  pub shape : Shape (stage_of t.state) s t

pub record Records (s : State) : Type 0 where
  pub each : (i : ℕ) → TaskOk s (task s i)

-- ---- who owns a Resource

pub record Owners (s : State) : Type 0 where
  pub active : (h i : ℕ) → owns i (hub s h) ≡ true → (task s i).state ≢ 1

-- ---- every task stands in the list that its record says, and nowhere else: all that a move and an effective priority rest on

pub record Sound (s : State) : Type 0 where
  pub tasks : length s.tasks ≤ 16
  pub hubs : length s.hubs ≤ 16
  pub listed : Listed s

-- the same of one task, of the others nothing (M-108: while some are out of their lists)
pub record Stands (i : ℕ) (s : State) : Type 0 where
  pub tasks : length s.tasks ≤ 16
  pub hubs : length s.hubs ≤ 16
  pub ready : length s.ready ≤ 16
  pub waiters : (h : ℕ) → length (hub s h).waiters ≤ 16
  pub in_ready : occ i s.ready ≡ bit (is_ready s i)
  pub at_hub : (h : ℕ) → occ i (hub s h).waiters ≡ bit (waits_for s h i)

-- ---- the whole

-- what the words alone say of the state read from them: how many, and what the stores hold
pub record Fits (s : State) : Type 0 where
  pub tasks : length s.tasks ≤ 16
  pub hubs : length s.hubs ≤ 16
  pub held : (h : ℕ) → h < length s.hubs → Held (kind_of (hub s h).kind) (hub s h)

-- a state whose every part has room in a table
pub record Room (s : State) : Type 0 where
  pub tasks : length s.tasks ≤ 16
  pub hubs : length s.hubs ≤ 16
  pub ready : length s.ready ≤ 16
  pub waiters : (h : ℕ) → length (hub s h).waiters ≤ 16
  pub held : (h : ℕ) → h < length s.hubs → Held (kind_of (hub s h).kind) (hub s h)
  pub stores : (h : ℕ) → length (hub s h).held ≤ 8

pub record Valid (s : State) : Type 0 where
  pub tasks : length s.tasks ≤ 16
  pub hubs : length s.hubs ≤ 16
  pub listed : Listed s
  pub ordered : Ordered (effective s) s
  pub records : Records s
  pub waits : Waits s
  pub ranges : Ranges s
  pub owners : Owners s
