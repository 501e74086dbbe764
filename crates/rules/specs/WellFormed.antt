-- "Well formed means the above, and": a computed test for each of the paper's clauses, in its order, over the words where it
-- speaks of words and over the state read from them where it speaks of tasks and hubs. `well_formed_in` is the whole of it, `well_formed` that of
-- the edition that fits the length.
-- Not here: what each test says as a statement, and that calls keep it (proofs/).
use Rattle.std.specs.Prelude.{◌*◌, ◌+◌, ◌-◌, pred, suc, zero, ℕ, eqb, leb, ltb, drop, get_or, length, Bool, ◌&&◌, ◌||◌, false, not, true, List, [], ◌∷◌}
use Rattle.lists.specs.Lists.{all_zero, bit, occ, packed}
use Rattle.rules.specs.Effective.{effective}
use Rattle.rules.specs.Table.{Board, Event, Fifo, Get, Hub, Inactive, Kind, Layout, Memory, NoKind, NoSide, NoStage, Port, Put, Ready, Resource, Semaphore, Side, Sleeping, Stage, State, Task, Waiting, Wipe, edition_of, hub, hub_word_at, hubs_at, is_inactive, is_resource, kind_of, part, read, ready_at, side_of, size, stage_of, store_part, store_size, stored, stores_at, task, task_size, tasks_at, wait_part, waits_at}

-- p of every number below n
unfoldable pub for_all : ℕ → (ℕ → Bool) → Bool
for_all zero p = true
for_all (suc n) p = p n && for_all n p

-- p of every entry of a list
unfoldable pub every : (ℕ → Bool) → List ℕ → Bool
every p [] = true
every p (x ∷ xs) = p x && every p xs

-- lo to hi
abbrev pub within : ℕ → ℕ → ℕ → Bool
within lo hi n = leb lo n && leb n hi

-- ---- "The table is a lent slice of exactly 600 words": how it is written

-- "contents: edition 1, tasks T, hubs H, then where each body starts"; "T and H are 0 to 16"
unfoldable pub contents_right : Layout → List ℕ → Bool
contents_right L t =
    eqb (get_or t 0 0) L.edition
    && (leb (get_or t 1 0) 16
    && (leb (get_or t 2 0) 16
    && (eqb (get_or t 3 0) tasks_at
    && (eqb (get_or t 4 0) (hubs_at L)
    && (eqb (get_or t 5 0) (ready_at L) && (eqb (get_or t 6 0) (waits_at L) && eqb (get_or t 7 0) (stores_at L)))))))

-- words a to b - 1 are 0
abbrev pub zero_from : ℕ → ℕ → List ℕ → Bool
zero_from a b t = all_zero (part a (b - a) t)

-- "Everything unused is 0": behind the task records, hub records, waiting lists and stores in use
unfoldable pub unused_zero : Layout → List ℕ → Bool
unused_zero L t =
    zero_from (tasks_at + get_or t 1 0 * task_size L) (hubs_at L) t
    && (zero_from (hubs_at L + get_or t 2 0 * 4) (ready_at L) t
    && (zero_from (waits_at L + get_or t 2 0 * 16) (stores_at L) t && zero_from (stores_at L + get_or t 2 0 * store_size L) (size L) t))

-- "A list holds task number plus 1 per entry, first entry first": entries, then zeros
unfoldable pub lists_packed : Layout → List ℕ → Bool
lists_packed L t = packed (part (ready_at L) 16 t) && for_all (get_or t 2 0) (λ h. packed (wait_part L t h))

-- "A FIFO's store holds its words, oldest first, then zeros. Other stores are 0." A Board's: "the word in its store's first place,
-- else count and store 0". A Memory hub's (M-107): the marks of its blocks, "the rest 0"
unfoldable pub store_right : Layout → Kind → ℕ → ℕ → List ℕ → Bool
store_right L k count limit store = all_zero (drop (stored k count limit * L.width) store)

unfoldable pub stores_right : Layout → List ℕ → Bool
stores_right L t =
    for_all (get_or t 2 0) (λ h. store_right L (kind_of (hub_word_at L t h 0)) (hub_word_at L t h 1) (hub_word_at L t h 2) (store_part L t h))

unfoldable pub written : Layout → List ℕ → Bool
written L t =
    eqb (length t) (size L) && (contents_right L t && (unused_zero L t && (lists_packed L t && stores_right L t)))

-- ---- the records

-- "suspended 0 or 1; priority 0 to 255; ... ticks left 0 to 1,000,000; ... answer (0 none, 1 OK, 2 FAIL, 3 TO)"
unfoldable pub fields_right : Task → Bool
fields_right t = leb t.suspended 1 && (leb t.priority 255 && (leb t.ticks 1000000 && leb t.answer 3))

-- M-107: "mark block i with 1 when it is out", else 0; count is how many are free
abbrev pub marks_right : Hub → Bool
marks_right h = for_all h.limit (λ b. leb (get_or h.held b 0) 1) && eqb h.count (occ 0 h.held)

-- the kinds table: count, limit, start; T is the number of tasks in use
--   Event 0 or 1, 1, 0;  Semaphore 0 to limit, 1 to 65,535, 0 to limit;  Port 0, 0, 0
--   FIFO words held, 0 to limit, 1 to 8, 0;  Resource 0 free, else owner plus 1, owner below T, 1, 0
--   Board (M-103) 1 when written, else 0, 1, 0;  Memory (M-107) free blocks, 1 to 8, start = limit
unfoldable pub kind_right : Kind → ℕ → Hub → Bool
kind_right NoKind T h = false
kind_right Event T h = leb h.count 1 && (eqb h.limit 1 && eqb h.start 0)
kind_right Semaphore T h = leb h.count h.limit && (within 1 65535 h.limit && leb h.start h.limit)
kind_right Port T h = eqb h.count 0 && (eqb h.limit 0 && eqb h.start 0)
kind_right Fifo T h = leb h.count h.limit && (within 1 8 h.limit && eqb h.start 0)
kind_right Resource T h = leb h.count T && (eqb h.limit 1 && eqb h.start 0)
kind_right Board T h = leb h.count 1 && (eqb h.limit 1 && eqb h.start 0)
kind_right Memory T h = within 1 8 h.limit && (eqb h.start h.limit && marks_right h)

unfoldable pub hubs_right : State → Bool
hubs_right s = for_all (length s.hubs) (λ h. kind_right (kind_of (hub s h).kind) (length s.tasks) (hub s h))

-- ---- "The ready list has exactly the tasks in state 2, a hub's list exactly those in state 3 at that hub, each once."

abbrev pub is_ready : State → ℕ → Bool
is_ready s i = eqb (task s i).state 2

abbrev pub waits_for : State → ℕ → ℕ → Bool
waits_for s h i = eqb (task s i).state 3 && eqb (task s i).hub (suc h)

-- of the tasks 0 to T-1 just those that pass the test stand in the list, each once, and nothing else does
unfoldable pub exactly : ℕ → (ℕ → Bool) → List ℕ → Bool
exactly T p l = for_all T (λ i. eqb (occ i l) (bit (p i))) && every (λ i. ltb i T) l

unfoldable pub lists_exact : State → Bool
lists_exact s =
    exactly (length s.tasks) (is_ready s) s.ready
    && for_all (length s.hubs) (λ h. exactly (length s.tasks) (waits_for s h) (hub s h).waiters)

-- ---- "Both are ordered by rising priority number." M-108: "Lists are ordered by effective priority, and well formed says so too."

-- no entry is more urgent than one before it
unfoldable pub rising : (ℕ → ℕ) → List ℕ → Bool
rising key [] = true
rising key (x ∷ xs) = every (λ y. leb (key x) (key y)) xs && rising key xs

unfoldable pub in_order_by : (ℕ → ℕ) → State → Bool
in_order_by key s = rising key s.ready && for_all (length s.hubs) (λ h. rising key (hub s h).waiters)

abbrev pub in_order : State → Bool
in_order s = in_order_by (effective s) s

-- ---- the task records, by state

-- the kinds whose puts bear a word: Port and FIFO, and Board (M-103) and Memory (M-107), whose puts never wait
unfoldable pub bears_word : Kind → Bool
bears_word NoKind = false
bears_word Event = false
bears_word Semaphore = false
bears_word Port = true
bears_word Fifo = true
bears_word Resource = false
bears_word Board = true
bears_word Memory = true

-- "Inactive: all but state and priority 0."
-- "Ready: hub, ticks and side 0; word 0 unless the answer is 1."
-- "Waiting: hub in use, side 1 or 2, answer 0, word 0 unless it puts to a Port or FIFO."
-- "Sleeping: hub, side, word and answer 0, ticks at least 1."
unfoldable pub stage_right : Stage → State → Task → Bool
stage_right NoStage s t = false
stage_right Inactive s t =
    eqb t.suspended 0
    && (eqb t.hub 0 && (eqb t.ticks 0 && (eqb t.side 0 && (eqb t.word 0 && eqb t.answer 0))))
stage_right Ready s t =
    eqb t.hub 0 && (eqb t.ticks 0 && (eqb t.side 0 && (eqb t.answer 1 || eqb t.word 0)))
stage_right Waiting s t =
    within 1 (length s.hubs) t.hub
    && (within 1 2 t.side
    && (eqb t.answer 0
    && ((eqb t.side 1 && bears_word (kind_of (hub s (pred t.hub)).kind)) || eqb t.word 0)))
stage_right Sleeping s t =
    eqb t.hub 0 && (eqb t.side 0 && (eqb t.word 0 && (eqb t.answer 0 && leb 1 t.ticks)))

unfoldable pub tasks_right : State → Bool
tasks_right s =
    for_all (length s.tasks) (λ i. fields_right (task s i) && stage_right (stage_of (task s i).state) s (task s i))

-- ---- who may wait

-- "Getters wait only on an Event or Semaphore at count 0, an empty FIFO, a Port, or a Resource owned by a task not in that
-- list" (said of each task in it). "Putters wait only on an Event, Semaphore or FIFO at its limit, or on a Port."
-- Board (M-103): "Only readers wait, and only on an unwritten board." Memory (M-107): "only getters wait, at count 0".
unfoldable pub may_wait : Side → Kind → Hub → ℕ → Bool
may_wait NoSide k h i = false
may_wait Get NoKind h i = false
may_wait Get Event h i = eqb h.count 0
may_wait Get Semaphore h i = eqb h.count 0
may_wait Get Port h i = true
may_wait Get Fifo h i = eqb h.count 0
may_wait Get Resource h i = not (eqb h.count 0) && not (eqb h.count (suc i))
may_wait Get Board h i = eqb h.count 0
may_wait Get Memory h i = eqb h.count 0
may_wait Put NoKind h i = false
may_wait Put Event h i = eqb h.count h.limit
may_wait Put Semaphore h i = eqb h.count h.limit
may_wait Put Port h i = true
may_wait Put Fifo h i = eqb h.count h.limit
may_wait Put Resource h i = false
may_wait Put Board h i = false
may_wait Put Memory h i = false
may_wait Wipe k h i = false

-- "One waiting list holds one side only."
unfoldable pub one_side : State → List ℕ → Bool
one_side s l = every (λ i. every (λ j. eqb (task s i).side (task s j).side) l) l

unfoldable pub waiters_right : State → Bool
waiters_right s =
    for_all (length s.hubs) (λ h. one_side s (hub s h).waiters
    && every (λ i. may_wait (side_of (task s i).side) (kind_of (hub s h).kind) (hub s h) i) (hub s h).waiters)

-- ---- M-101: "A table whose Resource owner is inactive is now not well formed"

-- not a Resource that is owned, and its owner inactive
unfoldable pub owner_right : State → Hub → Bool
owner_right s h = not (is_resource (kind_of h.kind) && (not (eqb h.count 0) && is_inactive (task s (pred h.count))))

unfoldable pub owners_right : State → Bool
owners_right s = for_all (length s.hubs) (λ h. owner_right s (hub s h))

-- ---- the whole

unfoldable pub valid : State → Bool
valid s =
    hubs_right s && (lists_exact s && (in_order s && (tasks_right s && (waiters_right s && owners_right s))))

unfoldable pub well_formed_in : Layout → List ℕ → Bool
well_formed_in L t = written L t && valid (read L t)

-- in the edition that fits its length
abbrev pub well_formed : List ℕ → Bool
well_formed t = well_formed_in (edition_of t) t
