-- "The table: contents first, then the bodies": what stands in a table of words, as records and lists; the words of it, and
-- the table read back. In the paper's order: task record, hub record, the state, the layout, the words, reading.
-- Not here: when a table is well formed (WellFormed.antt), what a call does (Calls.antt). The laws are in proofs/.
use Rattle.std.specs.Prelude.{◌%◌, ◌*◌, ◌+◌, ◌/◌, suc, zero, ℕ, eqb, drop, get_or, length, replicate, set, take, Bool, ◌&&◌, cond, false, not, true, List, [], ◌++◌, ◌∷◌}
use Rattle.lists.specs.Lists.{entries, numbers}

-- ---- "Task record"

-- state (1 inactive, 2 ready, 3 waiting at a hub, 4 sleeping)
-- suspended 0 or 1; priority 0 to 255; hub number plus 1 or 0
-- ticks left 0 to 1,000,000 (0 at a hub means no limit)
-- side (0 none, 1 put, 2 get); word; answer (0 none, 1 OK, 2 FAIL, 3 TO)
pub record Task : Type 0 where
  pub state : ℕ
  pub suspended : ℕ
  pub priority : ℕ
  pub hub : ℕ
  pub ticks : ℕ
  pub side : ℕ
  pub word : ℕ
  pub answer : ℕ

pub data Stage : Type 0 where
  NoStage Inactive Ready Waiting Sleeping : Stage

-- 1 inactive, 2 ready, 3 waiting at a hub, 4 sleeping
unfoldable pub stage_of : ℕ → Stage
stage_of n = get_or (NoStage ∷ Inactive ∷ Ready ∷ Waiting ∷ Sleeping ∷ []) n NoStage

-- whether the record's state says inactive
abbrev pub is_inactive : Task → Bool
is_inactive t = eqb t.state 1

-- whether the record's flag says suspended
abbrev pub is_suspended : Task → Bool
is_suspended t = not (eqb t.suspended 0)

pub data Side : Type 0 where
  NoSide Put Get Wipe : Side

-- 0 none, 1 put, 2 get; of a call also 3 wipe (M-103)
unfoldable pub side_of : ℕ → Side
side_of n = get_or (NoSide ∷ Put ∷ Get ∷ Wipe ∷ []) n NoSide

-- ---- "Hub record: kind, count, limit, start"

-- with it the hub's waiting list, task numbers, first entry first, and the words that its store holds, oldest first; of a Memory
-- hub (M-107) a mark for each of its blocks, 1 when it is out
pub record Hub : Type 0 where
  pub kind : ℕ
  pub count : ℕ
  pub limit : ℕ
  pub start : ℕ
  pub waiters : List ℕ
  pub held : List ℕ

pub data Kind : Type 0 where
  NoKind Event Semaphore Port Fifo Resource Board Memory : Kind

-- 1 Event, 2 Semaphore, 3 Port, 4 FIFO, 5 Resource, 6 Board (M-103), 7 Memory (M-107)
unfoldable pub kind_of : ℕ → Kind
kind_of n = get_or (NoKind ∷ Event ∷ Semaphore ∷ Port ∷ Fifo ∷ Resource ∷ Board ∷ Memory ∷ []) n NoKind

unfoldable pub is_resource : Kind → Bool
is_resource NoKind = false
is_resource Event = false
is_resource Semaphore = false
is_resource Port = false
is_resource Fifo = false
is_resource Resource = true
is_resource Board = false
is_resource Memory = false

-- whether task i owns hub h: a Resource's count is "0 free, else owner plus 1"
unfoldable pub owns : ℕ → Hub → Bool
owns i h = is_resource (kind_of h.kind) && eqb h.count (suc i)

-- ---- what stands in a table: the records in use, 0 to T-1 and 0 to H-1, and the ready list

pub record State : Type 0 where
  pub tasks : List Task
  pub hubs : List Hub
  pub ready : List ℕ

-- an inactive task of priority p: "all but state and priority 0"
unfoldable pub inactive : ℕ → Task
inactive p = record { state = 1; suspended = 0; priority = p; hub = 0; ticks = 0; side = 0; word = 0; answer = 0 }

-- what is read of a hub number that is not in use
unfoldable pub no_hub : Hub
no_hub = record { kind = 0; count = 0; limit = 0; start = 0; waiters = []; held = [] }

-- the record of task i and of hub h; a number not in use reads as an inactive task, and as no hub
abbrev pub task : State → ℕ → Task
task s i = get_or s.tasks i (inactive 0)

abbrev pub hub : State → ℕ → Hub
hub s h = get_or s.hubs h no_hub

-- the state with one part replaced
unfoldable pub set_task : ℕ → Task → State → State
set_task i t s = record { tasks = set s.tasks i t; hubs = s.hubs; ready = s.ready }

unfoldable pub set_hub : ℕ → Hub → State → State
set_hub h x s = record { tasks = s.tasks; hubs = set s.hubs h x; ready = s.ready }

unfoldable pub set_ready : List ℕ → State → State
set_ready l s = record { tasks = s.tasks; hubs = s.hubs; ready = l }

-- ---- the layout: what an edition fixes of the table

-- its number, how many words a message has, and how a message is written and read; what follows from these stands below,
-- and all other bodies are the same in each edition
pub record Layout : Type 0 where
  pub edition : ℕ
  pub width : ℕ
  pub message : ℕ → List ℕ
  pub message_from : (ℕ → ℕ) → ℕ

-- edition 1: a message is one word, as it is
abbrev pub one : Layout
one = record { edition = 1; width = 1; message = λ m. m ∷ []; message_from = λ w. w 0 }

-- edition 2 (M-105): "every message is a low and a high word", the low word first
abbrev pub two : Layout
two = record {
  edition = 2;
  width = 2;
  message = λ m. m % 4294967296 ∷ m / 4294967296 ∷ [];
  message_from = λ w. w 0 + 4294967296 * w 1;
}

-- a task record in the paper's order: 8 words in edition 1, 9 in edition 2
abbrev pub task_size : Layout → ℕ
task_size L = 7 + L.width

abbrev pub task_words : Layout → Task → List ℕ
task_words L t =
    t.state ∷ t.suspended ∷ t.priority ∷ t.hub ∷ t.ticks ∷ t.side ∷ (L.message t.word ++ t.answer ∷ [])

abbrev pub task_from : Layout → (ℕ → ℕ) → Task
task_from L w = record {
  state = w 0;
  suspended = w 1;
  priority = w 2;
  hub = w 3;
  ticks = w 4;
  side = w 5;
  word = L.message_from (λ k. w (6 + k));
  answer = w (6 + L.width);
}

-- a store of 8 messages: 8 words in edition 1, 16 in edition 2
abbrev pub store_size : Layout → ℕ
store_size L = 8 * L.width

-- "where each body starts": in edition 1 8, 136, 200, 216, 472, and 600 words in all; in edition 2 8, 152, 216, 232, 488, and 744
abbrev pub tasks_at : ℕ
tasks_at = 8

abbrev pub hubs_at : Layout → ℕ
hubs_at L = tasks_at + 16 * task_size L

abbrev pub ready_at : Layout → ℕ
ready_at L = hubs_at L + 16 * 4

abbrev pub waits_at : Layout → ℕ
waits_at L = ready_at L + 16

abbrev pub stores_at : Layout → ℕ
stores_at L = waits_at L + 16 * 16

abbrev pub size : Layout → ℕ
size L = stores_at L + 16 * store_size L

-- the edition that fits a table's length (M-105): 744 words are of edition 2, all others are tested as edition 1, which has 600
unfoldable pub edition_of : List ℕ → Layout
edition_of t = cond (eqb (length t) (size two)) two one

-- ---- the words

-- n rows of w words: those of the entries, then zeros
unfoldable pub rows : {A : Type 0} → ℕ → (A → List ℕ) → ℕ → List A → List ℕ
rows w f zero xs = []
rows w f (suc n) [] = replicate w 0 ++ rows w f n []
rows w f (suc n) (x ∷ xs) = f x ++ rows w f n xs

-- "contents: edition 1, tasks T, hubs H, then where each body starts"
unfoldable pub contents : Layout → State → List ℕ
contents L s =
    L.edition
    ∷ length s.tasks
    ∷ length s.hubs
    ∷ tasks_at
    ∷ hubs_at L
    ∷ ready_at L
    ∷ waits_at L
    ∷ stores_at L
    ∷ []

abbrev pub hub_words : Hub → List ℕ
hub_words h = h.kind ∷ h.count ∷ h.limit ∷ h.start ∷ []

-- "A list holds task number plus 1 per entry, first entry first."
abbrev pub wait_words : Hub → List ℕ
wait_words h = entries 16 h.waiters

-- a store's messages, oldest first, then zeros
abbrev pub store_words : Layout → List ℕ → List ℕ
store_words L ws = rows L.width L.message 8 ws

abbrev pub store_of : Layout → Hub → List ℕ
store_of L h = store_words L h.held

-- contents; 16 task records; 16 hub records; ready list; 16 waiting lists, one per hub; 16 stores, one per hub.
-- "Everything unused is 0."
unfoldable pub words : Layout → State → List ℕ
words L s =
    contents L s
    ++ (rows (task_size L) (task_words L) 16 s.tasks
    ++ (rows 4 hub_words 16 s.hubs
    ++ (entries 16 s.ready ++ (rows 16 wait_words 16 s.hubs ++ rows (store_size L) (store_of L) 16 s.hubs))))

-- ---- a table read: whatever the words are, T tasks, H hubs and the ready list

-- n words from place a on
abbrev pub part : ℕ → ℕ → List ℕ → List ℕ
part a n t = take n (drop a t)

-- f at the n numbers from i on
unfoldable pub tab : {A : Type 0} → ℕ → ℕ → (ℕ → A) → List A
tab zero i f = []
tab (suc n) i f = f i ∷ tab n (suc i) f

unfoldable pub task_at : Layout → List ℕ → ℕ → Task
task_at L t i = task_from L (λ k. get_or t (tasks_at + i * task_size L + k) 0)

abbrev pub hub_word_at : Layout → List ℕ → ℕ → ℕ → ℕ
hub_word_at L t h k = get_or t (hubs_at L + h * 4 + k) 0

abbrev pub wait_part : Layout → List ℕ → ℕ → List ℕ
wait_part L t h = part (waits_at L + h * 16) 16 t

abbrev pub store_part : Layout → List ℕ → ℕ → List ℕ
store_part L t h = part (stores_at L + h * store_size L) (store_size L) t

-- the first n messages of a store
abbrev pub store_from : Layout → ℕ → List ℕ → List ℕ
store_from L n store = tab n 0 (λ j. L.message_from (λ k. get_or store (j * L.width + k) 0))

-- how many messages a store holds, by the kind, the count and the limit: of a FIFO, "words held"; of a Board, "the word in its
-- store's first place" when it is written, count 1; of a Memory hub (M-107) a mark for each block. Other stores hold none.
unfoldable pub stored : Kind → ℕ → ℕ → ℕ
stored NoKind count limit = 0
stored Event count limit = 0
stored Semaphore count limit = 0
stored Port count limit = 0
stored Fifo count limit = count
stored Resource count limit = 0
stored Board count limit = count
stored Memory count limit = limit

unfoldable pub held_in : Layout → Kind → ℕ → ℕ → List ℕ → List ℕ
held_in L k count limit store = store_from L (stored k count limit) store

unfoldable pub hub_at : Layout → List ℕ → ℕ → Hub
hub_at L t h = record {
  kind = hub_word_at L t h 0;
  count = hub_word_at L t h 1;
  limit = hub_word_at L t h 2;
  start = hub_word_at L t h 3;
  waiters = numbers (wait_part L t h);
  held = held_in L (kind_of (hub_word_at L t h 0)) (hub_word_at L t h 1) (hub_word_at L t h 2) (store_part L t h);
}

unfoldable pub read : Layout → List ℕ → State
read L t = record {
  tasks = tab (get_or t 1 0) 0 (task_at L t);
  hubs = tab (get_or t 2 0) 0 (hub_at L t);
  ready = numbers (part (ready_at L) 16 t);
}

-- the state that stands in a table, in its edition
abbrev pub state_of : List ℕ → State
state_of t = read (edition_of t) t
