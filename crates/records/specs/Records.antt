-- Where the bodies of a table stand, and a record as a list of words has it: definitions alone. `ts` is how many words a task
-- record has, 8 in edition 1 and 9 in edition 2; `at` is the word at which the hub records start, and a word past the end is 0.
-- Not here: what the words mean, and the rest of the table.
use Rattle.std.specs.Prelude.{◌*◌, ◌+◌, ◌-◌, ◌<◌, ◌≤◌, suc, zero, ℕ, eqb, get_or, length, cond, List, [], ◌++◌, ◌∷◌, ◌≡◌}
use Rattle.messages.specs.Messages.{message_at, message_words, messages}
use Rattle.records.specs.declared.HubRecord.{HubRecord}
use Rattle.records.specs.declared.TaskRecord.{TaskRecord}
use Rattle.std.proofs.Math.Option.{Option, none, some}

-- ---- sizes and places, as the rules have them

-- how many words a message has
abbrev pub width : ℕ → ℕ
width ts = ts - 7

abbrev pub hubs_at : ℕ → ℕ
hubs_at ts = 8 + 16 * ts

abbrev pub ready_at : ℕ → ℕ
ready_at ts = hubs_at ts + 64

abbrev pub waits_at : ℕ → ℕ
waits_at ts = ready_at ts + 16

abbrev pub stores_at : ℕ → ℕ
stores_at ts = waits_at ts + 256

abbrev pub store_size : ℕ → ℕ
store_size ts = 8 * width ts

abbrev pub table_size : ℕ → ℕ
table_size ts = stores_at ts + 16 * store_size ts

-- how many words a task record has in a table of n words: 9 in edition 2, which has 744; else 8, as in edition 1
abbrev pub task_size_of : ℕ → ℕ
task_size_of n = cond (eqb n (table_size 9)) 9 8

-- a table of an edition: 600 words, or 744
pub record Table (ts : ℕ) (t : List ℕ) : Type 0 where
  pub low : 8 ≤ ts
  pub high : ts ≤ 9
  pub long : length t ≡ table_size ts

-- the i-th of 16 records of `size` words starts at word p, if the first starts at word `at`, and lies inside them
pub record RowAt (at size i p : ℕ) : Type 0 where
  pub place : p ≡ at + i * size
  pub inside : p + size ≤ at + 16 * size

-- ---- an entry of a list

-- the task that an entry names: its number plus 1, or 0 for none
unfoldable pub first : ℕ → Option ℕ
first zero = none
first (suc w) = some w

-- ---- a task record, and a hub record

-- the record of task i: the answer stands behind the message
unfoldable pub task_at : ℕ → List ℕ → ℕ → TaskRecord
task_at ts t i = record {
  state = get_or t (8 + i * ts) 0;
  suspended = get_or t (8 + i * ts + 1) 0;
  priority = get_or t (8 + i * ts + 2) 0;
  hub = get_or t (8 + i * ts + 3) 0;
  ticks = get_or t (8 + i * ts + 4) 0;
  side = get_or t (8 + i * ts + 5) 0;
  word = message_at (width ts) t (8 + i * ts + 6);
  answer = get_or t (8 + i * ts + 6 + width ts) 0;
}

pub record TaskRead (ts : ℕ) (t : List ℕ) (i : ℕ) (r : TaskRecord) : Type 0 where
  pub value : r ≡ task_at ts t i
  pub low : r.word < messages (width ts)

-- its words, in the paper's order
unfoldable pub task_words : ℕ → TaskRecord → List ℕ
task_words ts x =
    x.state
    ∷ x.suspended
    ∷ x.priority
    ∷ x.hub
    ∷ x.ticks
    ∷ x.side
    ∷ (message_words (width ts) x.word ++ x.answer ∷ [])

-- the record of hub h
unfoldable pub hub_at : ℕ → List ℕ → ℕ → HubRecord
hub_at at t h = record {
  kind = get_or t (at + h * 4) 0;
  count = get_or t (at + h * 4 + 1) 0;
  limit = get_or t (at + h * 4 + 2) 0;
  start = get_or t (at + h * 4 + 3) 0;
}

-- its words, in the paper's order
unfoldable pub hub_words : HubRecord → List ℕ
hub_words x = x.kind ∷ x.count ∷ x.limit ∷ x.start ∷ []
