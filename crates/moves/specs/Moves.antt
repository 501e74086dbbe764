-- What the contracts of the moves name beside the rules: a record as the code holds it, keys as a list, what joining gives.
-- Not here: what of a state a move rests on (rules, Valid: `Sound`, `Stands`).
use Rattle.lists.specs.Lists.{place_of}
use Rattle.messages.specs.Messages.{messages}
use Rattle.moves.specs.declared.TaskList.TheVariants.{Ready, Waiting}
use Rattle.moves.specs.declared.TaskList.{TaskList}
use Rattle.records.specs.Records.{ready_at, waits_at, width}
use Rattle.records.specs.declared.TaskRecord.{TaskRecord}
use Rattle.rules.proofs.Layouts.{Laid}
use Rattle.rules.specs.Lists.{join_hub, join_ready}
use Rattle.rules.specs.Table.{Layout, State, Task, hub, task, words}
use Rattle.std.specs.Prelude.{◌*◌, ◌+◌, ◌<◌, ◌≤◌, suc, ℕ, get_or, length, List, None, Option, Some, ◌≡◌, ◌≢◌, ◌⊎◌}

-- a task record of the code, as the rules have it
abbrev pub task_of : TaskRecord → Task
task_of x = record {
  state = x.state;
  suspended = x.suspended;
  priority = x.priority;
  hub = x.hub;
  ticks = x.ticks;
  side = x.side;
  word = x.word;
  answer = x.answer;
}

-- the record of task i, read from a table t: its message is one of the edition's
pub record TaskHeld (ts i : ℕ) (t : List ℕ) (r : TaskRecord) : Type 0 where
  pub low : r.word < messages (width ts)
  pub value : (L : Layout) (s : State) → Laid ts L → length s.tasks ≤ 16 → i < length s.tasks → t ≡ words L s → task_of r ≡ task s i

-- the list in which a task with this record stands: the ready list, or the list of its hub, or none
abbrev pub ListedBy : TaskRecord → Option TaskList → Type 0
ListedBy x (Some Ready) = x.state ≡ 2
ListedBy x (Some (Waiting h)) = (x.state ≡ 3) × (x.hub ≡ suc h.0) × (h.0 < 16)
ListedBy x None = (x.state ≢ 2) × (x.state ≡ 3 → (x.hub ≡ 0) ⊎ (16 < x.hub))

-- a list that a table has: there are 16 hubs at most
abbrev pub IsList : TaskList → Type 0
IsList Ready = Unit {0}
IsList (Waiting h) = h.0 < 16

-- where it starts
abbrev pub list_at : ℕ → TaskList → ℕ
list_at ts Ready = ready_at ts
list_at ts (Waiting h) = waits_at ts + h.0 * 16

-- the key of each task, where a list holds them
abbrev pub key_of : List ℕ → ℕ → ℕ
key_of ks j = get_or ks j 0

-- task i has joined the ready list of a table t, whose task records have ts words: the table afterwards, and the place that
-- it took, which is how many stand before it
pub record JoinsReady (ts : ℕ) (ks : List ℕ) (i : ℕ) (t : List ℕ) (k : ℕ) (t' : List ℕ) : Type 0 where
  pub table : (L : Layout) (s : State) → Laid ts L → t ≡ words L s → t' ≡ words L (join_ready (key_of ks) i s)
  pub place : (L : Layout) (s : State) → Laid ts L → length s.ready ≤ 16 → t ≡ words L s
      → k ≡ place_of (key_of ks) (key_of ks i) s.ready

-- the same of hub h's list, whatever the table holds a place of its 16 entries or behind them
pub record JoinsHub (ts : ℕ) (ks : List ℕ) (h i : ℕ) (t : List ℕ) (k : ℕ) (t' : List ℕ) : Type 0 where
  pub low : k ≤ 16
  pub table : (L : Layout) (s : State) → Laid ts L → h < length s.hubs → t ≡ words L s
      → t' ≡ words L (join_hub (key_of ks) h i s)
  pub place : (L : Layout) (s : State) → Laid ts L → h < length s.hubs → length (hub s h).waiters ≤ 16 → t ≡ words L s
      → k ≡ place_of (key_of ks) (key_of ks i) (hub s h).waiters
