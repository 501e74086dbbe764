-- "The calls": services 0 to 10, each as the paper has it, on the state that stands in the table.
-- A call fixes a key for each task before it does anything: lists are joined by it. Not here: when a call is refused.
use Rattle.std.specs.Prelude.{suc, zero, ℕ, eqb, get_or, length, replicate, Bool, ◌&&◌, cond, false, not, true, List, [], ◌++◌, ◌∷◌}
use Rattle.rules.specs.Effective.{effective}
use Rattle.rules.specs.HubTable.{Meeting, Verdict, fail, message, met, not_now, pass, verdict}
use Rattle.rules.specs.Lists.{answer, asleep, counted, first_waiting, flagged, holding, join_hub, join_ready, leave, readied, waits, wake}
use Rattle.rules.specs.Reorder.{reordered}
use Rattle.rules.specs.Table.{Hub, State, Task, hub, inactive, is_inactive, is_suspended, kind_of, owns, set_hub, set_task, stored, task}
use Rattle.rules.specs.WellFormed.{bears_word, within}
use Rattle.rules.specs.declared.Call.{Call}
use Rattle.std.proofs.Math.Option.{Option}

pub data Service : Type 0 where
  Blank HubRequest Start Stop Suspend Resume Yield Sleep Tick AddTask AddHub Unknown : Service

-- the services by their numbers, 0 to 10
unfoldable pub service_of : ℕ → Service
service_of n =
    get_or (Blank ∷ HubRequest ∷ Start ∷ Stop ∷ Suspend ∷ Resume ∷ Yield ∷ Sleep ∷ Tick ∷ AddTask ∷ AddHub ∷ []) n Unknown

-- ---- 0 Blank: "contents 1, 0, 0, 8, 136, 200, 216, 472 and the other words 0"

unfoldable pub blank : State
blank = record { tasks = []; hubs = []; ready = [] }

-- ---- 1 Hub request

-- "The word of a put to a Port or FIFO is kept; any other word is stored as 0."
unfoldable pub kept : Hub → Call → ℕ
kept h c = cond (eqb c.side 1 && bears_word (kind_of h.kind)) (message c) 0

-- "the caller leaves the ready list, gets state 3, the hub, side and ticks, answer 0, and joins the hub's list"
unfoldable pub wait : (ℕ → ℕ) → State → Call → State
wait key s c =
    join_hub key c.target c.caller
    (set_task c.caller (waits c.target c.ticks c.side (kept (hub s c.target) c) (task s c.caller))
    (leave c.caller s))

unfoldable pub hold : ℕ → ℕ → List ℕ → State → State
hold h n ws s = set_hub h (holding n ws (hub s h)) s

-- "A met waiter becomes ready with answer 1, hub, ticks and side 0, and word likewise; it joins the ready list behind its equals."
unfoldable pub meet_all : (ℕ → ℕ) → List Meeting → State → State
meet_all key [] s = s
meet_all key (m ∷ ms) s = meet_all key ms (wake key m.waiter 1 m.word s)

-- "A request that is met answers 1." "'Not now' under NW answers 2 and changes nothing but the caller's answer and word."
-- "A met or failed caller keeps its ready place. Its word is the word received by a FIFO or Port get, else 0."
unfoldable pub settle : (ℕ → ℕ) → Verdict → State → Call → State
settle key (met n ws x ms) s c = meet_all key ms (answer c.caller 1 x (hold c.target n ws s))
settle key not_now s c = cond (eqb c.mode 2) (answer c.caller 2 0 s) (wait key s c)
settle key fail s c = answer c.caller 2 0 s

-- ---- 2 to 5: "Each answers 1, or 2 where its condition doesn't hold." "In 2 to 7 the caller's word becomes 0."

unfoldable pub grant : Bool → State → State → Call → State
grant true s' s c = answer c.caller 1 0 s'
grant false s' s c = answer c.caller 2 0 s

-- 2 Start "an inactive task: ready, behind its equals"
unfoldable pub start : (ℕ → ℕ) → ℕ → State → State
start key i s = join_ready key i (set_task i (readied 0 0 (task s i)) s)

-- 3 Stop "a task neither inactive nor the caller: taken from any list, made inactive with all but state and priority 0"
abbrev pub may_stop : Task → Call → Bool
may_stop t c = not (is_inactive t) && not (eqb c.target c.caller)

unfoldable pub deactivate : ℕ → State → State
deactivate i s = set_task i (inactive (task s i).priority) (leave i s)

-- M-101 "each Resource it owns passes, in hub number order, to that hub's first waiter, who is met, or becomes free"

-- what the hub table's row says of hub h is carried out: its count, its words held, the waiters met
unfoldable pub carry_out : (ℕ → ℕ) → ℕ → Verdict → State → State
carry_out key h (met n ws x ms) s = meet_all key ms (hold h n ws s)
carry_out key h not_now s = s
carry_out key h fail s = s

-- "that hub's first waiter": only getters wait at a Resource
abbrev pub heir : State → ℕ → Option ℕ
heir s h = first_waiting s 2 (hub s h).waiters

-- hub h, where task i owns it
unfoldable pub pass_one : (ℕ → ℕ) → ℕ → ℕ → State → State
pass_one key i h s = cond (owns i (hub s h)) (carry_out key h (pass (heir s h) (hub s h)) s) s

-- hubs 0 to n - 1
unfoldable pub pass_all : (ℕ → ℕ) → ℕ → ℕ → State → State
pass_all key i zero s = s
pass_all key i (suc n) s = pass_one key i n (pass_all key i n s)

-- "after the task leaves its list"
unfoldable pub stop : (ℕ → ℕ) → ℕ → State → State
stop key i s = pass_all key i (length s.hubs) (deactivate i s)

-- 4 Suspend "a task that is neither inactive, suspended nor the caller: flag set, state and lists kept"
abbrev pub may_suspend : Task → Call → Bool
may_suspend t c = not (is_inactive t) && (not (is_suspended t) && not (eqb c.target c.caller))

-- and 5 Resume "a suspended task: flag cleared"
unfoldable pub flag : ℕ → ℕ → State → State
flag f i s = set_task i (flagged f (task s i)) s

-- ---- 6 Yield: "caller goes behind its equals, answer 1"

unfoldable pub yielded : (ℕ → ℕ) → ℕ → State → State
yielded key i s = join_ready key i (answer i 1 0 (leave i s))

-- ---- 7 Sleep "(ticks): state 4, these ticks, answer 0, out of the ready list"

unfoldable pub slept : ℕ → ℕ → State → State
slept n i s = set_task i (asleep n (task s i)) (leave i s)

-- ---- 8 Tick: "in task number order, each task in state 3 or 4 with ticks above 0 loses one, suspended or not. At 0 it leaves
-- its list and becomes ready behind its equals, answer 3, hub, side and word 0."

-- by the ticks left
unfoldable pub tick_by : (ℕ → ℕ) → ℕ → ℕ → State → State
tick_by key zero i s = s
tick_by key (suc zero) i s = wake key i 3 0 s
tick_by key (suc (suc n)) i s = set_task i (counted (suc n) (task s i)) s

unfoldable pub tick_one : (ℕ → ℕ) → ℕ → State → State
tick_one key i s = tick_by key (cond (within 3 4 (task s i).state) (task s i).ticks 0) i s

-- tasks 0 to n - 1
unfoldable pub tick_all : (ℕ → ℕ) → ℕ → State → State
tick_all key zero s = s
tick_all key (suc n) s = tick_one key n (tick_all key n s)

-- ---- 9 Add task, 10 Add hub: "Each takes the next number."

-- "target is priority"
unfoldable pub add_task : ℕ → State → State
add_task p s = record { tasks = s.tasks ++ inactive p ∷ []; hubs = s.hubs; ready = s.ready }

-- M-108: "During a call each task joins by its effective priority before the call, an added task by its own."
abbrev pub key_added : (ℕ → ℕ) → ℕ → State → ℕ → ℕ
key_added key p s j = cond (eqb j (length s.tasks)) p (key j)

-- "side 1 starts it at once, side 0 doesn't"
unfoldable pub add_started : (ℕ → ℕ) → ℕ → State → State
add_started key p s = start (key_added key p s) (length s.tasks) (add_task p s)

-- "target is kind, ticks the limit, word the start, count = start"; its store is all 0: it holds nothing, and no block of a Memory
-- hub (M-107) is out
unfoldable pub new_hub : Call → Hub
new_hub c = record {
  kind = c.target;
  count = c.word;
  limit = c.ticks;
  start = c.word;
  waiters = [];
  held = replicate (stored (kind_of c.target) c.word c.ticks) 0;
}

unfoldable pub add_hub : Hub → State → State
add_hub h s = record { tasks = s.tasks; hubs = s.hubs ++ h ∷ []; ready = s.ready }

-- ---- by service

unfoldable pub serve : (ℕ → ℕ) → Service → State → Call → State
serve key Blank s c = blank
serve key HubRequest s c = settle key (verdict s c) s c
serve key Start s c = grant (is_inactive (task s c.target)) (start key c.target s) s c
serve key Stop s c = grant (may_stop (task s c.target) c) (stop key c.target s) s c
serve key Suspend s c = grant (may_suspend (task s c.target) c) (flag 1 c.target s) s c
serve key Resume s c = grant (is_suspended (task s c.target)) (flag 0 c.target s) s c
serve key Yield s c = yielded key c.caller s
serve key Sleep s c = slept c.ticks c.caller s
serve key Tick s c = tick_all key (length s.tasks) s
serve key AddTask s c = cond (eqb c.side 1) (add_started key c.target s) (add_task c.target s)
serve key AddHub s c = add_hub (new_hub c) s
serve key Unknown s c = s

-- the state after an accepted call (M-108): each task's key is its effective priority before the call, and at the end all whose
-- effective priority changed are taken out of their lists and put back
unfoldable pub served : State → Call → State
served s c = reordered s (serve (effective s) (service_of c.service) s c)
