-- The moves that the calls are made of: who is running, who stands first on a side, joining behind equals, leaving.
-- A list's order goes by a key for each task, which a call fixes before it does anything.
-- Not here: how a list stands in words, and joining as such (`insert`, crate lists).
use Rattle.std.specs.Prelude.{suc, ℕ, eqb, cond, List, [], ◌∷◌, map}
use Rattle.lists.specs.Lists.{insert, without}
use Rattle.rules.specs.Table.{Hub, State, Task, hub, is_suspended, set_hub, set_ready, set_task, task}
use Rattle.std.proofs.Math.Option.{Option, none, some}

-- "The running task is the first task in the ready list that isn't suspended; there may be none": plus 1, or 0
unfoldable pub first_free : State → List ℕ → ℕ
first_free s [] = 0
first_free s (t ∷ ts) = cond (is_suspended (task s t)) (first_free s ts) (suc t)

unfoldable pub next : State → ℕ
next s = first_free s s.ready

-- the first entry of a list that waits on this side
unfoldable pub first_waiting : State → ℕ → List ℕ → Option ℕ
first_waiting s d [] = none
first_waiting s d (t ∷ ts) = cond (eqb (task s t).side d) (some t) (first_waiting s d ts)

-- a hub with another waiting list; with another count and other words held
unfoldable pub queued : List ℕ → Hub → Hub
queued l h = record { kind = h.kind; count = h.count; limit = h.limit; start = h.start; waiters = l; held = h.held }

unfoldable pub holding : ℕ → List ℕ → Hub → Hub
holding n ws h = record { kind = h.kind; count = n; limit = h.limit; start = h.start; waiters = h.waiters; held = ws }

-- "behind all entries of its own or a more urgent priority"
unfoldable pub join_ready : (ℕ → ℕ) → ℕ → State → State
join_ready key i s = set_ready (insert key i s.ready) s

unfoldable pub join_hub : (ℕ → ℕ) → ℕ → ℕ → State → State
join_hub key h i s = set_hub h (queued (insert key i (hub s h).waiters) (hub s h)) s

-- "taken from any list"
unfoldable pub unqueue : ℕ → Hub → Hub
unqueue i h = queued (without i h.waiters) h

unfoldable pub leave : ℕ → State → State
leave i s = record { tasks = s.tasks; hubs = map (unqueue i) s.hubs; ready = without i s.ready }

-- ---- a task record with some words replaced

-- "answers": the answer, and the word received or 0
unfoldable pub answered : ℕ → ℕ → Task → Task
answered a w t = record {
  state = t.state;
  suspended = t.suspended;
  priority = t.priority;
  hub = t.hub;
  ticks = t.ticks;
  side = t.side;
  word = w;
  answer = a;
}

-- "becomes ready with answer ..., hub, ticks and side 0, and word"
unfoldable pub readied : ℕ → ℕ → Task → Task
readied a w t = record {
  state = 2;
  suspended = t.suspended;
  priority = t.priority;
  hub = 0;
  ticks = 0;
  side = 0;
  word = w;
  answer = a;
}

-- "flag set", "flag cleared"; state and lists kept
unfoldable pub flagged : ℕ → Task → Task
flagged f t = record {
  state = t.state;
  suspended = f;
  priority = t.priority;
  hub = t.hub;
  ticks = t.ticks;
  side = t.side;
  word = t.word;
  answer = t.answer;
}

-- "state 4, these ticks, answer 0"; "the caller's word becomes 0"
unfoldable pub asleep : ℕ → Task → Task
asleep n t = record {
  state = 4;
  suspended = t.suspended;
  priority = t.priority;
  hub = 0;
  ticks = n;
  side = 0;
  word = 0;
  answer = 0;
}

-- "gets state 3, the hub, side and ticks, answer 0"
unfoldable pub waits : ℕ → ℕ → ℕ → ℕ → Task → Task
waits h n d w t = record {
  state = 3;
  suspended = t.suspended;
  priority = t.priority;
  hub = suc h;
  ticks = n;
  side = d;
  word = w;
  answer = 0;
}

-- "loses one" tick
unfoldable pub counted : ℕ → Task → Task
counted n t = record {
  state = t.state;
  suspended = t.suspended;
  priority = t.priority;
  hub = t.hub;
  ticks = n;
  side = t.side;
  word = t.word;
  answer = t.answer;
}

-- ---- moves of one task

unfoldable pub answer : ℕ → ℕ → ℕ → State → State
answer i a w s = set_task i (answered a w (task s i)) s

-- a waiter or sleeper leaves its list and becomes ready behind its equals with this answer and word
unfoldable pub wake : (ℕ → ℕ) → ℕ → ℕ → ℕ → State → State
wake key i a w s = join_ready key i (set_task i (readied a w (task s i)) (leave i s))
