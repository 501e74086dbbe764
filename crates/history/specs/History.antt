-- A run, and what became of each accepted hub request in it, read from the calls and the tables around them: definitions.
-- In order: the classes; a request, and a request read again; the run so far, step by step; what is counted of it; what stands on
-- a Board.
-- Not here: what is promised of a run (Statements.antt), runs worked out (crate runs).
use Rattle.std.specs.Prelude.{suc, zero, ℕ, eqb, get_or, length, Bool, ◌&&◌, cond, not, List, [], ◌++◌, ◌∷◌, map}
use Rattle.rules.specs.Calls.{AddHub, AddTask, Blank, HubRequest, Resume, Service, Sleep, Start, Stop, Suspend, Tick, Unknown, Yield, kept, service_of}
use Rattle.rules.specs.Editions.{down_refusal, moved_down, moved_up, up_refusal}
use Rattle.rules.specs.HubTable.{Verdict, fail, message, not_now}
use Rattle.rules.specs.Refusals.{refusal_of}
use Rattle.rules.specs.Reply.{table_after}
use Rattle.rules.specs.Table.{Get, Hub, Inactive, NoSide, NoStage, Put, Ready, Side, Sleeping, Stage, State, Task, Waiting, Wipe, hub, owns, side_of, stage_of, state_of, tab, task}
use Rattle.rules.specs.declared.Call.{Call}
use Rattle.std.proofs.Math.Option.{Option, none, some}

-- ---- lists

-- the entries that pass the test, and how many they are
unfoldable pub those : {A : Type 0} → (A → Bool) → List A → List A
those p [] = []
those p (x ∷ xs) = cond (p x) (x ∷ those p xs) (those p xs)

abbrev pub how_many : {A : Type 0} → (A → Bool) → List A → ℕ
how_many p xs = length (those p xs)

-- ---- the classes

-- waiting, met, failed, timed out, withdrawn by Stop; unread where a table shows none of these
pub data Class : Type 0 where
  waiting met failed timed_out withdrawn unread : Class

abbrev pub place : Class → ℕ
place waiting = 0
place met = 1
place failed = 2
place timed_out = 3
place withdrawn = 4
place unread = 5

abbrev pub is_class : Class → Class → Bool
is_class k k' = eqb (place k) (place k')

-- the class that a task's record shows of the request it made last: by its state, and where it is ready by its answer
unfoldable pub class_by : Stage → ℕ → Class
class_by NoStage a = unread
class_by Inactive a = withdrawn
class_by Ready a = get_or (unread ∷ met ∷ failed ∷ timed_out ∷ []) a unread
class_by Waiting a = waiting
class_by Sleeping a = unread

unfoldable pub class_of : Task → Class
class_of t = class_by (stage_of t.state) t.answer

-- ---- a request

-- what stands in a table of words, of either edition
abbrev pub shown : List ℕ → State
shown t = state_of t

-- an accepted hub request: its task, hub and side, the word it puts (0 where it puts none), its class, the word received
pub record Request : Type 0 where
  pub task : ℕ
  pub hub : ℕ
  pub side : ℕ
  pub word : ℕ
  pub class : Class
  pub received : ℕ

-- as the call makes it: waiting, until the table after the call is read
unfoldable pub asked : State → Call → Request
asked s c = record {
  task = c.caller;
  hub = c.target;
  side = c.side;
  word = kept (hub s c.target) c;
  class = waiting;
  received = 0;
}

-- read from a table: its class and the word received are what its task's record shows
unfoldable pub reread : State → Request → Request
reread s r = record {
  task = r.task;
  hub = r.hub;
  side = r.side;
  word = r.word;
  class = class_of (task s r.task);
  received = (task s r.task).word;
}

abbrev pub is_waiting : Request → Bool
is_waiting r = is_class waiting r.class

abbrev pub is_met : Request → Bool
is_met r = is_class met r.class

-- what the hub table's row says of the caller's own request: "not now" under NW (mode 2) fails, else it waits
unfoldable pub row_class : Verdict → Call → Class
row_class (Verdict.met n ws x ms) c = met
row_class not_now c = cond (eqb c.mode 2) failed waiting
row_class fail c = failed

-- only a request that is waiting is read again
unfoldable pub again : State → Request → Request
again s r = cond (is_waiting r) (reread s r) r

-- of requests that are read again, those that were waiting and turn out as k
abbrev pub turns : Class → State → Request → Bool
turns k s r = is_waiting r && is_class k (class_of (task s r.task))

unfoldable pub turned : Class → State → List Request → List Request
turned k s rs = map (reread s) (those (turns k s) rs)

-- ---- the run so far

-- what an accepted call is to the requests: a new beginning, a request opened, a hub added, none of these
pub data Part : Type 0 where
  begins opens adds passes : Part

unfoldable pub part_of : Service → Part
part_of Blank = begins
part_of HubRequest = opens
part_of Start = passes
part_of Stop = passes
part_of Suspend = passes
part_of Resume = passes
part_of Yield = passes
part_of Sleep = passes
part_of Tick = passes
part_of AddTask = passes
part_of AddHub = adds
part_of Unknown = passes

-- the table as it stands; the accepted hub requests since the last Blank, in the order of the calls; those that are met, in
-- the order of meeting; the accepted Add hub calls, in order: hub h is made by the one at place h; the hubs whose owner a Stop
-- removed, in the order of the calls; the accepted hub requests as they were called, in order
pub record History : Type 0 where
  pub table : List ℕ
  pub requests : List Request
  pub met : List Request
  pub added : List Call
  pub removed : List ℕ
  pub calls : List Call

-- a run's beginning: the table after an accepted Blank
unfoldable pub begun : List ℕ → History
begun t = record { table = t; requests = []; met = []; added = []; removed = []; calls = [] }

-- the requests that the table after an accepted call is read for: with its own, where it opens one
unfoldable pub opened : Part → State → Call → List Request → List Request
opened begins s c rs = []
opened opens s c rs = rs ++ asked s c ∷ []
opened adds s c rs = rs
opened passes s c rs = rs

-- a Blank forgets
unfoldable pub since_blank : {A : Type 0} → Part → List A → List A
since_blank begins xs = []
since_blank opens xs = xs
since_blank adds xs = xs
since_blank passes xs = xs

unfoldable pub made : Part → Call → List Call → List Call
made begins c cs = []
made opens c cs = cs
made adds c cs = cs ++ c ∷ []
made passes c cs = cs

unfoldable pub called : Part → Call → List Call → List Call
called begins c cs = []
called opens c cs = cs ++ c ∷ []
called adds c cs = cs
called passes c cs = cs

-- M-101 "owners removed by Stop": an accepted Stop with answer 1, and each hub that its target owned in the table before; s is
-- the state before the call, s' the one after it
unfoldable pub removed_by : Service → State → State → Call → List ℕ
removed_by Blank s s' c = []
removed_by HubRequest s s' c = []
removed_by Start s s' c = []
removed_by Stop s s' c =
    cond (eqb (task s' c.caller).answer 1) (those (λ h. owns c.target (hub s h)) (tab (length s.hubs) 0 (λ h. h))) []
removed_by Suspend s s' c = []
removed_by Resume s s' c = []
removed_by Yield s s' c = []
removed_by Sleep s s' c = []
removed_by Tick s s' c = []
removed_by AddTask s s' c = []
removed_by AddHub s s' c = []
removed_by Unknown s s' c = []

-- those that call c turns into k, where t is the table before; by the refusal number, none where it is refused
unfoldable pub turned_by : ℕ → Class → List ℕ → Call → List Request → List Request
turned_by zero k t c rs = turned k (shown (table_after t c)) (opened (part_of (service_of c.service)) (shown t) c rs)
turned_by (suc r) k t c rs = []

unfoldable pub turned_to : Class → History → Call → List Request
turned_to k x c = turned_by (refusal_of x.table c) k x.table c x.requests

-- one more call: by the refusal number, and its part where it is accepted; "every table is table_after of the one before"
unfoldable pub next_by : ℕ → History → Call → History
next_by zero x c = record {
  table = table_after x.table c;
  requests = map (again (shown (table_after x.table c))) (opened (part_of (service_of c.service)) (shown x.table) c x.requests);
  met = since_blank (part_of (service_of c.service)) x.met ++ turned_by 0 met x.table c x.requests;
  added = made (part_of (service_of c.service)) c x.added;
  removed = since_blank (part_of (service_of c.service)) x.removed ++ removed_by (service_of c.service) (shown x.table) (shown (table_after x.table c)) c;
  calls = called (part_of (service_of c.service)) c x.calls;
}
next_by (suc r) x c = record {
  table = table_after x.table c;
  requests = x.requests;
  met = x.met;
  added = x.added;
  removed = x.removed;
  calls = x.calls;
}

unfoldable pub next : History → Call → History
next x c = next_by (refusal_of x.table c) x c

-- M-105: a step of a run is a call, or a move of its table into a destination of so many words
pub data Step : Type 0 where
  calls : Call → Step
  up down : ℕ → Step

-- "The history of demand 3 goes on in the new table": by the move's refusal number, and the table that it leaves where it is done
unfoldable pub gone_on : ℕ → List ℕ → History → History
gone_on zero t x = record {
  table = t;
  requests = x.requests;
  met = x.met;
  added = x.added;
  removed = x.removed;
  calls = x.calls;
}
gone_on (suc r) t x = x

unfoldable pub step : History → Step → History
step x (calls c) = next x c
step x (up room) = gone_on (up_refusal x.table room) (moved_up x.table) x
step x (down room) = gone_on (down_refusal x.table room) (moved_down x.table) x

-- any steps, in their order, refused ones included
unfoldable pub history : History → List Step → History
history x [] = x
history x (d ∷ ds) = history (step x d) ds

-- ---- what is counted of it

-- the waiting requests of task i
abbrev pub waits_by : ℕ → Request → Bool
waits_by i r = is_waiting r && eqb r.task i

-- of a side (1 put, 2 get) at a hub
abbrev pub at : ℕ → ℕ → Request → Bool
at h d r = eqb r.hub h && eqb r.side d

-- how many requests of a side at a hub are met
unfoldable pub met_count : ℕ → ℕ → List Request → ℕ
met_count h d rs = how_many (λ r. at h d r && is_met r) rs

-- how many owners of a hub a Stop removed
abbrev pub removed_at : ℕ → List ℕ → ℕ
removed_at h hs = how_many (λ g. eqb g h) hs

-- a Resource is owned, or free
abbrev pub is_owned : Hub → Bool
is_owned x = not (eqb x.count 0)

-- the word that a met request passed on: the word put, or the word received
abbrev pub passed : Request → ℕ
passed r = cond (eqb r.side 1) r.word r.received

-- the words of those of a side at a hub
unfoldable pub words_of : ℕ → ℕ → List Request → List ℕ
words_of h d rs = map passed (those (at h d) rs)

-- how many of them are met and passed on this word: at a Memory hub (M-107) the number of a block, given back or received
unfoldable pub met_with : ℕ → ℕ → ℕ → List Request → ℕ
met_with h d b rs = how_many (λ r. (at h d r && eqb (passed r) b) && is_met r) rs

-- ---- what stands on a Board (M-103), from the calls alone

-- one more accepted request of it: an update writes its word, a read leaves what stands there, a wipe takes it away
unfoldable pub board_by : Side → Call → Option ℕ → Option ℕ
board_by NoSide c o = o
board_by Put c o = some (message c)
board_by Get c o = o
board_by Wipe c o = none

-- behind these calls, in order, where o stood on hub h before them
unfoldable pub board_from : ℕ → Option ℕ → List Call → Option ℕ
board_from h o [] = o
board_from h o (c ∷ cs) = board_from h (cond (eqb c.target h) (board_by (side_of c.side) c o) o) cs

-- "the word of the last update ..., with no wipe between": none where there is no such update
abbrev pub board_word : ℕ → List Call → Option ℕ
board_word h cs = board_from h none cs

-- as a store holds it
unfoldable pub written : Option ℕ → List ℕ
written none = []
written (some x) = x ∷ []
