-- Demand 3: what holds of every run. `Demand3` is the whole of it, a field for each sentence; `EachMet`, `EachRead`, `OneEach` and
-- `Blocks` are consequences, said by themselves. The proofs are elsewhere: `demand3`, `each-met`, `each_read`, `one_each`, `blocks` of
-- proofs/Promise.antt.
-- A run: a Blank, accepted, on the words of either edition (`Begins`), and then any steps, refused ones included: calls, any eight
-- numbers each, and moves to the other edition (M-105); x is its history (History.antt), and x.table the table as it stands.
use Rattle.std.specs.Prelude.{◌+◌, ◌<◌, ◌≤◌, pred, suc, ℕ, eqb, get_or, length, set, Bool, ◌&&◌, false, true, List, [], ◌++◌, ◌∷◌, ◌↔◌, ◌≢◌, ◌⊎◌, ◌≡◌}
use Rattle.history.specs.History.{Class, History, Request, Step, at, board_word, calls, class_of, down, failed, history, how_many, is_met, is_owned, met, met_count, met_with, next, removed_at, row_class, shown, step, timed_out, turned_to, unread, up, waiting, waits_by, withdrawn, words_of, written}
use Rattle.lists.specs.Lists.{bit, occ}
use Rattle.rules.specs.Calls.{Blank, HubRequest, Stop, Tick, service_of}
use Rattle.rules.specs.HubTable.{Meeting, Verdict, is_out, message, not_now, verdict}
use Rattle.rules.specs.Lists.{first_waiting}
use Rattle.rules.specs.Refusals.{WT, mode_of, refusal_of}
use Rattle.rules.specs.Reply.{table_after}
use Rattle.rules.specs.Table.{Board, Event, Fifo, Hub, Memory, Port, Resource, Semaphore, State, hub, kind_of, owns, task}
use Rattle.rules.specs.WellFormed.{well_formed}
use Rattle.rules.specs.declared.Call.{Call}
use Rattle.std.proofs.Math.Option.{some}

-- ---- the words of the statements

-- P of each entry
unfoldable pub Each : {A : Type 0} → (A → Type 0) → List A → Type 0
Each P [] = Unit {0}
Each P (x ∷ xs) = P x × Each P xs

-- an accepted Blank (on as many words as an edition has: on any other length it is refused)
pub record Begins (w : List ℕ) (b : Call) : Type 0 where
  pub blank : service_of b.service ≡ Blank
  pub accepted : refusal_of w b ≡ 0

-- no Blank among the steps
unfoldable pub NotBlank : Step → Type 0
NotBlank (calls c) = service_of c.service ≢ Blank
NotBlank (up room) = Unit {0}
NotBlank (down room) = Unit {0}

abbrev pub NoBlank : List Step → Type 0
NoBlank ds = Each NotBlank ds

-- how many Ticks are among the steps
unfoldable pub is_tick : Step → Bool
is_tick (calls c) = eqb c.service 8
is_tick (up room) = false
is_tick (down room) = false

abbrev pub ticks_in : List Step → ℕ
ticks_in ds = how_many is_tick ds

-- the task's record shows the request: state 3, its hub, its side, its word
pub record Stands (s : State) (r : Request) : Type 0 where
  pub state : (task s r.task).state ≡ 3
  pub hub : (task s r.task).hub ≡ suc r.hub
  pub side : (task s r.task).side ≡ r.side
  pub word : (task s r.task).word ≡ r.word

-- the same request, later: task, hub, side and word stay, and once out of waiting all of it does
pub record Follows (r r' : Request) : Type 0 where
  pub task : r'.task ≡ r.task
  pub hub : r'.hub ≡ r.hub
  pub side : r'.side ≡ r.side
  pub word : r'.word ≡ r.word
  pub settled : r.class ≢ waiting → r' ≡ r

-- each request of the first list, in its place in the second, later; further ones may stand behind
unfoldable pub Continues : List Request → List Request → Type 0
Continues [] all = Unit {0}
Continues (r ∷ rs) [] = ⊥
Continues (r ∷ rs) (r' ∷ all) = Follows r r' × Continues rs all

-- a hub as its Add hub call said: "target is kind, ticks the limit, word the start"
pub record MadeBy (c : Call) (h : Hub) : Type 0 where
  pub kind : h.kind ≡ c.target
  pub limit : h.limit ≡ c.ticks
  pub start : h.start ≡ c.word

-- what is read where no call, or no request, stands at a place: a request that is missing counts as waiting
unfoldable pub no_call : Call
no_call = record { service = 0; caller = 0; target = 0; side = 0; mode = 0; ticks = 0; word = 0; high = 0 }

unfoldable pub no_request : Request
no_request = record { task = 0; hub = 0; side = 0; word = 0; class = waiting; received = 0 }

-- the Add hub call that made hub h; the request at place n
abbrev pub added_as : History → ℕ → Call
added_as x h = get_or x.added h no_call

abbrev pub request_at : History → ℕ → Request
request_at x n = get_or x.requests n no_request

-- r is the request that call c itself opens
pub record Own (c : Call) (r : Request) : Type 0 where
  pub service : service_of c.service ≡ HubRequest
  pub task : r.task ≡ c.caller
  pub hub : r.hub ≡ c.target
  pub side : r.side ≡ c.side

-- the caller's own request, met by the hub table's row for it, with s before the call and s' after it
pub record ByRow (s s' : State) (c : Call) (r : Request) : Type 0 where
  pub count : ℕ
  pub held : List ℕ
  pub waiters : List Meeting
  pub own : Own c r
  -- the row says met, and the word received is the row's
  pub row : verdict s c ≡ Verdict.met count held r.received waiters
  -- the hub's own count and store are the row's afterwards
  pub counts : (hub s' c.target).count ≡ count
  pub holds : (hub s' c.target).held ≡ held
  -- and whoever the row names is met in the same call
  pub others : Each (λ m. class_of (task s' m.waiter) ≡ met) waiters

-- the first waiter of the other side (of 1 and 2) at the caller's hub, the caller's request being met too
pub record ByCaller (s s' : State) (c : Call) (r : Request) : Type 0 where
  pub service : service_of c.service ≡ HubRequest
  pub place : r.hub ≡ c.target
  pub sides : r.side + c.side ≡ 3
  pub first : first_waiting s r.side (hub s c.target).waiters ≡ some r.task
  pub caller : class_of (task s' c.caller) ≡ met

-- M-101: the first waiter of a Resource that the stopped task owned, who owns it now
pub record ByStop (s s' : State) (c : Call) (r : Request) : Type 0 where
  pub service : service_of c.service ≡ Stop
  pub answer : (task s' c.caller).answer ≡ 1
  pub owned : owns c.target (hub s r.hub) ≡ true
  pub side : r.side ≡ 2
  pub first : first_waiting s 2 (hub s r.hub).waiters ≡ some r.task
  pub owner : owns r.task (hub s' r.hub) ≡ true

-- M-103: a reader that waited at a Board which the call updates; it bears the update's word
pub record ByUpdate (s s' : State) (c : Call) (r : Request) : Type 0 where
  pub service : service_of c.service ≡ HubRequest
  pub board : kind_of (hub s c.target).kind ≡ Board
  pub update : c.side ≡ 1
  pub place : r.hub ≡ c.target
  pub side : r.side ≡ 2
  pub waited : 1 ≤ occ r.task (hub s c.target).waiters
  pub word : r.received ≡ message c
  pub caller : class_of (task s' c.caller) ≡ met

-- who met r in call c
pub data MetBy (s s' : State) (c : Call) (r : Request) : Type 0 where
  itself : ByRow s s' c r → MetBy s s' c r
  partner : ByCaller s s' c r → MetBy s s' c r
  passed : ByStop s s' c r → MetBy s s' c r
  updated : ByUpdate s s' c r → MetBy s s' c r

-- r, if it reads a Board, bears the word that stands there after call c by the calls alone, and there is one
abbrev pub Bears : History → Call → Request → Type 0
Bears x c r = kind_of (hub (shown x.table) r.hub).kind ≡ Board → r.side ≡ 2 → board_word r.hub (next x c).calls ≡ some r.received

-- a move, and what it keeps of a run
unfoldable pub IsMove : Step → Type 0
IsMove (calls c) = ⊥
IsMove (up room) = Unit {0}
IsMove (down room) = Unit {0}

pub record SameRun (x x' : History) : Type 0 where
  pub state : shown x'.table ≡ shown x.table
  pub requests : x'.requests ≡ x.requests
  pub met : x'.met ≡ x.met
  pub added : x'.added ≡ x.added
  pub removed : x'.removed ≡ x.removed
  pub calls : x'.calls ≡ x.calls

-- ---- demand 3

pub record Demand3 (x : History) : Type 0 where
  -- every accepted hub request is in one of the five classes: none is ever unread
  pub read : Each (λ r. r.class ≢ unread) x.requests
  -- those waiting are exactly the tasks in state 3, one request each
  pub waits : (i : ℕ) → how_many (waits_by i) x.requests ≡ bit (eqb (task (shown x.table) i).state 3)
  -- and a waiting request is what its task's record shows
  pub stands : Each (λ r. r.class ≡ waiting → Stands (shown x.table) r) x.requests
  -- `met` is the met requests, in order of meeting: of any sort it has as many as there are among all requests
  pub meetings : (p : Request → Bool) → how_many p x.met ≡ how_many (λ r. p r && is_met r) x.requests
  -- once out of waiting a request never changes, whatever is called or moved, until a Blank
  pub settled : (ds : List Step) → NoBlank ds → Continues x.requests (history x ds).requests
  -- each hub is as its Add hub call made it: kind, limit and start
  pub hubs : (h : ℕ) → h < length (shown x.table).hubs → MadeBy (added_as x h) (hub (shown x.table) h)
  -- Semaphore: the start given to Add hub, plus the met puts, is the count held plus the met gets
  pub semaphore : (h : ℕ) → kind_of (hub (shown x.table) h).kind ≡ Semaphore
      → (added_as x h).word + met_count h 1 x.requests ≡ (hub (shown x.table) h).count + met_count h 2 x.requests
  -- Event: likewise, with start 0
  pub event : (h : ℕ) → kind_of (hub (shown x.table) h).kind ≡ Event
      → met_count h 1 x.requests ≡ (hub (shown x.table) h).count + met_count h 2 x.requests
  -- FIFO: the words of met puts, in order of meeting, are the words of met gets, then the words held
  pub fifo : (h : ℕ) → kind_of (hub (shown x.table) h).kind ≡ Fifo
      → words_of h 1 x.met ≡ words_of h 2 x.met ++ (hub (shown x.table) h).held
  -- Port: the words of met puts, in order of meeting, are the words of met gets
  pub port : (h : ℕ) → kind_of (hub (shown x.table) h).kind ≡ Port → words_of h 1 x.met ≡ words_of h 2 x.met
  -- Resource: met locks less met unlocks less owners removed by Stop is 1 when owned and 0 when free
  pub resource : (h : ℕ) → kind_of (hub (shown x.table) h).kind ≡ Resource
      → met_count h 2 x.requests ≡ met_count h 1 x.requests + removed_at h x.removed + bit (is_owned (hub (shown x.table) h))
  -- Board: it holds the word of the last update, with no wipe after it, or none
  pub board : (h : ℕ) → kind_of (hub (shown x.table) h).kind ≡ Board → (hub (shown x.table) h).held ≡ written (board_word h x.calls)
  -- "every met read bears the word of the last update up to its meeting, with no wipe between": whoever turns met in a call
  pub reads : (c : Call) → Each (Bears x c) (turned_to met x c)
  -- Memory (M-107), of each block: met gets that received it less met puts of it is its mark, 1 when it is out and 0 when it is not
  pub memory : (h : ℕ) → kind_of (hub (shown x.table) h).kind ≡ Memory → (b : ℕ)
      → met_with h 2 b x.requests ≡ met_with h 1 b x.requests + get_or (hub (shown x.table) h).held b 0
  -- a request is met, fails or waits as the hub table's row for it says: call c opens it, and it takes the next place
  pub own : (c : Call) → service_of c.service ≡ HubRequest → refusal_of x.table c ≡ 0
      → (request_at (next x c) (length x.requests)).class ≡ row_class (verdict (shown x.table) c) c
  -- a request that came back is never met unless somebody, or the hub's own count or store, met it: whoever turns met in a
  -- call is its caller, by the hub table's row, or the first waiter of the other side at its hub, the caller being met too, or
  -- the first waiter of a Resource whose owner the call stopped, or a reader of the Board that the call updates
  pub met_means_met : (c : Call) → Each (MetBy (shown x.table) (shown (table_after x.table c)) c) (turned_to met x c)
  -- a request fails in its own call only, times out in a Tick only, is withdrawn by a Stop of its task only
  pub fails : (c : Call) → Each (Own c) (turned_to failed x c)
  pub times_out : (c : Call) → Each (λ r. service_of c.service ≡ Tick) (turned_to timed_out x c)
  pub is_withdrawn : (c : Call) → Each (λ r. (service_of c.service ≡ Stop) × (r.task ≡ c.target)) (turned_to withdrawn x c)
  -- "a request under WT with t ticks is out of waiting by the t-th accepted Tick after it": c opens it
  pub bound : (c : Call) (ds : List Step) → service_of c.service ≡ HubRequest → refusal_of x.table c ≡ 0 → mode_of c.mode ≡ WT
      → NoBlank ds → c.ticks ≤ ticks_in ds → (request_at (history x (calls c ∷ ds)) (length x.requests)).class ≢ waiting
  -- M-105, a move to the other edition: whether it is done or refused, every request, class and order of meeting stays, and the
  -- table shows the same tasks, hubs and lists
  pub moves : (d : Step) → IsMove d → SameRun x (step x d)
  -- the table stays well formed: refusal 2 never comes in a run
  pub formed : well_formed x.table ≡ true
  pub never_two : (c : Call) → refusal_of x.table c ≢ 2
  -- every Blank and every Tick of a run is accepted, so that counting them is counting the accepted ones
  pub blanks : (c : Call) → service_of c.service ≡ Blank → refusal_of x.table c ≡ 0
  pub ticks : (c : Call) → service_of c.service ≡ Tick → refusal_of x.table c ≡ 0

-- P of one of the calls among the steps after x, and of r
unfoldable pub InOne : (History → Call → Request → Type 0) → History → List Step → Request → Type 0
InOne P x [] r = ⊥
InOne P x (calls c ∷ ds) r = P x c r ⊎ InOne P (next x c) ds r
InOne P x (up room ∷ ds) r = InOne P (step x (up room)) ds r
InOne P x (down room ∷ ds) r = InOne P (step x (down room)) ds r

-- call c, after x, met r
abbrev pub Met : History → Call → Request → Type 0
Met x c r = MetBy (shown x.table) (shown (table_after x.table c)) c r

-- The shift leader's sentence, over a whole run, which begins at x: whatever request is met, one of the run's calls met it.
abbrev pub EachMet : History → List Step → Type 0
EachMet x ds = Each (λ r. r.class ≡ met → InOne Met x ds r) (history x ds).requests

-- M-103, over a whole run: the call that met a read of a Board is one after which the read's word stands on it.
abbrev pub EachRead : History → List Step → Type 0
EachRead x ds = Each (λ r. r.class ≡ met → InOne (λ x c r. Met x c r × Bears x c r) x ds r) (history x ds).requests

-- One call meets at most one put and one get of a FIFO. Nothing above leans on it.
abbrev pub OneEach : History → Type 0
OneEach x =
    (c : Call) (h d : ℕ) → kind_of (hub (shown x.table) h).kind ≡ Fifo → how_many (at h d) (turned_to met x c) ≤ 1

-- ---- M-107, said by themselves: what holds of a Memory hub h in every run

-- no block of it is free
abbrev pub NoneFree : State → ℕ → Type 0
NoneFree s h = (b : ℕ) → b < (hub s h).limit → is_out b (hub s h) ≡ true

-- block b is free, and every lower one is out
pub record Lowest (s : State) (h b : ℕ) : Type 0 where
  pub inside : b < (hub s h).limit
  pub free : is_out b (hub s h) ≡ false
  pub lower : (j : ℕ) → j < b → is_out j (hub s h) ≡ true

-- call c is a put (d = 1) or a get (d = 2) at it, and accepted
pub record Asks (x : History) (h d : ℕ) (c : Call) : Type 0 where
  pub service : service_of c.service ≡ HubRequest
  pub accepted : refusal_of x.table c ≡ 0
  pub target : c.target ≡ h
  pub side : c.side ≡ d

-- the class of the request that call c opens
abbrev pub class_had : History → Call → Class
class_had x c = (request_at (next x c) (length x.requests)).class

-- task i is met with block b in s': it waited first at hub h
pub record GoesTo (s s' : State) (h b i : ℕ) : Type 0 where
  pub first : first_waiting s 2 (hub s h).waiters ≡ some i
  pub met : class_of (task s' i) ≡ met
  pub word : (task s' i).word ≡ b
  pub out : is_out b (hub s' h) ≡ true

pub record Blocks (x : History) (h : ℕ) : Type 0 where
  -- "Met gets less met puts is the number of blocks out"
  pub out : met_count h 2 x.requests ≡ met_count h 1 x.requests + occ 1 (hub (shown x.table) h).held
  -- no block is out twice: at any time it was received at most once more than it was given back
  pub once : (b : ℕ) → met_with h 2 b x.requests ≤ suc (met_with h 1 b x.requests)
  -- "Only "not now" holds back a get, and that exactly when no block is free"
  pub held_back : (c : Call) → Asks x h 2 c → (verdict (shown x.table) c ≡ not_now) ↔ NoneFree (shown x.table) h
  pub only : (c : Call) → Asks x h 2 c → (verdict (shown x.table) c ≢ not_now) → class_had x c ≡ met
  -- "takes the lowest free block and receives its number as word"
  pub taken : (c : Call) → Asks x h 2 c → class_had x c ≡ met → Lowest (shown x.table) h (request_at (next x c) (length x.requests)).received
  -- "a returned block is used again": a met put of it leaves it free, or with the getter that waited first; and the lowest free block is
  -- the next that a get receives
  pub returned : (c : Call) → Asks x h 1 c → class_had x c ≡ met
      → (is_out (message c) (hub (shown (next x c).table) h) ≡ false) ⊎ ((i : ℕ) × GoesTo (shown x.table) (shown (next x c).table) h (message c) i)
  pub used_again : (c : Call) → Asks x h 2 c → (b : ℕ) → Lowest (shown x.table) h b
      → verdict (shown x.table) c ≡ Verdict.met (pred (hub (shown x.table) h).count) (set (hub (shown x.table) h).held b 1) b []
