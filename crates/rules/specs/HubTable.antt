-- The hub table: what a hub says of a put, a get or a wipe, by its kind; a row of the paper for each definition. What a verdict does
-- to the table is in Calls.antt.
use Rattle.std.specs.Prelude.{◌*◌, ◌+◌, pred, suc, ℕ, eqb, ltb, get_or, set, Bool, cond, List, [], ◌++◌, ◌∷◌}
use Rattle.lists.specs.Lists.{index_of}
use Rattle.rules.specs.Lists.{first_waiting}
use Rattle.rules.specs.Table.{Board, Event, Fifo, Get, Hub, Kind, Memory, NoKind, NoSide, Port, Put, Resource, Semaphore, Side, State, Wipe, hub, kind_of, side_of, task}
use Rattle.rules.specs.declared.Call.{Call}
use Rattle.std.proofs.Math.Option.{Option, none, some}

-- the message that a call bears (M-105): "what 01 says of a message word holds of the pair", low word and high word as one number
abbrev pub message : Call → ℕ
message c = c.word + 4294967296 * c.high

-- a waiter that is met, and the word it has afterwards
pub record Meeting : Type 0 where
  pub waiter : ℕ
  pub word : ℕ

-- The caller is met: the hub's count and words held afterwards, the word the caller has afterwards, and the waiters met with
-- it, in the order of meeting. Or not now; or FAIL in every mode.
pub data Verdict : Type 0 where
  met : (count : ℕ) (held : List ℕ) (word : ℕ) (waiters : List Meeting) → Verdict
  not_now : Verdict
  fail : Verdict

-- met by the hub alone; met together with waiter w, who has word y afterwards
abbrev pub alone : ℕ → List ℕ → ℕ → Verdict
alone n ws x = met n ws x []

abbrev pub pair : ℕ → List ℕ → ℕ → ℕ → ℕ → Verdict
pair n ws x w y = met n ws x (record { waiter = w; word = y } ∷ [])

-- ---- put: by the first getter that waits, and the hub

-- "a getter waits: the first is met, count stays 0. Else count 0: becomes 1. Else not now"
unfoldable pub put_event : Option ℕ → Hub → Verdict
put_event (some w) h = pair h.count h.held 0 w 0
put_event none h = cond (eqb h.count 0) (alone 1 h.held 0) not_now

-- "a getter waits: the first is met, count stays 0. Else below limit: plus 1. Else not now"
unfoldable pub put_semaphore : Option ℕ → Hub → Verdict
put_semaphore (some w) h = pair h.count h.held 0 w 0
put_semaphore none h = cond (ltb h.count h.limit) (alone (suc h.count) h.held 0) not_now

-- "a getter waits: the first is met with this word. Else not now"
unfoldable pub put_port : Option ℕ → Hub → ℕ → Verdict
put_port (some w) h x = pair h.count h.held 0 w x
put_port none h x = not_now

-- "a getter waits: the first is met with this word. Else below limit: appended. Else not now"
unfoldable pub put_fifo : Option ℕ → Hub → ℕ → Verdict
put_fifo (some w) h x = pair h.count h.held 0 w x
put_fifo none h x = cond (ltb h.count h.limit) (alone (suc h.count) (h.held ++ x ∷ []) 0) not_now

-- "first waiter, if any, is met and becomes owner, else free"
unfoldable pub pass : Option ℕ → Hub → Verdict
pass (some w) h = pair (suc w) h.held 0 w 0
pass none h = alone 0 h.held 0

-- "caller owns it: ... Otherwise FAIL in every mode"
unfoldable pub put_resource : Option ℕ → Hub → ℕ → Verdict
put_resource f h caller = cond (eqb h.count (suc caller)) (pass f h) fail

-- Board (M-103): "always OK, and every waiting reader is met with the word, in list order"
unfoldable pub readers : State → List ℕ → ℕ → List Meeting
readers s [] x = []
readers s (t ∷ ts) x = cond (eqb (task s t).side 2) (record { waiter = t; word = x } ∷ readers s ts x) (readers s ts x)

unfoldable pub put_board : State → Hub → ℕ → Verdict
put_board s h x = met 1 (x ∷ []) 0 (readers s h.waiters x)

-- Memory (M-107): block b is out; a number from the limit on has no mark, and is not
unfoldable pub is_out : ℕ → Hub → Bool
is_out b h = eqb (get_or h.held b 0) 1

-- "With getters waiting, the block returned goes to the first and stays marked": the count stays 0. Else its mark becomes 0, and
-- one more is free.
unfoldable pub give_back : Option ℕ → Hub → ℕ → Verdict
give_back (some w) h b = pair h.count h.held 0 w b
give_back none h b = alone (suc h.count) (set h.held b 0) 0

-- "Put gives a block back; a number not out is FAIL in every mode"
unfoldable pub put_memory : Option ℕ → Hub → ℕ → Verdict
put_memory f h b = cond (is_out b h) (give_back f h b) fail

-- ---- get: by the first putter that waits, and the hub

-- "count 1: a putter waits, the first is met and count stays 1; else becomes 0. Count 0: not now"
unfoldable pub get_event : Option ℕ → Hub → Verdict
get_event (some w) h = cond (eqb h.count 1) (pair h.count h.held 0 w 0) not_now
get_event none h = cond (eqb h.count 1) (alone 0 h.held 0) not_now

-- "above 0: a putter waits, the first is met and count stays; else minus 1. At 0: not now"
unfoldable pub get_semaphore : Option ℕ → Hub → Verdict
get_semaphore (some w) h = cond (ltb 0 h.count) (pair h.count h.held 0 w 0) not_now
get_semaphore none h = cond (ltb 0 h.count) (alone (pred h.count) h.held 0) not_now

-- "a putter waits: the first is met and its word taken. Else not now"
unfoldable pub get_port : State → Option ℕ → Hub → Verdict
get_port s (some w) h = pair h.count h.held (task s w).word w 0
get_port s none h = not_now

-- "holds a word: oldest taken; if a putter waits, the first is met and its word appended. Empty: not now"
unfoldable pub get_fifo : State → List ℕ → Option ℕ → Hub → Verdict
get_fifo s [] f h = not_now
get_fifo s (x ∷ xs) (some w) h = pair h.count (xs ++ (task s w).word ∷ []) x w 0
get_fifo s (x ∷ xs) none h = alone (pred h.count) xs x

-- "free: caller owns it. Owned by caller: FAIL in every mode. Owned by another: not now"
unfoldable pub get_resource : Hub → ℕ → Verdict
get_resource h caller =
    cond (eqb h.count 0) (alone (suc caller) h.held 0) (cond (eqb h.count (suc caller)) fail not_now)

-- Board (M-103): "reads without taking, its word the board's; on an unwritten board it is 'not now'"
unfoldable pub get_board : List ℕ → Hub → Verdict
get_board [] h = not_now
get_board (x ∷ xs) h = alone h.count h.held x

-- Memory (M-107): the lowest free block, the first whose mark is 0
abbrev pub lowest_free : Hub → ℕ
lowest_free h = index_of 0 h.held

-- "takes the lowest free block and receives its number as word"; "not now", "exactly when no block is free"
unfoldable pub get_memory : Hub → Verdict
get_memory h =
    cond (ltb 0 h.count) (alone (pred h.count) (set h.held (lowest_free h) 1) (lowest_free h)) not_now

-- ---- wipe, side 3: of a Board (M-103) "always OK, and store and count become 0"; of any other kind it is refused before

unfoldable pub on_wipe : Kind → Verdict
on_wipe NoKind = fail
on_wipe Event = fail
on_wipe Semaphore = fail
on_wipe Port = fail
on_wipe Fifo = fail
on_wipe Resource = fail
on_wipe Board = alone 0 [] 0
on_wipe Memory = fail

-- ---- by kind, and by side; a kind or side that no table in use has fails

unfoldable pub on_put : Kind → State → Option ℕ → Hub → ℕ → ℕ → Verdict
on_put NoKind s f h caller x = fail
on_put Event s f h caller x = put_event f h
on_put Semaphore s f h caller x = put_semaphore f h
on_put Port s f h caller x = put_port f h x
on_put Fifo s f h caller x = put_fifo f h x
on_put Resource s f h caller x = put_resource f h caller
on_put Board s f h caller x = put_board s h x
on_put Memory s f h caller x = put_memory f h x

unfoldable pub on_get : Kind → State → Option ℕ → Hub → ℕ → Verdict
on_get NoKind s f h caller = fail
on_get Event s f h caller = get_event f h
on_get Semaphore s f h caller = get_semaphore f h
on_get Port s f h caller = get_port s f h
on_get Fifo s f h caller = get_fifo s h.held f h
on_get Resource s f h caller = get_resource h caller
on_get Board s f h caller = get_board h.held h
on_get Memory s f h caller = get_memory h

unfoldable pub on_side : Side → State → Hub → Call → Verdict
on_side NoSide s h c = fail
on_side Put s h c = on_put (kind_of h.kind) s (first_waiting s 2 h.waiters) h c.caller (message c)
on_side Get s h c = on_get (kind_of h.kind) s (first_waiting s 1 h.waiters) h c.caller
on_side Wipe s h c = on_wipe (kind_of h.kind)

unfoldable pub verdict : State → Call → Verdict
verdict s c = on_side (side_of c.side) s (hub s c.target) c
