-- "Refusal numbers, tested in this order": 3 to 7 by the service, on the state; 1 and 2 on the words.
use Rattle.std.specs.Prelude.{suc, zero, ℕ, eqb, leb, ltb, get_or, length, Bool, ◌&&◌, ◌||◌, false, not, true, List, [], ◌∷◌}
use Rattle.rules.specs.Calls.{AddHub, AddTask, Blank, HubRequest, Resume, Service, Sleep, Start, Stop, Suspend, Tick, Unknown, Yield, service_of}
use Rattle.rules.specs.Lists.{next}
use Rattle.rules.specs.Table.{Board, Event, Fifo, Kind, Layout, Memory, NoKind, Port, Resource, Semaphore, State, edition_of, hub, kind_of, read, size}
use Rattle.rules.specs.WellFormed.{well_formed_in, within}
use Rattle.rules.specs.declared.Call.{Call}

-- the test must pass, or the call is refused with number r; 0 is no refusal
unfoldable pub need : Bool → ℕ → ℕ → ℕ
need true r rest = rest
need false r rest = r

-- ---- 1 "length isn't 600 words", with M-105 "a length that is neither size"; 2 "not well formed": of whatever reads a table in
-- this layout; `rest` is what is tested then

abbrev pub on_table : Layout → List ℕ → ℕ → ℕ
on_table L t rest = need (eqb (length t) (size L)) 1 (need (well_formed_in L t) 2 rest)

-- ---- 4 "services 1 to 7: caller isn't the running task"

unfoldable pub by_running : State → Call → ℕ → ℕ
by_running s c rest = need (eqb (next s) (suc c.caller)) 4 rest

-- ---- 5 "service 1: hub not in use; 2 to 5: task not in use"

unfoldable pub on_task : State → Call → ℕ
on_task s c = by_running s c (need (ltb c.target (length s.tasks)) 5 0)

-- ---- 6, the arguments

pub data Mode : Type 0 where
  NoMode W NW WT : Mode

-- 1 W, 2 NW, 3 WT with ticks
unfoldable pub mode_of : ℕ → Mode
mode_of n = get_or (NoMode ∷ W ∷ NW ∷ WT ∷ []) n NoMode

-- "mode not 1 to 3, ticks not 0 under W or NW, ticks outside 1 to 1,000,000 under WT"
unfoldable pub good_wait : Mode → ℕ → Bool
good_wait NoMode ticks = false
good_wait W ticks = eqb ticks 0
good_wait NW ticks = eqb ticks 0
good_wait WT ticks = within 1 1000000 ticks

-- "side not 1 or 2"; "Side 3 on any other kind stays refusal 6" than a Board (M-103)
unfoldable pub last_side : Kind → ℕ
last_side NoKind = 2
last_side Event = 2
last_side Semaphore = 2
last_side Port = 2
last_side Fifo = 2
last_side Resource = 2
last_side Board = 3
last_side Memory = 2

-- the side, at a hub of this kind, and the mode with its ticks
abbrev pub good_request : Kind → Call → Bool
good_request k c = within 1 (last_side k) c.side && good_wait (mode_of c.mode) c.ticks

-- "kind not 1 to 5" (6 with M-103, 7 with M-107), "limit or start outside the kinds table"
unfoldable pub good_hub : Kind → ℕ → ℕ → Bool
good_hub NoKind limit start = false
good_hub Event limit start = eqb limit 1 && eqb start 0
good_hub Semaphore limit start = within 1 65535 limit && leb start limit
good_hub Port limit start = eqb limit 0 && eqb start 0
good_hub Fifo limit start = within 1 8 limit && eqb start 0
good_hub Resource limit start = eqb limit 1 && eqb start 0
good_hub Board limit start = eqb limit 1 && eqb start 0
good_hub Memory limit start = within 1 8 limit && eqb start limit

-- ---- by service, each row's tests in the order of their numbers; 3 "service above 10"; 7 "service 9 or 10 with 16 already"

unfoldable pub refusal_for : Service → State → Call → ℕ
refusal_for Blank s c = 0
refusal_for HubRequest s c = by_running s c (need (ltb c.target (length s.hubs)) 5 (need (good_request (kind_of (hub s c.target).kind) c) 6 0))
refusal_for Start s c = on_task s c
refusal_for Stop s c = on_task s c
refusal_for Suspend s c = on_task s c
refusal_for Resume s c = on_task s c
refusal_for Yield s c = by_running s c 0
refusal_for Sleep s c = by_running s c (need (within 1 1000000 c.ticks) 6 0)
refusal_for Tick s c = 0
refusal_for AddTask s c = need (leb c.target 255 && leb c.side 1) 6 (need (ltb (length s.tasks) 16) 7 0)
refusal_for AddHub s c =
    need (good_hub (kind_of c.target) c.ticks c.word) 6 (need (ltb (length s.hubs) 16) 7 0)
refusal_for Unknown s c = 3

unfoldable pub refusal : State → Call → ℕ
refusal s c = refusal_for (service_of c.service) s c

-- ---- M-105: "Edition 1 tables still run; with a high word above 0 a hub request on them is refusal 6", the last of a request's tests

abbrev pub good_message : Layout → Call → Bool
good_message L c = not (eqb c.service 1) || (leb 2 L.width || eqb c.high 0)

-- the next test, where none before it refused
unfoldable pub behind : ℕ → ℕ → ℕ
behind zero rest = rest
behind (suc r) rest = suc r

unfoldable pub refusal_at : Layout → State → Call → ℕ
refusal_at L s c = behind (refusal s c) (need (good_message L c) 6 0)

-- ---- 1 "length isn't 600 words", with M-105 "a length that is neither size"; 2 "not well formed (never for Blank)", with M-105 also
-- "a contents edition that doesn't fit the length"; then the service's own

abbrev pub is_blank : Call → Bool
is_blank c = eqb c.service 0

unfoldable pub refusal_in : Layout → List ℕ → Call → ℕ
refusal_in L t c =
    need (eqb (length t) (size L)) 1 (need (is_blank c || well_formed_in L t) 2 (refusal_at L (read L t) c))

-- in the edition that fits the length
abbrev pub refusal_of : List ℕ → Call → ℕ
refusal_of t c = refusal_in (edition_of t) t c
