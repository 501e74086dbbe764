-- "A call gives back refusal, answer and next", and with M-104 how many are ahead: the answer and its numbers, the table after a
-- call, the hub summary.
-- `reply_to`, `table_after` and `summary_of` are what the public promises name, for any words and any numbers.
use Rattle.std.specs.Prelude.{◌*◌, ◌+◌, ◌^◌, suc, zero, ℕ, eqb, ltb, get_or, length, Bool, cond, false, true, List, [], ◌∷◌, Err, Ok, Result}
use Rattle.lists.specs.Lists.{bit, index_of}
use Rattle.rules.specs.Calls.{AddHub, AddTask, Blank, HubRequest, Resume, Service, Sleep, Start, Stop, Suspend, Tick, Unknown, Yield, served, service_of}
use Rattle.rules.specs.Lists.{next}
use Rattle.rules.specs.Refusals.{need, on_table, refusal_in}
use Rattle.rules.specs.Table.{Layout, State, edition_of, hub, read, task, words}
use Rattle.rules.specs.WellFormed.{waits_for}
use Rattle.rules.specs.declared.Call.{Call}
use Rattle.rules.specs.declared.Outcome.TheVariants.{Fail, NothingYet, Ok as OK}
use Rattle.rules.specs.declared.Outcome.{Outcome}
use Rattle.rules.specs.declared.Refusal.TheVariants.{BadArgument, Full, HighWord, NotInUse, NotRunning, NotWellFormed, OtherEdition, ShortBuffer, UnknownService, WrongLength}
use Rattle.rules.specs.declared.Refusal.{Refusal}
use Rattle.rules.specs.declared.Reply.{Reply}
use Rattle.rules.specs.declared.Summary.{Summary}
use Rattle.std.specs.Int.Count.{ones}

-- ---- the paper's numbers

-- "nothing yet (answer 0), OK 1, FAIL 2"
abbrev pub outcome_number : Outcome → ℕ
outcome_number NothingYet = 0
outcome_number OK = 1
outcome_number Fail = 2

-- a refusal's number; 10 to 12 are none
abbrev pub code : Refusal → ℕ
code WrongLength = 1
code NotWellFormed = 2
code UnknownService = 3
code NotRunning = 4
code NotInUse = 5
code BadArgument = 6
code Full = 7
code ShortBuffer = 8
code HighWord = 9
code OtherEdition = 13

-- the refusal with this number: `code` gives the number back for 1 to 9 and 13
unfoldable pub refusal_with : ℕ → Refusal
refusal_with n =
    get_or
    (OtherEdition
    ∷ WrongLength
    ∷ NotWellFormed
    ∷ UnknownService
    ∷ NotRunning
    ∷ NotInUse
    ∷ BadArgument
    ∷ Full
    ∷ ShortBuffer
    ∷ HighWord
    ∷ [])
    n OtherEdition

-- "An accepted call has refusal 0"; so have a summary, a listing and a comparison that are not refused
abbrev pub refusal_number : {A : Type 0} → Result A Refusal → ℕ
refusal_number (Ok x) = 0
refusal_number (Err e) = code e

-- the length of a listing and the number of entries, which a refusal gives as 0
abbrev pub number_given : Result ℕ Refusal → ℕ
number_given (Ok n) = n
number_given (Err e) = 0

-- "A refused call gives answer 0"
abbrev pub answer_number : Result Outcome Refusal → ℕ
answer_number (Ok o) = outcome_number o
answer_number (Err e) = 0

-- by a refusal number: what is given where it is 0, or the refusal
unfoldable pub given : {A : Type 0} → ℕ → A → Result A Refusal
given zero x = Ok x
given (suc r) x = Err (refusal_with (suc r))

-- the outcome that a caller's answer word shows; TO "reaches a task by Tick, so no call returns 3"
unfoldable pub outcome_of : ℕ → Outcome
outcome_of a = get_or (NothingYet ∷ OK ∷ Fail ∷ []) a NothingYet

-- ---- the reply

-- "For services 1 to 7 the answer is the caller's answer word after the call; for 0, 8, 9 and 10 it is 0."
unfoldable pub bears_answer : Service → Bool
bears_answer Blank = false
bears_answer HubRequest = true
bears_answer Start = true
bears_answer Stop = true
bears_answer Suspend = true
bears_answer Resume = true
bears_answer Yield = true
bears_answer Sleep = true
bears_answer Tick = false
bears_answer AddTask = false
bears_answer AddHub = false
bears_answer Unknown = false

unfoldable pub outcome : State → Call → Outcome
outcome s' c = cond (bears_answer (service_of c.service)) (outcome_of (task s' c.caller).answer) NothingYet

-- M-104: "When a caller has to wait at a hub, the call shall also say how many requests stand before it in that list. ... In
-- every other case the new fourth number is 0."

-- the entries before the caller in the list of the hub that it named, where the call left it waiting (state 3)
unfoldable pub ahead_for : Service → State → Call → ℕ
ahead_for Blank s' c = 0
ahead_for HubRequest s' c = cond (eqb (task s' c.caller).state 3) (index_of c.caller (hub s' c.target).waiters) 0
ahead_for Start s' c = 0
ahead_for Stop s' c = 0
ahead_for Suspend s' c = 0
ahead_for Resume s' c = 0
ahead_for Yield s' c = 0
ahead_for Sleep s' c = 0
ahead_for Tick s' c = 0
ahead_for AddTask s' c = 0
ahead_for AddHub s' c = 0
ahead_for Unknown s' c = 0

unfoldable pub ahead : State → Call → ℕ
ahead s' c = ahead_for (service_of c.service) s' c

-- by the refusal number, and the state after the call where it is accepted
unfoldable pub reply_by : ℕ → State → Call → Reply
reply_by zero s' c = record { answer = Ok (outcome s' c); next = next s'; ahead = ahead s' c }
reply_by (suc r) s' c = record { answer = Err (refusal_with (suc r)); next = 0; ahead = 0 }

unfoldable pub reply_in : Layout → List ℕ → Call → Reply
reply_in L t c = reply_by (refusal_in L t c) (served (read L t) c) c

-- in the edition that fits the table's length (M-105)
abbrev pub reply_to : List ℕ → Call → Reply
reply_to t c = reply_in (edition_of t) t c

-- ---- the table after the call: "no word of the table changes" where it is refused

unfoldable pub table_by : Layout → ℕ → List ℕ → State → List ℕ
table_by L zero t s' = words L s'
table_by L (suc r) t s' = t

unfoldable pub table_in : Layout → List ℕ → Call → List ℕ
table_in L t c = table_by L (refusal_in L t c) t (served (read L t) c)

-- in the edition that fits its length: "Blank makes the edition that fits the length"
abbrev pub table_after : List ℕ → Call → List ℕ
table_after t c = table_in (edition_of t) t c

-- ---- "Hub summary: given a table and a hub"

-- "one word with bit i set when task i waits there", for the tasks below n
unfoldable pub mask_below : ℕ → (ℕ → Bool) → ℕ
mask_below zero p = 0
mask_below (suc n) p = bit (p n) * 2 ^ n + mask_below n p

-- "Refused with 1, 2 or 5"
unfoldable pub summary_refusal : Layout → List ℕ → ℕ → ℕ
summary_refusal L t h = on_table L t (need (ltb h (length (read L t).hubs)) 5 0)

-- "and the number of set bits as count"
abbrev pub counted_bits : ℕ → Summary
counted_bits m = record { mask = m; count = ones m }

unfoldable pub summary_in : Layout → List ℕ → ℕ → Result Summary Refusal
summary_in L t h = given (summary_refusal L t h) (counted_bits (mask_below 16 (waits_for (read L t) h)))

-- "then both are 0"
abbrev pub mask_given : Result Summary Refusal → ℕ
mask_given (Ok s) = s.mask
mask_given (Err e) = 0

abbrev pub count_given : Result Summary Refusal → ℕ
count_given (Ok s) = s.count
count_given (Err e) = 0

-- in the edition that fits the length
abbrev pub summary_of : List ℕ → ℕ → Result Summary Refusal
summary_of t h = summary_in (edition_of t) t h
