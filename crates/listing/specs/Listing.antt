-- M-100, "Listing writer": the set-up of a panel, its text, and the table that the text builds. In the paper's order: the set-up;
-- its lines; the listing; what it builds; when it is refused, and what the buffer holds afterwards. The table is of either edition
-- (M-105): the one that fits its length.
-- Not here: that the drill runner builds it, and that it is the only such text (proofs/).
use Rattle.std.specs.Prelude.{◌*◌, ◌+◌, ◌-◌, ℕ, eqb, leb, drop, get_or, length, replicate, cond, List, [], ◌++◌, ◌∷◌, map, Result, ◌≡◌}
use Rattle.lines.specs.Lines.{printed}
use Rattle.records.specs.Records.{hubs_at}
use Rattle.rules.specs.Refusals.{need}
use Rattle.rules.specs.Reply.{given}
use Rattle.rules.specs.Table.{Hub, Layout, State, Task, edition_of, inactive, kind_of, read, size, stored, tab}
use Rattle.rules.specs.WellFormed.{well_formed_in}
use Rattle.rules.specs.declared.Refusal.{Refusal}

-- ---- the set-up: the priorities of the tasks, and of the hubs kind, limit and start, all in number order

pub record HubSetUp : Type 0 where
  pub kind : ℕ
  pub limit : ℕ
  pub start : ℕ

pub record SetUp : Type 0 where
  pub priorities : List ℕ
  pub hubs : List HubSetUp

abbrev pub hub_set_up : Hub → HubSetUp
hub_set_up h = record { kind = h.kind; limit = h.limit; start = h.start }

abbrev pub priority_of : Task → ℕ
priority_of t = t.priority

unfoldable pub set_up : State → SetUp
set_up s = record { priorities = map priority_of s.tasks; hubs = map hub_set_up s.hubs }

-- ---- its lines: "the Blank line, one Add task line per task with side 0, and one Add hub line per hub, all in number order, unused
-- fields 0". "listings have eight numbers a line" (M-105): the last is the high word, which none of them uses

abbrev pub blank_line : List ℕ
blank_line = 0 ∷ 0 ∷ 0 ∷ 0 ∷ 0 ∷ 0 ∷ 0 ∷ 0 ∷ []

abbrev pub task_line : ℕ → List ℕ
task_line p = 9 ∷ 0 ∷ p ∷ 0 ∷ 0 ∷ 0 ∷ 0 ∷ 0 ∷ []

abbrev pub hub_line : HubSetUp → List ℕ
hub_line h = 10 ∷ 0 ∷ h.kind ∷ 0 ∷ 0 ∷ h.limit ∷ h.start ∷ 0 ∷ []

unfoldable pub set_up_lines : SetUp → List (List ℕ)
set_up_lines u = blank_line ∷ (map task_line u.priorities ++ map hub_line u.hubs)

-- "each line ended by a newline"
unfoldable pub text_of_lines : List (List ℕ) → List ℕ
text_of_lines [] = []
text_of_lines (l ∷ ls) = printed l ++ text_of_lines ls

-- a text of this form
unfoldable pub set_up_text : SetUp → List ℕ
set_up_text u = text_of_lines (set_up_lines u)

-- ---- the listing of a table

unfoldable pub listing_in : Layout → List ℕ → List ℕ
listing_in L t = set_up_text (set_up (read L t))

-- in the edition that fits its length: the text of the set-up of `state_of t`
abbrev pub listing : List ℕ → List ℕ
listing t = listing_in (edition_of t) t

-- ---- what it builds: "the same table with every task inactive, every count at its start, and all lists and stores empty"

abbrev pub new_hub : HubSetUp → Hub
new_hub h = record {
  kind = h.kind;
  count = h.start;
  limit = h.limit;
  start = h.start;
  waiters = [];
  held = replicate (stored (kind_of h.kind) h.start h.limit) 0;
}

unfoldable pub built : SetUp → State
built u = record { tasks = map inactive u.priorities; hubs = map new_hub u.hubs; ready = [] }

abbrev pub stripped : State → State
stripped s = built (set_up s)

-- ---- "New refusal 8, after 1 and 2: the buffer is shorter than the listing"

unfoldable pub listing_refusal_in : Layout → List ℕ → ℕ → ℕ
listing_refusal_in L t room =
    need (eqb (length t) (size L)) 1 (need (well_formed_in L t) 2 (need (leb (length (listing_in L t)) room) 8 0))

-- "Then nothing is written and the length given back is 0" (`number_given`, of rules). "Bytes after the listing keep what they held."
unfoldable pub listing_reply_in : Layout → List ℕ → ℕ → Result ℕ Refusal
listing_reply_in L t room = given (listing_refusal_in L t room) (length (listing_in L t))

unfoldable pub text_in : Layout → List ℕ → List ℕ → List ℕ
text_in L t text =
    cond (eqb (listing_refusal_in L t (length text)) 0) (listing_in L t ++ drop (length (listing_in L t)) text) text

-- in the edition that fits the table's length: a length that is neither edition's is refusal 1
abbrev pub listing_reply : List ℕ → ℕ → Result ℕ Refusal
listing_reply t room = listing_reply_in (edition_of t) t room

abbrev pub text_after : List ℕ → List ℕ → List ℕ
text_after t text = text_in (edition_of t) t text

-- what is given back, and every byte of the buffer
pub record ListedFrom (t text : List ℕ) (r : Result ℕ Refusal) (text' : List ℕ) : Type 0 where
  pub reply : r ≡ listing_reply t (length text)
  pub bytes : text' ≡ text_after t text

pub record ListedIn (L : Layout) (t text : List ℕ) (r : Result ℕ Refusal) (text' : List ℕ) : Type 0 where
  pub reply : r ≡ listing_reply_in L t (length text)
  pub bytes : text' ≡ text_in L t text

-- ---- the lines by their words: line k of a table whose task records have ts words, n of them in use

unfoldable pub line_at : ℕ → List ℕ → ℕ → ℕ → List ℕ
line_at ts t n k =
    cond (eqb k 0) blank_line
    (cond (leb k n) (task_line (get_or t (8 + (k - 1) * ts + 2) 0))
    (hub_line record {
      kind = get_or t (hubs_at ts + (k - 1 - n) * 4) 0;
      limit = get_or t (hubs_at ts + (k - 1 - n) * 4 + 2) 0;
      start = get_or t (hubs_at ts + (k - 1 - n) * 4 + 3) 0;
    }))

-- all of them, with m hubs in use
abbrev pub lines_at : ℕ → List ℕ → ℕ → ℕ → List (List ℕ)
lines_at ts t n m = tab (1 + n + m) 0 (line_at ts t n)
