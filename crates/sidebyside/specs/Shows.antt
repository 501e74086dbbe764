-- What is given back for two tables, and what the buffer holds afterwards. In order: the refusals; the rows of two tables; the reply
-- and every byte.
-- Not here: the rows themselves (crate rows), their lines (RowLines.antt), and what is proved of them (proofs/Promise).
use Rattle.std.specs.Prelude.{ℕ, eqb, leb, drop, length, Bool, cond, List, ◌++◌, Err, Ok, Result, ◌≡◌}
use Rattle.differences.specs.Differences.{table_refusal}
use Rattle.records.specs.Records.{task_size_of}
use Rattle.rows.specs.Rows.{marked, marked_in, rows, shown}
use Rattle.rows.specs.declared.Row.{Row}
use Rattle.rules.specs.Lists.{next}
use Rattle.rules.specs.Refusals.{need}
use Rattle.rules.specs.Reply.{given}
use Rattle.rules.specs.Table.{edition_of, state_of}
use Rattle.rules.specs.declared.Refusal.{Refusal}
use Rattle.sidebyside.specs.RowLines.{rows_text}
use Rattle.sidebyside.specs.declared.Shown.{Shown}

-- ---- the refusals

-- of the tables themselves, as M-106's comparison has them: 1 and 2 for the first, then for the second; then 13, differing editions
unfoldable pub pair_refusal : List ℕ → List ℕ → ℕ
pair_refusal a b = table_refusal a (table_refusal b (need (eqb (edition_of a).edition (edition_of b).edition) 13 0))

-- then 8: the buffer is shorter than the text
unfoldable pub refusal_for : ℕ → List ℕ → ℕ → ℕ
refusal_for n rows_of room = cond (eqb n 0) (need (leb (length rows_of) room) 8 0) n

-- ---- the rows of two tables of one edition, with the task that runs in each marked in its ready list

abbrev pub size_of : List ℕ → ℕ
size_of t = task_size_of (length t)

abbrev pub runs_in : List ℕ → ℕ
runs_in t = next (state_of t)

abbrev pub is_marked : List ℕ → List ℕ → Row → Bool
is_marked a b r = marked (size_of a) a b (runs_in a) (runs_in b) r

abbrev pub is_shown : List ℕ → List ℕ → Row → Bool
is_shown a b r = shown (size_of a) a b (runs_in a) (runs_in b) r

abbrev pub text_of : List ℕ → List ℕ → List ℕ
text_of a b = rows_text (size_of a) a b (runs_in a) (runs_in b) rows

abbrev pub marks_of : List ℕ → List ℕ → ℕ
marks_of a b = marked_in (size_of a) a b (runs_in a) (runs_in b) rows

-- ---- the reply, and every byte of the buffer: a refusal gives 0 and 0 and writes nothing; bytes past the text stay

-- n is the tables' own refusal, rows_of the text, marks how many rows are marked
unfoldable pub reply_for : ℕ → List ℕ → ℕ → ℕ → Result Shown Refusal
reply_for n rows_of marks room = given (refusal_for n rows_of room) (record { length = length rows_of; marked = marks })

-- "gives 0 and 0"
abbrev pub length_given : Result Shown Refusal → ℕ
length_given (Ok s) = s.length
length_given (Err e) = 0

abbrev pub marked_given : Result Shown Refusal → ℕ
marked_given (Ok s) = s.marked
marked_given (Err e) = 0

unfoldable pub text_after : ℕ → List ℕ → List ℕ → List ℕ
text_after n rows_of text = cond (eqb (refusal_for n rows_of (length text)) 0) (rows_of ++ drop (length rows_of) text) text

pub record ShownAs (n : ℕ) (rows_of : List ℕ) (marks : ℕ) (text : List ℕ) (r : Result Shown Refusal) (text' : List ℕ) : Type 0 where
  pub reply : r ≡ reply_for n rows_of marks (length text)
  pub bytes : text' ≡ text_after n rows_of text

abbrev pub Shows : List ℕ → List ℕ → List ℕ → Result Shown Refusal → List ℕ → Type 0
Shows a b text r text' = ShownAs (pair_refusal a b) (text_of a b) (marks_of a b) text r text'
