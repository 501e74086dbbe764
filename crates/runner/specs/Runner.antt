-- What the drill runner prints and what its table holds, line by line: definitions alone, over the kernel's promise (rules) and
-- the line reader's (lines). In order: a line; lines one after the other; a whole drill; what the functions of this crate answer.
use Rattle.std.specs.Prelude.{◌+◌, ◌<◌, ◌≤◌, ℕ, drop, length, replicate, List, [], ◌++◌, ◌∷◌, ◌≡◌, Err, Ok}
use Rattle.lines.specs.Lines.{Line, Put, bad_text, print_room, printed, read_lines}
use Rattle.lines.specs.Scan.{after, ended, last_of}
use Rattle.lines.specs.declared.Scan.{Scan}
use Rattle.rules.specs.Reply.{answer_number, refusal_number, reply_to, table_after}
use Rattle.rules.specs.Table.{size, two}
use Rattle.rules.specs.declared.Reply.{Reply}
use Rattle.runner.specs.declared.Answered.TheVariants.{Drained, Full}
use Rattle.runner.specs.declared.Answered.{Answered}

-- ---- a line, on table t

-- "It prints refusal, answer and next", and M-104: "The drill runner prints four numbers per call."
unfoldable pub reply_text : Reply → List ℕ
reply_text r = printed (refusal_number r.answer ∷ answer_number r.answer ∷ r.next ∷ r.ahead ∷ [])

-- "or for any other line `line N bad`"
abbrev pub text_on : List ℕ → Line → List ℕ
text_on t (Ok call) = reply_text (reply_to t call)
text_on t (Err bad) = bad_text bad.line

-- a bad line calls nothing
abbrev pub table_on : List ℕ → Line → List ℕ
table_on t (Ok call) = table_after t call
table_on t (Err bad) = t

-- ---- lines, each on the table that those before it left: "and goes on"

unfoldable pub text_through : List ℕ → List Line → List ℕ
text_through t [] = []
text_through t (l ∷ ls) = text_on t l ++ text_through (table_on t l) ls

unfoldable pub table_through : List ℕ → List Line → List ℕ
table_through t [] = t
table_through t (l ∷ ls) = table_through (table_on t l) ls

-- ---- a whole drill

-- "Its table starts as all zeros.", and M-105: "The runner's table now has 744 words", those of edition 2
unfoldable pub zeros : List ℕ
zeros = replicate (size two) 0

-- what is printed for an input
unfoldable pub drill_text : List ℕ → List ℕ
drill_text input = text_through zeros (read_lines input)

-- the same by a runner that is fed chunks: the lines that end in each, and at the input's end the last line. It is the drill's
-- text whatever the chunks are (proofs/Runs.antt, `fed-text`).
unfoldable pub fed_text : List ℕ → Scan → List (List ℕ) → List ℕ
fed_text t s [] = text_through t (last_of s)
fed_text t s (c ∷ cs) = text_through t (ended s c) ++ fed_text (table_through t (ended s c)) (after s c) cs

-- ---- what this crate's functions answer

-- lines on table t: the table after, and their texts put into a buffer at a place
pub record Lines (t : List ℕ) (ls : List Line) (out : List ℕ) (at end : ℕ) (t' out' : List ℕ) : Type 0 where
  pub table : t' ≡ table_through t ls
  pub text : Put out at (text_through t ls) end out'
  pub fits : end ≤ length out'

-- from state s on, `ls` end in the bytes, and then those that end in what is left from state s' on
pub record Split (s : Scan) (bytes : List ℕ) (ls : List Line) (s' : Scan) (left : List ℕ) : Type 0 where
  pub lines : ended s bytes ≡ ls ++ ended s' left
  pub state : after s bytes ≡ after s' left

-- all lines that end in the bytes are answered, and s' is the state behind them
pub record AllOf (s : Scan) (bytes t out : List ℕ) (at : ℕ) (s' : Scan) (end : ℕ) (t' out' : List ℕ) : Type 0 where
  pub answered : Lines t (ended s bytes) out at end t' out'
  pub state : s' ≡ after s bytes
  pub room : end + print_room ≤ length out'

-- lines are answered, at least one, up to place j of a chunk, and the buffer wants to be written out
pub record UpTo (chunk : List ℕ) (i : ℕ) (s : Scan) (t out : List ℕ) (at : ℕ) (s' : Scan) (end j : ℕ) (t' out' : List ℕ) : Type 0 where
  pub ls : List Line
  pub split : Split s (drop i chunk) ls s' (drop j chunk)
  pub answered : Lines t ls out at end t' out'
  pub forward : i < j
  pub inside : j ≤ length chunk

abbrev pub ChunkAnswered : List ℕ → ℕ → Scan → List ℕ → List ℕ → ℕ → Answered → List ℕ → List ℕ → Type 0
ChunkAnswered chunk i s t out at (Drained s' end) t' out' = AllOf s (drop i chunk) t out at s' end t' out'
ChunkAnswered chunk i s t out at (Full s' end j) t' out' = UpTo chunk i s t out at s' end j t' out'
