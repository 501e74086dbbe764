-- Two tables as bytes, for every byte length and every content, by the rows of their words.
use Rattle.std.specs.Prelude.{ℕ, length, List, Result, ◌≡◌}
use Rattle.pairs.specs.declared.HubKernelRowsReply.{HubKernelRowsReply}
use Rattle.rules.specs.Reply.{refusal_number}
use Rattle.rules.specs.declared.Refusal.{Refusal}
use Rattle.sidebyside.specs.Shows.{length_given, marked_given, marks_of, pair_refusal, reply_for, text_after, text_of}
use Rattle.sidebyside.specs.declared.Shown.{Shown}
use Rattle.tablebytes.specs.TableBytes.{table_words}

-- a refusal by its number, with 0 and 0
abbrev pub rows_numbers_of : Result Shown Refusal → HubKernelRowsReply
rows_numbers_of r = record { refusal = refusal_number r; length = length_given r; marked = marked_given r }

-- what is given back, and every byte of the buffer
pub record RowsOfBytes (first second text : List ℕ) (r : HubKernelRowsReply) (text' : List ℕ) : Type 0 where
  pub reply : r
      ≡ rows_numbers_of (reply_for (pair_refusal (table_words first) (table_words second)) (text_of (table_words first) (table_words second)) (marks_of (table_words first) (table_words second)) (length text))
  pub bytes : text' ≡ text_after (pair_refusal (table_words first) (table_words second)) (text_of (table_words first) (table_words second)) text
