-- A table as bytes, for every byte length and every content: how many a table of either edition has, and its words.
-- Not here: words from bytes and back (crate bytes4).
use Rattle.std.specs.Prelude.{◌*◌, ◌≤◌, ℕ, eqb, length, take, Bool, ◌||◌, cond, List, [], ◌≡◌}
use Rattle.bytes4.specs.Bytes.{words_from}
use Rattle.rules.specs.Table.{Layout, one, size, two}

-- "2,400 bytes" in edition 1, "2,976 bytes" in edition 2
abbrev pub bytes_in : Layout → ℕ
bytes_in L = 4 * size L

-- the bytes are as many as a table of either edition has
unfoldable pub fits : List ℕ → Bool
fits b = eqb (length b) (bytes_in one) || eqb (length b) (bytes_in two)

-- the words of a table of either edition. Other bytes are no table's, and count as none: no edition has a table without words, so
-- they are refusal 1
unfoldable pub table_words : List ℕ → List ℕ
table_words b = cond (fits b) (words_from b) []

-- what `table_words` leaves in an array: as many words as the table has, in front
pub record InFront (b words : List ℕ) (n : ℕ) : Type 0 where
  pub front : take n words ≡ table_words b
  pub room : n ≤ length words
