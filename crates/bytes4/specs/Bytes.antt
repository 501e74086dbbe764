-- "words little-endian": a word of 32 bits is four bytes, the least first.
-- Lists of any length. Not here: how many bytes a table has.
use Rattle.std.specs.Prelude.{◌%◌, ◌*◌, ◌+◌, ◌/◌, ℕ, List, [], ◌∷◌, ◌≡◌}

-- the word of four bytes
abbrev pub word_of : ℕ → ℕ → ℕ → ℕ → ℕ
word_of a b c d = a + 256 * b + 65536 * c + 16777216 * d

-- the words of some bytes; fewer than four bytes at the end make no word
unfoldable pub words_from : List ℕ → List ℕ
words_from (a ∷ (b ∷ (c ∷ (d ∷ r)))) = word_of a b c d ∷ words_from r
words_from (a ∷ (b ∷ (c ∷ []))) = []
words_from (a ∷ (b ∷ [])) = []
words_from (a ∷ []) = []
words_from [] = []

-- the bytes of some words, "all four bytes of each"
unfoldable pub bytes_of : List ℕ → List ℕ
bytes_of (w ∷ r) = w % 256 ∷ w / 256 % 256 ∷ w / 65536 % 256 ∷ w / 16777216 % 256 ∷ bytes_of r
bytes_of [] = []

-- ---- what the functions promise: all of one from the other, and nothing lost on the way

pub record Unpacked (b t : List ℕ) : Type 0 where
  pub words : t ≡ words_from b
  pub back : bytes_of t ≡ b

pub record Packed (t b : List ℕ) : Type 0 where
  pub bytes : b ≡ bytes_of t
  pub back : words_from b ≡ t
