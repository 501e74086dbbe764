-- A message in words, the low word first, in one word or in two: definitions alone. A word past the end is 0.
use Rattle.std.specs.Prelude.{◌%◌, ◌*◌, ◌+◌, ◌-◌, ◌/◌, ◌<◌, ℕ, ltb, get_or, cond, List, [], ◌∷◌, ◌≡◌}

-- the message of w words at word p
unfoldable pub message_at : ℕ → List ℕ → ℕ → ℕ
message_at w t p = cond (ltb 1 w) (get_or t p 0 + 4294967296 * get_or t (p + 1) 0) (get_or t p 0)

-- the w words of a message
unfoldable pub message_words : ℕ → ℕ → List ℕ
message_words w m = cond (ltb 1 w) (m % 4294967296 ∷ m / 4294967296 ∷ []) (m % 4294967296 ∷ [])

-- how many messages there are: 2^32 of one word, 2^64 of two
abbrev pub messages : ℕ → ℕ
messages w = 4294967296 + (w - 1) * 18446744069414584320

-- what is read at word p is one of them
pub record Message (w : ℕ) (t : List ℕ) (p r : ℕ) : Type 0 where
  pub value : r ≡ message_at w t p
  pub low : r < messages w
