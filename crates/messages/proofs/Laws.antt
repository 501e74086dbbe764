-- A message in words: how many words, each of 32 bits; read again it is the same; zeros are the message 0; the same words hold the
-- same message. Assumes nothing.
use Prim.Native.Nat.{◌%◌, ◌*◌, ◌+◌, ◌/◌, ◌<◌, ◌≤◌, suc, zero, ℕ}
use Rattle.lists.proofs.Laws.{bool_case}
use Rattle.messages.specs.Messages.{message_at, message_words, messages}
use borrow.Author.Tests.{le-ltb, lt-ltb, ltb-false, ltb-true}
use lib.Dec.{ltb}
use lib.ListN.{get_or, length}
use mathlib.Core.List.{List, [], ◌∷◌}
use mathlib.Core.Path.{◌∙◌, ◌≡◌, sym}
use native.Mathlib.Nat.{add-zero, div-add-mod, div-lt_iff_lt-mul, mod-eq_of_lt, mod-lt}
use native.Mathlib.Omega.{arith}

-- ---- in two words, and in one

module _ (w : ℕ) where
  pub words-two : 1 < w → (m : ℕ) → message_words w m ≡ m % 4294967296 ∷ m / 4294967296 ∷ []
  unfolding message_words
  words-two h m = rw (lt-ltb 1 w h)

  pub words-one : w ≤ 1 → (m : ℕ) → message_words w m ≡ m % 4294967296 ∷ []
  unfolding message_words
  words-one h m = rw (le-ltb 1 w h)

  pub at-two : 1 < w → (t : List ℕ) (p : ℕ) → message_at w t p ≡ get_or t p 0 + 4294967296 * get_or t (p + 1) 0
  unfolding message_at
  at-two h t p = rw (lt-ltb 1 w h)

  pub at_one : w ≤ 1 → (t : List ℕ) (p : ℕ) → message_at w t p ≡ get_or t p 0
  unfolding message_at
  at_one h t p = rw (le-ltb 1 w h)

-- ---- written, and read again

pub length-message : (w m : ℕ) → 1 ≤ w → w ≤ 2 → length (message_words w m) ≡ w
length-message zero m h k = absurd (omega arith)
length-message (suc zero) m h k = rw (words-one 1 (omega arith) m)
length-message (suc (suc w)) m h k = rw (words-two (suc (suc w)) (omega arith) m) (omega arith)

module _ (w m : ℕ) (few : w ≤ 2) (fits : m < messages w) where
  -- each of 32 bits
  pub words-low : (k : ℕ) → get_or (message_words w m) k 0 < 4294967296
  words-low k =
      bool_case (ltb 1 w)
      (λ b. let h = ltb-true 1 w b in rw (words-two w h m) (two h k))
      (λ b. rw (words-one w (ltb-false 1 w b) m) (one k))
    where
      low : m % 4294967296 < 4294967296
      low = mod-lt m (omega arith)

      two : 1 < w → (k : ℕ) → get_or (m % 4294967296 ∷ m / 4294967296 ∷ []) k 0 < 4294967296
      two h zero = low
      two h (suc zero) = (div-lt_iff_lt-mul {k = 4294967296} {x = m} {y = 4294967296} (omega arith)).1 (omega arith)
      two h (suc (suc k)) = omega arith

      one : (k : ℕ) → get_or (m % 4294967296 ∷ []) k 0 < 4294967296
      one zero = low
      one (suc k) = omega arith

  pub message-back : message_at w (message_words w m) 0 ≡ m
  message-back =
      bool_case (ltb 1 w)
      (λ b. let h = ltb-true 1 w b in at-two w h (message_words w m) 0 ∙ rw (words-two w h m) (omega (arith, div-add-mod m 4294967296)))
      (λ b. let h = ltb-false 1 w b in at_one w h (message_words w m) 0 ∙ rw (words-one w h m) (mod-eq_of_lt (omega arith)))

-- ---- zeros hold the message 0

pub message-none : (w : ℕ) (t : List ℕ) (p : ℕ) → 1 ≤ w → w ≤ 2 → ((k : ℕ) → k < w → get_or t (p + k) 0 ≡ 0) → message_at w t p ≡ 0
message-none w t p some few none =
    let first : get_or t p 0 ≡ 0 = rw add-zero at (none 0 (omega arith)) in
    bool_case (ltb 1 w)
    (λ b. let h = ltb-true 1 w b in at-two w h t p ∙ omega (arith, first, none 1 h))
    (λ b. at_one w (ltb-false 1 w b) t p ∙ first)

-- ---- the same words hold the same message

pub message_same : (w : ℕ) (t u : List ℕ) (p q : ℕ) → ((k : ℕ) → k < w → get_or t (p + k) 0 ≡ get_or u (q + k) 0) → 1 ≤ w → message_at w t p ≡ message_at w u q
message_same w t u p q same some =
    let first : get_or t p 0 ≡ get_or u q 0 = rw (add-zero p, add-zero q) at (same 0 (omega arith)) in
    bool_case (ltb 1 w)
    (λ b. let h = ltb-true 1 w b in at-two w h t p ∙ rw (first, same 1 h) (sym (at-two w h u q)))
    (λ b. let h = ltb-false 1 w b in at_one w h t p ∙ first ∙ sym (at_one w h u q))
