-- What a store holds, message by message, and its text. In order: the words of a FIFO from word k on; the blocks of a Memory hub from
-- block b on.
-- Not here: how a text is put (crate texts, Putting.antt). Assumes nothing.
use Prim.Native.Nat.{◌*◌, ◌+◌, ◌-◌, ◌<◌, ◌≤◌, pred, suc, ℕ}
use Rattle.hubtexts.specs.Cells.{block_text, blocks_from, blocks_text, held_from, none_text, word_text, words_from, words_text}
use Rattle.messages.specs.Messages.{message_at}
use Rattle.texts.specs.Texts.{bytes}
use borrow.Author.Tests.{eq-eqb, ne_eqb}
use mathlib.Core.List.{List, [], ◌++◌, append-nil}
use mathlib.Core.Path.{◌≡◌, refl}
use native.Mathlib.Nat.{add-zero, sub-zero, zero-mul}
use native.Mathlib.Numerals.{add-one}
use native.Mathlib.Omega.{arith}

-- the next message starts w words further
further : (w from k : ℕ) → from + k * w + w ≡ from + (k + 1) * w
further w from k = omega arith

-- ---- the words of a FIFO: n messages of w words each, the first at word `from`

module _ (w : ℕ) (t : List ℕ) (from n : ℕ) where
  abbrev pub words_left : ℕ → List ℕ
  words_left k = words_from k (held_from w t (from + k * w) (n - k))

  abbrev pub words_all : List ℕ
  words_all = words_text (held_from w t from n)

  pub words_empty : n ≡ 0 → bytes "empty" ≡ words_all
  unfolding held_from words_text
  words_empty e = rw e refl

  pub words_begin : (n ≡ 0 → ⊥) → words_left 0 ≡ words_all
  unfolding held_from words_text
  words_begin d = let e : n ≡ suc (pred n) = omega arith in rw (zero-mul, add-zero, sub-zero, e) refl

  pub words_turn : (k : ℕ) → k < n → words_left k ≡ word_text k (message_at w t (from + k * w)) ++ words_left (k + 1)
  unfolding held_from words_from
  words_turn k h =
      let e : n - k ≡ suc (n - (k + 1)) = omega arith in
      rw (e, further w from k, add-one k) refl

  pub words_end : (k : ℕ) → n ≤ k → words_left k ≡ []
  unfolding held_from words_from
  words_end k h = let e : n - k ≡ 0 = omega arith in rw e refl

-- ---- the blocks of a Memory hub that are out, by eight marks, the first at word `from`; k were named before block b

module _ (w : ℕ) (t : List ℕ) (from : ℕ) where
  abbrev pub blocks_left : ℕ → ℕ → List ℕ
  blocks_left k b = blocks_from k b (held_from w t (from + b * w) (8 - b))

  pub blocks_begin : blocks_left 0 0 ≡ blocks_text w t from
  blocks_begin = rw (zero-mul, add-zero) refl

  pub blocks_out : (k b : ℕ) → b < 8 → (message_at w t (from + b * w) ≡ 0 → ⊥) → blocks_left k b ≡ block_text k b ++ blocks_left (k + 1) (b + 1)
  unfolding blocks_from held_from
  blocks_out k b h d =
      let e : 8 - b ≡ suc (8 - (b + 1)) = omega arith in
      rw (e, ne_eqb (message_at w t (from + b * w)) 0 d, further w from b, add-one k, add-one b) refl

  pub blocks_in : (k b : ℕ) → b < 8 → message_at w t (from + b * w) ≡ 0 → blocks_left k b ≡ blocks_left k (b + 1)
  unfolding blocks_from held_from
  blocks_in k b h d =
      let e : 8 - b ≡ suc (8 - (b + 1)) = omega arith in
      rw (e, eq-eqb (message_at w t (from + b * w)) 0 d, further w from b, add-one b) refl

  pub blocks_end : (k b : ℕ) → 8 ≤ b → blocks_left k b ≡ none_text k ++ []
  unfolding blocks_from held_from
  blocks_end k b h = let e : 8 - b ≡ 0 = omega arith in rw (e, append-nil) refl
