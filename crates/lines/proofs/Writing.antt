-- The line of any numbers, number by number: what is left of it from a place on, and a turn of the loops that measure and
-- write it. Not here: putting a text into a buffer as such (Putting.antt). Assumes nothing.
use Prim.Native.Nat.{◌+◌, ◌<◌, ◌≤◌, suc, ℕ}
use Rattle.lines.proofs.Putting.{length-put, put_append}
use Rattle.lines.specs.Lines.{Put, decimal, joined, newline, printed, space, spaced}
use lib.ListN.{drop, drop_of_length-le, get_or, length, length-append, take-append-drop}
use lib.Seq.{drop-cons}
use mathlib.Core.List.{List, [], ◌++◌, ◌∷◌, append_assoc, append-nil}
use mathlib.Core.Path.{◌∙◌, ◌≡◌, ap, refl, sym}
use native.Mathlib.Nat.{add-zero}
use native.Mathlib.Numerals.{add-one}
use native.Mathlib.Omega.{arith}

-- what is left of a line, and the byte behind a number
unfoldable pub tail : List ℕ → List ℕ
tail [] = []
tail (x ∷ xs) = printed (x ∷ xs)

unfoldable pub behind : List ℕ → ℕ
behind [] = newline
behind (x ∷ xs) = space

tail_cons : (x : ℕ) (xs : List ℕ) → tail (x ∷ xs) ≡ (decimal x ++ behind xs ∷ []) ++ tail xs
unfolding behind joined printed spaced tail
tail_cons x [] = sym (append-nil (decimal x ++ newline ∷ []))
tail_cons x (y ∷ ys) = simp append_assoc

pub behind_last : (l : List ℕ) (k : ℕ) → k < length l → length l ≤ k + 1 → behind (drop (suc k) l) ≡ newline
unfolding behind
behind_last l k h f = let e : drop (suc k) l ≡ [] = drop_of_length-le l {i = suc k} (omega arith) in rw e

pub behind_more : (l : List ℕ) (k : ℕ) → k + 1 < length l → behind (drop (suc k) l) ≡ space
unfolding behind
behind_more l k h = let lt : suc k < length l = omega arith in rw (drop-cons l (suc k) 0 lt)

module _ (l : List ℕ) (k : ℕ) (h : k < length l) where
  pub tail_turn : tail (drop k l) ≡ (decimal (get_or l k 0) ++ behind (drop (suc k) l) ∷ []) ++ tail (drop (suc k) l)
  tail_turn = ap tail (drop-cons l k 0 h) ∙ tail_cons (get_or l k 0) (drop (suc k) l)

  -- a number and the byte behind it
  pub tail_length : length (tail (drop k l)) ≡ length (decimal (get_or l k 0)) + 1 + length (tail (drop (suc k) l))
  tail_length =
      ap length tail_turn
      ∙ length-append (decimal (get_or l k 0) ++ behind (drop (suc k) l) ∷ []) (tail (drop (suc k) l))
      ∙ omega (arith, length-append (decimal (get_or l k 0)) (behind (drop (suc k) l) ∷ []))

  pub tail_measured : (bytes digits whole : ℕ) → digits ≡ length (decimal (get_or l k 0)) → bytes + length (tail (drop k l)) ≡ whole
      → bytes + (digits + 1) + length (tail (drop (k + 1) l)) ≡ whole
  tail_measured bytes digits whole e w = rw (add-one k) (omega (arith, tail_length))

pub tail_whole : (l : List ℕ) → 1 ≤ length l → tail l ≡ printed l
unfolding tail
tail_whole [] h = absurd (omega arith)
tail_whole (x ∷ xs) h = refl

pub tail_none : (l : List ℕ) (k : ℕ) → length l ≤ k → tail (drop k l) ≡ []
unfolding tail
tail_none l k h = let e : drop k l ≡ [] = drop_of_length-le l {i = k} h in rw e

-- ---- a line being written: the text so far, and what is left

pub record Writing (ns before : List ℕ) (at : ℕ) (now : List ℕ) (end k : ℕ) : Type 0 where
  pub text : List ℕ
  pub put : Put before at text end now
  pub whole : text ++ tail (drop k ns) ≡ printed ns
  pub long : length now ≡ length before
  pub inside : k ≤ length ns

module _ (ns before : List ℕ) (at : ℕ) (some : 1 ≤ length ns) (room : at + length (printed ns) ≤ length before) where
  pub writing_begin : Writing ns before at before at 0
  writing_begin = record {
    text = [];
    put = record { place = omega arith; bytes = sym (rw (add-zero, append-nil) (take-append-drop at before)) };
    whole = tail_whole ns some;
    long = refl;
    inside = omega arith;
  }

  module _ (now : List ℕ) (end k : ℕ) (w : Writing ns before at now end k) where
    pub writing_room : k < length ns → end + length (decimal (get_or ns k 0)) < length now
    writing_room h =
        omega (arith, w.put.place, ap length w.whole, length-append w.text (tail (drop k ns)), tail_length ns k h, w.long)

    pub writing_turn : (h : k < length ns) (after last : ℕ) (next : List ℕ) → after ≡ behind (drop (suc k) ns)
        → Put now end (decimal (get_or ns k 0) ++ after ∷ []) last next → Writing ns before at next last (k + 1)
    writing_turn h after last next e q = record {
      text = w.text ++ (decimal (get_or ns k 0) ++ after ∷ []);
      put = put_append before at w.text end now w.put fits (decimal (get_or ns k 0) ++ after ∷ []) last next q;
      whole = rw (add-one, e) (append_assoc w.text _ _ ∙ ap (λ (r : List ℕ). w.text ++ r) (sym (tail_turn ns k h)) ∙ w.whole);
      long = length-put now end _ last next q here ∙ w.long;
      inside = omega arith;
    }
      where
        fits : at + length w.text ≤ length before
        fits = omega (arith, ap length w.whole, length-append w.text (tail (drop k ns)))

        here : end + length (decimal (get_or ns k 0) ++ after ∷ []) ≤ length now
        here = omega (arith, writing_room h, length-append (decimal (get_or ns k 0)) (after ∷ []))

    pub writing_end : length ns ≤ k → Put before at (printed ns) end now
    writing_end h = rw (← w.whole, tail_none ns k h, append-nil) w.put
