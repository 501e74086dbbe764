-- Laws of what stands behind a list in its words. In order: nothing but zeros, as words and as no numbers; a packed list.
-- Not here: what joining and leaving do to such a list (Laws.antt). Assumes nothing.
use Prim.Native.Nat.{◌+◌, ◌<◌, suc, zero, ℕ}
use Rattle.lists.proofs.Laws.{bool_case}
use Rattle.lists.specs.Lists.{all_zero, entries, numbers, packed}
use borrow.Author.Tests.{eq-eqb}
use lib.Dec.{eqb, eqb-suc-zero}
use lib.ListN.{drop, get_or, length, replicate, take}
use lib.Seq.{get_or-drop, get_or-take}
use mathlib.Core.Bool.{false≢true, true}
use mathlib.Core.List.{List, [], ◌∷◌}
use mathlib.Core.Path.{◌∙◌, ◌≡◌, ap, refl, sym}

pub all_zero-replicate : (n : ℕ) → all_zero (replicate n 0) ≡ true
unfolding all_zero
all_zero-replicate zero = refl
all_zero-replicate (suc n) = all_zero-replicate n

pub replicate-all_zero : (l : List ℕ) → all_zero l ≡ true → l ≡ replicate (length l) 0
unfolding all_zero
replicate-all_zero [] e = refl
replicate-all_zero (zero ∷ xs) e = ap {B = List ℕ} (λ r. 0 ∷ r) (replicate-all_zero xs e)
replicate-all_zero (suc x ∷ xs) e = absurd (false≢true (rw (eqb-suc-zero x) at e))

pub all_zero-at : (l : List ℕ) (j : ℕ) → all_zero l ≡ true → get_or l j 0 ≡ 0
unfolding all_zero
all_zero-at [] j e = refl
all_zero-at (zero ∷ xs) zero e = refl
all_zero-at (zero ∷ xs) (suc j) e = all_zero-at xs j e
all_zero-at (suc x ∷ xs) j e = absurd (false≢true (rw (eqb-suc-zero x) at e))

-- a word of a part that is all zeros
pub zero-at : (t : List ℕ) (a n j : ℕ) → j < n → all_zero (take n (drop a t)) ≡ true → get_or t (a + j) 0 ≡ 0
zero-at t a n j h e = sym (get_or-drop a t j 0) ∙ sym (get_or-take n (drop a t) j 0 h) ∙ all_zero-at (take n (drop a t)) j e

pub all_zero-packed : (l : List ℕ) → all_zero l ≡ true → packed l ≡ true
unfolding all_zero packed
all_zero-packed [] e = refl
all_zero-packed (x ∷ xs) e = bool_case (eqb x 0) (λ b. rw b (rw b at e)) (λ b. absurd (false≢true (rw b at e)))

pub all_zero-numbers : (l : List ℕ) → all_zero l ≡ true → numbers l ≡ []
unfolding all_zero numbers
all_zero-numbers [] e = refl
all_zero-numbers (x ∷ xs) e = bool_case (eqb x 0) (λ b. rw b) (λ b. absurd (false≢true (rw b at e)))

pub zeros-packed : (l : List ℕ) → get_or l 0 0 ≡ 0 → packed l ≡ all_zero l
unfolding all_zero packed
zeros-packed [] e = refl
zeros-packed (x ∷ xs) e = rw (eq-eqb x 0 e)

pub packed_tail : (x : ℕ) (xs : List ℕ) → packed (x ∷ xs) ≡ true → packed xs ≡ true
unfolding packed
packed_tail x xs e = bool_case (eqb x 0) (λ b. all_zero-packed xs (rw b at e)) (λ b. rw b at e)

pub packed-entries : (n : ℕ) (xs : List ℕ) → packed (entries n xs) ≡ true
unfolding all_zero entries packed
packed-entries zero xs = refl
packed-entries (suc n) [] = all_zero-entries n
  where
    all_zero-entries : (n : ℕ) → all_zero (entries n []) ≡ true
    all_zero-entries zero = refl
    all_zero-entries (suc n) = all_zero-entries n
packed-entries (suc n) (x ∷ xs) = rw (eqb-suc-zero x) (packed-entries n xs)
