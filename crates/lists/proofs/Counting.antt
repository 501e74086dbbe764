-- How often a number stands in a list. In order: an entry by itself; a number joins, a number leaves; the numbers behind a
-- place; a list in which each number stands at most once, and only numbers below T, has at most T entries; an entry replaced; a
-- number that stands in a list, and its first place; lists in which each number stands as often.
-- Not here: the same list in words (Laws.antt). Assumes nothing.
use Prim.Native.Nat.{◌+◌, ◌<◌, ◌≤◌, suc, zero, ℕ}
use Rattle.lists.proofs.Laws.{bool_case}
use Rattle.lists.specs.Lists.{bit, index_of, insert, occ, without}
use borrow.Author.Tests.{eq-eqb, eqb-false, eqb-true, ne_eqb}
use lib.Dec.{eqb, ltb}
use lib.ListN.{drop, get_or, length, replicate, set}
use mathlib.Core.Bool.{cond}
use mathlib.Core.List.{List, [], ◌++◌, ◌∷◌}
use mathlib.Core.Logic.{◌≢◌}
use mathlib.Core.Path.{◌∙◌, ◌≡◌, refl, sym}
use native.Mathlib.Nat.{zero-add}
use native.Mathlib.Omega.{arith}

pub occ_here : (i : ℕ) (l : List ℕ) → 1 ≤ occ i (i ∷ l)
unfolding occ
occ_here i l = rw (eq-eqb i i refl) (omega arith)

pub occ_tail : (i x : ℕ) (l : List ℕ) → x ≢ i → 1 ≤ occ i (x ∷ l) → 1 ≤ occ i l
unfolding occ
occ_tail i x l n h = let k : 1 ≤ 0 + occ i l = rw (ne_eqb x i n) at h in omega arith

pub occ-insert : (key : ℕ → ℕ) (t i : ℕ) (xs : List ℕ) → occ i (insert key t xs) ≡ bit (eqb t i) + occ i xs
unfolding insert occ
occ-insert key t i [] = refl
occ-insert key t i (x ∷ xs) = bool_case (ltb (key t) (key x)) (λ b. rw b) (λ b. rw b (omega (arith, occ-insert key t i xs)))

pub occ-without : (t i : ℕ) (xs : List ℕ) → occ i (without t xs) ≡ cond (eqb t i) 0 (occ i xs)
unfolding occ without
occ-without t i [] = bool_case (eqb t i) (λ b. rw b) (λ b. rw b)
occ-without t i (x ∷ xs) =
    bool_case (eqb x t)
    (λ b. rw (b, occ-without t i xs, eqb-true x t b)
    (bool_case (eqb t i) (λ d. rw d) (λ d. rw d (sym (zero-add (occ i xs))))))
    (λ b. rw (b, occ-without t i xs)
    (bool_case (eqb t i) (λ d. rw (d, ne_eqb x i (λ e. eqb-false x t b (e ∙ sym (eqb-true t i d))))) (λ d. rw d)))

-- no number stands in a part more often
pub occ-drop : (i k : ℕ) (xs : List ℕ) → occ i (drop k xs) ≤ occ i xs
unfolding occ
occ-drop i zero xs = omega arith
occ-drop i (suc k) [] = omega arith
occ-drop i (suc k) (x ∷ xs) = omega (arith, occ-drop i k xs)

-- all of a number's occurrences taken out are as many as they were
pub length_without : (t : ℕ) (l : List ℕ) → length l ≡ occ t l + length (without t l)
unfolding occ without
length_without t [] = refl
length_without t (x ∷ xs) = bool_case (eqb x t) (λ b. rw b (omega (arith, length_without t xs))) (λ b. rw b (omega (arith, length_without t xs)))

pub length_below : (T : ℕ) (l : List ℕ) → ((i : ℕ) → occ i l ≤ 1) → ((i : ℕ) → 1 ≤ occ i l → i < T) → length l ≤ T
length_below zero [] once below = omega arith
length_below zero (x ∷ xs) once below = absurd (omega (arith, below x (occ_here x xs)))
length_below (suc T) l once below =
    omega (arith, once T, length_without T l, length_below T (without T l) less under)
  where
    kept : (i : ℕ) → occ i (without T l) ≤ occ i l
    kept i = bool_case (eqb T i) (λ b. omega (arith, rw b at (occ-without T i l))) (λ b. omega (arith, rw b at (occ-without T i l)))

    less : (i : ℕ) → occ i (without T l) ≤ 1
    less i = omega (arith, kept i, once i)

    under : (i : ℕ) → 1 ≤ occ i (without T l) → i < T
    under i h =
        bool_case (eqb T i)
        (λ b. absurd (omega (arith, rw b at (occ-without T i l))))
        (λ b. let n : T ≡ i → ⊥ = eqb-false T i b in omega (arith, kept i, below i (omega (arith, kept i))))

-- ---- lists put together, and an entry replaced

pub occ_most : (i : ℕ) (l : List ℕ) → occ i l ≤ length l
occ_most i l = omega (arith, length_without i l)

pub occ_append : (i : ℕ) (xs ys : List ℕ) → occ i (xs ++ ys) ≡ occ i xs + occ i ys
unfolding occ
occ_append i [] ys = sym (zero-add (occ i ys))
occ_append i (x ∷ xs) ys = omega (arith, occ_append i xs ys)

pub occ-replicate : (i n : ℕ) → occ i (replicate n i) ≡ n
unfolding occ
occ-replicate i zero = refl
occ-replicate i (suc n) = rw (eq-eqb i i refl) (omega (arith, occ-replicate i n))

pub occ-set : (i v : ℕ) (l : List ℕ) (b : ℕ) → b < length l → occ i (set l b v) + bit (eqb (get_or l b 0) i) ≡ occ i l + bit (eqb v i)
unfolding occ
occ-set i v [] b h = absurd (omega arith)
occ-set i v (x ∷ xs) zero h = omega arith
occ-set i v (x ∷ xs) (suc b) h = omega (arith, occ-set i v xs b (omega arith))

-- ---- a number that stands in a list: where it stands first

pub occ-at : (v : ℕ) (l : List ℕ) (b : ℕ) → b < length l → get_or l b 0 ≡ v → 1 ≤ occ v l
unfolding occ
occ-at v [] b h e = absurd (omega arith)
occ-at v (x ∷ xs) zero h e = rw (eq-eqb x v e) (omega arith)
occ-at v (x ∷ xs) (suc b) h e = omega (arith, occ-at v xs b (omega arith) e)

pub first_in : (v : ℕ) (l : List ℕ) → 1 ≤ occ v l → index_of v l < length l
unfolding index_of occ
first_in v [] h = absurd (omega arith)
first_in v (x ∷ xs) h =
    bool_case (eqb x v)
    (λ b. rw b (omega arith))
    (λ b. rw b (let k : 1 ≤ 0 + occ v xs = rw b at h in omega (arith, first_in v xs (omega arith))))

pub first_is : (v : ℕ) (l : List ℕ) → 1 ≤ occ v l → get_or l (index_of v l) 0 ≡ v
unfolding index_of occ
first_is v [] h = absurd (omega arith)
first_is v (x ∷ xs) h =
    bool_case (eqb x v)
    (λ b. rw b (eqb-true x v b))
    (λ b. rw b (let k : 1 ≤ 0 + occ v xs = rw b at h in first_is v xs (omega arith)))

pub before_first : (v : ℕ) (l : List ℕ) (j : ℕ) → j < index_of v l → get_or l j 0 ≢ v
unfolding index_of
before_first v [] j h = absurd (omega arith)
before_first v (x ∷ xs) j h =
    bool_case (eqb x v)
    (λ b. absurd (let k : j < 0 = rw b at h in omega arith))
    (λ b. let k : j < suc (index_of v xs) = rw b at h in there j k (eqb-false x v b) (λ i. before_first v xs i))
  where
    there : (j : ℕ) → j < suc (index_of v xs) → x ≢ v → ((i : ℕ) → i < index_of v xs → get_or xs i 0 ≢ v) → get_or (x ∷ xs) j 0 ≢ v
    there zero k n f = n
    there (suc j) k n f = f j (omega arith)

-- ---- lists in which each number stands as often are of one length

none-stands : (ys : List ℕ) → ((i : ℕ) → occ i ys ≡ 0) → length ys ≡ 0
none-stands [] e = refl
none-stands (y ∷ ys) e = absurd (omega (arith, e y, occ_here y ys))

-- by one entry, where it holds of shorter lists
same_step : (n : ℕ) (xs ys : List ℕ) → length xs ≤ suc n → ((i : ℕ) → occ i xs ≡ occ i ys)
    → ((ps qs : List ℕ) → length ps ≤ n → ((i : ℕ) → occ i ps ≡ occ i qs) → length ps ≡ length qs) → length xs ≡ length ys
unfolding occ
same_step n [] ys h e rest = sym (none-stands ys (λ i. sym (e i)))
same_step n (x ∷ xs) ys h e rest =
    let shorter : length (without x (x ∷ xs)) ≤ n = omega (arith, occ_here x xs, length_without x (x ∷ xs)) in
    let same = rest (without x (x ∷ xs)) (without x ys) shorter (λ i. occ-without x i (x ∷ xs) ∙ rw (e i) (sym (occ-without x i ys))) in
    omega (arith, e x, length_without x (x ∷ xs), length_without x ys, same)

same_most : (n : ℕ) (xs ys : List ℕ) → length xs ≤ n → ((i : ℕ) → occ i xs ≡ occ i ys) → length xs ≡ length ys
same_most zero xs ys h e = none xs h e
  where
    none : (xs : List ℕ) → length xs ≤ 0 → ((i : ℕ) → occ i xs ≡ occ i ys) → length xs ≡ length ys
    none [] h e = sym (none-stands ys (λ i. unfold occ in sym (e i)))
    none (x ∷ xs) h e = absurd (omega arith)
same_most (suc n) xs ys h e = same_step n xs ys h e (same_most n)

pub same_length : (xs ys : List ℕ) → ((i : ℕ) → occ i xs ≡ occ i ys) → length xs ≡ length ys
same_length xs ys e = same_most (length xs) xs ys (omega arith) e
