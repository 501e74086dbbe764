-- Laws of the definitions of specs/Lists.antt. In order: a turn of a loop that looks for a word; words moved, and past the end none;
-- what a find says; lengths; numbers in words and back (`numbers-entries`, `entries-numbers`); a number joins (`join_entries`); a number leaves
-- (`leave-entries`).
-- Not here: how often a number stands in a list (Counting.antt), the zeros behind a list (Padding.antt), and laws of `take`,
-- `drop`, `set`, `get_or` and `length` alone (`lib.Seq`, `lib.ListN`).
-- Lists and counts are explicit arguments, since each stands under a function that is stuck on it. Assumes nothing.
use Prim.Native.Nat.{◌+◌, ◌-◌, ◌<◌, ◌≤◌, min, pred, suc, suc-le-suc, zero, zero-le, ℕ}
use Rattle.lists.specs.Lists.{all_zero, entries, found_at, index_of, insert, insert_at, numbers, occ, packed, padded, place_in, place_of, remove_at, remove_first, shift_in, without}
use Rattle.std.proofs.Common.{None, Some, length-take-le}
use Rattle.std.proofs.lemmas.List.Recursion.{is_position_or_len}
use Rattle.std.specs.List.{position, position_or_len}
use Rattle.std.specs.Option.{unwrap_or}
use borrow.Author.Tests.{eq-eqb, ltb-false, ltb-true, ne_eqb}
use lib.Dec.{eqb, eqb-suc-suc, eqb-suc-zero, eqb-zero-suc, ltb}
use lib.ListN.{drop, get_or, length, length-map, replicate, set, take, take-append-drop}
use lib.Seq.{drop-cons, drop-length, drop-nil, take-length, take_all}
use mathlib.Core.Bool.{Bool, ◌||◌, cond, false, false≢true, true}
use mathlib.Core.List.{List, [], ◌++◌, ◌∷◌, append_assoc, append-nil, map}
use mathlib.Core.Path.{◌∙◌, ◌≡◌, ap, refl, sym}
use native.Mathlib.Nat.{le_of_suc-le-suc, not-suc-le-zero, suc-add, zero-add}
use native.Mathlib.Numerals.{one-add, sub-one}
use native.Mathlib.Omega.{arith}

-- ---- two steps of the proofs below: by cases on a test, with how it came out; and past an entry that both sides begin with

pub bool_case {ℓ} : {A : Type ℓ} (b : Bool) → (b ≡ true → A) → (b ≡ false → A) → A
bool_case true f g = f refl
bool_case false f g = g refl

cons : (x : ℕ) {xs ys : List ℕ} → xs ≡ ys → x ∷ xs ≡ x ∷ ys
cons x e = ap (λ (r : List ℕ). x ∷ r) e

-- ---- a turn of a loop that goes up: what is left of the list from place i on, by the word at i

module _ (l : List ℕ) (i : ℕ) (h : i < length l) where
  pub index_of_hit : (v : ℕ) → get_or l i 0 ≡ v → index_of v (drop i l) ≡ 0
  unfolding index_of
  index_of_hit v e = rw (drop-cons l i 0 h, eq-eqb (get_or l i 0) v e)

  pub index_of_miss : (v : ℕ) → (get_or l i 0 ≡ v → ⊥) → index_of v (drop i l) ≡ suc (index_of v (drop (suc i) l))
  unfolding index_of
  index_of_miss v n = rw (drop-cons l i 0 h, ne_eqb (get_or l i 0) v n)

-- ---- words moved by a place or more, as `copy_within` moves them, and past the end none

shift_in-take : (x : ℕ) (xs : List ℕ) → shift_in x xs ≡ take (length xs) (x ∷ xs)
unfolding shift_in
shift_in-take x [] = refl
shift_in-take x (y ∷ ys) = cons x (shift_in-take y ys)

-- the words from `at` on, one place further, and v at `at`
pub insert_at-moved : (l : List ℕ) (at m v : ℕ) → suc (at + m) ≡ length l → set (take (suc at) l ++ take m (drop at l)) at v ≡ insert_at at v l
unfolding insert_at shift_in
insert_at-moved [] at m v h = absurd (omega (arith, h))
insert_at-moved (x ∷ xs) zero m v h =
    let e : m ≡ length xs = omega (arith, h) in
    rw e (cons v (sym (shift_in-take x xs)))
insert_at-moved (x ∷ xs) (suc at) m v h = cons x (insert_at-moved xs at m v (omega (arith, h)))

pub insert_at-out : (l : List ℕ) (i v : ℕ) → length l ≤ i → insert_at i v l ≡ l
unfolding insert_at shift_in
insert_at-out [] zero v h = refl
insert_at-out [] (suc i) v h = refl
insert_at-out (x ∷ xs) zero v h = absurd (not-suc-le-zero h)
insert_at-out (x ∷ xs) (suc i) v h = cons x (insert_at-out xs i v (le_of_suc-le-suc h))

-- the words behind `at`, one place up, and a 0 last
pub remove_at-moved : (l : List ℕ) (at : ℕ) → at < length l → remove_at at l ≡ take at l ++ drop (suc at) l ++ 0 ∷ []
unfolding remove_at
remove_at-moved [] at h = absurd (omega (arith, h))
remove_at-moved (x ∷ xs) zero h = refl
remove_at-moved (x ∷ xs) (suc at) h = cons x (remove_at-moved xs at (omega (arith, h)))

pub remove_at-out : (l : List ℕ) (i : ℕ) → length l ≤ i → remove_at i l ≡ l
unfolding remove_at
remove_at-out [] i h = refl
remove_at-out (x ∷ xs) zero h = absurd (not-suc-le-zero h)
remove_at-out (x ∷ xs) (suc i) h = cons x (remove_at-out xs i (le_of_suc-le-suc h))

-- the words of a first part go, and as many zeros come behind the rest
pub remove_first-row : (n : ℕ) (xs ys : List ℕ) → length xs ≡ n → remove_first n (xs ++ ys) ≡ ys ++ replicate n 0
unfolding remove_at remove_first
remove_first-row zero [] ys h = sym (append-nil ys)
remove_first-row zero (x ∷ xs) ys h = absurd (omega (arith, h))
remove_first-row (suc n) [] ys h = absurd (omega (arith, h))
remove_first-row (suc n) (x ∷ xs) ys h =
    ap (remove_first n) (append_assoc xs ys (0 ∷ []))
    ∙ remove_first-row n xs (ys ++ 0 ∷ []) (omega (arith, h))
    ∙ append_assoc ys (0 ∷ []) (replicate n 0)

-- of zeros, any number of words may go: they stay zeros
remove_first-past : (m n : ℕ) → remove_first m (replicate n 0) ≡ replicate n 0
unfolding remove_at remove_first
remove_first-past zero n = refl
remove_first-past (suc m) zero = remove_first-past m zero
remove_first-past (suc m) (suc n) = rw (snoc n) (remove_first-past m (suc n))
  where
    snoc : (n : ℕ) → replicate n 0 ++ 0 ∷ [] ≡ replicate {A = ℕ} (suc n) 0
    snoc zero = refl
    snoc (suc n) = cons 0 (snoc n)

remove_first-again : (m n : ℕ) (l : List ℕ) → remove_first (m + n) l ≡ remove_first n (remove_first m l)
unfolding remove_first
remove_first-again zero n l = rw (zero-add n)
remove_first-again (suc m) n l = rw (suc-add m n) (remove_first-again m n (remove_at 0 l))

pub remove_first-is : (n k : ℕ) (l : List ℕ) → k ≡ min n (length l) → remove_first n l ≡ drop k l ++ replicate k 0
remove_first-is n k l e =
    bool_case (ltb n (length l))
    (λ b. let same : k ≡ n = omega (arith, ltb-true n (length l) b) in rw same (within n (omega (arith, ltb-true n (length l) b))))
    (λ b. let all : k ≡ length l = omega (arith, ltb-false n (length l) b) in rw all (past (omega (arith, ltb-false n (length l) b))))
  where
    within : (n : ℕ) → n ≤ length l → remove_first n l ≡ drop n l ++ replicate n 0
    within n h = rw (take-append-drop n l) at (remove_first-row n (take n l) (drop n l) (length-take-le n l h))

    past : length l ≤ n → remove_first n l ≡ drop (length l) l ++ replicate (length l) 0
    past h =
        let split : n ≡ length l + (n - length l) = omega arith in
        let none = drop-length l in
        rw none (ap (λ (m : ℕ). remove_first m l) split
        ∙ remove_first-again (length l) (n - length l) l
        ∙ ap (remove_first (n - length l)) (rw none at (within (length l) (omega arith)))
        ∙ remove_first-past (n - length l) (length l))

-- ---- what a find says, for whoever takes its answer apart

pub found_at-is : (v : ℕ) (l : List ℕ) → found_at v l ≡ cond (ltb (index_of v l) (length l)) (Some (index_of v l)) None
unfolding index_of
found_at-is v l = rw (is_position_or_len (index_of v) (λ x. eqb x v) refl (λ x xs. simp one-add) l)

pub found_here : (v : ℕ) (l : List ℕ) (k : ℕ) → Some k ≡ found_at v l → k ≡ index_of v l
found_here v l k q =
    bool_case (ltb (index_of v l) (length l))
    (λ b. let r : Some k ≡ Some (index_of v l) = rw b at (q ∙ found_at-is v l) in cc)
    (λ b. let r : Some k ≡ None = rw b at (q ∙ found_at-is v l) in cc)

pub found_nowhere : (v : ℕ) (l : List ℕ) → None ≡ found_at v l → length l ≤ index_of v l
found_nowhere v l q =
    bool_case (ltb (index_of v l) (length l))
    (λ b. let r : None ≡ Some (index_of v l) = rw b at (q ∙ found_at-is v l) in let z : ◌≡◌ {A = ℕ} 0 1 = cc in absurd (omega arith))
    (ltb-false (index_of v l) (length l))

-- ---- lengths: what a caller owes of a part of the table that it lends, and what the limits of the paper ask of a list

pub length-padded : (n : ℕ) (xs : List ℕ) → length (padded n xs) ≡ n
unfolding padded
length-padded zero xs = refl
length-padded (suc n) [] = ap suc (length-padded n [])
length-padded (suc n) (x ∷ xs) = ap suc (length-padded n xs)

-- an entry is a number plus 1, so what holds of padded lists holds of lists of entries
entries-padded : (n : ℕ) (xs : List ℕ) → entries n xs ≡ padded n (map suc xs)
unfolding entries padded
entries-padded zero xs = refl
entries-padded (suc n) [] = cons 0 (entries-padded n [])
entries-padded (suc n) (x ∷ xs) = cons (suc x) (entries-padded n xs)

pub length-entries : (n : ℕ) (xs : List ℕ) → length (entries n xs) ≡ n
length-entries n xs = ap length (entries-padded n xs) ∙ length-padded n (map suc xs)

pub length-numbers : (l : List ℕ) → length (numbers l) ≤ length l
unfolding numbers
length-numbers [] = zero-le
length-numbers (x ∷ xs) = bool_case (eqb x 0) (λ b. rw b zero-le) (λ b. rw b (suc-le-suc (length-numbers xs)))

-- ---- numbers in words, and back: the table as it is read and as it is written

-- where there are more than n, the first n
numbers-take : (n : ℕ) (xs : List ℕ) → numbers (entries n xs) ≡ take n xs
unfolding entries numbers
numbers-take zero xs = refl
numbers-take (suc n) [] = refl
numbers-take (suc n) (x ∷ xs) = rw (eqb-suc-zero x) (cons x (numbers-take n xs))

pub numbers-entries : (n : ℕ) (xs : List ℕ) → length xs ≤ n → numbers (entries n xs) ≡ xs
numbers-entries n xs h = numbers-take n xs ∙ take_all n xs h

pub entries-numbers : (l : List ℕ) → packed l ≡ true → entries (length l) (numbers l) ≡ l
unfolding all_zero entries numbers packed
entries-numbers [] e = refl
entries-numbers (zero ∷ xs) e = cons 0 (entries-zero xs e)
  where
    entries-zero : (l : List ℕ) → all_zero l ≡ true → entries (length l) [] ≡ l
    entries-zero [] e = refl
    entries-zero (zero ∷ xs) e = cons 0 (entries-zero xs e)
    entries-zero (suc x ∷ xs) e = absurd (false≢true (rw (eqb-suc-zero x) at e))
entries-numbers (suc x ∷ xs) e = rw (eqb-suc-zero x) (cons (suc x) (entries-numbers xs (rw (eqb-suc-zero x) at e)))

-- ---- a list of numbers from place k on, by the word there

-- a 0: the list has ended
pub entries_none : (n : ℕ) (xs : List ℕ) (k : ℕ) → k < n → get_or (entries n xs) k 0 ≡ 0 → drop k xs ≡ []
unfolding entries
entries_none zero xs k h e = absurd (not-suc-le-zero h)
entries_none (suc n) [] k h e = drop-nil k
entries_none (suc n) (x ∷ xs) zero h e = absurd (omega (arith, e))
entries_none (suc n) (x ∷ xs) (suc k) h e = entries_none n xs k (le_of_suc-le-suc h) e

-- any other word is an entry
pub entries-some : (n : ℕ) (xs : List ℕ) (k i : ℕ) → k < n → get_or (entries n xs) k 0 ≡ suc i → drop k xs ≡ i ∷ drop (suc k) xs
unfolding entries
entries-some zero xs k i h e = absurd (not-suc-le-zero h)
entries-some (suc n) [] zero i h e = absurd (omega (arith, e))
entries-some (suc n) [] (suc k) i h e = drop-nil (suc k) ∙ sym (drop-nil k) ∙ entries-some n [] k i (le_of_suc-le-suc h) e
entries-some (suc n) (x ∷ xs) zero i h e = ap (λ (j : ℕ). j ∷ xs) (ap pred e)
entries-some (suc n) (x ∷ xs) (suc k) i h e = entries-some n xs k i (le_of_suc-le-suc h) e

-- no place among n words is past them
pub place_most : (ks : List ℕ) (p n : ℕ) (l : List ℕ) → place_in ks p (take n l) ≤ n
unfolding place_in
place_most ks p zero l = zero-le
place_most ks p (suc n) [] = zero-le
place_most ks p (suc n) (e ∷ es) =
    bool_case (eqb e 0)
    (λ b. rw b zero-le)
    (λ b. bool_case (ltb p (get_or ks (pred e) 0)) (λ d. rw (b, d) zero-le) (λ d. rw (b, d) (suc-le-suc (place_most ks p n es))))

-- what a search for the first word that is no entry, or whose key is less urgent, comes to
pub place_in-position : (ks : List ℕ) (p : ℕ) (l : List ℕ)
    → unwrap_or (position (λ e. eqb e 0 || ltb p (get_or ks (e - 1) 0)) l) (length l) ≡ place_in ks p l
unfolding place_in
place_in-position ks p l =
    let test : ℕ → Bool = λ e. eqb e 0 || ltb p (get_or ks (e - 1) 0) in
    let first : place_in ks p l ≡ position_or_len test l = is_position_or_len (place_in ks p) test refl step l in
    bool_case (ltb (position_or_len test l) (length l))
    (λ b. rw (b, first))
    (λ b. rw b (omega (arith, first, ltb-false (position_or_len test l) (length l) b, rw take-length at (place_most ks p (length l) l))))
  where
    step : (e : ℕ) (es : List ℕ) → place_in ks p (e ∷ es) ≡ cond (eqb e 0 || ltb p (get_or ks (e - 1) 0)) 0 (1 + place_in ks p es)
    step e es =
        rw (sub-one, one-add) (bool_case (eqb e 0) (λ b. rw b) (λ b. rw b))

-- ---- a number joins: what `place` and `join` say of a list of words is `place_of` and `insert` of its numbers

module _ (ks : List ℕ) where
  -- where there are more than n, among the first n
  pub place-take : (p n : ℕ) (xs : List ℕ) → place_in ks p (entries n xs) ≡ place_of (λ j. get_or ks j 0) p (take n xs)
  unfolding entries place_in place_of
  place-take p zero xs = refl
  place-take p (suc n) [] = refl
  place-take p (suc n) (x ∷ xs) = rw (eqb-suc-zero x, place-take p n xs)

  pub place-entries : (p n : ℕ) (xs : List ℕ) → length xs ≤ n → place_in ks p (entries n xs) ≡ place_of (λ j. get_or ks j 0) p xs
  place-entries p n xs h = place-take p n xs ∙ ap (place_of (λ j. get_or ks j 0) p) (take_all n xs h)

shift_in-entries : (n x : ℕ) (xs : List ℕ) → shift_in (suc x) (entries n xs) ≡ entries n (x ∷ xs)
unfolding entries shift_in
shift_in-entries zero x xs = refl
shift_in-entries (suc n) x [] = cons (suc x) (shift_in-zero n)
  where
    shift_in-zero : (n : ℕ) → shift_in 0 (entries n []) ≡ entries n []
    shift_in-zero zero = refl
    shift_in-zero (suc n) = cons 0 (shift_in-zero n)
shift_in-entries (suc n) x (y ∷ ys) = cons (suc x) (shift_in-entries n y ys)

-- where the list is full, the last entry falls out on both sides
pub join_entries : (ks : List ℕ) (i n : ℕ) (xs : List ℕ)
    → insert_at (place_in ks (get_or ks i 0) (entries n xs)) (suc i) (entries n xs) ≡ entries n (insert (λ j. get_or ks j 0) i xs)
unfolding entries insert insert_at place_in shift_in
join_entries ks i zero xs = refl
join_entries ks i (suc n) [] = shift_in-entries (suc n) i []
join_entries ks i (suc n) (x ∷ xs) =
    rw
    (eqb-suc-zero x)
    (bool_case (ltb (get_or ks i 0) (get_or ks x 0))
    (λ b. rw b (shift_in-entries (suc n) i (x ∷ xs)))
    (λ b. rw b (cons (suc x) (join_entries ks i n xs))))

-- what the place of a number that joins is: as many stand before it
pub insert-place : (key : ℕ → ℕ) (t : ℕ) (xs : List ℕ)
    → insert key t xs ≡ take (place_of key (key t) xs) xs ++ t ∷ drop (place_of key (key t) xs) xs
unfolding insert place_of
insert-place key t [] = refl
insert-place key t (x ∷ xs) =
    bool_case (ltb (key t) (key x)) (λ b. rw b) (λ b. rw b (cons x (insert-place key t xs)))

-- ---- a number leaves: what `leave` says of a list of words is `without` of its numbers, where it stands there once at most

pub without-none : (t : ℕ) (xs : List ℕ) → occ t xs ≡ 0 → without t xs ≡ xs
unfolding occ without
without-none t [] e = refl
without-none t (x ∷ xs) e =
    bool_case (eqb x t)
    (λ b. absurd (omega (arith, rw b at e)))
    (λ b. rw b (cons x (without-none t xs (omega (arith, rw b at e)))))

padded_snoc : (n : ℕ) (xs : List ℕ) → length xs ≤ n → padded n xs ++ 0 ∷ [] ≡ padded (suc n) xs
unfolding padded
padded_snoc zero [] h = refl
padded_snoc zero (x ∷ xs) h = absurd (not-suc-le-zero h)
padded_snoc (suc n) [] h = cons 0 (padded_snoc n [] zero-le)
padded_snoc (suc n) (x ∷ xs) h = cons x (padded_snoc n xs (le_of_suc-le-suc h))

entries_snoc : (n : ℕ) (xs : List ℕ) → length xs ≤ n → entries n xs ++ 0 ∷ [] ≡ entries (suc n) xs
entries_snoc n xs h = simp entries-padded (padded_snoc n (map suc xs) (rw length-map h))

pub leave-entries : (i n : ℕ) (xs : List ℕ) → length xs ≤ n → occ i xs ≤ 1
    → remove_at (index_of (suc i) (entries n xs)) (entries n xs) ≡ entries n (without i xs)
unfolding entries index_of occ remove_at without
leave-entries i zero xs h o = refl
leave-entries i (suc n) [] h o = rw (eqb-zero-suc i) (cons 0 (leave-entries i n [] zero-le o))
leave-entries i (suc n) (x ∷ xs) h o =
    rw
    (eqb-suc-suc x i)
    (bool_case (eqb x i)
    (λ b. rw (b, without-none i xs (omega (arith, rw b at o))) (entries_snoc n xs (le_of_suc-le-suc h)))
    (λ b. rw b (cons (suc x) (leave-entries i n xs (le_of_suc-le-suc h) (omega (arith, rw b at o))))))
