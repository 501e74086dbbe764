-- Rows of words: the words of each entry, as many as there are, then zeros. In order: a row written alike, no rows, an empty
-- row; the length of all; row i, and one row more, each as a cut; a word of a row; the first row gone; behind the rows in use,
-- zeros.
-- Not here: which rows a table has (Places.antt). Assumes nothing.
use Prim.Native.Nat.{◌*◌, ◌+◌, ◌-◌, ◌<◌, ◌≤◌, suc, zero, ℕ}
use Rattle.lists.proofs.Laws.{remove_first-row}
use Rattle.lists.proofs.Padding.{all_zero-at, all_zero-replicate}
use Rattle.lists.specs.Lists.{all_zero, remove_first}
use Rattle.rules.proofs.Cut.{Cut, cut_get, cut_here, cut_move, cut_part, cut_within}
use Rattle.rules.specs.Table.{rows}
use Rattle.rules.specs.WellFormed.{zero_from}
use lib.ListN.{drop, get_or, length, length-append, length-replicate, replicate, replicate-append-replicate, set}
use lib.Seq.{drop_at, get_or-append-add, set-get_or}
use mathlib.Core.Bool.{true}
use mathlib.Core.List.{List, [], ◌++◌, ◌∷◌, append_assoc, append-nil}
use mathlib.Core.Option.{Option, none, some}
use mathlib.Core.Path.{◌∙◌, ◌≡◌, ap, refl, sym}
use native.Mathlib.Nat.{add-mul, add-sub_of_le, le_of_suc-le-suc, not-suc-le-zero, sub-zero, suc-mul, zero-mul}
use native.Mathlib.Omega.{arith}

-- a row that is written alike leaves the rows alike
pub rows_same : {A : Type 0} (w : ℕ) (f : A → List ℕ) (n : ℕ) (xs : List A) (i : ℕ) (y z : A) → f y ≡ f z → rows w f n (set xs i y) ≡ rows w f n (set xs i z)
unfolding rows
rows_same w f zero xs i y z e = refl
rows_same w f (suc n) [] i y z e = refl
rows_same w f (suc n) (x ∷ xs) zero y z e = rw e
rows_same w f (suc n) (x ∷ xs) (suc i) y z e = rw (rows_same w f n xs i y z e)

pub rows_none : {A : Type 0} (w : ℕ) (f : A → List ℕ) (n : ℕ) → rows w f n [] ≡ replicate (n * w) 0
unfolding rows
rows_none w f zero = rw zero-mul
rows_none w f (suc n) =
    let e : w + n * w ≡ suc n * w = omega (arith, suc-mul n w) in
    rw
    (← e, ← replicate-append-replicate {A = ℕ} w (n * w) 0)
    (ap (λ (r : List ℕ). replicate w 0 ++ r) (rows_none w f n))

-- an entry written as zeros is as none
pub rows_empty : {A : Type 0} (w : ℕ) (f : A → List ℕ) (n : ℕ) (xs : List A) (y : A) → f y ≡ replicate w 0 → rows w f n (xs ++ y ∷ []) ≡ rows w f n xs
unfolding rows
rows_empty w f zero xs y e = refl
rows_empty w f (suc n) [] y e = rw e
rows_empty w f (suc n) (x ∷ xs) y e = rw (rows_empty w f n xs y e)

-- a word of nothing but zeros
no_word : (n j : ℕ) → get_or (replicate {A = ℕ} n 0) j 0 ≡ 0
no_word n j = all_zero-at (replicate n 0) j (all_zero-replicate n)

-- nothing but entries written as zeros
pub rows-zeros : {A : Type 0} (w : ℕ) (f : A → List ℕ) (y : A) → f y ≡ replicate w 0 → (n m : ℕ) → rows w f n (replicate m y) ≡ replicate (n * w) 0
unfolding rows
rows-zeros w f y e zero m = rw zero-mul
rows-zeros w f y e (suc n) zero = rows_none w f (suc n)
rows-zeros w f y e (suc n) (suc m) = rw (e, rows-zeros w f y e n m) (sym (ap (λ (r : List ℕ). replicate w 0 ++ r) (rows_none w f n)) ∙ rows_none w f (suc n))

-- the entries, and one more or none
abbrev pub more : {A : Type 0} → List A → Option A → List A
more xs none = xs
more xs (some y) = xs ++ y ∷ []

abbrev pub row_of : {A : Type 0} → ℕ → (A → List ℕ) → Option A → List ℕ
row_of w f none = replicate w 0
row_of w f (some y) = f y

module _ {A : Type 0} (w : ℕ) (f : A → List ℕ) (wide : (a : A) → length (f a) ≡ w) where
  pub length-rows : (n : ℕ) (xs : List A) → length (rows w f n xs) ≡ n * w
  unfolding rows
  length-rows zero xs = sym (zero-mul w)
  length-rows (suc n) [] =
      rw
      (length-append (replicate w 0) (rows w f n []), length-replicate {A = ℕ} w 0, length-rows n [], suc-mul n w)
      (omega arith)
  length-rows (suc n) (x ∷ xs) =
      rw (length-append (f x) (rows w f n xs), wide x, length-rows n xs, suc-mul n w) (omega arith)

  -- row i, whatever stands in it
  pub cut_row : (n : ℕ) (xs : List A) (i : ℕ) → i < n → i < length xs → Cut (λ (y : A). rows w f n (set xs i y)) f (i * w)
  unfolding rows
  cut_row n [] i hn hx = absurd (not-suc-le-zero hx)
  cut_row zero (x ∷ xs) i hn hx = absurd (not-suc-le-zero hn)
  cut_row (suc n) (x ∷ xs) zero hn hx = cut_here [] (rows w f n xs) (0 * w) (sym (zero-mul w)) (λ y. refl)
  cut_row (suc n) (x ∷ xs) (suc i) hn hx =
      cut_move
      (cut_within (f x) [] w (i * w) (wide x) (λ y. rw append-nil) (cut_row n xs i (le_of_suc-le-suc hn) (le_of_suc-le-suc hx)))
      (omega (arith, suc-mul i w))

  -- the row behind those in use: zeros, or one more entry
  pub cut_next : (n : ℕ) (xs : List A) → length xs < n → Cut (λ (o : Option A). rows w f n (more xs o)) (row_of w f) (length xs * w)
  unfolding rows
  cut_next zero xs h = absurd (not-suc-le-zero h)
  cut_next (suc n) [] h = cut_here [] (rows w f n []) (0 * w) (sym (zero-mul w)) first
    where
      first : (o : Option A) → rows w f (suc n) (more [] o) ≡ row_of w f o ++ rows w f n []
      first none = refl
      first (some y) = refl
  cut_next (suc n) (x ∷ xs) h =
      cut_move
      (cut_within (f x) [] w (length xs * w) (wide x) next (cut_next n xs (le_of_suc-le-suc h)))
      (omega (arith, suc-mul (length xs) w))
    where
      next : (o : Option A) → rows w f (suc n) (more (x ∷ xs) o) ≡ f x ++ (rows w f n (more xs o) ++ [])
      next none = rw append-nil
      next (some y) = rw append-nil

  -- a word of row i
  pub row_word : (n : ℕ) (xs : List A) (i k : ℕ) (d : A) → i < n → i < length xs → k < w → get_or (rows w f n xs) (i * w + k) 0 ≡ get_or (f (get_or xs i d)) k 0
  row_word n xs i k d hn hx hk =
      ap (λ (l : List A). get_or (rows w f n l) (i * w + k) 0) (sym (set-get_or xs i d))
      ∙ cut_get (cut_row n xs i hn hx) (get_or xs i d) k (rw (wide (get_or xs i d)) hk)

  -- in use or not, where d is written as zeros
  pub row_any : (d : A) → f d ≡ replicate w 0 → (n : ℕ) (xs : List A) (i k : ℕ) → i < n → k < w → get_or (rows w f n xs) (i * w + k) 0 ≡ get_or (f (get_or xs i d)) k 0
  unfolding rows
  row_any d e zero xs i k hn hk = absurd (not-suc-le-zero hn)
  row_any d e (suc n) [] i k hn hk = rw (rows_none w f (suc n), e) (no_word (suc n * w) (i * w + k) ∙ sym (no_word w k))
  row_any d e (suc n) (x ∷ xs) zero k hn hk = row_word (suc n) (x ∷ xs) 0 k d hn (omega arith) hk
  row_any d e (suc n) (x ∷ xs) (suc i) k hn hk =
      let q : suc i * w + k ≡ length (f x) + (i * w + k) = omega (arith, suc-mul i w, wide x) in
      rw q (get_or-append-add (f x) (rows w f n xs) (i * w + k) 0 ∙ row_any d e n xs i k (le_of_suc-le-suc hn) hk)

  -- behind the rows in use
  rows_rest : (n : ℕ) (xs : List A) → length xs ≤ n → rows w f n xs ≡ rows w f (length xs) xs ++ replicate ((n - length xs) * w) 0
  unfolding rows
  rows_rest n [] h = rw sub-zero (rows_none w f n)
  rows_rest zero (x ∷ xs) h = absurd (not-suc-le-zero h)
  rows_rest (suc n) (x ∷ xs) h =
      let e : suc n - suc (length xs) ≡ n - length xs = omega arith in
      rw (e, rows_rest n xs (le_of_suc-le-suc h), append_assoc)

  -- the first row goes, and a row of zeros comes last
  rows_more : (n : ℕ) (xs : List A) → length xs ≤ n → rows w f n xs ++ replicate w 0 ≡ rows w f (suc n) xs
  unfolding rows
  rows_more zero [] h = rw append-nil
  rows_more zero (x ∷ xs) h = absurd (not-suc-le-zero h)
  rows_more (suc n) [] h = append_assoc (replicate w 0) (rows w f n []) (replicate w 0) ∙ rw (rows_more n [] (omega arith))
  rows_more (suc n) (x ∷ xs) h = append_assoc (f x) (rows w f n xs) (replicate w 0) ∙ rw (rows_more n xs (le_of_suc-le-suc h))

  pub rows_shift : (n : ℕ) (xs : List A) → length xs ≤ suc n → remove_first w (rows w f (suc n) xs) ≡ rows w f (suc n) (drop 1 xs)
  unfolding rows
  rows_shift n [] h =
      remove_first-row w (replicate w 0) (rows w f n []) (length-replicate {A = ℕ} w 0) ∙ rows_more n [] (omega arith)
  rows_shift n (x ∷ xs) h = remove_first-row w (f x) (rows w f n xs) (wide x) ∙ rows_more n xs (le_of_suc-le-suc h)

  pub rows_behind : (n : ℕ) (xs : List A) → length xs ≤ n → all_zero (drop (length xs * w) (rows w f n xs)) ≡ true
  rows_behind n xs h =
      rw
      (rows_rest n xs h, drop_at (rows w f (length xs) xs) (replicate ((n - length xs) * w) 0) (length xs * w) (length-rows (length xs) xs))
      (all_zero-replicate ((n - length xs) * w))

  pub rest_zero : (n : ℕ) (xs : List A) → length xs ≤ n → (pre post : List ℕ) (b : ℕ) → length pre ≡ b → zero_from (b + length xs * w) (b + n * w) (pre ++ (rows w f n xs ++ post)) ≡ true
  rest_zero n xs h pre post b e =
      let gap : b + n * w - (b + length xs * w) ≡ (n - length xs) * w =
      omega (arith, add-mul (length xs) (n - length xs) w, ap (λ (k : ℕ). k * w) (add-sub_of_le h)) in
      rw
      (gap, cut_part rest tt ((n - length xs) * w) (length-replicate {A = ℕ} ((n - length xs) * w) 0))
      (all_zero-replicate ((n - length xs) * w))
    where
      here : Cut (λ (u : Unit {0}). rows w f n xs) (λ u. replicate ((n - length xs) * w) 0) (length xs * w)
      here = cut_here (rows w f (length xs) xs) [] (length xs * w) (length-rows (length xs) xs) (λ u. rw append-nil (rows_rest n xs h))

      rest : Cut (λ (u : Unit {0}). pre ++ (rows w f n xs ++ post)) (λ u. replicate ((n - length xs) * w) 0) (b + length xs * w)
      rest = cut_within pre post b (length xs * w) e (λ u. refl) here
