-- Parts of one length, one behind the other (`joined`). In order: runs of stores, one behind the other; the parts' length, a word
-- of them, one part more; rows of words as such parts; rows of rows as rows.
-- Not here: which parts a table has (Bodies.antt). Assumes nothing.
use Prim.Native.Nat.{◌*◌, ◌+◌, ◌<◌, suc, zero, ℕ}
use Rattle.editions.specs.Editions.{joined}
use Rattle.lists.proofs.Laws.{bool_case}
use Rattle.lists.specs.Lists.{padded}
use Rattle.records.proofs.Laws.{sets_append}
use Rattle.rules.proofs.Rows.{rows_none}
use Rattle.rules.specs.Table.{rows}
use borrow.Author.Tests.{ltb-false, ltb-true}
use lib.Dec.{ltb}
use lib.ListN.{get_or-append, drop_of_length-le, get_or, length, length-append, replicate}
use lib.Seq.{get_or-append-add, sets, sets-eq}
use mathlib.Core.List.{List, [], ◌++◌, ◌∷◌, append_assoc, append-nil}
use mathlib.Core.Path.{◌∙◌, ◌≡◌, ap, ap₂, refl, sym}
use native.Mathlib.Nat.{mul-le-mul_right, suc-add, suc-mul, zero-add, zero-mul}
use native.Mathlib.Numerals.{add-one}
use native.Mathlib.Omega.{arith}

-- ---- runs of stores

pub sets_then : (l : List ℕ) (p q : ℕ) (xs ys : List ℕ) → p + length xs ≡ q → sets (sets l p xs) q ys ≡ sets l p (xs ++ ys)
sets_then l p q xs ys e = ap (λ (k : ℕ). sets (sets l p xs) k ys) (sym e) ∙ sets_append l p xs ys

pub sets-all : (l xs : List ℕ) → length xs ≡ length l → sets l 0 xs ≡ xs
sets-all l xs e =
    sets-eq xs l 0 (omega arith)
    ∙ ap (λ (r : List ℕ). xs ++ r) (drop_of_length-le l {i = 0 + length xs} (omega arith))
    ∙ append-nil xs

-- ---- parts of w words each

module _ (w : ℕ) (f : ℕ → List ℕ) (wide : (i : ℕ) → length (f i) ≡ w) where
  pub length-joined : (n : ℕ) → length (joined n f) ≡ n * w
  unfolding joined
  length-joined zero = sym (zero-mul w)
  length-joined (suc n) = rw (length-append (joined n f) (f n), length-joined n, wide n, suc-mul n w) (omega arith)

  joined_word : (n k j : ℕ) → k < n → j < w → get_or (joined n f) (k * w + j) 0 ≡ get_or (f k) j 0
  unfolding joined
  joined_word zero k j h hj = absurd (omega arith)
  joined_word (suc n) k j h hj =
      bool_case (ltb k n)
      (λ b.
      let lt : k < n = ltb-true k n b in
      let inside : k * w + j < length (joined n f) = rw (length-joined n) (omega (arith, suc-mul k w, mul-le-mul_right w lt)) in
      get_or-append (joined n f) (f n) 0 (k * w + j) inside ∙ joined_word n k j lt hj)
      (λ b.
      let e : k ≡ n = omega (arith, ltb-false k n b) in
      rw e (ap (λ (m : ℕ). get_or (joined n f ++ f n) (m + j) 0) (sym (length-joined n)) ∙ get_or-append-add (joined n f) (f n) j 0))

  -- a word of part k, behind b words
  pub part-word : (pre post : List ℕ) (b n k j : ℕ) → length pre ≡ b → k < n → j < w → get_or (pre ++ (joined n f ++ post)) (b + k * w + j) 0 ≡ get_or (f k) j 0
  part-word pre post b n k j e h hj =
      let place : b + k * w + j ≡ length pre + (k * w + j) = omega arith in
      let inside : k * w + j < length (joined n f) = rw (length-joined n) (omega (arith, suc-mul k w, mul-le-mul_right w h)) in
      ap (λ (m : ℕ). get_or (pre ++ (joined n f ++ post)) m 0) place
      ∙ get_or-append-add pre (joined n f ++ post) (k * w + j) 0
      ∙ get_or-append (joined n f) post 0 (k * w + j) inside
      ∙ joined_word n k j h hj

  -- one part more, stored behind the others: a turn of a loop
  pub joined_turn : (l₀ l xs : List ℕ) (p n : ℕ) → l ≡ sets l₀ p (joined n f) → xs ≡ f n → sets l (p + n * w) xs ≡ sets l₀ p (joined (n + 1) f)
  unfolding joined
  joined_turn l₀ l xs p n e x =
      rw (e, x, add-one) (sets_then l₀ p (p + n * w) (joined n f) (f n) (omega (arith, length-joined n)))

pub joined_same : (n : ℕ) (f g : ℕ → List ℕ) → ((i : ℕ) → i < n → f i ≡ g i) → joined n f ≡ joined n g
unfolding joined
joined_same zero f g e = refl
joined_same (suc n) f g e = ap₂ {C = List ℕ} ◌++◌ (joined_same n f g (λ i h. e i (omega arith))) (e n (omega arith))

-- ---- rows of words, where an entry d is written as zeros

joined-front : (n : ℕ) (f : ℕ → List ℕ) → joined (suc n) f ≡ f 0 ++ joined n (λ i. f (suc i))
unfolding joined
joined-front zero f = rw append-nil
joined-front (suc n) f = rw (joined-front n f) (append_assoc (f 0) (joined n (λ i. f (suc i))) (f (suc n)))

pub rows-joined : {A : Type 0} (w : ℕ) (f : A → List ℕ) (d : A) → f d ≡ replicate w 0 → (n : ℕ) (xs : List A) → rows w f n xs ≡ joined n (λ i. f (get_or xs i d))
unfolding joined rows
rows-joined w f d e zero xs = refl
rows-joined w f d e (suc n) [] =
    ap₂ {C = List ℕ} ◌++◌ (sym e) (rows-joined w f d e n []) ∙ sym (joined-front n (λ i. f (get_or [] i d)))
rows-joined w f d e (suc n) (x ∷ xs) =
    ap (λ (r : List ℕ). f x ++ r) (rows-joined w f d e n xs) ∙ sym (joined-front n (λ i. f (get_or (x ∷ xs) i d)))

-- rows of m entries each are rows of all their entries, where 0 is written as zeros
module _ (w : ℕ) (f : ℕ → List ℕ) (none : f 0 ≡ replicate w 0) where
  rows_then : (m n : ℕ) (xs ys : List ℕ) → rows w f (m + n) (padded m xs ++ ys) ≡ rows w f m xs ++ rows w f n ys
  unfolding padded rows
  rows_then zero n xs ys = rw zero-add
  rows_then (suc m) n [] ys =
      rw (suc-add, none, rows_then m n [] ys) (sym (append_assoc (replicate w 0) (rows w f m []) (rows w f n ys)))
  rows_then (suc m) n (x ∷ xs) ys = rw (suc-add, rows_then m n xs ys) (sym (append_assoc (f x) (rows w f m xs) (rows w f n ys)))

  padded-none : (m : ℕ) → padded m [] ≡ replicate m 0
  unfolding padded
  padded-none zero = refl
  padded-none (suc m) = ap {B = List ℕ} (λ r. 0 ∷ r) (padded-none m)

  pub rows-rows : {A : Type 0} (g : A → List ℕ) (m n : ℕ) (xs : List A) → rows (m * w) (λ x. rows w f m (g x)) n xs ≡ rows w f (n * m) (rows m (λ x. padded m (g x)) n xs)
  unfolding rows
  rows-rows g m zero xs = rw zero-mul
  rows-rows g m (suc n) [] =
      let e : suc n * m ≡ m + n * m = omega (arith, suc-mul n m) in
      rw (e, ← padded-none m, rows_then m (n * m) [] (rows m (λ x. padded m (g x)) n []), rows_none w f m, rows-rows g m n [])
  rows-rows g m (suc n) (x ∷ xs) =
      let e : suc n * m ≡ m + n * m = omega (arith, suc-mul n m) in
      rw (e, rows_then m (n * m) (g x) (rows m (λ x. padded m (g x)) n xs), rows-rows g m n xs)
