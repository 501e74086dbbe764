-- Laws of `those`, `how_many` and `Each`, for any list: appended, mapped, tests that agree, none, just one; what holds of each; of the numbers below n.
use Prim.Native.Nat.{◌+◌, ◌<◌, ◌≤◌, suc, zero, ℕ}
use Rattle.history.specs.History.{how_many, those}
use Rattle.history.specs.Statements.{Each}
use Rattle.lists.proofs.Laws.{bool_case}
use Rattle.lists.specs.Lists.{bit, occ}
use Rattle.rules.proofs.Cases.{same_or}
use Rattle.rules.specs.Table.{tab}
use borrow.Author.Tests.{eq-eqb, ltb-false, ltb-true, ne_eqb}
use lib.Dec.{eqb, ltb}
use lib.ListN.{get_or, length, length-append}
use mathlib.Core.Bool.{Bool, ◌&&◌, and-false, cond, false, true}
use mathlib.Core.List.{List, [], ◌++◌, ◌∷◌, map}
use mathlib.Core.Path.{◌∙◌, ◌≡◌, ap, refl}
use native.Mathlib.Omega.{arith}

module _ {A : Type 0} where
  -- ---- what holds of each

  pub each_all : (P : A → Type 0) → ((x : A) → P x) → (xs : List A) → Each P xs
  unfolding Each
  each_all P f [] = tt
  each_all P f (x ∷ xs) = (f x, each_all P f xs)

  pub each_imp : (P Q : A → Type 0) → ((x : A) → P x → Q x) → (xs : List A) → Each P xs → Each Q xs
  unfolding Each
  each_imp P Q f [] a = tt
  each_imp P Q f (x ∷ xs) a = (f x a.0, each_imp P Q f xs a.1)

  pub each_both : (P Q : A → Type 0) (xs : List A) → Each P xs → Each Q xs → Each (λ x. P x × Q x) xs
  unfolding Each
  each_both P Q [] a b = tt
  each_both P Q (x ∷ xs) a b = ((a.0, b.0), each_both P Q xs a.1 b.1)

  pub each_append : (P : A → Type 0) (xs ys : List A) → Each P xs → Each P ys → Each P (xs ++ ys)
  unfolding Each
  each_append P [] ys a b = b
  each_append P (x ∷ xs) ys a b = (a.0, each_append P xs ys a.1 b)

  pub each_at : (P : A → Type 0) (xs : List A) → Each P xs → (n : ℕ) → n < length xs → (d : A) → P (get_or xs n d)
  unfolding Each
  each_at P [] a n h d = absurd (omega arith)
  each_at P (x ∷ xs) a zero h d = a.0
  each_at P (x ∷ xs) a (suc n) h d = each_at P xs a.1 n (omega arith) d

  pub each_none : (xs : List A) → Each (λ x. ⊥) xs → xs ≡ []
  unfolding Each
  each_none [] a = refl
  each_none (x ∷ xs) a = absurd a.0

  pub each-those : (P : A → Type 0) (p : A → Bool) (xs : List A) → Each P xs → Each (λ x. P x × (p x ≡ true)) (those p xs)
  unfolding Each those
  each-those P p [] a = tt
  each-those P p (x ∷ xs) a = bool_case (p x) (λ b. rw b ((a.0, b), each-those P p xs a.1)) (λ b. rw b (each-those P p xs a.1))

  pub no_entries : (xs : List A) → length xs ≡ 0 → xs ≡ []
  no_entries [] e = refl
  no_entries (x ∷ xs) e = absurd (omega (arith, e))

  -- ---- those that pass

  pub those_append : (p : A → Bool) (xs ys : List A) → those p (xs ++ ys) ≡ those p xs ++ those p ys
  unfolding those
  those_append p [] ys = refl
  those_append p (x ∷ xs) ys = bool_case (p x) (λ b. rw (b, those_append p xs ys)) (λ b. rw (b, those_append p xs ys))

  pub how_many_cons : (p : A → Bool) (x : A) (xs : List A) → how_many p (x ∷ xs) ≡ bit (p x) + how_many p xs
  unfolding those
  how_many_cons p x xs = bool_case (p x) (λ b. rw b (omega arith)) (λ b. rw b (omega arith))

  pub how_many_append : (p : A → Bool) (xs ys : List A) → how_many p (xs ++ ys) ≡ how_many p xs + how_many p ys
  how_many_append p xs ys = ap length (those_append p xs ys) ∙ length-append (those p xs) (those p ys)

  pub those_same : (p q : A → Bool) (xs : List A) → Each (λ x. p x ≡ q x) xs → those p xs ≡ those q xs
  unfolding Each those
  those_same p q [] a = refl
  those_same p q (x ∷ xs) a = rw (a.0, those_same p q xs a.1)

  pub those-none : (p : A → Bool) (xs : List A) → Each (λ x. p x ≡ false) xs → those p xs ≡ []
  unfolding Each those
  those-none p [] a = refl
  those-none p (x ∷ xs) a = rw (a.0, those-none p xs a.1)

  -- those that pass two tests
  pub those-those : (p q : A → Bool) (xs : List A) → those p (those q xs) ≡ those (λ x. q x && p x) xs
  unfolding those
  those-those p q [] = refl
  those-those p q (x ∷ xs) =
      bool_case (q x)
      (λ b. bool_case (p x) (λ e. rw (b, e, those-those p q xs)) (λ e. rw (b, e, those-those p q xs)))
      (λ b. rw (b, those-those p q xs))

  -- a test that also asks for b
  pub how_many_and : (p : A → Bool) (b : Bool) (xs : List A) → how_many (λ x. p x && b) xs ≡ cond b (how_many p xs) 0
  unfolding those
  how_many_and p true [] = refl
  how_many_and p true (x ∷ xs) = bool_case (p x) (λ e. rw e (ap suc (how_many_and p true xs))) (λ e. rw e (how_many_and p true xs))
  how_many_and p false [] = refl
  how_many_and p false (x ∷ xs) = rw and-false (how_many_and p false xs)

  -- just one passes: it, and what holds of it
  pub those-one : (P : A → Type 0) (p : A → Bool) (xs : List A) → Each P xs → how_many p xs ≡ 1
      → (x : A) × (those p xs ≡ x ∷ []) × (p x ≡ true) × P x
  those-one P p xs a e = go (those p xs) refl (each-those P p xs a) e
    where
      go : (l : List A) → those p xs ≡ l → Each (λ x. P x × (p x ≡ true)) l → length l ≡ 1 → (x : A) × (those p xs ≡ x ∷ []) × (p x ≡ true) × P x
      go [] q b e = absurd (omega (arith, e))
      go (x ∷ []) q b e = unfold Each in (x, q, b.0.1, b.0.0)
      go (x ∷ (y ∷ l)) q b e = absurd (omega (arith, e))

module _ {A B : Type 0} where
  pub those-map : (p : B → Bool) (f : A → B) (xs : List A) → those p (map f xs) ≡ map f (those (λ x. p (f x)) xs)
  unfolding those
  those-map p f [] = refl
  those-map p f (x ∷ xs) = bool_case (p (f x)) (λ b. rw (b, those-map p f xs)) (λ b. rw (b, those-map p f xs))

  pub each_map : (P : B → Type 0) (f : A → B) (xs : List A) → Each (λ x. P (f x)) xs → Each P (map f xs)
  unfolding Each
  each_map P f [] a = tt
  each_map P f (x ∷ xs) a = (a.0, each_map P f xs a.1)

-- ---- the numbers below n: each once

below_none : (p : ℕ → Bool) (n i h : ℕ) → h < i → how_many (λ g. eqb g h) (those p (tab n i (λ g. g))) ≡ 0
unfolding tab those
below_none p zero i h l = refl
below_none p (suc n) i h l =
    bool_case (p i)
    (λ b. rw (b, ne_eqb i h (λ e. omega (arith, e))) (below_none p n (suc i) h (omega arith)))
    (λ b. rw b (below_none p n (suc i) h (omega arith)))

below_from : (p : ℕ → Bool) (n i h : ℕ) → i ≤ h → h < i + n → how_many (λ g. eqb g h) (those p (tab n i (λ g. g))) ≡ bit (p h)
unfolding tab those
below_from p zero i h l u = absurd (omega arith)
below_from p (suc n) i h l u =
    same_or i h
    (λ e. bool_case (p i)
    (λ b. rw (b, eq-eqb i h e, below_none p n (suc i) h (omega (arith, e)), ← e, b) refl)
    (λ b. rw (b, below_none p n (suc i) h (omega (arith, e)), ← e, b) refl))
    (λ d. bool_case (p i)
    (λ b. rw (b, ne_eqb i h d) (below_from p n (suc i) h (omega arith) (omega arith)))
    (λ b. rw b (below_from p n (suc i) h (omega arith) (omega arith))))

past : (p : ℕ → Bool) (n i h : ℕ) → i + n ≤ h → how_many (λ g. eqb g h) (those p (tab n i (λ g. g))) ≡ 0
unfolding tab those
past p zero i h l = refl
past p (suc n) i h l =
    bool_case (p i)
    (λ b. rw (b, ne_eqb i h (λ e. omega (arith, e))) (past p n (suc i) h (omega arith)))
    (λ b. rw b (past p n (suc i) h (omega arith)))

-- of the numbers below n that pass, h is one if it passes, where none from n on passes
pub how_many_below : (p : ℕ → Bool) (n h : ℕ) → (p h ≡ true → h < n) → how_many (λ g. eqb g h) (those p (tab n 0 (λ g. g))) ≡ bit (p h)
how_many_below p n h f =
    bool_case (ltb h n)
    (λ b. below_from p n 0 h (omega arith) (omega (arith, ltb-true h n b)))
    (λ b. past_none b)
  where
    past_none : ltb h n ≡ false → how_many (λ g. eqb g h) (those p (tab n 0 (λ g. g))) ≡ bit (p h)
    past_none b = bool_case (p h) (λ e. absurd (omega (arith, f e, ltb-false h n b))) (λ e. rw e (past p n 0 h (omega (arith, ltb-false h n b))))

-- how often a word stands among those that pass, mapped
pub occ-those : {A : Type 0} (p : A → Bool) (f : A → ℕ) (b : ℕ) (xs : List A) → occ b (map f (those p xs)) ≡ how_many (λ x. p x && eqb (f x) b) xs
unfolding occ those
occ-those p f b [] = refl
occ-those p f b (x ∷ xs) =
    bool_case (p x)
    (λ q. rw q (bool_case (eqb (f x) b) (λ e. rw e (omega (arith, occ-those p f b xs))) (λ e. rw e (omega (arith, occ-those p f b xs)))))
    (λ q. rw q (occ-those p f b xs))
