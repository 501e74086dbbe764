-- The entries of a list that pass a test (`only`). In order: the same test; how often a number stands in it; a number that
-- doesn't pass joins and leaves unseen; one more left out; a beginning that passes.
-- Not here: what is taken out of which list, and why (rules, Reorder.antt). Assumes nothing.
use Prim.Native.Nat.{◌≤◌, ℕ}
use Rattle.lists.proofs.Laws.{bool_case}
use Rattle.lists.specs.Lists.{insert, occ, only, without}
use borrow.Author.Tests.{eqb-true, ne_eqb}
use lib.Dec.{eqb, ltb}
use lib.ListN.{length}
use mathlib.Core.Bool.{Bool, ◌&&◌, cond, false, false≢true, not, true}
use mathlib.Core.List.{List, [], ◌∷◌}
use mathlib.Core.Path.{◌∙◌, ◌≡◌, ap, refl, sym}
use native.Mathlib.Nat.{zero-add}
use native.Mathlib.Omega.{arith}

pub only_same : (p q : ℕ → Bool) → ((i : ℕ) → p i ≡ q i) → (l : List ℕ) → only p l ≡ only q l
unfolding only
only_same p q e [] = refl
only_same p q e (x ∷ xs) = bool_case (q x) (λ b. rw (e x, b, only_same p q e xs)) (λ b. rw (e x, b, only_same p q e xs))

pub occ-only : (p : ℕ → Bool) (i : ℕ) (l : List ℕ) → occ i (only p l) ≡ cond (p i) (occ i l) 0
unfolding occ only
occ-only p i [] = bool_case (p i) (λ b. rw b) (λ b. rw b)
occ-only p i (x ∷ xs) =
    bool_case (p x)
    (λ b. rw (b, occ-only p i xs) (bool_case (p i) (λ d. rw d) (λ d. rw (d, ne_eqb x i (λ e. false≢true (sym d ∙ (ap p (sym e) ∙ b)))))))
    (λ b. rw (b, occ-only p i xs) (bool_case (p i) (λ d. rw (d, ne_eqb x i (λ e. false≢true (sym b ∙ (ap p e ∙ d)))) (sym (zero-add (occ i xs)))) (λ d. rw d)))

pub only-again : (p : ℕ → Bool) (l : List ℕ) → only p (only p l) ≡ only p l
unfolding only
only-again p [] = refl
only-again p (x ∷ xs) = bool_case (p x) (λ b. rw (b, b) (ap {B = List ℕ} (λ r. x ∷ r) (only-again p xs))) (λ b. rw b (only-again p xs))

-- who stands in it passes
pub only-passes : (p : ℕ → Bool) (i : ℕ) (l : List ℕ) → 1 ≤ occ i (only p l) → p i ≡ true
only-passes p i l h = bool_case (p i) (λ b. b) (λ b. absurd (omega (arith, h, rw b at (occ-only p i l))))

pub only-insert : (key : ℕ → ℕ) (p : ℕ → Bool) (t : ℕ) → p t ≡ false → (l : List ℕ) → only p (insert key t l) ≡ only p l
unfolding insert only
only-insert key p t e [] = rw e
only-insert key p t e (x ∷ xs) =
    bool_case (ltb (key t) (key x))
    (λ b. rw (b, e))
    (λ b. rw b (bool_case (p x) (λ d. rw (d, only-insert key p t e xs)) (λ d. rw (d, only-insert key p t e xs))))

pub only-without : (p : ℕ → Bool) (t : ℕ) → p t ≡ false → (l : List ℕ) → only p (without t l) ≡ only p l
unfolding only without
only-without p t e [] = refl
only-without p t e (x ∷ xs) =
    bool_case (eqb x t)
    (λ b. rw (b, only-without p t e xs, ap p (eqb-true x t b) ∙ e))
    (λ b. rw b (bool_case (p x) (λ d. rw (d, only-without p t e xs)) (λ d. rw (d, only-without p t e xs))))

-- ---- one more left out

without-only : (t : ℕ) (l : List ℕ) → without t l ≡ only (λ j. not (eqb j t)) l
unfolding only without
without-only t [] = refl
without-only t (x ∷ xs) = bool_case (eqb x t) (λ b. rw (b, without-only t xs)) (λ b. rw (b, without-only t xs))

only_both : (p q : ℕ → Bool) (l : List ℕ) → only p (only q l) ≡ only (λ j. q j && p j) l
unfolding only
only_both p q [] = refl
only_both p q (x ∷ xs) =
    bool_case (q x)
    (λ b. bool_case (p x) (λ d. rw (b, d) (ap {B = List ℕ} (λ r. x ∷ r) (only_both p q xs))) (λ d. rw (b, d) (only_both p q xs)))
    (λ b. rw b (only_both p q xs))

pub only_next : (q r : ℕ → Bool) (t : ℕ) → ((j : ℕ) → (q j && not (eqb j t)) ≡ r j) → (l : List ℕ) → without t (only q l) ≡ only r l
only_next q r t e l = without-only t (only q l) ∙ (only_both (λ j. not (eqb j t)) q l ∙ only_same _ r e l)

pub only-all : (p : ℕ → Bool) → ((j : ℕ) → p j ≡ true) → (l : List ℕ) → only p l ≡ l
unfolding only
only-all p e [] = refl
only-all p e (x ∷ xs) = rw (e x) (ap {B = List ℕ} (λ r. x ∷ r) (only-all p e xs))

pub length-only : (p : ℕ → Bool) (l : List ℕ) → length (only p l) ≤ length l
unfolding only
length-only p [] = omega arith
length-only p (x ∷ xs) = bool_case (p x) (λ b. rw b (omega (arith, length-only p xs))) (λ b. rw b (omega (arith, length-only p xs)))
