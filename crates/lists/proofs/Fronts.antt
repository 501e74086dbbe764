-- A list's beginning. In order: a number joins behind it; all of it passes a test; who stands before the place of a key; how often a
-- number stands in it; the first place of a number behind it.
-- Not here: a list in words (Laws.antt). Assumes nothing.
use Prim.Native.Nat.{◌≤◌, suc, zero, ℕ}
use Rattle.lists.proofs.Counting.{occ_here, occ_tail}
use Rattle.lists.proofs.Laws.{bool_case}
use Rattle.lists.specs.Lists.{index_of, insert, occ, only, place_of}
use borrow.Author.Tests.{eq-eqb, eqb-false, eqb-true, le-ltb, ltb-false, ne_eqb}
use lib.Dec.{eqb, ltb}
use lib.ListN.{length, take}
use mathlib.Core.Bool.{Bool, true}
use mathlib.Core.List.{List, [], ◌++◌, ◌∷◌}
use mathlib.Core.Path.{◌≡◌, ap, refl}
use native.Mathlib.Omega.{arith}

pub insert-behind : (key : ℕ → ℕ) (t : ℕ) (f rest : List ℕ) → ((x : ℕ) → 1 ≤ occ x f → key x ≤ key t) → insert key t (f ++ rest) ≡ f ++ insert key t rest
unfolding insert occ
insert-behind key t [] rest e = refl
insert-behind key t (x ∷ xs) rest e =
    rw (le-ltb (key t) (key x) (e x (occ_here x xs))) (ap {B = List ℕ} (λ r. x ∷ r) (insert-behind key t xs rest (λ y h. e y (omega (arith, h)))))

pub only-front : (p : ℕ → Bool) (f rest : List ℕ) → ((x : ℕ) → 1 ≤ occ x f → p x ≡ true) → only p (f ++ rest) ≡ f ++ only p rest
unfolding occ only
only-front p [] rest e = refl
only-front p (x ∷ xs) rest e =
    rw (e x (occ_here x xs)) (ap {B = List ℕ} (λ r. x ∷ r) (only-front p xs rest (λ y h. e y (omega (arith, h)))))

-- who stands before the place of a key is as urgent, or more
pub place-low : (key : ℕ → ℕ) (p : ℕ) (l : List ℕ) (x : ℕ) → 1 ≤ occ x (take (place_of key p l) l) → key x ≤ p
unfolding occ place_of
place-low key p [] x h = absurd (omega (arith, h))
place-low key p (y ∷ ys) x h =
    bool_case (ltb p (key y))
    (λ b. absurd (omega (arith, rw b at h)))
    (λ b. let k : 1 ≤ occ x (y ∷ take (place_of key p ys) ys) = rw b at h in
    bool_case (eqb y x)
    (λ e. omega (arith, ltb-false p (key y) b, ap key (eqb-true y x e)))
    (λ e. place-low key p ys x (occ_tail x y (take (place_of key p ys) ys) (eqb-false y x e) k)))

pub length-place : (key : ℕ → ℕ) (p : ℕ) (l : List ℕ) → length (take (place_of key p l) l) ≡ place_of key p l
unfolding place_of
length-place key p [] = refl
length-place key p (y ∷ ys) = bool_case (ltb p (key y)) (λ b. rw b) (λ b. rw b (ap suc (length-place key p ys)))

pub occ-take : (x n : ℕ) (l : List ℕ) → occ x (take n l) ≤ occ x l
unfolding occ
occ-take x zero l = omega arith
occ-take x (suc n) [] = omega arith
occ-take x (suc n) (y ∷ ys) = omega (arith, occ-take x n ys)

pub occ-front : (y i : ℕ) (f : List ℕ) → (i ≡ y → ⊥) → 1 ≤ occ y (f ++ i ∷ []) → 1 ≤ occ y f
unfolding occ
occ-front y i [] n h = absurd (omega (arith, rw (ne_eqb i y n) at h))
occ-front y i (x ∷ xs) n h = bool_case (eqb x y) (λ b. rw b (omega arith)) (λ b. rw b (omega (arith, occ-front y i xs n (omega (arith, rw b at h)))))

pub index_front : (i : ℕ) (f rest : List ℕ) → occ i f ≡ 0 → index_of i (f ++ i ∷ rest) ≡ length f
unfolding index_of occ
index_front i [] rest e = rw (eq-eqb i i refl)
index_front i (x ∷ xs) rest e =
    bool_case (eqb x i)
    (λ b. absurd (omega (arith, rw b at e)))
    (λ b. rw b (ap suc (index_front i xs rest (omega (arith, rw b at e)))))
