-- A test of every number below n, from 0 up: a turn of each loop that makes one. Assumes nothing.
use Prim.Native.Nat.{◌+◌, ◌<◌, suc, zero, ℕ}
use Rattle.lists.proofs.Laws.{bool_case}
use Rattle.rules.specs.WellFormed.{for_all}
use borrow.Author.Tests.{eqb-false, eqb-true}
use lib.Dec.{eqb}
use mathlib.Core.Bool.{Bool, ◌&&◌, and-false, false, true}
use mathlib.Core.Path.{◌≡◌, refl}
use native.Mathlib.Nat.{not-suc-le-zero}
use native.Mathlib.Numerals.{add-one}
use native.Mathlib.Omega.{arith}

pub for_all-fail : (p : ℕ → Bool) (n k : ℕ) → k < n → p k ≡ false → for_all n p ≡ false
unfolding for_all
for_all-fail p zero k h e = absurd (not-suc-le-zero h)
for_all-fail p (suc n) k h e =
    bool_case (eqb k n)
    (λ b. rw (← eqb-true k n b, e))
    (λ b. let m = eqb-false k n b in rw (for_all-fail p n k (omega arith) e, and-false))

pub for_all-none : (p : ℕ → Bool) → for_all 0 p ≡ true
unfolding for_all
for_all-none p = refl

pub for_all-step : (p : ℕ → Bool) (k : ℕ) → for_all k p ≡ true → p k ≡ true → for_all (k + 1) p ≡ true
unfolding for_all
for_all-step p k a e = rw (add-one, e, a)

pub for_all_both : (p q r : ℕ → Bool) → ((k : ℕ) → r k ≡ (p k && q k)) → (n : ℕ) → for_all n r ≡ (for_all n p && for_all n q)
unfolding for_all
for_all_both p q r e zero = refl
for_all_both p q r e (suc n) = rw (e n, for_all_both p q r e n) (four (p n) (q n) (for_all n p) (for_all n q))
  where
    four : (a b c d : Bool) → ((a && b) && (c && d)) ≡ ((a && c) && (b && d))
    four false b c d = refl
    four true b true d = refl
    four true true false d = refl
    four true false false d = refl
