-- A run of words of two tables, compared word by word: a turn of the loop.
-- Not here: which words a row covers (Words.antt), and what a mark means (crate sidebyside). Assumes nothing.
use Prim.Native.Nat.{◌+◌, ◌-◌, ◌<◌, ◌≤◌, suc, ℕ}
use Rattle.rows.specs.Rows.{differ}
use borrow.Author.Tests.{eq-eqb, ne_eqb}
use lib.ListN.{get_or}
use mathlib.Core.Bool.{Bool, false, true}
use mathlib.Core.List.{List}
use mathlib.Core.Path.{◌∙◌, ◌≡◌, ap, refl, sym}
use native.Mathlib.Nat.{add-zero, sub-zero}
use native.Mathlib.Omega.{arith}

module _ (a b : List ℕ) (p n : ℕ) where
  -- what the words from the j-th on say
  abbrev pub differ_left : ℕ → Bool
  differ_left j = differ a b (p + j) (n - j)

  pub differ_begin : differ_left 0 ≡ differ a b p n
  differ_begin = rw (add-zero, sub-zero)

  pub differ_end : (j : ℕ) → n ≤ j → differ_left j ≡ false
  unfolding differ
  differ_end j h = let e : n - j ≡ 0 = omega arith in rw e

  -- the j-th words are x and y
  module _ (j : ℕ) (h : j < n) (q x y : ℕ) (place : q ≡ p + j) (ex : x ≡ get_or a q 0) (ey : y ≡ get_or b q 0) where
    first_is : get_or a (p + j) 0 ≡ x
    first_is = ap (λ (k : ℕ). get_or a k 0) (sym place) ∙ sym ex

    second_is : get_or b (p + j) 0 ≡ y
    second_is = ap (λ (k : ℕ). get_or b k 0) (sym place) ∙ sym ey

    more : n - j ≡ suc (n - (j + 1))
    more = omega arith

    pub differ_found : (x ≡ y → ⊥) → differ_left j ≡ true
    unfolding differ
    differ_found d = rw (more, first_is, second_is, ne_eqb x y d)

    pub differ_same : x ≡ y → differ_left j ≡ differ_left (j + 1)
    unfolding differ
    differ_same e = let s : p + (j + 1) ≡ suc (p + j) = omega arith in rw (more, first_is, second_is, eq-eqb x y e, s) refl
