-- A Memory hub's marks as the code looks for a free block: a turn of its loop, and its end. Not here: a mark in the words of a table
-- (Stores.antt), what the hub table says of a block (crate hubtable). Assumes nothing.
use Prim.Native.Nat.{◌+◌, ◌≤◌, suc, ℕ}
use Rattle.lists.proofs.Laws.{bool_case, index_of_hit, index_of_miss}
use Rattle.lists.specs.Lists.{index_of}
use borrow.Author.Tests.{ltb-false, ltb-true}
use lib.Dec.{ltb}
use lib.ListN.{get_or-eq_default, drop, drop_of_length-le, get_or, length}
use mathlib.Core.List.{List}
use mathlib.Core.Path.{◌≡◌, sym}
use native.Mathlib.Nat.{zero-add}
use native.Mathlib.Omega.{arith}

-- no mark below b is 0, and b is within the marks
pub record Looking (marks : List ℕ) (b : ℕ) : Type 0 where
  pub inside : b ≤ length marks
  pub rest : index_of 0 marks ≡ b + index_of 0 (drop b marks)

module _ (marks : List ℕ) where
  pub looking_begin : Looking marks 0
  looking_begin = record { inside = omega arith; rest = sym (zero-add _) }

  module _ (b : ℕ) (w : Looking marks b) where
    behind : length marks ≤ b → index_of 0 (drop b marks) ≡ 0
    unfolding index_of
    behind out = rw (drop_of_length-le marks out)

    -- a mark that is 0, or behind the last
    pub looking_found : get_or marks b 0 ≡ 0 → b ≡ index_of 0 marks
    looking_found e =
        bool_case (ltb b (length marks))
        (λ q. omega (arith, w.rest, index_of_hit marks b (ltb-true b _ q) 0 e))
        (λ q. omega (arith, w.rest, behind (ltb-false b _ q)))

    pub looking_turn : (get_or marks b 0 ≡ 0 → ⊥) → Looking marks (b + 1)
    looking_turn n =
        bool_case (ltb b (length marks))
        (λ q. let lt = ltb-true b (length marks) q in let next : b + 1 ≡ suc b = omega arith in
        rw next (record { inside = lt; rest = omega (arith, w.rest, index_of_miss marks b lt 0 n) }))
        (λ q. absurd (n (get_or-eq_default marks 0 (ltb-false b (length marks) q))))

    pub looking_end : length marks ≤ b → b ≡ index_of 0 marks
    looking_end out = omega (arith, w.rest, behind out)
