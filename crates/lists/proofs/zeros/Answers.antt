-- `lists::zeros` meets its contract: words put together are 0 exactly if each of them is. Assumes nothing.
use Prim.Native.Nat.{ℕ}
use Rattle.lists.proofs.Laws.{bool_case}
use Rattle.lists.specs.Lists.{all_zero}
use Rattle.std.proofs.iter.runs.Made.{chains}
use Rattle.std.specs.List.{fold}
use borrow.Author.Rules.{rules}
use borrow.Author.Tests.{eqb-false, eqb-true, ne_eqb}
use lib.Bits.{and_le_r, bit_or, or_add_and, or_zero_l}
use lib.Dec.{eqb}
use mathlib.Core.Bool.{◌&&◌, and-true}
use mathlib.Core.List.{List, [], ◌∷◌}
use mathlib.Core.Path.{◌∙◌, ◌≡◌, ap}
use native.Mathlib.Omega.{arith}
use Rattle.lists.proofs.zeros.Goals as goal

or-none : (a b : ℕ) → eqb (bit_or a b) 0 ≡ (eqb a 0 && eqb b 0)
or-none a b =
    bool_case (eqb a 0)
    (λ q. rw (q, eqb-true a 0 q, or_zero_l b))
    (λ q. rw (q, ne_eqb (bit_or a b) 0 (λ z. eqb-false a 0 q (omega (arith, z, or_add_and a b, and_le_r a b)))))

fold-none : (a : ℕ) (s : List ℕ) → eqb (fold (λ any x. bit_or any x) a s) 0 ≡ (eqb a 0 && all_zero s)
unfolding all_zero
fold-none a [] = rw and-true
fold-none a (x ∷ xs) =
    fold-none (bit_or a x) xs ∙ rw (or-none a x) (bool_case (eqb a 0) (λ q. rw q (bool_case (eqb x 0) (λ z. rw z) (λ z. rw z))) (λ q. rw q))

pub returns : goal.returns
returns c =
    let s = c.args.s.now in
    let all : c.fold.result ≡ fold (λ any x. bit_or any x) 0 s = search (rules, chains) in
    ap (λ n. eqb n 0) all ∙ fold-none 0 s
