-- By cases on a test or on two numbers: what the proofs of this crate go by. `bool_case` is in lists' Laws.
use Prim.Native.Nat.{◌≤◌, ℕ}
use Rattle.lists.proofs.Laws.{bool_case}
use Rattle.lists.specs.Lists.{bit}
use borrow.Author.Tests.{eqb-false, eqb-true}
use lib.Dec.{eqb}
use mathlib.Core.Bool.{Bool, ◌&&◌, cond, false, false≢true, true}
use mathlib.Core.Logic.{◌≢◌}
use mathlib.Core.Path.{◌≡◌, refl}
use native.Mathlib.Omega.{arith}

pub and_l : (a b : Bool) → (a && b) ≡ true → a ≡ true
and_l true b e = refl
and_l false b e = e

pub and_r : (a b : Bool) → (a && b) ≡ true → b ≡ true
and_r true b e = e
and_r false b e = absurd (false≢true e)

pub bit_pos : (b : Bool) → 1 ≤ bit b → b ≡ true
bit_pos true h = refl
bit_pos false h = absurd (omega arith)

-- the same number, or another
pub same_or : {A : Type 0} (i j : ℕ) → (i ≡ j → A) → (i ≢ j → A) → A
same_or i j f g = bool_case (eqb i j) (λ e. f (eqb-true i j e)) (λ e. g (eqb-false i j e))

-- what holds of both sides of a choice holds of it
pub cond_case : {A : Type 0} (P : A → Type 0) (b : Bool) (x y : A) → (b ≡ true → P x) → (b ≡ false → P y) → P (cond b x y)
cond_case P true x y f g = f refl
cond_case P false x y f g = g refl
