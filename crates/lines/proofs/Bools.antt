-- Tests taken apart: a case on a test that keeps its equation, a test that can't be true, the halves of `◌&&◌`, and `all`.
use Prim.Native.Nat.{ℕ}
use Rattle.lines.specs.Lines.{all}
use mathlib.Core.Bool.{Bool, ◌&&◌, and_assoc, and-true, false, true}
use mathlib.Core.List.{List, [], ◌++◌, ◌∷◌}
use mathlib.Core.Path.{◌∙◌, ◌≡◌, ap, refl, sym}
use native.Mathlib.Omega.{arith}

pub bool_case {ℓ} : {A : Type ℓ} (b : Bool) → (b ≡ true → A) → (b ≡ false → A) → A
bool_case true f g = f refl
bool_case false f g = g refl

pub false_by : (b : Bool) → (b ≡ true → ⊥) → b ≡ false
false_by true f = absurd (f refl)
false_by false f = refl

pub false-true : false ≡ true → ⊥
false-true e = let z : ◌≡◌ {A = ℕ} 0 1 = cc in omega arith

pub and_l : (a b : Bool) → a && b ≡ true → a ≡ true
and_l true b e = refl
and_l false b e = e

pub and_r : (a b : Bool) → a && b ≡ true → b ≡ true
and_r true b e = e
and_r false b e = absurd (false-true e)

pub and_both : (a b : Bool) → a ≡ true → b ≡ true → a && b ≡ true
and_both a b p q = rw (p, q)

all_append : {A : Type 0} (p : A → Bool) (xs ys : List A) → all p (xs ++ ys) ≡ all p xs && all p ys
unfolding all
all_append p [] ys = refl
all_append p (x ∷ xs) ys = ap (λ (b : Bool). p x && b) (all_append p xs ys) ∙ sym (and_assoc (p x) (all p xs) (all p ys))

pub all_snoc : {A : Type 0} (p : A → Bool) (xs : List A) (y : A) → all p (xs ++ y ∷ []) ≡ all p xs && p y
unfolding all
all_snoc p xs y = all_append p xs (y ∷ []) ∙ ap (λ (b : Bool). all p xs && b) (and-true (p y))
