-- Runs of stores, one behind the other, and past the end; the task that an entry names. Not here: where a record stands. Assumes nothing.
use Prim.Native.Nat.{◌+◌, ◌-◌, ◌≤◌, pred, suc, zero, ℕ}
use Rattle.records.specs.Records.{first}
use lib.ListN.{length, length-set, set, take}
use lib.Seq.{set_out, sets}
use mathlib.Core.List.{List, [], ◌++◌, ◌∷◌}
use mathlib.Core.Option.{none, some}
use mathlib.Core.Path.{◌∙◌, ◌≡◌, ap, refl}
use native.Mathlib.Nat.{add-zero}
use native.Mathlib.Omega.{arith}

-- a run of stores, and then another right behind it, is one run
pub sets_append : (l : List ℕ) (p : ℕ) (xs ys : List ℕ) → sets (sets l p xs) (p + length xs) ys ≡ sets l p (xs ++ ys)
sets_append l p [] ys = rw add-zero
sets_append l p (x ∷ xs) ys =
    let e : p + suc (length xs) ≡ suc p + length xs = omega arith in
    ap (λ (k : ℕ). sets (sets (set l p x) (suc p) xs) k ys) e ∙ sets_append (set l p x) (suc p) xs ys

-- what has no room is not stored
pub sets_past : (l : List ℕ) (p : ℕ) (vs : List ℕ) → length l ≤ p → sets l p vs ≡ l
sets_past l p [] h = refl
sets_past l p (v ∷ vs) h = rw (set_out l p v h) (sets_past l (suc p) vs (omega arith))

pub sets_room : (l : List ℕ) (p : ℕ) (vs : List ℕ) (n : ℕ) → p + n ≡ length l → sets l p vs ≡ sets l p (take n vs)
sets_room l p [] zero h = refl
sets_room l p [] (suc n) h = refl
sets_room l p (v ∷ vs) zero h = sets_past l p (v ∷ vs) (omega arith)
sets_room l p (v ∷ vs) (suc n) h = sets_room (set l p v) (suc p) vs n (simp length-set (omega arith))

-- ---- the task that an entry names

pub first-none : (n : ℕ) → n ≡ 0 → first n ≡ none
unfolding first
first-none n e = rw e

pub first_some : (n : ℕ) → (n ≡ 0 → ⊥) → first n ≡ some (pred n)
unfolding first
first_some zero h = absurd (h refl)
first_some (suc n) h = refl

pub first_is : (e w : ℕ) → (e ≡ 0 → ⊥) → first e ≡ some w → e - 1 ≡ w
unfolding first
first_is zero w n q = absurd (n refl)
first_is (suc e) w n q = let z : e ≡ w = cc in omega (arith, z)
