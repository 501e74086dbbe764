-- The line of an entry, and those that are left. Assumes nothing.
use Prim.Native.Nat.{◌*◌, ◌+◌, ◌-◌, ◌<◌, ◌≤◌, suc, ℕ}
use Rattle.comparer.specs.Comparer.{entry_lines}
use Rattle.lines.specs.Lines.{decimal, joined, newline, printed, space, spaced}
use lib.ListN.{get_or}
use mathlib.Core.List.{List, [], ◌++◌, ◌∷◌, append_assoc}
use mathlib.Core.Path.{◌≡◌, refl}
use native.Mathlib.Nat.{sub-zero}
use native.Mathlib.Omega.{arith}

pub entry_line : (a b c : ℕ) → decimal a ++ (space ∷ [] ++ decimal b ++ space ∷ []) ++ decimal c ++ newline ∷ [] ≡ printed (a ∷ b ∷ c ∷ [])
unfolding joined printed spaced
entry_line a b c = simp append_assoc

-- the lines from the k-th entry on, whose first word is 3 * k
module _ (ws : List ℕ) (n : ℕ) where
  abbrev pub lines_left : ℕ → List ℕ
  lines_left k = entry_lines ws (3 * k) (n - k)

  pub lines_begin : lines_left 0 ≡ entry_lines ws 0 n
  lines_begin = rw sub-zero

  pub lines_turn : (k : ℕ) → k < n → lines_left k ≡ printed (get_or ws (3 * k) 0 ∷ get_or ws (3 * k + 1) 0 ∷ get_or ws (3 * k + 2) 0 ∷ []) ++ lines_left (k + 1)
  unfolding entry_lines
  lines_turn k h =
      let e : n - k ≡ suc (n - (k + 1)) = omega arith in
      let p : 3 * (k + 1) ≡ 3 * k + 3 = omega arith in
      rw (e, p) refl

  pub lines_end : (k : ℕ) → n ≤ k → lines_left k ≡ []
  unfolding entry_lines
  lines_end k h = let e : n - k ≡ 0 = omega arith in rw e refl
