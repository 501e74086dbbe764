-- A turn of the loop that writes the rows: what is left to write.
-- Not here: what a row says. Assumes nothing.
use Prim.Native.Nat.{◌+◌, ◌-◌, ◌<◌, ◌≤◌, suc, ℕ}
use Rattle.rows.proofs.Turns.{rows_are}
use Rattle.rows.specs.Rows.{row_at, rows}
use Rattle.rules.specs.Table.{tab}
use Rattle.sidebyside.specs.RowLines.{row_text, rows_text}
use mathlib.Core.List.{List, [], ◌++◌}
use mathlib.Core.Path.{◌≡◌, ap, refl}
use native.Mathlib.Nat.{sub-zero}
use native.Mathlib.Numerals.{add-one}
use native.Mathlib.Omega.{arith}

module _ (ts : ℕ) (a b : List ℕ) (ra rb : ℕ) where
  abbrev pub text_left : ℕ → List ℕ
  text_left k = rows_text ts a b ra rb (tab (98 - k) k row_at)

  abbrev pub text_all : List ℕ
  text_all = rows_text ts a b ra rb rows

  pub text_begin : text_left 0 ≡ text_all
  text_begin = ap (rows_text ts a b ra rb) (rw sub-zero rows_are)

  pub text_turn : (k : ℕ) → k < 98 → text_left k ≡ row_text ts a b ra rb (row_at k) ++ text_left (k + 1)
  unfolding rows_text tab
  text_turn k h = let e : 98 - k ≡ suc (98 - (k + 1)) = omega arith in rw (e, add-one k) refl

  pub text_end : (k : ℕ) → 98 ≤ k → text_left k ≡ []
  unfolding rows_text tab
  text_end k h = let e : 98 - k ≡ 0 = omega arith in rw e refl
