-- The rows by their numbers, and a turn of the loop that counts the marked ones. In order: the rows are those that the definition lists,
-- and each is about one of 16; each that is listed likewise; what is left to count.
-- Not here: what a row says. Assumes nothing.
use Prim.Native.Nat.{◌%◌, ◌+◌, ◌-◌, ◌/◌, ◌<◌, ◌≤◌, suc, ℕ}
use Rattle.lists.proofs.Laws.{bool_case}
use Rattle.lists.specs.Lists.{bit}
use Rattle.rows.specs.Rows.{hub_row, hub_rows, marked, marked_in, row_at, row_number, rows, task_row, task_rows}
use Rattle.rows.specs.declared.Row.{Row}
use Rattle.rules.specs.Table.{tab}
use borrow.Author.Tests.{ltb-true}
use lib.Dec.{eqb, ltb}
use mir.Val.{bool_byte}
use mathlib.Core.Bool.{Bool, cond, false, false≢true, true}
use mathlib.Core.List.Memᴰ
use mathlib.Core.List.{List, Memᴰ, [], ◌∷◌}
use mathlib.Core.Logic.{⊎_elim}
use mathlib.Core.Path.{◌≡◌, ap, refl}
use native.Mathlib.Nat.{sub-zero}
use native.Mathlib.Numerals.{add-one}
use native.Mathlib.Omega.{arith}

-- ---- the rows by number

pub rows_are : tab 98 0 row_at ≡ rows
unfolding hub_row hub_rows row_at rows tab task_row task_rows
rows_are = refl

task-number : (i j : ℕ) → row_number (task_row i j) ≡ i
unfolding task_row
task-number i j = bool_case (eqb j 0) (λ b. rw b refl) (λ b. bool_case (eqb j 1) (λ d. rw (b, d) refl) (λ d. rw (b, d) refl))

hub-number : (h j : ℕ) → row_number (hub_row h j) ≡ h
unfolding hub_row
hub-number h j = bool_case (eqb j 0) (λ b. rw b refl) (λ b. bool_case (eqb j 1) (λ d. rw (b, d) refl) (λ d. rw (b, d) refl))

pub row_low : (k : ℕ) → k < 98 → row_number (row_at k) < 16
unfolding row_at
row_low k h =
    bool_case (eqb k 0)
    (λ b. rw b (omega arith))
    (λ b.
    bool_case (ltb k 2)
    (λ d. rw (b, d) (omega arith))
    (λ d.
    bool_case (ltb k 50)
    (λ e. rw (b, d, e) (omega (arith, task-number ((k - 2) / 3) ((k - 2) % 3), ltb-true k 50 e)))
    (λ e. rw (b, d, e) (omega (arith, hub-number ((k - 50) / 3) ((k - 50) % 3))))))

-- ---- so is each that is listed

low_rows : List Row → Bool
low_rows [] = true
low_rows (r ∷ rs) = cond (ltb (row_number r) 16) (low_rows rs) false

low_rows_lem : low_rows rows ≡ true
unfolding hub_rows low_rows rows task_rows
low_rows_lem = refl

low-row : (rs : List Row) → low_rows rs ≡ true → (r : Row) → Memᴰ r rs → row_number r < 16
unfolding low_rows
low-row [] e r m = absurd (Memᴰ.not-nil m)
low-row (x ∷ rs) e r m =
    bool_case (ltb (row_number x) 16)
    (λ q. ⊎_elim (λ s. rw s (ltb-true (row_number x) 16 q)) (λ s. low-row rs (rw q at e) r s) (Memᴰ.cases_cons m))
    (λ q. absurd (false≢true (rw q at e)))

pub row_few : (r : Row) → Memᴰ r rows → row_number r < 16
row_few r m = low-row rows low_rows_lem r m

-- ---- what is left to count

-- a mark as a number, by `u32::from`
pub byte_bit : (m : Bool) → bool_byte m ≡ bit m
byte_bit true = refl
byte_bit false = refl

pub bit_low : (m : Bool) → bit m ≤ 1
bit_low true = omega arith
bit_low false = omega arith

module _ (ts : ℕ) (a b : List ℕ) (ra rb : ℕ) where
  abbrev pub marked_left : ℕ → ℕ
  marked_left k = marked_in ts a b ra rb (tab (98 - k) k row_at)

  abbrev pub marked_all : ℕ
  marked_all = marked_in ts a b ra rb rows

  pub marked_begin : marked_left 0 ≡ marked_all
  marked_begin = ap (marked_in ts a b ra rb) (rw sub-zero rows_are)

  pub marked_turn : (k : ℕ) → k < 98 → marked_left k ≡ bit (marked ts a b ra rb (row_at k)) + marked_left (k + 1)
  unfolding marked_in tab
  marked_turn k h = let e : 98 - k ≡ suc (98 - (k + 1)) = omega arith in rw (e, add-one k) refl

  pub marked_end : (k : ℕ) → 98 ≤ k → marked_left k ≡ 0
  unfolding marked_in tab
  marked_end k h = let e : 98 - k ≡ 0 = omega arith in rw e refl
