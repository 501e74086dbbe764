-- A list in words, entry by entry, and its text. In order: the numbers of a list from a word on; the tasks of a list from entry k on.
-- Not here: how a text is put (Putting.antt). Assumes nothing.
use Prim.Native.Nat.{◌+◌, ◌-◌, ◌<◌, ◌≤◌, pred, suc, zero, ℕ}
use Rattle.lists.proofs.Laws.{bool_case}
use Rattle.lists.specs.Lists.{numbers}
use Rattle.rules.specs.Table.{part}
use Rattle.texts.specs.Cells.{entries_from, entry_text, tasks_text}
use Rattle.texts.specs.Texts.{bytes}
use borrow.Author.Tests.{eq-eqb, ltb-false, ltb-true, ne_eqb}
use lib.Dec.{ltb}
use lib.ListN.{get_or-eq_default, drop_of_length-le, get_or, length, take}
use lib.Seq.{drop-cons, take-nil}
use mathlib.Core.List.{List, [], ◌++◌, ◌∷◌}
use mathlib.Core.Path.{◌∙◌, ◌≡◌, ap, refl}
use native.Mathlib.Nat.{add-zero}
use native.Mathlib.Numerals.{add-one}
use native.Mathlib.Omega.{arith}

-- ---- the numbers of a list from word p on

module _ (t : List ℕ) (p : ℕ) where
  none-behind : (n : ℕ) → length t ≤ p → part p n t ≡ []
  none-behind n h = ap (take n) (drop_of_length-le t {i = p} h) ∙ take-nil n

  pub numbers_end : (n : ℕ) → get_or t p 0 ≡ 0 → numbers (part p n t) ≡ []
  unfolding numbers
  numbers_end zero e = refl
  numbers_end (suc n) e =
      bool_case (ltb p (length t))
      (λ b. rw (drop-cons t p 0 (ltb-true p (length t) b), eq-eqb (get_or t p 0) 0 e) refl)
      (λ b. rw (none-behind (suc n) (ltb-false p (length t) b)) refl)

  pub numbers-next : (n : ℕ) → (get_or t p 0 ≡ 0 → ⊥) → numbers (part p (suc n) t) ≡ pred (get_or t p 0) ∷ numbers (part (suc p) n t)
  unfolding numbers
  numbers-next n d =
      bool_case (ltb p (length t))
      (λ b. rw (drop-cons t p 0 (ltb-true p (length t) b), ne_eqb (get_or t p 0) 0 d) refl)
      (λ b. absurd (d (get_or-eq_default t 0 {n = p} (ltb-false p (length t) b))))

-- ---- the tasks of the list of 16 words from word `from` on

module _ (t : List ℕ) (from runs : ℕ) where
  abbrev pub tasks_left : ℕ → List ℕ
  tasks_left k = entries_from k runs (numbers (part (from + k) (16 - k) t))

  abbrev pub tasks_all : List ℕ
  tasks_all = tasks_text runs (numbers (part from 16 t))

  pub tasks_nobody : get_or t from 0 ≡ 0 → bytes "nobody" ≡ tasks_all
  unfolding tasks_text
  tasks_nobody e = rw (numbers_end t from 16 e) refl

  pub tasks_begin : (get_or t from 0 ≡ 0 → ⊥) → tasks_left 0 ≡ tasks_all
  unfolding tasks_text
  tasks_begin d = rw (add-zero from) (rw (numbers-next t from 15 d) refl)

  pub tasks_turn : (k : ℕ) → k < 16 → (get_or t (from + k) 0 ≡ 0 → ⊥) → tasks_left k ≡ entry_text k runs (pred (get_or t (from + k) 0)) ++ tasks_left (k + 1)
  unfolding entries_from
  tasks_turn k h d =
      let n : 16 - k ≡ suc (16 - (k + 1)) = omega arith in
      let p : from + (k + 1) ≡ suc (from + k) = omega arith in
      rw (n, numbers-next t (from + k) (16 - (k + 1)) d, p, add-one k) refl

  pub tasks-stop : (k : ℕ) → get_or t (from + k) 0 ≡ 0 → tasks_left k ≡ []
  unfolding entries_from
  tasks-stop k e = rw (numbers_end t (from + k) (16 - k) e) refl

  pub tasks_end : (k : ℕ) → 16 ≤ k → tasks_left k ≡ []
  unfolding entries_from numbers
  tasks_end k h = let n : 16 - k ≡ 0 = omega arith in rw n refl
