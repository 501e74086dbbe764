-- What a summary promises, over tables of words: a table is any list of words in any layout, a hub any number. `summary_in`
-- is in rules' specs/Reply.antt. In order: the refusal; refused, "then both are 0"; the count; the mask, digit by digit.
-- Not here: that the code does it (`summarise`), and that any two results that fit are equal (rules' Promise.antt).
-- Assumes nothing.
use Prim.Native.Nat.{◌%◌, ◌/◌, ◌<◌, ◌^◌, suc, zero, ℕ}
use Rattle.lists.specs.Lists.{bit}
use Rattle.rules.proofs.After.{long_in}
use Rattle.rules.proofs.Coded.{summary-number}
use Rattle.rules.proofs.Reading.{read-hubs}
use Rattle.rules.specs.Refusals.{need}
use Rattle.rules.specs.Reply.{count_given, counted_bits, given, mask_below, mask_given, refusal_number, refusal_with, summary_in, summary_refusal}
use Rattle.rules.specs.Table.{Layout, read, size}
use Rattle.rules.specs.WellFormed.{waits_for, well_formed_in}
use Rattle.summaries.proofs.Masks.{mask_digit, mask_lt}
use Rattle.rules.specs.declared.Refusal.TheVariants.{NotInUse, NotWellFormed, WrongLength}
use Rattle.std.specs.Prelude.{Err, Ok}
use borrow.Author.Tests.{eq-eqb, lt-ltb, ne_eqb}
use lib.Count.{ones}
use lib.Dec.{ltb}
use lib.ListN.{get_or, length}
use mathlib.Core.Bool.{false, true}
use mathlib.Core.List.{List}
use mathlib.Core.Logic.{◌≢◌}
use mathlib.Core.Path.{◌∙◌, ◌≡◌, refl, sym}
use native.Mathlib.Omega.{arith}

-- ---- by the refusal's number

refused_by : (r m : ℕ) → refusal_number (given r (counted_bits m)) ≢ 0 → (mask_given (given r (counted_bits m)) ≡ 0) × (count_given (given r (counted_bits m)) ≡ 0)
unfolding given
refused_by zero m n = absurd (n refl)
refused_by (suc r) m n = (refl, refl)

count_by : (r m : ℕ) → count_given (given r (counted_bits m)) ≡ ones (mask_given (given r (counted_bits m)))
unfolding given ones
count_by zero m = refl
count_by (suc r) m = refl

mask_by : (r m : ℕ) → r ≡ 0 → mask_given (given r (counted_bits m)) ≡ m
unfolding given
mask_by zero m e = refl
mask_by (suc r) m e = absurd (omega (arith, e))

module _ (L : Layout) (t : List ℕ) (h : ℕ) where
  -- ---- 1 "length isn't 600 words", 2 "not well formed", 5 "hub not in use", tested in this order

  pub wrong_length : length t ≢ size L → summary_in L t h ≡ Err WrongLength
  unfolding given need refusal_with summary_in summary_refusal
  wrong_length n = rw (ne_eqb (length t) (size L) n)

  pub not_well_formed : length t ≡ size L → well_formed_in L t ≡ false → summary_in L t h ≡ Err NotWellFormed
  unfolding given need refusal_with summary_in summary_refusal
  not_well_formed long w = rw (eq-eqb (length t) (size L) long, w)

  pub not_in_use : well_formed_in L t ≡ true → ltb h (get_or t 2 0) ≡ false → summary_in L t h ≡ Err NotInUse
  unfolding given need refusal_with summary_in summary_refusal
  not_in_use w u = rw (eq-eqb (length t) (size L) (long_in L t w), w, read-hubs L t, u)

  pub in_use : well_formed_in L t ≡ true → h < get_or t 2 0 → summary_in L t h ≡ Ok (counted_bits (mask_below 16 (waits_for (read L t) h)))
  unfolding given need summary_in summary_refusal
  in_use w u = rw (eq-eqb (length t) (size L) (long_in L t w), w, read-hubs L t, lt-ltb h (get_or t 2 0) u)

  -- ---- whatever the refusal

  -- "Refused with 1, 2 or 5, then both are 0."
  pub refused_zero : refusal_number (summary_in L t h) ≢ 0 → (mask_given (summary_in L t h) ≡ 0) × (count_given (summary_in L t h) ≡ 0)
  unfolding summary_in
  refused_zero = refused_by _ _

  -- "the number of set bits as count"
  pub count_is_bits : count_given (summary_in L t h) ≡ ones (mask_given (summary_in L t h))
  unfolding summary_in
  count_is_bits = count_by _ _

  accepted_mask : refusal_number (summary_in L t h) ≡ 0 → mask_given (summary_in L t h) ≡ mask_below 16 (waits_for (read L t) h)
  unfolding summary_in
  accepted_mask e = mask_by _ _ (sym (summary-number L t h) ∙ e)

  -- "bit i set when task i waits there", and no bit above those of the 16 tasks
  pub mask_bits : refusal_number (summary_in L t h) ≡ 0 → (i : ℕ) → i < 16 → mask_given (summary_in L t h) / 2 ^ i % 2 ≡ bit (waits_for (read L t) h i)
  mask_bits e i lt = rw (accepted_mask e) (mask_digit 16 (waits_for (read L t) h) i lt)

  pub mask_16 : refusal_number (summary_in L t h) ≡ 0 → mask_given (summary_in L t h) < 2 ^ 16
  mask_16 e = rw (accepted_mask e) (mask_lt 16 (waits_for (read L t) h))
