-- What each way through a step of the reader comes to, by the tests on that way: one law for each return of a function.
-- In order: a digit, a space, any byte; a line's end, the next line; a chunk.
use Prim.Native.Nat.{◌*◌, ◌+◌, ◌-◌, ◌<◌, ◌≤◌, suc, ℕ}
use Rattle.lines.specs.Lines.{field_count, newline, number_limit, space, zero_digit}
use Rattle.lines.specs.Scan.{byte_step, digit_step, last_number, line_of_scan, next_of, progress_of, push, space_step, spoilt, start_of}
use Rattle.lines.specs.declared.Progress.TheVariants.{Ended, More}
use Rattle.lines.specs.declared.Scan.{Scan}
use borrow.Author.Tests.{eq-eqb, le-leb, le-ltb, lt-leb, lt-ltb, ne_eqb}
use lib.Dec.{eqb}
use lib.ListN.{drop, drop_of_length-le, get_or, length}
use lib.Seq.{drop-cons}
use Rattle.std.specs.Prelude.{Err, None, Ok, Option, Some}
use mathlib.Core.Bool.{and-false, false, true}
use mathlib.Core.List.{List, ◌∷◌}
use mathlib.Core.Path.{◌∙◌, ◌≡◌, ap, refl, sym}
use native.Mathlib.Numerals.{add-one}

-- ---- a digit

pub digit_first : (s : Scan) (d : ℕ) → s.number ≡ None → record s { number = Some d } ≡ digit_step s d
unfolding digit_step
digit_first s d e = rw e

pub digit_zero : (s : Scan) (d : ℕ) → s.number ≡ Some 0 → spoilt s ≡ digit_step s d
unfolding digit_step
digit_zero s d e = rw e

pub digit_more : (s : Scan) (d v : ℕ) → s.number ≡ Some v → (v ≡ 0 → ⊥) → v * 10 + d ≤ number_limit → record s { number = Some (v * 10 + d) } ≡ digit_step s d
unfolding digit_step
digit_more s d v e z l = rw (e, ne_eqb v 0 z, le-leb (v * 10 + d) number_limit l)

pub digit_more_over : (s : Scan) (d v : ℕ) → s.number ≡ Some v → (v ≡ 0 → ⊥) → number_limit < v * 10 + d → spoilt s ≡ digit_step s d
unfolding digit_step
digit_more_over s d v e z l = rw (e, ne_eqb v 0 z, lt-leb (v * 10 + d) number_limit l)

-- ---- a space

pub space_ends : (s : Scan) (v : ℕ) → s.number ≡ Some v → s.fields < field_count - 1
    → record s { fields = s.fields + 1; call = push s.call v; number = None } ≡ space_step s
unfolding space_step
space_ends s v e l = rw (e, lt-ltb s.fields (field_count - 1) l)

pub space_over : (s : Scan) (v : ℕ) → s.number ≡ Some v → field_count - 1 ≤ s.fields → spoilt s ≡ space_step s
unfolding space_step
space_over s v e l = rw (e, le-ltb s.fields (field_count - 1) l)

pub space_early : (s : Scan) → s.number ≡ None → spoilt s ≡ space_step s
unfolding space_step
space_early s e = rw e

-- ---- any byte

pub byte_bad : (s : Scan) (b : ℕ) → s.bad ≡ true → s ≡ byte_step s b
unfolding byte_step
byte_bad s b e = rw e

pub byte_space : (s : Scan) (b : ℕ) → s.bad ≡ false → b < zero_digit → b ≡ space → space_step s ≡ byte_step s b
unfolding byte_step
byte_space s b e l q = rw (e, lt-ltb b zero_digit l, eq-eqb b space q)

pub byte_low : (s : Scan) (b : ℕ) → s.bad ≡ false → b < zero_digit → (b ≡ space → ⊥) → spoilt s ≡ byte_step s b
unfolding byte_step
byte_low s b e l q = rw (e, lt-ltb b zero_digit l, ne_eqb b space q)

pub byte_high : (s : Scan) (b : ℕ) → s.bad ≡ false → zero_digit ≤ b → zero_digit + 9 < b → spoilt s ≡ byte_step s b
unfolding byte_step
byte_high s b e l h = rw (e, le-ltb b zero_digit l, lt-ltb (zero_digit + 9) b h)

pub byte_digit : (s : Scan) (b : ℕ) → s.bad ≡ false → zero_digit ≤ b → b ≤ zero_digit + 9 → digit_step s (b - zero_digit) ≡ byte_step s b
unfolding byte_step
byte_digit s b e l h = rw (e, le-ltb b zero_digit l, le-ltb (zero_digit + 9) b h)

-- ---- a line's end, and the next line

pub end_bad : (s : Scan) → s.bad ≡ true → Err (record { line = s.line }) ≡ line_of_scan s
unfolding line_of_scan
end_bad s b = by s.number
  where
    by : (number : Option ℕ) → Err (record { line = s.line }) ≡ line_of_scan (record s { number = number })
    by None = refl
    by (Some v) = rw b

pub end_early : (s : Scan) → s.number ≡ None → Err (record { line = s.line }) ≡ line_of_scan s
unfolding line_of_scan
end_early s e = rw e

pub end_short : (s : Scan) (v : ℕ) → s.number ≡ Some v → (s.fields ≡ field_count - 1 → ⊥) → Err (record { line = s.line }) ≡ line_of_scan s
unfolding line_of_scan
end_short s v e f = rw (e, ne_eqb s.fields (field_count - 1) f) (rw and-false)

pub end_good : (s : Scan) (v : ℕ) → s.bad ≡ false → s.number ≡ Some v → s.fields ≡ field_count - 1 → Ok (push s.call v) ≡ line_of_scan s
unfolding line_of_scan
end_good s v b e f = rw (e, b, eq-eqb s.fields (field_count - 1) f)

pub next_more : (s : Scan) → s.line < last_number → start_of (s.line + 1) ≡ next_of s
unfolding next_of
next_more s l = rw (lt-ltb s.line last_number l)

-- ---- a chunk: its first byte; and its byte at place i, as a loop over it goes

pub progress_newline : (i : ℕ) (s : Scan) (b : ℕ) (bs : List ℕ) → eqb b newline ≡ true → progress_of i s (b ∷ bs) ≡ Ended (line_of_scan s) (next_of s) (i + 1)
unfolding progress_of
progress_newline i s b bs e = rw (e, progress_of)

pub progress_byte : (i : ℕ) (s : Scan) (b : ℕ) (bs : List ℕ) → eqb b newline ≡ false → progress_of i s (b ∷ bs) ≡ progress_of (i + 1) (byte_step s b) bs
unfolding progress_of
progress_byte i s b bs e = rw (e, progress_of)

module _ (i : ℕ) (s : Scan) (l : List ℕ) where
  pub newline-at : i < length l → get_or l i 0 ≡ newline → Ended (line_of_scan s) (next_of s) (i + 1) ≡ progress_of i s (drop i l)
  newline-at h e = rw (drop-cons l i 0 h) (sym (progress_newline i s (get_or l i 0) (drop (suc i) l) (eq-eqb (get_or l i 0) newline e)))

  pub byte_at : i < length l → (get_or l i 0 ≡ newline → ⊥) → progress_of (i + 1) (byte_step s (get_or l i 0)) (drop (i + 1) l) ≡ progress_of i s (drop i l)
  byte_at h e =
      rw (drop-cons l i 0 h)
      (ap (λ (k : ℕ). progress_of (i + 1) (byte_step s (get_or l i 0)) (drop k l)) (add-one i)
      ∙ sym (progress_byte i s (get_or l i 0) (drop (suc i) l) (ne_eqb (get_or l i 0) newline e)))

  pub end_at : length l ≤ i → More s ≡ progress_of i s (drop i l)
  unfolding progress_of
  end_at h = rw (drop_of_length-le l h)
