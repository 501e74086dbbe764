-- The lines of a table from line k on, and a turn of the loops that measure and write them. Not here: what the lines say of a
-- state (Lines.antt). Assumes nothing.
use Prim.Native.Nat.{◌+◌, ◌-◌, ◌<◌, ◌≤◌, suc, ℕ}
use Rattle.lines.proofs.Putting.{length-put, put_append}
use Rattle.lines.specs.Lines.{Put, printed}
use Rattle.listing.specs.Listing.{text_of_lines}
use Rattle.rules.specs.Table.{tab}
use lib.ListN.{length, length-append}
use mathlib.Core.List.{List, [], ◌++◌, append_assoc, append-nil}
use mathlib.Core.Path.{◌∙◌, ◌≡◌, ap, refl, sym}
use native.Mathlib.Nat.{sub-zero}
use native.Mathlib.Numerals.{add-one}
use native.Mathlib.Omega.{arith}

module _ (f : ℕ → List ℕ) (N : ℕ) where
  -- the text of lines k to N - 1
  abbrev pub rest : ℕ → List ℕ
  rest k = text_of_lines (tab (N - k) k f)

  abbrev pub whole : List ℕ
  whole = text_of_lines (tab N 0 f)

  pub rest_all : rest 0 ≡ whole
  rest_all = rw sub-zero

  pub rest_none : (k : ℕ) → N ≤ k → rest k ≡ []
  unfolding tab text_of_lines
  rest_none k h = let e : N - k ≡ 0 = omega arith in rw e

  pub rest_turn : (k : ℕ) → k < N → rest k ≡ printed (f k) ++ rest (k + 1)
  unfolding tab text_of_lines
  rest_turn k h = let e : N - k ≡ suc (N - (k + 1)) = omega arith in rw e (rw (add-one k))

  -- a line measured
  pub measured : (k bytes n : ℕ) → k < N → n ≡ length (printed (f k)) → bytes + length (rest k) ≡ length whole → bytes + n + length (rest (k + 1)) ≡ length whole
  measured k bytes n h e w = omega (arith, ap length (rest_turn k h), length-append (printed (f k)) (rest (k + 1)))

  -- ---- the lines being written: the text so far, and what is left

  pub record Filling (before : List ℕ) (now : List ℕ) (at k : ℕ) : Type 0 where
    pub text : List ℕ
    pub put : Put before 0 text at now
    pub all : text ++ rest k ≡ whole
    pub long : length now ≡ length before

  module _ (before : List ℕ) (room : length whole ≤ length before) where
    pub filling_begin : Filling before before 0 0
    filling_begin = record {
      text = [];
      put = record { place = omega arith; bytes = refl };
      all = rest_all;
      long = refl;
    }

    module _ (now : List ℕ) (at k : ℕ) (w : Filling before now at k) where
      fits : 0 + length w.text ≤ length before
      fits = omega (arith, ap length w.all, length-append w.text (rest k))

      pub filling_room : k < N → at + length (printed (f k)) ≤ length now
      filling_room h =
          omega (arith, w.put.place, w.long, ap length w.all, length-append w.text (rest k), ap length (rest_turn k h), length-append (printed (f k)) (rest (k + 1)))

      pub filling_turn : (h : k < N) (last : ℕ) (next : List ℕ) → Put now at (printed (f k)) last next → Filling before next last (k + 1)
      filling_turn h last next q = record {
        text = w.text ++ printed (f k);
        put = put_append before 0 w.text at now w.put fits (printed (f k)) last next q;
        all = append_assoc w.text _ _ ∙ ap (λ (r : List ℕ). w.text ++ r) (sym (rest_turn k h)) ∙ w.all;
        long = length-put now at (printed (f k)) last next q (filling_room h) ∙ w.long;
      }

      pub filling_end : N ≤ k → Put before 0 whole (length whole) now
      filling_end h =
          let same : w.text ≡ whole = sym (append-nil w.text) ∙ ap (λ (r : List ℕ). w.text ++ r) (sym (rest_none k h)) ∙ w.all in
          record {
            place = omega arith;
            bytes = rw (← same) w.put.bytes;
          }
