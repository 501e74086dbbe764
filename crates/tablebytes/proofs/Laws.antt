-- Laws of the definitions of specs/TableBytes.antt. In order: the bytes of a table of either edition; its words in front of an array.
-- Assumes nothing.
use Prim.Native.Nat.{◌*◌, ℕ}
use Rattle.bytes4.proofs.Laws.{length-bytes}
use Rattle.bytes4.specs.Bytes.{Unpacked, words_from}
use Rattle.rules.specs.Table.{one, two}
use Rattle.tablebytes.specs.TableBytes.{InFront, bytes_in, fits, table_words}
use borrow.Author.Tests.{eq-eqb, ne_eqb}
use lib.Dec.{eqb}
use lib.ListN.{length, length-append}
use lib.Seq.{take_at}
use mathlib.Core.Bool.{false, or-true, true}
use mathlib.Core.List.{List, [], ◌++◌, append-nil}
use mathlib.Core.Path.{◌∙◌, ◌≡◌, ap, refl, sym}
use native.Mathlib.Omega.{arith}

-- ---- the bytes of a table of either edition

pub fits_one : (b : List ℕ) → length b ≡ bytes_in one → fits b ≡ true
unfolding fits
fits_one b h = rw (eq-eqb (length b) (bytes_in one) h) refl

pub fits-two : (b : List ℕ) → length b ≡ bytes_in two → fits b ≡ true
unfolding fits
fits-two b h = rw (eq-eqb (length b) (bytes_in two) h, or-true (eqb (length b) (bytes_in one))) refl

pub fits-none : (b : List ℕ) → (length b ≡ bytes_in one → ⊥) → (length b ≡ bytes_in two → ⊥) → fits b ≡ false
unfolding fits
fits-none b h k = rw (ne_eqb (length b) (bytes_in one) h, ne_eqb (length b) (bytes_in two) k) refl

-- the words of a table of either edition, and none
table_is : (b : List ℕ) → fits b ≡ true → table_words b ≡ words_from b
unfolding table_words
table_is b h = rw h refl

table_none : (b : List ℕ) → fits b ≡ false → table_words b ≡ []
unfolding table_words
table_none b h = rw h refl

-- ---- the words of a table in front of an array: in a part of it, in all of it, and none

module _ (b : List ℕ) where
  pub in_front : (n : ℕ) → fits b ≡ true → length b ≡ 4 * n → {t : List ℕ} → Unpacked b t → (rest : List ℕ) → InFront b (t ++ rest) n
  in_front n h k {t} u rest =
      let whole : length b ≡ 4 * length t = ap length (sym u.back) ∙ length-bytes t in
      let m : length t ≡ n = omega (arith, whole, k) in
      record {
        front = take_at t rest n m ∙ u.words ∙ sym (table_is b h);
        room = rw (length-append t rest) (omega (arith, m));
      }

  pub all_in_front : (n : ℕ) → fits b ≡ true → length b ≡ 4 * n → {t : List ℕ} → Unpacked b t → InFront b t n
  all_in_front n h k {t} u = rw (append-nil t) at (in_front n h k u [])

  pub none_in_front : (length b ≡ bytes_in one → ⊥) → (length b ≡ bytes_in two → ⊥) → (t : List ℕ) → InFront b t 0
  none_in_front h k t = record { front = sym (table_none b (fits-none b h k)); room = omega arith }
