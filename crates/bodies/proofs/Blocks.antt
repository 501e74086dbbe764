-- A turn of the loop over a Memory hub's marks, and its end: a mark by the table's words; the marks below b, with how many of them
-- are 0. Not here: the kinds table's row (Hubs.antt). Assumes nothing.
use Prim.Native.Nat.{◌*◌, ◌+◌, ◌-◌, ◌<◌, ◌≤◌, suc, zero, zero-le, ℕ}
use Rattle.bodies.proofs.Turns.{for_all-fail, for_all-none, for_all-step}
use Rattle.bodies.specs.Bodies.{marks_of, marks_test}
use Rattle.lists.proofs.Counting.{occ_append, occ_most}
use Rattle.lists.specs.Lists.{occ}
use Rattle.messages.specs.Messages.{message_at}
use Rattle.rules.proofs.Layouts.{Laid, store_place, wide}
use Rattle.rules.proofs.Reading.{length-tab, stored-word}
use Rattle.rules.specs.Table.{Layout, store_part}
use Rattle.rules.specs.WellFormed.{for_all}
use borrow.Author.Tests.{le-leb, lt-leb}
use lib.Dec.{eqb, leb}
use lib.ListN.{get_or, length, length-take, take}
use lib.Seq.{take_all, take-suc}
use mathlib.Core.Bool.{false, true}
use mathlib.Core.List.{List, [], ◌∷◌}
use mathlib.Core.Path.{◌∙◌, ◌≡◌, ap, refl, sym}
use native.Mathlib.Numerals.{add-one}
use native.Mathlib.Omega.{arith}

-- a mark counts as free where it is 0
zero_or_one : (m : ℕ) → m ≤ 1 → occ 0 (m ∷ []) ≡ 1 - m
unfolding occ
zero_or_one zero h = refl
zero_or_one (suc zero) h = refl
zero_or_one (suc (suc m)) h = absurd (omega arith)

-- the marks below b are 0 or 1, and so many of them 0
pub record Counting (L : Layout) (t : List ℕ) (h limit free b : ℕ) : Type 0 where
  pub inside : b ≤ limit
  pub right : for_all b (λ j. leb (get_or (marks_of L t h limit) j 0) 1) ≡ true
  pub count : free ≡ occ 0 (take b (marks_of L t h limit))

module _ (L : Layout) (t : List ℕ) (h limit : ℕ) where
  abbrev marks : List ℕ
  marks = marks_of L t h limit

  length-marks : length marks ≡ limit
  length-marks = length-tab (λ j. L.message_from (λ k. get_or (store_part L t h) (j * L.width + k) 0)) limit 0

  pub counting_begin : Counting L t h limit 0 0
  unfolding occ
  counting_begin = record { inside = zero-le; right = for_all-none (λ j. leb (get_or marks j 0) 1); count = refl }

  -- mark b as the code reads it
  pub mark_read : {ts : ℕ} → Laid ts L → 8 ≤ ts → limit ≤ 8 → (b a v : ℕ) → b < limit → a ≡ 8 + 16 * ts + 64 + 16 + 256 + h * (8 * (ts - 7)) → v ≡ ts - 7
      → message_at v t (a + b * v) ≡ get_or marks b 0
  mark_read {ts} y some few b a v lt at is =
      sym (stored-word L y t h limit b some lt few ∙ rw (at, is, store_place y h, wide y) refl)

  module _ (free b : ℕ) (w : Counting L t h limit free b) where
    pub counting_free : free ≤ b
    counting_free = omega (arith, w.count, occ_most 0 (take b marks), length-take b marks)

    -- m is mark b
    module _ (lt : b < limit) (m : ℕ) (is : m ≡ get_or marks b 0) where
      pub counting_no : 1 < m → (count : ℕ) → false ≡ marks_test L t h count limit
      unfolding marks_test
      counting_no more count = rw (for_all-fail (λ j. leb (get_or marks j 0) 1) limit b lt (lt-leb (get_or marks b 0) 1 (omega (arith, is)))) refl

      pub counting_turn : m ≤ 1 → Counting L t h limit (free + (1 - m)) (b + 1)
      counting_turn low = record {
        inside = omega arith;
        right = for_all-step (λ j. leb (get_or marks j 0) 1) b w.right (le-leb (get_or marks b 0) 1 (omega (arith, is)));
        count = rw (add-one, take-suc marks b 0 (omega (arith, length-marks)))
            (omega (arith, w.count, occ_append 0 (take b marks) (get_or marks b 0 ∷ []), zero_or_one (get_or marks b 0) (omega (arith, is)), is));
      }

    pub counting_end : limit ≤ b → (count : ℕ) → eqb count free ≡ marks_test L t h count limit
    unfolding marks_test
    counting_end out count =
        let q : b ≡ limit = omega (arith, w.inside) in
        let all : take b marks ≡ marks = take_all b marks (omega (arith, length-marks)) in
        rw (rw q at w.right) (ap (eqb count) (w.count ∙ ap (occ 0) all))
