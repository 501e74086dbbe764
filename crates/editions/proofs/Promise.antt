-- What the moves promise of tables of words, beside their contracts. In order: a move up; a move back; "each way followed by the
-- other", as tables and as calls; a move back loses nothing.
-- Not here: when a move back is refused with 9 (rules, HighWords.antt); that the code does what the definitions say (Ways.antt and the functions' proofs). Assumes nothing.
use Prim.Native.Nat.{ℕ}
use Rattle.editions.proofs.Ways.{Low, below_one, high_zero_lem}
use Rattle.editions.specs.Editions.{Below}
use Rattle.rules.specs.Editions.{Moved, down_refusal, high_zero, moved_down, moved_up, up_refusal}
use Rattle.lists.proofs.Laws.{bool_case}
use Rattle.rules.proofs.After.{words_in}
use Rattle.rules.proofs.Editions.{down_formed, down_passed, down_state, passed, tested, up_formed, up_passed, up_state}
use Rattle.rules.proofs.Layouts.{one_laid, sized, two_laid}
use Rattle.rules.proofs.Places.{length-words}
use Rattle.rules.specs.Refusals.{need}
use Rattle.rules.specs.Table.{one, read, two, words}
use lib.ListN.{length}
use mathlib.Core.Bool.{true}
use mathlib.Core.List.{List}
use mathlib.Core.Path.{◌∙◌, ◌≡◌, refl, sym}
use native.Mathlib.Omega.{arith}

-- ---- "One call moves a table from edition 1 to 2 with high words 0"

module _ (from : List ℕ) (room : ℕ) (e : up_refusal from room ≡ 0) where
  module _ (low : Low from) where
    up_words : from ≡ words one (read one from)
    up_words = words_in one from (up_passed from room e).formed one_laid low

    pub up_high : high_zero (moved_up from) ≡ true
    up_high = (high_zero_lem (read one from)).conv (below_one (read one from) (λ k. rw (← up_words) (low k)))

    -- moved back, it is the first table
    pub up_down : (down_refusal (moved_up from) (length from) ≡ 0) × (moved_down (moved_up from) ≡ from)
    unfolding down_refusal need
    up_down = (
      sym (tested two one (moved_up from) (length from) _ (length-words two (sized two_laid) (read one from)) (up_passed from room e).long (up_formed from room e)) ∙ rw up_high refl,
      rw (up_state from room e) (sym up_words),
    )

-- ---- "One moves it back"

module _ (from : List ℕ) (room : ℕ) (e : down_refusal from room ≡ 0) where
  -- moved up again, it is the first table
  pub down_up : Low from → (up_refusal (moved_down from) (length from) ≡ 0) × (moved_up (moved_down from) ≡ from)
  unfolding up_refusal
  down_up low = (
    sym (tested one two (moved_down from) (length from) 0 (length-words one (sized one_laid) (read two from)) (down_passed from room e).long (down_formed from room e)),
    rw (down_state from room e) (sym (words_in two from (down_passed from room e).formed two_laid low)),
  )

-- ---- "Each way followed by the other, where accepted, gives the first table again": the two calls, one after the other

done : {refusal : ℕ} {result to to' : List ℕ} → Moved refusal result to 0 to' → (refusal ≡ 0) × (to' ≡ result)
done m = (sym m.number, m.table ∙ rw (← m.number) refl)

module _ (from to to₁ back back₁ : List ℕ) (r : ℕ) (low : Low from) where
  pub up_then_down : Moved (up_refusal from (length to)) (moved_up from) to 0 to₁ → length back ≡ length from
      → Moved (down_refusal to₁ (length back)) (moved_down to₁) back r back₁ → (r ≡ 0) × (back₁ ≡ from)
  up_then_down up long down =
      let u = done up in
      let b = up_down from (length to) u.0 low in
      let z : down_refusal to₁ (length back) ≡ 0 = rw (u.1, long) b.0 in
      (down.number ∙ z, down.table ∙ rw z (rw u.1 b.1))

  pub down_then_up : Moved (down_refusal from (length to)) (moved_down from) to 0 to₁ → length back ≡ length from
      → Moved (up_refusal to₁ (length back)) (moved_up to₁) back r back₁ → (r ≡ 0) × (back₁ ≡ from)
  down_then_up down long up =
      let d = done down in
      let b = down_up from (length to) d.0 low in
      let z : up_refusal to₁ (length back) ≡ 0 = rw (d.1, long) b.0 in
      (up.number ∙ z, up.table ∙ rw z (rw d.1 b.1))

-- ---- a move back that is accepted loses nothing: each message is one word

pub down_below : (from : List ℕ) (room : ℕ) → down_refusal from room ≡ 0 → Low from → Below 4294967296 (read two from)
unfolding down_refusal need
down_below from room e low =
    let p = passed two one from room _ e in
    let table : from ≡ words two (read two from) = words_in two from p.0.formed two_laid low in
    let zero_high = bool_case (high_zero from) (λ b. b) (λ b. absurd (let q : ◌≡◌ {A = ℕ} 9 0 = rw b at p.1 in omega (arith, q))) in
    (high_zero_lem (read two from)).yes (rw (← table) zero_high)
