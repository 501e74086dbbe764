-- A move from one edition to the other. In order: its refusal, test by test, and what each way out knows; what an accepted move leaves:
-- a well-formed table of the other edition, which shows the same state.
-- Not here: that each way followed by the other gives the first table again (crate editions, Promise.antt). Assumes nothing.
use Prim.Native.Nat.{ℕ}
use Rattle.lists.proofs.Laws.{bool_case}
use Rattle.rules.proofs.After.{valid_in, well_formed_in_lem}
use Rattle.rules.proofs.Layouts.{Laid, edition-one, edition-two, one_laid, sized, two_laid}
use Rattle.rules.proofs.Places.{length-words}
use Rattle.rules.proofs.Reading.{read-words}
use Rattle.rules.proofs.Room.{valid-room}
use Rattle.rules.proofs.Valid.{Valid}
use Rattle.rules.specs.Editions.{down_refusal, move_refusal, moved_down, moved_up, up_refusal}
use Rattle.rules.specs.Refusals.{need}
use Rattle.rules.specs.Table.{Layout, edition_of, one, read, size, state_of, two, words}
use Rattle.rules.specs.WellFormed.{well_formed, well_formed_in}
use borrow.Author.Tests.{eq-eqb, eqb-true, ne_eqb}
use lib.Dec.{eqb}
use lib.ListN.{length}
use mathlib.Core.Bool.{◌&&◌, and-eq-true_iff, and-false, false, true}
use mathlib.Core.List.{List}
use mathlib.Core.Path.{◌∙◌, ◌≡◌, refl, sym}
use native.Mathlib.Omega.{arith}

-- ---- the refusal, test by test

module _ (L M : Layout) (from : List ℕ) (room rest : ℕ) where
  pub refused_source : (length from ≡ size L → ⊥) → 1 ≡ move_refusal L M from room rest
  unfolding move_refusal need
  refused_source n = rw (ne_eqb (length from) (size L) n) refl

  pub refused_room : (room ≡ size M → ⊥) → 1 ≡ move_refusal L M from room rest
  unfolding move_refusal need
  refused_room n = rw (ne_eqb room (size M) n, and-false (eqb (length from) (size L))) refl

  pub refused_malformed : length from ≡ size L → room ≡ size M → well_formed_in L from ≡ false → 2 ≡ move_refusal L M from room rest
  unfolding move_refusal need
  refused_malformed e g w = rw (eq-eqb (length from) (size L) e, eq-eqb room (size M) g, w) refl

  pub tested : length from ≡ size L → room ≡ size M → well_formed_in L from ≡ true → rest ≡ move_refusal L M from room rest
  unfolding move_refusal need
  tested e g w = rw (eq-eqb (length from) (size L) e, eq-eqb room (size M) g, w) refl

  -- refused by these tests, whatever comes behind them
  pub refused_before : (n : ℕ) → n ≡ move_refusal L M from room 0 → (n ≡ 0 → ⊥) → n ≡ move_refusal L M from room rest
  unfolding move_refusal need
  refused_before n e d =
      bool_case (eqb (length from) (size L) && eqb room (size M))
      (λ b.
      bool_case (well_formed_in L from)
      (λ w. absurd (d (e ∙ rw (b, w) refl)))
      (λ w. e ∙ rw (b, w) refl))
      (λ b. e ∙ rw b refl)

-- what a move that these tests let through knows
pub record Passed (L M : Layout) (from : List ℕ) (room : ℕ) : Type 0 where
  pub long : length from ≡ size L
  pub fits : room ≡ size M
  pub formed : well_formed_in L from ≡ true

-- any number but 1 and 2 comes from behind them
pub passed_to : (L M : Layout) (from : List ℕ) (room rest n : ℕ) → move_refusal L M from room rest ≡ n → (n ≡ 1 → ⊥) → (n ≡ 2 → ⊥) → Passed L M from room × (rest ≡ n)
unfolding move_refusal need
passed_to L M from room rest n e no₁ no₂ =
    bool_case (eqb (length from) (size L) && eqb room (size M))
    (λ b.
    bool_case (well_formed_in L from)
    (λ w.
    let both = (and-eq-true_iff (eqb (length from) (size L)) (eqb room (size M))).0 b in
    (record { long = eqb-true (length from) (size L) both.0; fits = eqb-true room (size M) both.1; formed = w }, rw (b, w) at e))
    (λ w. absurd (no₂ (sym (rw (b, w) at e)))))
    (λ b. absurd (no₁ (sym (rw b at e))))

pub passed : (L M : Layout) (from : List ℕ) (room rest : ℕ) → move_refusal L M from room rest ≡ 0 → Passed L M from room × (rest ≡ 0)
passed L M from room rest e = passed_to L M from room rest 0 e (λ q. omega (arith, q)) (λ q. omega (arith, q))

-- ---- what an accepted move leaves

-- the words, in an edition, of the state that a well-formed table of another holds
module _ {ls ms : ℕ} (L M : Layout) (y : Laid ls L) (z : Laid ms M) (from : List ℕ) (room rest : ℕ) (e : move_refusal L M from room rest ≡ 0) where
  moved-valid : Valid (read L from)
  moved-valid = valid_in L from (passed L M from room rest e).0.formed

  moved-formed : well_formed_in M (words M (read L from)) ≡ true
  moved-formed = well_formed_in_lem z (read L from) moved-valid

  moved-state : read M (words M (read L from)) ≡ read L from
  moved-state = read-words M z (read L from) (valid-room (read L from) moved-valid)

module _ (from : List ℕ) (room : ℕ) where
  pub edition_up : edition_of (moved_up from) ≡ two
  edition_up = edition-two (moved_up from) (length-words two (sized two_laid) (read one from))

  pub edition_down : edition_of (moved_down from) ≡ one
  edition_down = edition-one (moved_down from) (length-words one (sized one_laid) (read two from))

  -- "One call moves a table from edition 1 to 2"
  module _ (e : up_refusal from room ≡ 0) where
    pub up_passed : Passed one two from room
    unfolding up_refusal
    up_passed = (passed one two from room 0 e).0

    -- the table is well formed in edition 2, and holds the same state
    pub up_formed : well_formed_in two (moved_up from) ≡ true
    unfolding up_refusal
    up_formed = moved-formed one two one_laid two_laid from room 0 e

    pub up_state : read two (moved_up from) ≡ read one from
    unfolding up_refusal
    up_state = moved-state one two one_laid two_laid from room 0 e

    -- both in the table's own edition
    pub up_well_formed : well_formed (moved_up from) ≡ true
    up_well_formed = rw edition_up up_formed

    pub up_shows : state_of (moved_up from) ≡ state_of from
    up_shows = rw (edition_up, edition-one from up_passed.long) up_state

  -- "a malformed source 2, before 9"
  pub down_malformed : length from ≡ size two → room ≡ size one → well_formed_in two from ≡ false → 2 ≡ down_refusal from room
  unfolding down_refusal
  down_malformed = refused_malformed two one from room _

  -- "One moves it back"
  module _ (e : down_refusal from room ≡ 0) where
    pub down_passed : Passed two one from room
    unfolding down_refusal
    down_passed = (passed two one from room _ e).0

    pub down_formed : well_formed_in one (moved_down from) ≡ true
    unfolding down_refusal
    down_formed = moved-formed two one two_laid one_laid from room _ e

    pub down_state : read one (moved_down from) ≡ read two from
    unfolding down_refusal
    down_state = moved-state two one two_laid one_laid from room _ e

    pub down_well_formed : well_formed (moved_down from) ≡ true
    down_well_formed = rw edition_down down_formed

    pub down_shows : state_of (moved_down from) ≡ state_of from
    down_shows = rw (edition_down, edition-two from down_passed.long) down_state
