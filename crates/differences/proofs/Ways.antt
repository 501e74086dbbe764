-- The ways out of a comparison. In order: the refusals 1 and 2 of one table, test by test, and what a table that they let through
-- knows; the editions of two such tables; the answer of each way out.
-- Not here: what the entries are (Promise.antt). Assumes nothing.
use Prim.Native.Nat.{◌*◌, ◌+◌, ◌<◌, ◌≤◌, ℕ}
use Rattle.differences.proofs.Passes.{length-words}
use Rattle.differences.specs.Differences.{Compares, buffer_after, compare_refusal, compare_reply, entries, entry_words, table_refusal}
use Rattle.lists.proofs.Laws.{bool_case}
use Rattle.rules.proofs.Coded.{code-some, given_err}
use Rattle.rules.specs.Refusals.{need}
use Rattle.rules.specs.Reply.{code, given}
use Rattle.rules.specs.Table.{edition_of, size, two}
use Rattle.rules.specs.WellFormed.{well_formed}
use Rattle.rules.specs.declared.Refusal.{Refusal}
use Rattle.std.specs.Prelude.{IsErrAnd, Ok, Result}
use borrow.Author.Tests.{eq-eqb, eqb-true, le-leb, lt-leb, ne_eqb}
use lib.Dec.{eqb, leb}
use lib.ListN.{drop, length}
use lib.Seq.{sets, sets-eq}
use mathlib.Core.Bool.{false, true}
use mathlib.Core.List.{List, ◌++◌}
use mathlib.Core.Path.{◌∙◌, ◌≡◌, refl, sym}
use native.Mathlib.Nat.{zero-add}
use native.Mathlib.Omega.{arith}

-- ---- one table

-- "well-formed tables": of the length that its edition has, and well formed in it
pub record Formed (t : List ℕ) : Type 0 where
  pub long : length t ≡ size (edition_of t)
  pub formed : well_formed t ≡ true

module _ (t : List ℕ) (rest : ℕ) where
  pub table_1 : (length t ≡ size (edition_of t) → ⊥) → 1 ≡ table_refusal t rest
  unfolding need table_refusal
  table_1 n = rw (ne_eqb (length t) (size (edition_of t)) n) refl

  pub table_2 : length t ≡ size (edition_of t) → well_formed t ≡ false → 2 ≡ table_refusal t rest
  unfolding need table_refusal
  table_2 e w = rw (eq-eqb (length t) (size (edition_of t)) e, w) refl

  pub table-passed : Formed t → rest ≡ table_refusal t rest
  unfolding need table_refusal
  table-passed f = rw (eq-eqb (length t) (size (edition_of t)) f.long, f.formed) refl

  -- refused by these tests, whatever comes behind them
  pub table_refused : (n : ℕ) → n ≡ table_refusal t 0 → (n ≡ 0 → ⊥) → n ≡ table_refusal t rest
  unfolding need table_refusal
  table_refused n e d =
      bool_case (eqb (length t) (size (edition_of t)))
      (λ b. bool_case (well_formed t) (λ w. absurd (d (e ∙ rw (b, w) refl))) (λ w. e ∙ rw (b, w) refl))
      (λ b. e ∙ rw b refl)

  -- any number but 1 and 2 comes from behind them
  pub table_to : (n : ℕ) → table_refusal t rest ≡ n → (n ≡ 1 → ⊥) → (n ≡ 2 → ⊥) → Formed t × (rest ≡ n)
  unfolding need table_refusal
  table_to n e no₁ no₂ =
      bool_case (eqb (length t) (size (edition_of t)))
      (λ b.
      bool_case (well_formed t)
      (λ w. (record { long = eqb-true (length t) (size (edition_of t)) b; formed = w }, rw (b, w) at e))
      (λ w. absurd (no₂ (sym (rw (b, w) at e)))))
      (λ b. absurd (no₁ (sym (rw b at e))))

pub table-formed : (t : List ℕ) → table_refusal t 0 ≡ 0 → Formed t
table-formed t e = (table_to t 0 0 e (λ q. omega (arith, q)) (λ q. omega (arith, q))).0

-- ---- two tables

-- a table is no longer than one of edition 2
pub formed_most : (t : List ℕ) → Formed t → length t ≤ size two
unfolding edition_of
formed_most t f =
    bool_case (eqb (length t) (size two))
    (λ b. omega (arith, eqb-true (length t) (size two) b))
    (λ b. omega (arith, rw b at f.long))

-- two tables are of one edition exactly if they are as long
pub edition_same : (a b : List ℕ) → length a ≡ length b → (edition_of a).edition ≡ (edition_of b).edition
unfolding edition_of
edition_same a b e = rw e

pub edition-long : (a b : List ℕ) → Formed a → Formed b → (edition_of a).edition ≡ (edition_of b).edition → length a ≡ length b
unfolding edition_of
edition-long a b f g e =
    bool_case (eqb (length a) (size two))
    (λ p.
    bool_case (eqb (length b) (size two))
    (λ q. eqb-true (length a) (size two) p ∙ sym (eqb-true (length b) (size two) q))
    (λ q. absurd (let z : ◌≡◌ {A = ℕ} 2 1 = rw (p, q) at e in omega (arith, z))))
    (λ p.
    bool_case (eqb (length b) (size two))
    (λ q. absurd (let z : ◌≡◌ {A = ℕ} 1 2 = rw (p, q) at e in omega (arith, z)))
    (λ q. (rw p at f.long) ∙ sym (rw q at g.long)))

-- what is tested behind 1 and 2
module _ (a b : List ℕ) (room : ℕ) (f : Formed a) (g : Formed b) where
  pub tested : need (eqb (edition_of a).edition (edition_of b).edition) 13 (need (leb (3 * length (entries a b)) room) 8 0) ≡ compare_refusal a b room
  unfolding compare_refusal
  tested = table-passed b _ g ∙ table-passed a _ f

  pub other_edition : (length a ≡ length b → ⊥) → 13 ≡ compare_refusal a b room
  unfolding need
  other_edition d = rw (ne_eqb (edition_of a).edition (edition_of b).edition (λ e. d (edition-long a b f g e))) at tested

  module _ (same : length a ≡ length b) where
    one-edition : need (leb (3 * length (entries a b)) room) 8 0 ≡ compare_refusal a b room
    unfolding need
    one-edition = rw (eq-eqb (edition_of a).edition (edition_of b).edition (edition_same a b same)) at tested

    pub short_buffer : room < 3 * length (entries a b) → 8 ≡ compare_refusal a b room
    unfolding need
    short_buffer h = rw (lt-leb (3 * length (entries a b)) room h) at one-edition

    pub long_enough : 3 * length (entries a b) ≤ room → 0 ≡ compare_refusal a b room
    unfolding need
    long_enough h = rw (le-leb (3 * length (entries a b)) room h) at one-edition

-- ---- the ways out

module _ (a b buffer : List ℕ) where
  -- a refusal, with nothing written
  pub refused_by : (e : Refusal) (r : Result ℕ Refusal) → IsErrAnd r (λ y. y ≡ e) → code e ≡ compare_refusal a b (length buffer) → Compares a b buffer r buffer
  unfolding buffer_after compare_reply
  refused_by e r h q =
      let more : eqb (code e) 0 ≡ false = ne_eqb (code e) 0 (code-some e) in
      record { reply = given_err r e _ _ h q; words = rw (← q, more) refl }

  pub refused_first : (e : Refusal) → code e ≡ table_refusal a 0 → code e ≡ compare_refusal a b (length buffer)
  unfolding compare_refusal
  refused_first e h = table_refused a _ (code e) h (code-some e)

  module _ (f : Formed a) where
    pub refused_second : (e : Refusal) → code e ≡ table_refusal b 0 → code e ≡ compare_refusal a b (length buffer)
    unfolding compare_refusal
    refused_second e h = table_refused b _ (code e) h (code-some e) ∙ table-passed a _ f

    module _ (g : Formed b) (same : length a ≡ length b) where
      pub compared : (n : ℕ) (buffer' : List ℕ) → n ≡ length (entries a b) → 3 * n ≤ length buffer → buffer' ≡ sets buffer 0 (entry_words (entries a b))
          → Compares a b buffer (Ok n) buffer'
      unfolding buffer_after compare_reply given
      compared n buffer' e h w =
          let z : 0 ≡ compare_refusal a b (length buffer) = long_enough a b (length buffer) f g same (omega arith) in
          let long = length-words (entries a b) in
          let whole : sets buffer 0 (entry_words (entries a b)) ≡ entry_words (entries a b) ++ drop (0 + length (entry_words (entries a b))) buffer =
          sets-eq (entry_words (entries a b)) buffer 0 (omega arith) in
          record {
            reply = rw (← z, e) refl;
            words = w ∙ rw (← z) (whole ∙ rw (zero-add, long));
          }
