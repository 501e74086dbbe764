-- The ways out of `show`. In order: the tables' own refusals, and what two tables that pass them know; who runs in one of them, and its
-- keys; the reply and the buffer of each way out.
-- Not here: what the rows say. Assumes nothing.
use Prim.Native.Nat.{◌+◌, ◌<◌, ◌≤◌, ℕ}
use Rattle.differences.proofs.Promise.{OneEdition}
use Rattle.differences.proofs.Ways.{Formed, edition-long, edition_same, table-passed, table_refused, table_to}
use Rattle.differences.specs.Differences.{table_refusal}
use Rattle.lists.proofs.Laws.{bool_case}
use Rattle.records.specs.Records.{Table, task_size_of}
use Rattle.rows.specs.Rows.{KeysOf}
use Rattle.rules.proofs.After.{valid_in, words_in}
use Rattle.rules.proofs.Coded.{code-some, given_err}
use Rattle.rules.proofs.Layouts.{Laid, store_place}
use Rattle.rules.proofs.Meaning.{valid_sound}
use Rattle.rules.proofs.Room.{valid-room}
use Rattle.rules.proofs.Valid.{Listed, Room, Sound}
use Rattle.rules.specs.Effective.{effective}
use Rattle.rules.specs.Lists.{next}
use Rattle.rules.specs.Refusals.{need}
use Rattle.rules.specs.Reply.{code, given}
use Rattle.rules.specs.Table.{Layout, State, edition_of, state_of, words}
use Rattle.rules.specs.declared.Refusal.{Refusal}
use Rattle.sidebyside.specs.Shows.{ShownAs, pair_refusal, refusal_for, reply_for, text_after}
use Rattle.sidebyside.specs.declared.Shown.{Shown}
use Rattle.std.specs.Prelude.{IsErrAnd, Ok, Result}
use Rattle.texts.specs.Texts.{Put, put}
use Rattle.wellformed.proofs.Editions.{edition_laid_of}
use borrow.Author.Tests.{eq-eqb, eqb-false, eqb-true, le-leb, lt-leb, ne_eqb}
use lib.Dec.{eqb, leb}
use lib.ListN.{drop, get_or, length, take}
use lib.Seq.{sets, sets-eq, take_at}
use mathlib.Core.Bool.{false, true}
use mathlib.Core.List.{List, ◌++◌}
use mathlib.Core.Path.{◌∙◌, ◌≡◌, ap, refl, sym}
use native.Mathlib.Omega.{arith}

-- ---- the tables' own refusals

module _ (a b : List ℕ) where
  pub pair-first : (n : ℕ) → n ≡ table_refusal a 0 → (n ≡ 0 → ⊥) → n ≡ pair_refusal a b
  unfolding pair_refusal
  pair-first n e d = table_refused a _ n e d

  module _ (f : Formed a) where
    pub pair_second : (n : ℕ) → n ≡ table_refusal b 0 → (n ≡ 0 → ⊥) → n ≡ pair_refusal a b
    unfolding pair_refusal
    pair_second n e d = table_refused b _ n e d ∙ table-passed a _ f

    module _ (g : Formed b) where
      passed : need (eqb (edition_of a).edition (edition_of b).edition) 13 0 ≡ pair_refusal a b
      unfolding pair_refusal
      passed = table-passed b _ g ∙ table-passed a _ f

      pair_13 : (length a ≡ length b → ⊥) → 13 ≡ pair_refusal a b
      unfolding need
      pair_13 d = rw (ne_eqb (edition_of a).edition (edition_of b).edition (λ e. d (edition-long a b f g e))) at passed

      pair_0 : length a ≡ length b → 0 ≡ pair_refusal a b
      unfolding need
      pair_0 e = rw (eq-eqb (edition_of a).edition (edition_of b).edition (edition_same a b e)) at passed

      -- two tables that pass are of one edition exactly if they are as long
      pub pair_last : (n : ℕ) → n ≡ need (eqb (length a) (length b)) 13 0 → n ≡ pair_refusal a b
      unfolding need
      pair_last n h =
          bool_case (eqb (length a) (length b))
          (λ q. (rw q at h) ∙ pair_0 (eqb-true (length a) (length b) q))
          (λ q. (rw q at h) ∙ pair_13 (eqb-false (length a) (length b) q))

pub pair-formed : (a b : List ℕ) → pair_refusal a b ≡ 0 → OneEdition a b
unfolding need pair_refusal
pair-formed a b e =
    let f = table_to a _ 0 e (λ z. omega (arith, z)) (λ z. omega (arith, z)) in
    let g = table_to b _ 0 f.1 (λ z. omega (arith, z)) (λ z. omega (arith, z)) in
    bool_case (eqb (edition_of a).edition (edition_of b).edition)
    (λ q. record { first = f.0; second = g.0; same = edition-long a b f.0 g.0 (eqb-true (edition_of a).edition (edition_of b).edition q) })
    (λ q. absurd (let z : ◌≡◌ {A = ℕ} 13 0 = rw q at g.1 in omega (arith, z)))

-- ---- who runs

-- what the code finds is what the rules say of the table's state
pub runs_is : (t : List ℕ) → Formed t → ((k : ℕ) → get_or t k 0 < 4294967296) → {ts r : ℕ} → ts ≡ task_size_of (length t)
    → ((L : Layout) (s : State) → Laid ts L → Room s → Listed s → t ≡ words L s → r ≡ next s) → r ≡ next (state_of t)
runs_is t f low {ts} {r} size found =
    let y = edition_laid_of t ts size in
    let v = valid_in (edition_of t) t f.formed in
    found (edition_of t) (state_of t) y (valid-room (state_of t) v) v.listed (words_in (edition_of t) t f.formed y low)

-- ---- its keys

-- a table that passes has the room that the code asks for
pub table_is : (t : List ℕ) → Formed t → {ts : ℕ} → ts ≡ task_size_of (length t) → 8 ≤ ts → ts ≤ 9 → Table ts t
table_is t f {ts} size low high = record { low = low; high = high; long = f.long ∙ sym (store_place (edition_laid_of t ts size) 16) }

-- what the code finds are the effective priorities of the table's state
pub keys_are : (t : List ℕ) → Formed t → ((k : ℕ) → get_or t k 0 < 4294967296) → {ts : ℕ} {keys : List ℕ} → ts ≡ task_size_of (length t)
    → ((L : Layout) (s : State) → Laid ts L → Sound s → t ≡ words L s → (j : ℕ) → get_or keys j 0 ≡ effective s j) → KeysOf t keys
keys_are t f low {ts} {keys} size found =
    let y = edition_laid_of t ts size in
    let v = valid_in (edition_of t) t f.formed in
    record { key = found (edition_of t) (state_of t) y (valid_sound (state_of t) v) (words_in (edition_of t) t f.formed y low) }

-- ---- the reply and the buffer

module _ (k : ℕ) (rows_of : List ℕ) (marks : ℕ) (text : List ℕ) where
  pub refused_by : (e : Refusal) (r : Result Shown Refusal) → IsErrAnd r (λ y. y ≡ e) → code e ≡ refusal_for k rows_of (length text) → ShownAs k rows_of marks text r text
  unfolding reply_for text_after
  refused_by e r h q =
      let more : eqb (code e) 0 ≡ false = ne_eqb (code e) 0 (code-some e) in
      record { reply = given_err r e _ _ h q; bytes = rw (← q, more) refl }

  -- refused by the tables
  pub refused_tables : (e : Refusal) (r : Result Shown Refusal) → IsErrAnd r (λ y. y ≡ e) → code e ≡ k → ShownAs k rows_of marks text r text
  unfolding refusal_for
  refused_tables e r h q = refused_by e r h (rw (← q, ne_eqb (code e) 0 (code-some e)) refl)

module _ (rows_of : List ℕ) (marks : ℕ) (text : List ℕ) where
  pub refused_8 : (e : Refusal) (r : Result Shown Refusal) → IsErrAnd r (λ y. y ≡ e) → code e ≡ 8 → length text < length rows_of → ShownAs 0 rows_of marks text r text
  unfolding need refusal_for
  refused_8 e r h q l = refused_by 0 rows_of marks text e r h (q ∙ rw (lt-leb (length rows_of) (length text) l) refl)

  pub shown-all : (end : ℕ) (text' : List ℕ) → end ≡ length rows_of → length rows_of ≤ length text → text' ≡ rows_of ++ drop end text
      → ShownAs 0 rows_of marks text (Ok (record { length = end; marked = marks })) text'
  unfolding given need refusal_for reply_for text_after
  shown-all end text' e h w =
      let fits : leb (length rows_of) (length text) ≡ true = le-leb (length rows_of) (length text) h in
      record { reply = rw (fits, e) refl; bytes = w ∙ rw (fits, e) refl }

-- the rows in the buffer of our own
pub record Held (rows_of : List ℕ) (end : ℕ) (scratch : List ℕ) : Type 0 where
  pub all : end ≡ length rows_of
  pub text : take end scratch ≡ rows_of

pub held : {rows_of : List ℕ} {end : ℕ} {before scratch : List ℕ} → Put before 0 rows_of end scratch → length before ≡ 65536 → length rows_of ≤ 65535 → Held rows_of end scratch
unfolding put
held {rows_of} {end} {before} {scratch} p long h =
    let all : end ≡ length rows_of = omega (arith, p.place) in
    let whole : sets before 0 rows_of ≡ rows_of ++ drop (0 + length rows_of) before = sets-eq rows_of before 0 (omega arith) in
    record { all = all; text = ap (take end) (p.bytes ∙ whole) ∙ take_at rows_of (drop (0 + length rows_of) before) end (sym all) }
