-- What the rules promise of every call, over tables of words: a table is any list of words, a call any eight numbers.
-- In order: the refusal, the table after an accepted call, calls in a row, the answer, and that any two results that fit are
-- equal. Each statement has a short proof here, by After.antt. `reply_to`, `table_after` and `summary_of` are in specs/Reply.antt.
-- Not here: that the code does it (crate kernel). Assumes nothing.
use Prim.Native.Nat.{◌≤◌, suc, zero, ℕ}
use Rattle.std.specs.Prelude.{Err, Ok, Result}
use Rattle.rules.proofs.After.{after-answer, after-valid, edition-words, well_formed-not_2, words_well_formed}
use Rattle.rules.proofs.Coded.{coded, refusal-coded}
use Rattle.rules.proofs.Layouts.{edition_laid}
use Rattle.rules.proofs.Reading.{read-words}
use Rattle.rules.proofs.Room.{valid-room}
use Rattle.rules.specs.Calls.{served, service_of}
use Rattle.rules.specs.Refusals.{behind, need, refusal, refusal_at, refusal_for, refusal_in, refusal_of}
use Rattle.rules.specs.Reply.{answer_number, code, refusal_number, refusal_with, reply_by, reply_in, reply_to, summary_of, table_after, table_by, table_in}
use Rattle.rules.specs.Table.{edition_of, size, state_of, task}
use Rattle.rules.specs.WellFormed.{well_formed}
use Rattle.rules.specs.declared.Call.{Call}
use Rattle.rules.specs.declared.Outcome.TheVariants.{Fail, NothingYet, Ok as OK}
use Rattle.rules.specs.declared.Outcome.{Outcome}
use Rattle.rules.specs.declared.Refusal.{Refusal}
use Rattle.rules.specs.declared.Reply.{Reply}
use Rattle.rules.specs.declared.Summary.{Summary}
use borrow.Author.Tests.{eq-eqb, eqb-true}
use lib.ListN.{length}
use mathlib.Core.Bool.{true}
use mathlib.Core.List.{List, [], ◌∷◌}
use mathlib.Core.Logic.{◌≢◌}
use mathlib.Core.Path.{◌∙◌, ◌≡◌, ap, refl, sym}
use native.Mathlib.Omega.{arith}

-- ---- the refusal number

-- "An accepted call has refusal 0"
pub refusal_is : (t : List ℕ) (c : Call) → refusal_number (reply_to t c).answer ≡ refusal_of t c
unfolding reply_by reply_in
refusal_is t c = by (refusal_of t c) (refusal-coded (edition_of t) t c)
  where
    by : (n : ℕ) → coded n ≡ true → refusal_number (reply_by n (served (state_of t) c) c).answer ≡ n
    by zero e = refl
    by (suc r) e = eqb-true _ (suc r) e

-- "A refused call gives answer 0, next 0, and no word of the table changes." (M-104: "in every other case ... 0")

pub refused_leaves : (t : List ℕ) (c : Call) (r : ℕ) → refusal_of t c ≡ suc r
    → (table_after t c ≡ t)
    × (reply_to t c ≡ record { answer = Err (refusal_with (suc r)); next = 0; ahead = 0 })
    × (code (refusal_with (suc r)) ≡ suc r)
unfolding reply_by reply_in table_by table_in
refused_leaves t c r e = (rw e, rw e, eqb-true _ (suc r) (rw e at (refusal-coded (edition_of t) t c)))

-- "0 Blank: ... whatever stood there"

pub blank-accepted : (t : List ℕ) (c : Call) → length t ≡ size (edition_of t) → c.service ≡ 0 → refusal_of t c ≡ 0
unfolding behind need refusal refusal_at refusal_for refusal_in service_of
blank-accepted t c long e = rw (eq-eqb (length t) (size (edition_of t)) long, eq-eqb c.service 0 e, e)

-- ---- an accepted call leaves a well-formed table, in which the state after the call stands

pub well_formed-after : (t : List ℕ) (c : Call) → refusal_of t c ≡ 0 → well_formed (table_after t c) ≡ true
unfolding table_by table_in
well_formed-after t c e = rw e (words_well_formed t (served (state_of t) c) (after-valid (edition_of t) t c e))

pub edition-after : (t : List ℕ) (c : Call) → refusal_of t c ≡ 0 → edition_of (table_after t c) ≡ edition_of t
unfolding table_by table_in
edition-after t c e = rw e (edition-words t (served (state_of t) c))

pub read-after : (t : List ℕ) (c : Call) → refusal_of t c ≡ 0 → state_of (table_after t c) ≡ served (state_of t) c
unfolding table_by table_in
read-after t c e =
    let s' = served (state_of t) c in
    rw (edition-after t c e, e) (read-words (edition_of t) (edition_laid t) s' (valid-room s' (after-valid (edition_of t) t c e)))

-- ---- calls in a row: once a table is well formed it stays so, whatever is called, and refusal 2 never comes

-- the table after the calls, the first call first
unfoldable pub table_after_all : List ℕ → List Call → List ℕ
table_after_all t [] = t
table_after_all t (c ∷ cs) = table_after_all (table_after t c) cs

pub stays_well_formed : (t : List ℕ) (cs : List Call) → well_formed t ≡ true → well_formed (table_after_all t cs) ≡ true
unfolding table_after_all
stays_well_formed t [] w = w
stays_well_formed t (c ∷ cs) w = stays_well_formed (table_after t c) cs (one-call (refusal_of t c) refl)
  where
    one-call : (n : ℕ) → refusal_of t c ≡ n → well_formed (table_after t c) ≡ true
    one-call zero e = well_formed-after t c e
    one-call (suc r) e = ap well_formed (refused_leaves t c r e).0 ∙ w

-- after a Blank on any table of either size
pub never_2 : (t : List ℕ) (b : Call) → length t ≡ size (edition_of t) → b.service ≡ 0 → (cs : List Call) (c : Call) → refusal_of (table_after_all t (b ∷ cs)) c ≢ 2
unfolding table_after_all
never_2 t b long blank cs c =
    well_formed-not_2 (table_after_all (table_after t b) cs) c
    (stays_well_formed (table_after t b) cs (well_formed-after t b (blank-accepted t b long blank)))

-- ---- the answer

pub answer_is_word : (t : List ℕ) (c : Call) → refusal_of t c ≡ 0 → 1 ≤ c.service → c.service ≤ 7 → answer_number (reply_to t c).answer ≡ (task (state_of (table_after t c)) c.caller).answer
unfolding reply_by reply_in
answer_is_word t c e lo hi = rw (e, read-after t c e) (after-answer t c e lo hi)

-- "TO reaches a task by Tick, so no call returns 3."
pub never_3 : (t : List ℕ) (c : Call) → answer_number (reply_to t c).answer ≤ 2
never_3 t c = small (reply_to t c).answer
  where
    small : (a : Result Outcome Refusal) → answer_number a ≤ 2
    small (Ok NothingYet) = omega arith
    small (Ok OK) = omega arith
    small (Ok Fail) = omega arith
    small (Err e) = omega arith

-- ---- "any two results that fit it are shown to be equal"

pub calls_agree : (t : List ℕ) (c : Call) (r₁ r₂ : Reply) (t₁ t₂ : List ℕ) → (r₁ ≡ reply_to t c) × (t₁ ≡ table_after t c) → (r₂ ≡ reply_to t c) × (t₂ ≡ table_after t c) → (r₁ ≡ r₂) × (t₁ ≡ t₂)
calls_agree t c r₁ r₂ t₁ t₂ a b = (a.0 ∙ sym b.0, a.1 ∙ sym b.1)

pub summaries_agree : (t : List ℕ) (h : ℕ) (r₁ r₂ : Result Summary Refusal) → r₁ ≡ summary_of t h → r₂ ≡ summary_of t h → r₁ ≡ r₂
summaries_agree t h r₁ r₂ a b = a ∙ sym b
