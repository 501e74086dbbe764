-- A call and the table of words around it. In order: what state stands in a well-formed table; the state and the answer
-- after an accepted call; that a well-formed table is never refused with 2.
-- Not here: the promises themselves (Promise.antt), what a call does to a state (Kept.antt). Assumes nothing.
use Prim.Native.Nat.{◌<◌, ◌≤◌, suc, zero, ℕ}
use Rattle.lists.proofs.Laws.{bool_case}
use Rattle.rules.proofs.Accepted.{need-zero}
use Rattle.rules.proofs.Answers.{answer_word}
use Rattle.rules.proofs.Coded.{at_all}
use Rattle.rules.proofs.Kept.{valid-blank, valid-served}
use Rattle.rules.proofs.Layouts.{Laid, by_edition, edition_laid, edition-one, edition-two, one_laid, sized, two_laid}
use Rattle.rules.proofs.Numbers.{bears_answer_lem}
use Rattle.rules.proofs.Places.{length-words}
use Rattle.rules.proofs.Reading.{read-words, written-words}
use Rattle.rules.proofs.Room.{valid-room}
use Rattle.rules.proofs.Still.{blank_still}
use Rattle.rules.proofs.Tests.{test_valid, tested}
use Rattle.rules.proofs.Valid.{Valid}
use Rattle.rules.proofs.Written.{read_fits, words-read, written-says}
use Rattle.rules.specs.Calls.{serve, served, service_of}
use Rattle.rules.specs.Refusals.{behind, good_message, is_blank, need, refusal, refusal_at, refusal_in, refusal_of}
use Rattle.rules.specs.Reply.{outcome, outcome_number}
use Rattle.rules.specs.Table.{Layout, State, edition_of, one, read, size, state_of, task, two, words}
use Rattle.rules.specs.WellFormed.{valid, well_formed, well_formed_in, written}
use Rattle.rules.specs.declared.Call.{Call}
use borrow.Author.Tests.{eq-eqb, eqb-true, ne_eqb}
use lib.Dec.{eqb, leb}
use lib.ListN.{get_or, length}
use mathlib.Core.Bool.{Bool, ◌||◌, and-eq-true_iff, false, false≢true, or-true, true}
use mathlib.Core.List.{List}
use mathlib.Core.Logic.{◌≢◌}
use mathlib.Core.Path.{◌≡◌, refl, subst, sym}
use native.Mathlib.Omega.{arith}

-- ---- none of the tests on the state refused

pub at_zero : (L : Layout) (s : State) (c : Call) → refusal_at L s c ≡ 0 → (refusal s c ≡ 0) × (good_message L c ≡ true)
unfolding behind refusal_at
at_zero L s c = by (refusal s c)
  where
    by : (n : ℕ) → behind n (need (good_message L c) 6 0) ≡ 0 → (n ≡ 0) × (good_message L c ≡ true)
    by zero e = (refl, (need-zero (good_message L c) 5 0 e).0)
    by (suc r) e = absurd (omega (arith, e))

pub zero-at : (L : Layout) (s : State) (c : Call) → refusal s c ≡ 0 → good_message L c ≡ true → refusal_at L s c ≡ 0
unfolding behind need refusal_at
zero-at L s c e m = rw (e, m)

-- of any service but a hub request document 01's tests are all
pub at_other : (L : Layout) (s : State) (c : Call) → c.service ≢ 1 → refusal_at L s c ≡ refusal s c
unfolding behind need refusal_at
at_other L s c n = rw (ne_eqb c.service 1 n) (by (refusal s c))
  where
    by : (n : ℕ) → behind n 0 ≡ n
    by zero = refl
    by (suc r) = refl

-- ---- a well-formed table is the words of a valid state, and back: in every edition, and in edition 1

module _ (L : Layout) (t : List ℕ) (e : well_formed_in L t ≡ true) where
  said : (written L t ≡ true) × (valid (read L t) ≡ true)
  unfolding well_formed_in
  said = (and-eq-true_iff (written L t) (valid (read L t))).0 e

  pub long_in : length t ≡ size L
  long_in = (written-says L t said.0).long

  pub valid_in : Valid (read L t)
  valid_in = tested (read L t) (read_fits L t said.0) said.1

  pub words_in : {ts : ℕ} → Laid ts L → ((k : ℕ) → get_or t k 0 < 4294967296) → t ≡ words L (read L t)
  words_in y low = words-read y t low said.0

pub well_formed_in_lem : {ts : ℕ} {L : Layout} → Laid ts L → (s : State) → Valid s → well_formed_in L (words L s) ≡ true
unfolding well_formed_in
well_formed_in_lem {L = L} y s v = rw (written-words L y s (valid-room s v), read-words L y s (valid-room s v), test_valid s v)

-- in the table's own edition

pub well_formed-long : (t : List ℕ) → well_formed t ≡ true → length t ≡ size (edition_of t)
well_formed-long t = long_in (edition_of t) t

pub read-valid : (t : List ℕ) → well_formed t ≡ true → Valid (state_of t)
read-valid t = valid_in (edition_of t) t

-- the words of a state in an edition are a table of that edition
pub edition-words-one : (s : State) → edition_of (words one s) ≡ one
edition-words-one s = edition-one (words one s) (length-words one (sized one_laid) s)

pub edition-words : (t : List ℕ) (s : State) → edition_of (words (edition_of t) s) ≡ edition_of t
edition-words t s = by_edition t (λ L. edition_of (words L s) ≡ L) (edition-words-one s) (edition-two (words two s) (length-words two (sized two_laid) s))

pub words_well_formed : (t : List ℕ) (s : State) → Valid s → well_formed (words (edition_of t) s) ≡ true
words_well_formed t s v = rw (edition-words t s) (well_formed_in_lem (edition_laid t) s v)

-- ---- an accepted call

module _ (L : Layout) (t : List ℕ) (c : Call) (e : refusal_in L t c ≡ 0) where
  passed : (eqb (length t) (size L) ≡ true) × (need (is_blank c || well_formed_in L t) 2 (refusal_at L (read L t) c) ≡ 0)
  unfolding refusal_in
  passed = need-zero (eqb (length t) (size L)) 0 _ e

  pub accepted-long : length t ≡ size L
  accepted-long = eqb-true (length t) (size L) passed.0

  tested_all : ((is_blank c || well_formed_in L t) ≡ true) × (refusal_at L (read L t) c ≡ 0)
  tested_all = need-zero (is_blank c || well_formed_in L t) 1 (refusal_at L (read L t) c) passed.1

  pub accepted : ((is_blank c || well_formed_in L t) ≡ true) × (refusal (read L t) c ≡ 0)
  accepted = (tested_all.0, (at_zero L (read L t) c tested_all.1).0)

  pub accepted-message : good_message L c ≡ true
  accepted-message = (at_zero L (read L t) c tested_all.1).1

  pub accepted-formed : is_blank c ≡ false → well_formed_in L t ≡ true
  accepted-formed b = rw b at accepted.0

  pub after-valid : Valid (served (read L t) c)
  unfolding serve served service_of
  after-valid =
      bool_case (is_blank c)
      (λ b. rw (eqb-true c.service 0 b) (subst Valid (sym (blank_still (read L t))) valid-blank))
      (λ b. valid-served (read L t) c (valid_in L t (accepted-formed b)) accepted.1)

pub after-answer : (t : List ℕ) (c : Call) → refusal_of t c ≡ 0 → 1 ≤ c.service → c.service ≤ 7 → outcome_number (outcome (served (state_of t) c) c) ≡ (task (served (state_of t) c) c.caller).answer
after-answer t c e lo hi =
    let b : is_blank c ≡ false = ne_eqb c.service 0 (λ z. omega arith) in
    answer_word (state_of t) c (valid_in (edition_of t) t (accepted-formed (edition_of t) t c e b)) (accepted (edition_of t) t c e).1 (bears_answer_lem c.service lo hi)

-- ---- the refusal numbers

-- 0, or a number that is given on the state: 3 to 7
abbrev late : ℕ → Bool
late n = eqb n 0 || leb 3 n

pub well_formed-not_2 : (t : List ℕ) (c : Call) → well_formed t ≡ true → refusal_of t c ≢ 2
unfolding need refusal_in
well_formed-not_2 t c e q =
    let late-here : late (refusal_of t c) ≡ true =
    rw
    (eq-eqb (length t) (size (edition_of t)) (well_formed-long t e), e, or-true (is_blank c))
    (at_all late refl refl refl refl refl refl (edition_of t) (state_of t) c) in
    false≢true (rw q at late-here)
