-- A call on the words, of either edition, of a valid state: what is refused, what is replied and which words are left can be worked
-- out on the state. In order: what is asked of the layout; the state after a call; the call. Not here: what a call does to a state
-- (Kept.antt). Assumes nothing.
use Prim.Native.Nat.{suc, zero, ℕ}
use Rattle.rules.proofs.After.{after-valid, edition-words-one, well_formed_in_lem}
use Rattle.rules.proofs.Layouts.{Laid, edition-two, one_laid, sized, two_laid}
use Rattle.rules.proofs.Places.{length-words}
use Rattle.rules.proofs.Reading.{read-words}
use Rattle.rules.proofs.Room.{valid-room}
use Rattle.rules.proofs.Valid.{Valid}
use Rattle.rules.specs.Calls.{served}
use Rattle.rules.specs.Refusals.{is_blank, need, refusal_at, refusal_in, refusal_of}
use Rattle.rules.specs.Reply.{reply_by, reply_in, reply_to, table_after, table_by, table_in}
use Rattle.rules.specs.Table.{Layout, State, edition_of, one, read, size, task_size, two, words}
use Rattle.rules.specs.declared.Call.{Call}
use borrow.Author.Tests.{eq-eqb}
use lib.ListN.{length}
use mathlib.Core.Bool.{or-true}
use mathlib.Core.Path.{◌∙◌, ◌≡◌, refl}

-- ---- a layout in which a call takes the words that are written in it: the one that fits their length

pub record Fitting (L : Layout) : Type 0 where
  pub laid : Laid (task_size L) L
  pub own : (s : State) → edition_of (words L s) ≡ L

pub one_fitting : Fitting one
one_fitting = record { laid = one_laid; own = edition-words-one }

pub two_fitting : Fitting two
two_fitting = record { laid = two_laid; own = λ s. edition-two (words two s) (length-words two (sized two_laid) s) }

-- ---- the state after a call, by its refusal number

unfoldable pub state_by : ℕ → State → State → State
state_by zero s s' = s'
state_by (suc r) s s' = s

unfoldable pub state_after : Layout → State → Call → State
state_after L s c = state_by (refusal_at L s c) s (served s c)

-- ---- the call

module _ {L : Layout} (f : Fitting L) (s : State) (v : Valid s) where
  pub read_back : read L (words L s) ≡ s
  read_back = read-words L f.laid s (valid-room s v)

  module _ (c : Call) where
    refusal-words : refusal_of (words L s) c ≡ refusal_at L s c
    unfolding need refusal_in
    refusal-words =
        rw (f.own s, eq-eqb (length (words L s)) (size L) (length-words L (sized f.laid) s), well_formed_in_lem f.laid s v, or-true (is_blank c), read_back)

    pub reply-words : reply_to (words L s) c ≡ reply_by (refusal_at L s c) (served s c) c
    unfolding reply_in
    reply-words = rw (refusal-words, f.own s, read_back)

    pub table-words : table_after (words L s) c ≡ words L (state_after L s c)
    unfolding state_after state_by table_by table_in
    table-words = rw (refusal-words, f.own s, read_back) (by (refusal_at L s c))
      where
        by : (n : ℕ) → table_by L n (words L s) (served s c) ≡ words L (state_by n s (served s c))
        by zero = refl
        by (suc r) = refl

    pub valid-after : Valid (state_after L s c)
    unfolding state_after state_by
    valid-after = by (refusal_at L s c) refl
      where
        by : (n : ℕ) → refusal_at L s c ≡ n → Valid (state_by n s (served s c))
        by zero e = rw (f.own s, read_back) at (after-valid (edition_of (words L s)) (words L s) c (refusal-words ∙ e))
        by (suc r) e = v
