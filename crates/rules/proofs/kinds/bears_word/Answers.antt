-- `rules::bears_word` meets its contract, kind by kind. Assumes nothing.
use Rattle.rules.specs.WellFormed.{bears_word}
use mathlib.Core.Logic.{inl, inr}
use mathlib.Core.Path.{refl}
use Rattle.rules.proofs.kinds.bears_word.Goals as goal

pub returns-in_default : goal.returns-in_default
unfolding bears_word
returns-in_default c = rw (← c.in_default.ensures) refl

pub returns-in-Port : goal.returns-in-Port
unfolding bears_word
returns-in-Port c =
    elim c.in-Port.is [
      | inl e ↦ rw (← c.in-Some.ensures, e)
      | inr (inl e) ↦ rw (← c.in-Some.ensures, e)
      | inr (inr (inl e)) ↦ rw (← c.in-Some.ensures, e)
      | inr (inr (inr e)) ↦ rw (← c.in-Some.ensures, e)
    ]

pub returns-in-Event : goal.returns-in-Event
unfolding bears_word
returns-in-Event c =
    elim c.in-Event.is [
      | inl e ↦ rw (← c.in-Some.ensures, e)
      | inr (inl e) ↦ rw (← c.in-Some.ensures, e)
      | inr (inr e) ↦ rw (← c.in-Some.ensures, e)
    ]
