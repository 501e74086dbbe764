-- `rules::stored` meets its contract: a FIFO's or a Board's number, a Memory hub's, any other. Assumes nothing.
use Rattle.rules.specs.Table.{stored}
use mathlib.Core.Logic.{inl, inr}
use Rattle.rules.proofs.stored.Goals as goal

pub returns-in-Fifo : goal.returns-in-Fifo
unfolding stored
returns-in-Fifo c =
    elim c.in-Fifo.is [ inl e ↦ rw (← c.in-Some.ensures, e) | inr e ↦ rw (← c.in-Some.ensures, e) ]

pub returns-in-Memory : goal.returns-in-Memory
unfolding stored
returns-in-Memory c = rw (← c.in-Some.ensures, c.in-Memory.is)

pub returns-in-Event : goal.returns-in-Event
unfolding stored
returns-in-Event c =
    elim c.in-Event.is [
      | inl e ↦ rw (← c.in-Some.ensures, e)
      | inr (inl e) ↦ rw (← c.in-Some.ensures, e)
      | inr (inr (inl e)) ↦ rw (← c.in-Some.ensures, e)
      | inr (inr (inr e)) ↦ rw (← c.in-Some.ensures, e)
    ]

pub returns-in-None : goal.returns-in-None
unfolding stored
returns-in-None c = rw (← c.of.ensures, c.in-None.is)
