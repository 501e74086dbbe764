-- `texts::put_priority` meets its contract: by whether they differ. Assumes nothing.
use Rattle.texts.proofs.Putting.{wrote_append}
use Rattle.texts.specs.Cells.{priority_text}
use borrow.Author.Tests.{eq-eqb, ne_eqb}
use mathlib.Core.List.{append-nil}
use Rattle.texts.proofs.put_priority.Goals as goal

pub returns-then-own-effective : goal.returns-then-own-effective
unfolding priority_text
returns-then-own-effective c = rw (ne_eqb _ _ c.if-own-effective.true) (wrote_append c.number.ensures c.labelled.ensures)

pub returns-else-own-effective : goal.returns-else-own-effective
unfolding priority_text
returns-else-own-effective c = rw (eq-eqb _ _ c.if-own-effective.false, append-nil) c.number.ensures
