-- `texts::put_answer` meets its contract: by the word. Assumes nothing.
use Rattle.texts.proofs.Putting.{wrote_append}
use Rattle.texts.specs.Cells.{answer_text}
use borrow.Author.Tests.{eq-eqb, ne_eqb}
use mathlib.Core.List.{append-nil}
use Rattle.texts.proofs.put_answer.Goals as goal

pub returns-then-x-ne0 : goal.returns-then-x-ne0
unfolding answer_text
returns-then-x-ne0 c = rw (ne_eqb _ _ c.if-x-ne0.true) (wrote_append c.put_outcome.ensures (wrote_append c.bytes.ensures c.put_message.ensures))

pub returns-else-x-ne0 : goal.returns-else-x-ne0
unfolding answer_text
returns-else-x-ne0 c = rw (eq-eqb _ _ c.if-x-ne0.false, append-nil) c.put_outcome.ensures
