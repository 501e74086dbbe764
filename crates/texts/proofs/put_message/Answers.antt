-- `texts::put_message` meets its contract: by the high word. Assumes nothing.
use Rattle.texts.proofs.Putting.{wrote_append}
use Rattle.texts.specs.Cells.{message_text}
use borrow.Author.Tests.{eq-eqb, ne_eqb}
use Rattle.texts.proofs.put_message.Goals as goal

pub returns-then-high-ne0 : goal.returns-then-high-ne0
unfolding message_text
returns-then-high-ne0 c = rw (ne_eqb _ _ c.if-high-ne0.true) (wrote_append (wrote_append c.number.ensures c.bytes.ensures) c.number-then-high-ne0.ensures)

pub returns-else-high-ne0 : goal.returns-else-high-ne0
unfolding message_text
returns-else-high-ne0 c = rw (eq-eqb _ _ c.if-high-ne0.false) c.number.ensures
