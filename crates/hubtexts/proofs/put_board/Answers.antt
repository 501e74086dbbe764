-- `hubtexts::put_board` meets its contract: written, or not. Assumes nothing.
use Rattle.hubtexts.specs.Cells.{board_text}
use Rattle.texts.proofs.Putting.{wrote_append}
use borrow.Author.Tests.{eq-eqb, ne_eqb}
use native.Mathlib.Nat.{add-zero, zero-mul}
use Rattle.hubtexts.proofs.put_board.Goals as goal

pub returns-then-count-eq0 : goal.returns-then-count-eq0
unfolding board_text
returns-then-count-eq0 c = rw (eq-eqb _ _ c.if-count-eq0.true) c.bytes.ensures

pub returns-else-count-eq0 : goal.returns-else-count-eq0
unfolding board_text
returns-else-count-eq0 c = rw (ne_eqb _ _ c.if-count-eq0.false, ← (rw (zero-mul, add-zero) at c.message.ensures)) (wrote_append c.bytes-else-count-eq0.ensures c.put_message.ensures)
