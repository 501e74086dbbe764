-- `hubtexts::put_word` meets its contract: the first, and any other. Assumes nothing.
use Rattle.hubtexts.specs.Cells.{word_text}
use Rattle.texts.proofs.Putting.{wrote_append}
use borrow.Author.Tests.{eq-eqb, ne_eqb}
use Rattle.hubtexts.proofs.put_word.Goals as goal
use Rattle.hubtexts.proofs.put_word.Goals.{then-k-ne0, else-k-ne0}

pub returns : goal.returns
unfolding word_text
returns c =
    elim c.if-k-ne0.branch [
      | then-k-ne0 w ↦ rw (ne_eqb _ _ w.if-k-ne0.true) (wrote_append w.bytes.ensures (rw w.out-is at c.put_message.ensures))
      | else-k-ne0 w ↦ rw (eq-eqb _ _ w.if-k-ne0.false) (rw w.out-is at c.put_message.ensures)
    ]
