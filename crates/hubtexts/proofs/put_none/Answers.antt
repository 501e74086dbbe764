-- `hubtexts::put_none` meets its contract: none was named, or some. Assumes nothing.
use Rattle.hubtexts.specs.Cells.{none_text}
use Rattle.texts.proofs.Putting.{wrote_nothing}
use borrow.Author.Tests.{eq-eqb, ne_eqb}
use Rattle.hubtexts.proofs.put_none.Goals as goal

pub returns-then-k-eq0 : goal.returns-then-k-eq0
unfolding none_text
returns-then-k-eq0 c = rw (eq-eqb _ _ c.if-k-eq0.true) c.bytes.ensures

pub returns-else-k-eq0 : goal.returns-else-k-eq0
unfolding none_text
returns-else-k-eq0 c = rw (ne_eqb _ _ c.if-k-eq0.false) (wrote_nothing _)
