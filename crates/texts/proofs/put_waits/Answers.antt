-- `texts::put_waits` meets its contract: by the side. Assumes nothing.
use Rattle.texts.specs.Cells.{waits_text}
use borrow.Author.Tests.{eq-eqb, ne_eqb}
use Rattle.texts.proofs.put_waits.Goals as goal

pub returns-then-side-eq-PUT : goal.returns-then-side-eq-PUT
unfolding waits_text
returns-then-side-eq-PUT c = rw (eq-eqb _ _ c.if-side-eq-PUT.true, ← c.named.ensures) c.between.ensures

pub returns-else-side-eq-PUT : goal.returns-else-side-eq-PUT
unfolding waits_text
returns-else-side-eq-PUT c = rw (ne_eqb _ _ c.if-side-eq-PUT.false, ← c.named-else-side-eq-PUT.ensures) c.between-else-side-eq-PUT.ensures
