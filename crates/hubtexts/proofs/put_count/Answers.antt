-- `hubtexts::put_count` meets its contract where it names an owner. Assumes nothing.
use Rattle.hubtexts.specs.Cells.{count_text}
use borrow.Author.Tests.{ne_eqb}
use Rattle.hubtexts.proofs.put_count.Goals as goal

pub returns-in-5-default : goal.returns-in-5-default
unfolding count_text
returns-in-5-default c = rw (c.in-5-default.is-0, ne_eqb _ _ c.in-5-default.is-1.1, ← c.named.ensures) c.labelled-in-5-default.ensures
