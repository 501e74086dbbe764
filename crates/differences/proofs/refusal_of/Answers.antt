-- `differences::refusal_of` meets its contract: the tests are those of the edition that fits the length. Assumes nothing.
use Rattle.differences.specs.Differences.{table_refusal}
use Rattle.rules.specs.Table.{edition_of}
use Rattle.wellformed.proofs.Editions.{edition_laid_of}
use Rattle.differences.proofs.refusal_of.Goals as goal

pub returns : goal.returns
unfolding table_refusal
returns c = c.for_table.ensures (edition_of _) (edition_laid_of c.args.t.now _ c.task_size.ensures)
