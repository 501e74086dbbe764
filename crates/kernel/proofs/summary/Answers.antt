-- `kernel::summary` meets its contract: `summarise`, in the edition that fits the length. Assumes nothing.
use Rattle.rules.specs.Table.{edition_of}
use Rattle.wellformed.proofs.Editions.{edition_laid_of}
use Rattle.kernel.proofs.summary.Goals as goal

pub returns : goal.returns
returns c = c.summarise.ensures (edition_of _) (edition_laid_of _ _ c.task_size-ts.ensures)
