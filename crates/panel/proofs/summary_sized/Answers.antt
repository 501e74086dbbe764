-- The words of the table are what the kernel sums up. Assumes nothing.
use Rattle.panel.proofs.Laws.{summed}
use Rattle.panel.proofs.summary_sized.Goals as goal

pub returns : goal.returns
returns g c = summed _ _ c.requires.fits c.unpack.ensures c.summary.ensures c.from.ensures
