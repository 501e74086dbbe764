-- The words of the table are what is listed. Assumes nothing.
use Rattle.panel.proofs.Laws.{listed}
use Rattle.panel.proofs.listing_sized.Goals as goal

pub returns : goal.returns
returns g c = listed _ _ c.requires.fits c.unpack.ensures c.list.ensures c.from.ensures
