-- The table of each edition fits; another length. Assumes nothing.
use Rattle.panel.proofs.Laws.{listed-length}
use Rattle.tablebytes.proofs.Laws.{fits_one, fits-two}
use Rattle.panel.proofs.hub_kernel_listing.Goals as goal

pub listing_sized-requires-clause-fits : goal.listing_sized-requires-clause-fits
listing_sized-requires-clause-fits c = fits_one _ c.if-table-eq-BYTES.true

pub listing_sized-requires-then-table-eq-BYTES_TWO-clause-fits : goal.listing_sized-requires-then-table-eq-BYTES_TWO-clause-fits
listing_sized-requires-then-table-eq-BYTES_TWO-clause-fits c = fits-two _ c.if-table-eq-BYTES_TWO.true

pub returns : goal.returns
returns c = rw c.from.ensures (listed-length _ _ c.if-table-eq-BYTES.false c.if-table-eq-BYTES_TWO.false)
