-- The table of each edition fits; another length. Assumes nothing.
use Rattle.panel.proofs.Laws.{called-length}
use Rattle.tablebytes.proofs.Laws.{fits_one, fits-two}
use Rattle.panel.proofs.hub_kernel_call.Goals as goal

pub call_sized-requires-clause-fits : goal.call_sized-requires-clause-fits
call_sized-requires-clause-fits c = fits_one _ c.if-table-eq-BYTES.true

pub call_sized-requires-then-table-eq-BYTES_TWO-clause-fits : goal.call_sized-requires-then-table-eq-BYTES_TWO-clause-fits
call_sized-requires-then-table-eq-BYTES_TWO-clause-fits c = fits-two _ c.if-table-eq-BYTES_TWO.true

pub returns : goal.returns
returns c = rw c.number.ensures (called-length _ _ c.if-table-eq-BYTES.false c.if-table-eq-BYTES_TWO.false)
