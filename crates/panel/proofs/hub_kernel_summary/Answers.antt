-- The table of each edition fits; another length. Assumes nothing.
use Rattle.panel.proofs.Laws.{summed_length}
use Rattle.tablebytes.proofs.Laws.{fits_one, fits-two}
use mathlib.Core.Path.{◌∙◌}
use Rattle.panel.proofs.hub_kernel_summary.Goals as goal

pub summary_sized-requires-clause-fits : goal.summary_sized-requires-clause-fits
summary_sized-requires-clause-fits c = fits_one _ c.if-table-eq-BYTES.true

pub summary_sized-requires-then-table-eq-BYTES_TWO-clause-fits : goal.summary_sized-requires-then-table-eq-BYTES_TWO-clause-fits
summary_sized-requires-then-table-eq-BYTES_TWO-clause-fits c = fits-two _ c.if-table-eq-BYTES_TWO.true

pub returns : goal.returns
returns c = c.from.ensures ∙ summed_length _ _ c.if-table-eq-BYTES.false c.if-table-eq-BYTES_TWO.false
