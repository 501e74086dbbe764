-- `refusals::for_table` meets its contract: the layout of ts has a table's length. Assumes nothing.
use Rattle.rules.proofs.Coded.{handed_on, need_err, need_ok}
use Rattle.rules.proofs.Layouts.{store_place}
use mathlib.Core.Path.{◌∙◌}
use Rattle.refusals.proofs.for_table.Goals as goal

pub returns-in_err-need : goal.returns-in_err-need
returns-in_err-need c L y = handed_on _ _ c.from_residual.ensures.1 ∙ need_err _ _ 1 _ (rw (c.table_size.ensures ∙ store_place y 16) at c.in_err-need.ensures)

pub returns : goal.returns
returns c L y = need_ok _ _ 0 _ (rw (c.table_size.ensures ∙ store_place y 16) at c.in_ok-need.ensures) (rw (← c.well_formed-2.ensures L y) c.need-2.ensures)
