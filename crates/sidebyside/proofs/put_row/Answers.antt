-- `sidebyside::put_row` meets its contract where the row isn't shown. Assumes nothing.
use Rattle.sidebyside.specs.RowLines.{row_text}
use Rattle.texts.proofs.Putting.{wrote_nothing}
use mathlib.Core.Path.{◌∙◌, sym}
use Rattle.sidebyside.proofs.put_row.Goals as goal

pub returns-else-is_shown : goal.returns-else-is_shown
unfolding row_text
returns-else-is_shown c = rw (sym c.is_shown.ensures ∙ c.if-is_shown.false) (wrote_nothing _)
