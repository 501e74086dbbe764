-- `refusals::for_add_hub` meets its contract: the tests are `good_hub` and the contents' word. Assumes nothing.
use Rattle.rules.proofs.Coded.{handed_on, need_err, need_ok}
use mathlib.Core.Path.{◌∙◌}
use Rattle.refusals.proofs.for_add_hub.Goals as goal

pub returns-in_err-need : goal.returns-in_err-need
returns-in_err-need c = handed_on _ _ c.from_residual.ensures.1 ∙ need_err _ _ 6 _ (rw (← c.good_hub.ensures) c.in_err-need.ensures)

pub returns : goal.returns
returns c = need_ok _ _ 5 _ (rw (← c.good_hub.ensures) c.in_ok-need.ensures) (rw (← c.word.ensures) c.need-2.ensures)
