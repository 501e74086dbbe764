-- `refusals::for_add_task` meets its contract: the tests are the rules' own. Assumes nothing.
use Rattle.rules.proofs.Coded.{handed_on, need_err, need_ok}
use mathlib.Core.Path.{◌∙◌}
use Rattle.refusals.proofs.for_add_task.Goals as goal

pub returns-in_err-need : goal.returns-in_err-need
returns-in_err-need c = handed_on _ _ c.from_residual.ensures.1 ∙ need_err _ _ 6 _ c.in_err-need.ensures

pub returns : goal.returns
returns c = need_ok _ _ 5 _ c.in_ok-need.ensures (rw (← c.word.ensures) c.need-2.ensures)
