-- `refusals::for_service` meets its contract: what the service's own tests say, and then of the message. Assumes nothing.
use Rattle.rules.proofs.Coded.{behind_err, behind_ok, handed_on}
use Rattle.rules.specs.Refusals.{refusal_at}
use mathlib.Core.Path.{◌∙◌}
use Rattle.refusals.proofs.for_service.Goals as goal

pub returns-in_err-by_service : goal.returns-in_err-by_service
unfolding refusal_at
returns-in_err-by_service c L s y valid room e = handed_on _ _ c.from_residual.ensures.1 ∙ behind_err _ _ _ (c.in_err-by_service.ensures L s y valid room e)

pub returns : goal.returns
unfolding refusal_at
returns c L s y valid room e = behind_ok _ _ _ (c.in_ok-by_service.ensures L s y valid room e) (rw (← c.good_message.ensures L y) c.need.ensures)
