-- `refusals::good_message` meets its contract: the service compared by name is compared by its number. Assumes nothing.
use Rattle.rules.proofs.Layouts.{wide}
use Rattle.rules.proofs.ServiceNumbers.{same_service}
use Rattle.rules.specs.declared.services.Service.TheVariants.{HubRequest}
use mathlib.Core.Path.{◌∙◌, refl}
use Rattle.refusals.proofs.good_message.Goals as goal

pub returns : goal.returns
returns c L y = rw (c.ne.ensures, same_service c.of.result HubRequest c.args.c.service c.of.ensures, c.width_of.ensures ∙ wide y) refl
