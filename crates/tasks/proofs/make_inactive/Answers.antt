-- `tasks::make_inactive` meets its contract. Assumes nothing.
use Rattle.rules.specs.Table.{inactive}
use Rattle.tasks.proofs.make_inactive.Goals as goal

pub returns : goal.returns
unfolding inactive
returns c = λ L s y fits used e. c.set_task.ensures L s y fits used e
