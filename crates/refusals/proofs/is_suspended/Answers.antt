-- `refusals::is_suspended` meets its contract: the record is the one that `task` gives. Assumes nothing.
use Rattle.refusals.proofs.is_suspended.Goals as goal

pub returns : goal.returns
returns c = rw c.task-x.ensures.value
