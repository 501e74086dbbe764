-- `refusals::for_task` meets its contract: the test is of the contents' word. Assumes nothing.
use Rattle.refusals.proofs.for_task.Goals as goal

pub returns : goal.returns
returns c = rw (← c.word.ensures) c.need.ensures
