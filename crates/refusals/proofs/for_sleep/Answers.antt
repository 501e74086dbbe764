-- `refusals::for_sleep` meets its contract: the test is `good_ticks`. Assumes nothing.
use Rattle.refusals.proofs.for_sleep.Goals as goal

pub returns : goal.returns
returns c = rw (← c.good_ticks.ensures) c.need.ensures
