-- `refusals::good_request` meets its contract: the last side is `last_side`'s, the wait `good_wait`'s. Assumes nothing.
use Rattle.refusals.proofs.good_request.Goals as goal

pub returns : goal.returns
returns c = rw (c.good_wait.ensures, c.last_side.ensures)
