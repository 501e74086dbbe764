-- `summaries::bit_of` meets its contract: half of 2 to the entry. Assumes nothing.
use Rattle.summaries.proofs.Masks.{bit_shift}
use Rattle.summaries.proofs.bit_of.Goals as goal

pub returns : goal.returns
returns c = bit_shift c.args.entry c.requires
