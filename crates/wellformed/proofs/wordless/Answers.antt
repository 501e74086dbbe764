-- `wellformed::wordless` meets its contract: in one word the last is the first, in two both are 0. Assumes nothing.
use Rattle.wellformed.proofs.Turns.{word_none}
use Rattle.wellformed.proofs.wordless.Goals as goal

pub returns : goal.returns
returns c L y = word_none L y c.args.x.now c.requires.low c.requires.high
