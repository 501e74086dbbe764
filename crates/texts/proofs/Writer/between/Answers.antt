-- `texts::Writer::between` meets its contract: two texts, one behind the other. Assumes nothing.
use Rattle.texts.proofs.Putting.{wrote_append}
use Rattle.texts.proofs.Writer.between.Goals as goal

pub returns : goal.returns
returns c = wrote_append c.labelled.ensures c.bytes.ensures
