-- `texts::Writer::labelled` meets its contract: two texts, one behind the other. Assumes nothing.
use Rattle.texts.proofs.Putting.{wrote_append}
use Rattle.texts.proofs.Writer.labelled.Goals as goal

pub returns : goal.returns
returns c = wrote_append c.bytes.ensures c.number.ensures
