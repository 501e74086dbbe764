-- `texts::put_contents` meets its contract: four texts, one behind the other. Assumes nothing.
use Rattle.texts.proofs.Putting.{wrote_append}
use Rattle.texts.specs.Cells.{contents_text}
use Rattle.texts.proofs.put_contents.Goals as goal

pub returns : goal.returns
unfolding contents_text
returns c = rw (← c.word.ensures, ← c.word-2.ensures, ← c.word-3.ensures) (wrote_append (wrote_append c.between.ensures (wrote_append c.number.ensures c.bytes.ensures)) c.number-2.ensures)
