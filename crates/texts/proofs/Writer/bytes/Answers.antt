-- `texts::Writer::bytes` meets its contract: the bytes so far are written. Assumes nothing.
use Rattle.texts.proofs.Putting.{wrote_nothing, wrote_turn}
use Rattle.texts.proofs.Writer.bytes.Goals as goal

pub loop-b-init : goal.loop-b-init
loop-b-init c = wrote_nothing _

pub loop-b-preserved : goal.loop-b-preserved
loop-b-preserved c = wrote_turn _ _ c.loop-b-test.true c.loop-b.invariant c.byte.ensures
