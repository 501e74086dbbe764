-- `texts::Writer::bytes` meets its contract: the bytes so far are written. Assumes nothing.
use Rattle.texts.specs.Texts.{Wrote}
use lib.ListN.{take}
use Rattle.texts.proofs.Writer.bytes.Given as goal

abbrev pub invariant-loop-b : goal.invariant-loop-b
invariant-loop-b l = Wrote l.initial.self (take l.b-index l.text) l.self
