-- Two ways out, a refused call and an accepted one. Assumes nothing.
use Rattle.panel.proofs.Laws.{called-accepted, called_refused}
use mathlib.Core.Path.{◌∙◌, sym}
use Rattle.panel.proofs.call_sized.Goals as goal

pub returns-then-is_err : goal.returns-then-is_err
returns-then-is_err g c =
    called_refused _ _ c.requires.fits c.unpack.ensures c.call-reply.ensures.reply c.from.ensures (sym c.is_err.ensures.value ∙ c.if-is_err.true)

pub returns : goal.returns
returns g c =
    let k = c.call-reply.ensures in
    called-accepted _ _ c.requires.fits c.unpack.ensures k.reply c.from-2.ensures k.table c.pack.ensures
