-- `hubtable::owns` meets its contract. Assumes nothing.
use Rattle.hubtable.proofs.Rows.{eqb-pred}
use lib.Dec.{eqb-zero-suc}
use mathlib.Core.Path.{sym}
use Rattle.hubtable.proofs.owns.Goals as goal

pub returns-then-count-eq0 : goal.returns-then-count-eq0
returns-then-count-eq0 c = rw c.if-count-eq0.true (sym (eqb-zero-suc c.args.caller))

pub returns : goal.returns
returns c = eqb-pred _ _ c.if-count-eq0.false
