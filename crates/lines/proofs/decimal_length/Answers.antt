-- `lines::decimal_length` meets its contract: as many turns as there are digits before the last. Assumes nothing.
use Rattle.lines.proofs.Decimal.{decimal_small, length_more}
use Rattle.lines.proofs.Putting.{short}
use lib.ListN.{length}
use mathlib.Core.Path.{ap}
use native.Mathlib.Omega.{arith}
use Rattle.lines.proofs.decimal_length.Goals as goal

pub loop-left-init : goal.loop-left-init
loop-left-init c = (omega arith, omega arith)

pub overflow_add-digits : goal.overflow_add-digits
overflow_add-digits c = omega (arith, c.loop-left.invariant.0, short c.args.n (omega arith))

pub loop-left-preserved : goal.loop-left-preserved
loop-left-preserved c = let l = c.loop-left in (omega (arith, l.invariant.0, length_more l.left (omega arith)), omega (arith, l.invariant.1))

pub returns : goal.returns
returns c = let l = c.loop-left in omega (arith, l.invariant.0, ap length (decimal_small l.left (omega arith)))
