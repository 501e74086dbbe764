-- What is measured and what is left is the whole line.
use Rattle.lines.proofs.Putting.{short}
use Rattle.lines.proofs.Writing.{tail_measured, tail_none, tail_whole}
use borrow.Author.Rules.{rules}
use lib.ListN.{get_or, length}
use mathlib.Core.Path.{ap}
use native.Mathlib.Nat.{zero-add}
use native.Mathlib.Omega.{arith}
use Rattle.lines.proofs.numbers_length.Goals as goal

pub loop-n-init : goal.loop-n-init
loop-n-init c = (omega arith, rw zero-add (ap length (tail_whole c.args.ns.now c.requires.in_bounds)))

pub overflow_add-bytes : goal.overflow_add-bytes
overflow_add-bytes c = omega (arith, short (get_or c.args.ns.now c.loop-n.n-index 0) (search rules))

pub overflow_add-bytes-in-loop-n : goal.overflow_add-bytes-in-loop-n
overflow_add-bytes-in-loop-n c = omega (arith, short (get_or c.args.ns.now c.loop-n.n-index 0) (search rules))

pub loop-n-preserved : goal.loop-n-preserved
loop-n-preserved c =
    let l = c.loop-n in
    let ns = c.args.ns.now in
    (omega (arith, short (get_or ns l.n-index 0) (search rules)), tail_measured ns l.n-index c.loop-n-test.true l.bytes c.decimal_length.result _ c.decimal_length.ensures l.invariant.1)

pub returns-clause-value : goal.returns-clause-value
returns-clause-value c = omega (arith, c.loop-n.invariant.1, ap length (tail_none c.args.ns.now c.loop-n.n-index (omega arith)))
