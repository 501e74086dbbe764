-- `bodies::marks_right` meets its contract. The loop's invariant is `Counting`, in every layout: the marks below b, and how many
-- of them are 0. Assumes nothing.
use Rattle.bodies.proofs.Blocks.{counting_begin, counting_end, counting_no, counting_turn, mark_read}
use mathlib.Core.Path.{◌∙◌}
use native.Mathlib.Omega.{arith}
use Rattle.bodies.proofs.marks_right.Goals as goal

pub loop-b-init : goal.loop-b-init
loop-b-init c = (omega arith, λ L y. counting_begin L _ _ _)

pub returns-then-m-gt1 : goal.returns-then-m-gt1
returns-then-m-gt1 c L y =
    let l = c.loop-b in
    counting_no L _ _ _ l.free l.b (l.invariant.1 L y) c.loop-b-test.true _ (c.message-m.ensures.value
    ∙ mark_read L c.args.t.now.words.now c.args.h c.args.limit y c.args.t.now.used.low c.requires.limit_bound c.loop-b.b _ _ c.loop-b-test.true
    c.store_at-at.ensures.place c.width_of-v.ensures) c.if-m-gt1.true _

pub loop-b-preserved : goal.loop-b-preserved
loop-b-preserved c =
    let l = c.loop-b in (
      omega (arith, l.invariant.0),
      λ L y. counting_turn L _ _ _ l.free l.b (l.invariant.1 L y) c.loop-b-test.true _ (c.message-m.ensures.value
          ∙ mark_read L c.args.t.now.words.now c.args.h c.args.limit y c.args.t.now.used.low c.requires.limit_bound c.loop-b.b _ _ c.loop-b-test.true
          c.store_at-at.ensures.place c.width_of-v.ensures) (omega arith),
    )

pub returns : goal.returns
returns c L y =
    let l = c.loop-b in
    counting_end L _ _ _ l.free l.b (l.invariant.1 L y) (omega (arith, c.loop-b-test.false)) _
