-- `wellformed::queues_right` meets its contract. The loop's invariant is `Passing`, in every layout: the lists so far are
-- right, and marked. Assumes nothing.
use Rattle.rules.proofs.Layouts.{in_some}
use Rattle.wellformed.proofs.Hubs.{passing_begin, passing_end, passing_low, passing_no, passing_step}
use Rattle.wellformed.proofs.queues_right.Goals as goal

pub loop-h-init : goal.loop-h-init
loop-h-init c L y = passing_begin _ _ _

pub queue_right-requires : goal.queue_right-requires
queue_right-requires c =
    let l = c.loop-h in
    let u = c.loop-h-test.true in
    let low = in_some c.args.t.now.ts.words c.args.t.now.used.low c.args.t.now.used.high (λ L y. passing_low L _ _ l.marks l.h (l.invariant L y) c.args.t.now.used c.requires.marks u) in record { h_bound = u; marks = low }

pub returns-then-not-queue_right : goal.returns-then-not-queue_right
returns-then-not-queue_right c L y =
    let l = c.loop-h in
    passing_no L _ _ l.marks l.h (l.invariant L y) c.loop-h-test.true c.queue_right.result _ (c.queue_right.ensures L y) c.if-not-queue_right.true

pub loop-h-preserved : goal.loop-h-preserved
loop-h-preserved c L y =
    let l = c.loop-h in
    passing_step L _ _ l.marks l.h (l.invariant L y) c.loop-h-test.true c.queue_right.result _ (c.queue_right.ensures L y) c.if-not-queue_right.false

pub returns : goal.returns
returns c L y =
    let l = c.loop-h in
    passing_end L _ _ l.marks l.h (l.invariant L y) c.loop-h-test.false
