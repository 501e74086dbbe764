-- `wellformed::queue_right` meets its contract: an empty list, else the answer by the list's first word. Assumes nothing.
use Prim.Native.Nat.{◌*◌, ◌+◌}
use Rattle.bodies.proofs.Parts.{lent-long}
use Rattle.lists.proofs.Padding.{all_zero-at}
use Rattle.wellformed.proofs.Hubs.{queue_as, queue_barred, queue_far, queue_none, queue_walked}
use mathlib.Core.Bool.{false, true}
use mathlib.Core.Path.{◌∙◌, sym}
use native.Mathlib.Omega.{arith}
use Rattle.wellformed.proofs.queue_right.Goals as goal

pub returns-then-zeros : goal.returns-then-zeros
returns-then-zeros c L y =
    let a = c.waits_at-at in
    let long = lent-long c.args.t.now.words.now a.result 16 (omega arith) in
    let e = sym c.zeros.ensures ∙ c.if-zeros.true in
    queue_as L c.args.t.now.words.now c.args.h c.requires.h_bound a.result (omega arith)
    (queue_none L c.args.t.now.words.now c.args.h c.requires.h_bound _ c.args.marks.now (omega (arith, long)) (all_zero-at _ 0 e) true (sym e))

pub returns-then-e-eq0 : goal.returns-then-e-eq0
returns-then-e-eq0 c L y =
    let a = c.waits_at-at in
    let long = lent-long c.args.t.now.words.now a.result 16 (omega arith) in
    queue_as L c.args.t.now.words.now c.args.h c.requires.h_bound a.result (omega arith)
    (queue_none L c.args.t.now.words.now c.args.h c.requires.h_bound _ c.args.marks.now (omega (arith, long)) c.if-e-eq0.true false (sym c.if-zeros.false ∙ c.zeros.ensures))

pub returns-then-e-t : goal.returns-then-e-t
returns-then-e-t c L y =
    let a = c.waits_at-at in
    queue_as L c.args.t.now.words.now c.args.h c.requires.h_bound a.result (omega arith)
    (queue_far L c.args.t.now.words.now c.args.h c.requires.h_bound _ c.args.marks.now c.if-e-eq0.false c.if-e-t.true)

pub returns-then-not-may_wait : goal.returns-then-not-may_wait
returns-then-not-may_wait c L y =
    let a = c.waits_at-at in
    let p = c.task_at in
    let r = c.hubs_at in
    queue_as L c.args.t.now.words.now c.args.h c.requires.h_bound a.result (omega arith)
    (queue_barred L c.args.t.now.words.now c.args.h c.requires.h_bound _ c.args.marks.now c.if-e-eq0.false y p.result p.ensures.place (r.result + c.args.h * 4) (omega arith) c.if-e-t.false (sym c.may_wait.ensures ∙ c.if-not-may_wait.true))

pub walk-requires : goal.walk-requires
walk-requires c = let a = c.waits_at-at in record { list_len = lent-long c.args.t.now.words.now a.result 16 (omega arith); marks = c.requires.marks }

pub returns : goal.returns
returns c L y =
    let a = c.waits_at-at in
    let p = c.task_at in
    let r = c.hubs_at in
    queue_as L c.args.t.now.words.now c.args.h c.requires.h_bound a.result (omega arith)
    (queue_walked L c.args.t.now.words.now c.args.h c.requires.h_bound _ c.args.marks.now c.if-e-eq0.false y p.result p.ensures.place (r.result + c.args.h * 4) (omega arith) c.if-e-t.false (sym c.may_wait.ensures ∙ c.if-not-may_wait.false) c.owner_of.result c.owner_of.ensures (c.walk.ensures L y))
