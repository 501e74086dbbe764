-- `bodies::owner_right` meets its contract: the owner's state is read once its number is known to be in use. Assumes nothing.
use Prim.Native.Nat.{◌*◌, ◌+◌}
use Rattle.bodies.proofs.Hubs.{owner_far, owner-none, owner-reads}
use mathlib.Core.Path.{◌∙◌, sym}
use native.Mathlib.Omega.{arith}
use Rattle.bodies.proofs.owner_right.Goals as goal

pub returns-then-owner-eq0 : goal.returns-then-owner-eq0
returns-then-owner-eq0 c L y =
    let r = c.hubs_at in
    sym (owner-none L c.args.t.now.words.now c.args.h c.requires.h_bound (r.result + c.args.h * 4) (omega arith) (sym c.owner_of-owner.ensures ∙ c.if-owner-eq0.true))

pub returns-then-owner-t : goal.returns-then-owner-t
returns-then-owner-t c L y =
    let r = c.hubs_at in
    let o = c.owner_of-owner in
    sym (owner_far L c.args.t.now.words.now c.args.h c.requires.h_bound (r.result + c.args.h * 4) (omega arith) (λ z. c.if-owner-eq0.false (o.ensures ∙ z)) (omega (arith, o.ensures, c.if-owner-t.true)))

pub returns : goal.returns
returns c L y =
    let r = c.hubs_at in
    let o = c.owner_of-owner in
    let p = c.task_at in
    sym (owner-reads L c.args.t.now.words.now c.args.h c.requires.h_bound (r.result + c.args.h * 4) (omega arith) (λ z. c.if-owner-eq0.false (o.ensures ∙ z)) y p.result (rw o.ensures at p.ensures.place) (omega (arith, o.ensures, c.if-owner-t.false)))
