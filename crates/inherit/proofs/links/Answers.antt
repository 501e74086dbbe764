-- `inherit::links` meets its contract. The loop's invariant is `Linking`: the links of the hubs from h on. Assumes nothing.
use Rattle.inherit.proofs.Linking.{among, linking_asked, linking_begin, linking_none}
use Prim.Native.Nat.{◌-◌}
use native.Mathlib.Omega.{arith}
use Rattle.inherit.proofs.links.Goals as goal

pub loop-h-init : goal.loop-h-init
loop-h-init c = linking_begin _ _ _ c.hubs_in-h.ensures

pub loop-h-preserved-then-o : goal.loop-h-preserved-then-o
loop-h-preserved-then-o c =
    let l = c.loop-h in
    let o = c.asked_owner-o in
    let a = among o.result c.if-o.true in
    linking_asked _ _ l.ks l.h (l.h - 1) l.invariant (omega (arith, c.loop-h-test.true)) o.result o.ensures a.0 a.1

pub loop-h-preserved : goal.loop-h-preserved
loop-h-preserved c =
    let l = c.loop-h in
    let o = c.asked_owner-o in
    linking_none _ _ l.ks l.h (l.h - 1) l.invariant (omega (arith, c.loop-h-test.true)) o.result o.ensures c.if-o.false
