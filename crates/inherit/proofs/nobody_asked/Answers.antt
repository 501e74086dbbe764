-- `inherit::nobody_asked` meets its contract. The loop's invariant is `Unasked`: the hubs so far. Assumes nothing.
use Rattle.inherit.proofs.Linking.{unasked_begin, unasked_end, unasked_step}
use Rattle.inherit.proofs.nobody_asked.Goals as goal

pub loop-h-init : goal.loop-h-init
loop-h-init c = unasked_begin _ _ _

pub loop-h-preserved : goal.loop-h-preserved
loop-h-preserved c =
    let l = c.loop-h in
    let r = c.is_asked in
    unasked_step _ _ _ c.hubs_in-m.ensures l.nobody l.h l.invariant c.loop-h-test.true r.result r.ensures

pub returns : goal.returns
returns c =
    let l = c.loop-h in
    unasked_end _ _ _ c.hubs_in-m.ensures l.nobody l.h l.invariant c.loop-h-test.false
