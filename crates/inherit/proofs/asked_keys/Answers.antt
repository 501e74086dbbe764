-- `inherit::asked_keys` meets its contract. The loop's invariant is `Filling`: the keys below i are the effective priorities, the others
-- own ones still. Assumes nothing.
use Rattle.inherit.proofs.Sixteen.{filling_asked, filling_end, filling_none}
use Rattle.inherit.proofs.asked_keys.Goals.{else-ls-i-lt16, then-ls-i-lt16}
use Rattle.inherit.proofs.asked_keys.Goals as goal

pub loop-i-preserved : goal.loop-i-preserved
loop-i-preserved c =
    let l = c.loop-i in
    let low = c.loop-i-test.true in
    elim c.if-ls-i-lt16.branch [
      | then-ls-i-lt16 w ↦ rw w.keys-is (filling_asked _ _ l.keys l.i l.invariant low w.over_task.result w.over_task.ensures)
      | else-ls-i-lt16 w ↦ rw w.keys-is (filling_none _ _ l.keys l.i l.invariant low _ c.links-ls.ensures w.if-ls-i-lt16.false)
    ]

pub returns : goal.returns
returns c = filling_end _ _ c.loop-i.keys c.loop-i.i c.loop-i.invariant c.loop-i-test.false
