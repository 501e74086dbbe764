-- `inherit::own_keys` meets its contract. The loop's invariant is `Reading`: the keys below i are own priorities. Assumes nothing.
use Rattle.inherit.proofs.Sixteen.{reading_step}
use Rattle.inherit.proofs.Turns.{own-word}
use Rattle.inherit.proofs.own_keys.Goals as goal

pub loop-i-preserved : goal.loop-i-preserved
loop-i-preserved c = reading_step _ _ c.loop-i.keys c.loop-i.i c.loop-i.invariant c.loop-i-test.true _ (own-word _ _ c.loop-i.i c.task_at.result c.task_at.ensures.place)
