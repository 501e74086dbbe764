-- `inherit::asked_keys` meets its contract. The loop's invariant is `Filling`: the keys below i are the effective priorities, the others
-- own ones still. Assumes nothing.
use Rattle.inherit.proofs.Sixteen.{Filling}
use Rattle.inherit.proofs.asked_keys.Given as goal

abbrev pub invariant-loop-i : goal.invariant-loop-i
invariant-loop-i l = Filling l.t.ts.words l.t.words.now l.keys l.i
