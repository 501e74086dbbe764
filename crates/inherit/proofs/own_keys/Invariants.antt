-- `inherit::own_keys` meets its contract. The loop's invariant is `Reading`: the keys below i are own priorities. Assumes nothing.
use Rattle.inherit.proofs.Sixteen.{Reading}
use Rattle.inherit.proofs.own_keys.Given as goal

abbrev pub invariant-loop-i : goal.invariant-loop-i
invariant-loop-i l = Reading l.t.ts.words l.t.words.now l.keys l.i
