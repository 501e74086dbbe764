-- `inherit::nobody_asked` meets its contract. The loop's invariant is `Unasked`: the hubs so far. Assumes nothing.
use Rattle.inherit.proofs.Linking.{Unasked}
use Rattle.inherit.proofs.nobody_asked.Given as goal

abbrev pub invariant-loop-h : goal.invariant-loop-h
invariant-loop-h l = Unasked l.t.ts.words l.t.words.now l.m l.nobody l.h
