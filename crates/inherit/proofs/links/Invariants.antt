-- `inherit::links` meets its contract. The loop's invariant is `Linking`: the links of the hubs from h on. Assumes nothing.
use Rattle.inherit.proofs.Linking.{Linking}
use Rattle.inherit.proofs.links.Given as goal

abbrev pub invariant-loop-h : goal.invariant-loop-h
invariant-loop-h l = Linking l.t.ts.words l.t.words.now l.ks l.h
