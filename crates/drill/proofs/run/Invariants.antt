-- The loop's invariant is `Reading`.
use Rattle.drill.proofs.Chunk.{Reading}
use Rattle.drill.proofs.run.Given as goal

abbrev pub invariant-loop : goal.invariant-loop
invariant-loop l = Reading l.initial.t l.initial.input l.initial.out l.t l.input l.out l.at
