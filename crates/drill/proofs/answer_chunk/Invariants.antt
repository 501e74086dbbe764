-- The loop's invariant is `Going`; each full block answers a line, so what is left of the chunk falls.
use Rattle.std.proofs.Common.{length, ◌-◌}
use Rattle.drill.proofs.Chunk.{Going}
use Rattle.drill.proofs.answer_chunk.Given as goal

abbrev pub invariant-loop-next : goal.invariant-loop-next
invariant-loop-next l = Going l.fn.chunk l.fn.scan l.initial.t l.initial.out l.t l.out l.s l.end l.i

abbrev pub decreases-loop-next : goal.decreases-loop-next
decreases-loop-next l = length l.fn.chunk - l.i
