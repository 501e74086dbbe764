-- A full block is written out, and the next begins at the buffer's start.
use Rattle.drill.proofs.Chunk.{next_block}
use native.Mathlib.Omega.{arith}
use Rattle.drill.proofs.answer_chunk.Goals as goal

pub loop-next-preserved : goal.loop-next-preserved
loop-next-preserved c =
    let l = c.loop-next in
    let r = c.answer_lines in
    let f = c.in-Full in
    next_block c.args.chunk.now c.args.scan c.args.t.now c.args.out.now l.t l.out l.s l.end l.i l.invariant r.result r.new.t r.new.out r.ensures f.next f.place f.from f.is
    (omega (arith, r.auto.out, l.invariant.room)) r.auto.out r.auto.t
