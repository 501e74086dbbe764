-- `runner::answer_lines` meets its contract. The loop's invariant is `Going`; each turn ends a line, so what is left of the chunk falls.
use Rattle.lines.proofs.Chunks.{turn}
use Rattle.runner.proofs.Runs.{drained, goes_on, going, one_more}
use mathlib.Core.Path.{◌∙◌, sym}
use native.Mathlib.Omega.{arith}
use Rattle.runner.proofs.answer_lines.Goals as goal

pub loop-line-init : goal.loop-line-init
loop-line-init c = going _ _ _ _ _ _ c.requires

pub answer_line-end-requires : goal.answer_line-end-requires
answer_line-end-requires c = c.loop-line.invariant.room

pub overflow_sub-out : goal.overflow_sub-out
overflow_sub-out c = c.answer_line-end.ensures.fits

pub returns-then-out-end-lt-PRINT_ROOM : goal.returns-then-out-end-lt-PRINT_ROOM
returns-then-out-end-lt-PRINT_ROOM c =
    let up = one_more c.args.chunk.now c.args.start c.args.scan c.args.t.now c.args.out.now c.args.at
    c.loop-line.t c.loop-line.out c.loop-line.s c.loop-line.end c.loop-line.i c.loop-line.invariant c.in-Ended.line c.in-Ended.next c.in-Ended.place
    (sym (sym c.in-Ended.is ∙ c.next_line.ensures)) c.answer_line-end.result c.answer_line-end.new.t c.answer_line-end.new.out c.answer_line-end.ensures in
    up

pub loop-line-smaller : goal.loop-line-smaller
loop-line-smaller c =
    let chunk = c.args.chunk.now in
    let k = turn chunk c.loop-line.i c.loop-line.s c.in-Ended.line c.in-Ended.next c.in-Ended.place (sym (sym c.in-Ended.is ∙ c.next_line.ensures)) in
    omega (arith, k.forward, k.inside)

pub loop-line-preserved : goal.loop-line-preserved
loop-line-preserved c =
    let up = one_more c.args.chunk.now c.args.start c.args.scan c.args.t.now c.args.out.now c.args.at
    c.loop-line.t c.loop-line.out c.loop-line.s c.loop-line.end c.loop-line.i c.loop-line.invariant c.in-Ended.line c.in-Ended.next c.in-Ended.place
    (sym (sym c.in-Ended.is ∙ c.next_line.ensures)) c.answer_line-end.result c.answer_line-end.new.t c.answer_line-end.new.out c.answer_line-end.ensures in
    goes_on c.args.chunk.now c.args.start c.args.scan c.args.t.now c.args.out.now c.args.at
    c.answer_line-end.new.t c.answer_line-end.new.out c.in-Ended.next c.answer_line-end.result c.in-Ended.place up (omega (arith, c.if-out-end-lt-PRINT_ROOM.false, c.answer_line-end.ensures.fits))
    (c.answer_line-end.auto.out ∙ c.loop-line.invariant.bytes) (c.answer_line-end.auto.t ∙ c.loop-line.invariant.words)

pub returns-in-More : goal.returns-in-More
returns-in-More c =
    drained c.args.chunk.now c.args.start c.args.scan c.args.t.now c.args.out.now c.args.at
    c.loop-line.t c.loop-line.out c.loop-line.s c.loop-line.end c.loop-line.i c.loop-line.invariant c.in-More.next
    (sym (sym c.in-More.is ∙ c.next_line.ensures))
