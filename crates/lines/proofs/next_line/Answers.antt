-- What is left to read from here comes to the same as the whole.
use Prim.Native.Nat.{◌+◌}
use Rattle.lines.proofs.Steps.{byte_at, end_at, newline-at}
use Rattle.lines.specs.Lines.{Line}
use Rattle.lines.specs.Scan.{line_of_scan, progress_of}
use Rattle.lines.specs.declared.Progress.TheVariants.{Ended}
use Rattle.lines.specs.declared.Scan.{Scan}
use lib.ListN.{drop}
use mathlib.Core.Path.{◌∙◌, ap}
use native.Mathlib.Omega.{arith}
use Rattle.lines.proofs.next_line.Goals as goal

pub returns-then-buf-i-eq10 : goal.returns-then-buf-i-eq10
returns-then-buf-i-eq10 c =
    let i = c.loop-i.i in
    ap (λ (x : Line). Ended x c.next.result (i + 1)) c.finish.ensures
    ∙ ap (λ (x : Scan). Ended (line_of_scan c.loop-i.s) x (i + 1)) c.next.ensures
    ∙ newline-at i c.loop-i.s c.args.buf.now c.loop-i-test.true c.if-buf-i-eq10.true
    ∙ c.loop-i.invariant

pub loop-i-preserved : goal.loop-i-preserved
loop-i-preserved c =
    let i = c.loop-i.i in
    ap (λ (x : Scan). progress_of (i + 1) x (drop (i + 1) c.args.buf.now)) c.step-s.ensures
    ∙ byte_at i c.loop-i.s c.args.buf.now c.loop-i-test.true c.if-buf-i-eq10.false
    ∙ c.loop-i.invariant

pub returns : goal.returns
returns c = end_at c.loop-i.i c.loop-i.s c.args.buf.now (omega arith) ∙ c.loop-i.invariant
