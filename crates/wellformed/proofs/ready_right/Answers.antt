-- `wellformed::ready_right` meets its contract: what must be 0, then the answer, then the word. Assumes nothing.
use Rattle.wellformed.proofs.Turns.{answer_last, ready_bare, ready_far, ready-met, ready_no}
use Rattle.wellformed.specs.Walks.{record_of}
use mathlib.Core.Path.{◌∙◌, sym}
use native.Mathlib.Omega.{arith}
use Rattle.wellformed.proofs.ready_right.Goals as goal

pub returns-then-not-x : goal.returns-then-not-x
returns-then-not-x c L s y = sym (ready_no s (record_of L c.args.x.now) c.if-not-x.true)

pub returns-then-answer-eq-OK : goal.returns-then-answer-eq-OK
returns-then-answer-eq-OK c L s y =
    let l = c.args.x.now in
    sym (ready-met s (record_of L l) c.if-not-x.false (sym (answer_last L y l) ∙ c.if-answer-eq-OK.true))

pub returns-then-answer-gt-TIMED_OUT : goal.returns-then-answer-gt-TIMED_OUT
returns-then-answer-gt-TIMED_OUT c L s y =
    let l = c.args.x.now in
    sym (ready_far s (record_of L l) c.if-not-x.false (omega (arith, answer_last L y l, c.if-answer-gt-TIMED_OUT.true)))

pub returns : goal.returns
returns c L s y =
    let l = c.args.x.now in
    c.wordless.ensures L y
    ∙ sym (ready_bare s (record_of L l) c.if-not-x.false (omega (arith, answer_last L y l, c.if-answer-gt-TIMED_OUT.false)) (λ z. c.if-answer-eq-OK.false (answer_last L y l ∙ z)))
