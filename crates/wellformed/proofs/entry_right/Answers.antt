-- `wellformed::entry_right` meets its contract: the task's words are read once its number is known to be in use.
-- Assumes nothing.
use Rattle.wellformed.proofs.Turns.{meets_far, meets-words}
use mathlib.Core.Path.{sym}
use native.Mathlib.Omega.{arith}
use Rattle.wellformed.proofs.entry_right.Goals as goal

pub returns-then-e-t : goal.returns-then-e-t
returns-then-e-t c L y =
    let a = c.args in
    sym (meets_far L a.t.now.words.now a.hub a.side a.owner a.e c.if-e-t.true)

pub returns : goal.returns
returns c L y =
    let a = c.args in
    let p = c.task_at-b in
    sym (meets-words L y a.t.now.words.now a.e p.result (λ z. omega arith) c.if-e-t.false p.ensures.place a.hub a.side a.owner)
