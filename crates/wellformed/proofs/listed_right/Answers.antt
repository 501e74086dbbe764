-- `wellformed::listed_right` meets its contract: flag and priority, then an arm for each state. Assumes nothing.
use Rattle.rules.specs.Table.{read, stage_of}
use Rattle.wellformed.proofs.Turns.{listed_as, listed_neither, listed_no}
use Rattle.wellformed.specs.Walks.{record_of}
use mathlib.Core.Path.{◌∙◌, refl, sym}
use native.Mathlib.Omega.{arith}
use Rattle.wellformed.proofs.listed_right.Goals as goal

pub returns-then-not-x : goal.returns-then-not-x
returns-then-not-x c L y = sym (listed_no _ (record_of L c.args.x.now) c.if-not-x.true)

pub returns-in-2 : goal.returns-in-2
unfolding stage_of
returns-in-2 c L y =
    let s = read L c.args.t.now.words.now in
    c.ready_right.ensures L s y
    ∙ sym (listed_as s (record_of L c.args.x.now) c.if-not-x.false 2 c.in-2.is refl)

pub returns-in-3 : goal.returns-in-3
unfolding stage_of
returns-in-3 c L y =
    let s = read L c.args.t.now.words.now in
    c.waiting_task.ensures L y
    ∙ sym (listed_as s (record_of L c.args.x.now) c.if-not-x.false 3 c.in-3.is refl)

pub returns-in_default : goal.returns-in_default
returns-in_default c L y = sym (listed_neither _ (record_of L c.args.x.now) (λ e. omega arith) (λ e. omega arith))
