-- `clock::set_ticks` meets its contract. Assumes nothing.
use Rattle.rules.specs.Lists.{counted}
use Rattle.rules.specs.Table.{Task, set_task, words}
use mathlib.Core.Path.{◌∙◌, ap}
use Rattle.clock.proofs.set_ticks.Goals as goal

pub returns : goal.returns
unfolding counted
returns c =
    λ L s y fits used e.
    let a = c.args in
    let x = c.task_at-x.ensures.value L s y fits used e in
    c.set_task.ensures L s y fits used e
    ∙ ap (λ (r : Task). words L (set_task a.i.0 (counted a.n r) s)) x
