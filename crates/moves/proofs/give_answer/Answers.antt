-- `moves::give_answer` meets its contract. Assumes nothing.
use Rattle.rules.specs.Lists.{answer, answered}
use Rattle.rules.specs.Table.{Task, set_task, words}
use mathlib.Core.Path.{◌∙◌, ap}
use Rattle.moves.proofs.give_answer.Goals as goal

pub returns : goal.returns
unfolding answer answered
returns c =
    λ L s y fits used e.
    let a = c.args in
    let x = c.task_at-x.ensures.value L s y fits used e in
    c.set_task.ensures L s y fits used e
    ∙ ap (λ (y : Task). words L (set_task a.i.0 (answered a.a a.w y) s)) x
