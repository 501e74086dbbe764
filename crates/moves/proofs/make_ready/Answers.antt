-- `moves::make_ready` meets its contract. Assumes nothing.
use Rattle.rules.specs.Lists.{readied}
use Rattle.rules.specs.Table.{Task, set_task, words}
use mathlib.Core.Path.{◌∙◌, ap}
use Rattle.moves.proofs.make_ready.Goals as goal

pub returns : goal.returns
unfolding readied
returns c =
    λ L s y fits used e.
    let a = c.args in
    let x = c.task_at-x.ensures.value L s y fits used e in
    c.set_task.ensures L s y fits used e
    ∙ ap (λ (y : Task). words L (set_task a.i.0 (readied a.a a.w y) s)) x
