-- `tasks::resume_task` meets its contract. Assumes nothing.
use Rattle.rules.specs.Calls.{flag, grant, serve}
use Rattle.rules.specs.Table.{Task, words}
use lib.Dec.{eqb}
use mathlib.Core.Bool.{not}
use mathlib.Core.Path.{◌∙◌, ap}
use Rattle.tasks.proofs.resume_task.Goals as goal

pub returns : goal.returns
unfolding serve
returns c =
    λ L key s y sound caller target e.
    let a = c.args.c in
    let x = c.task_at-x.ensures.value L s y sound.tasks target e in
    c.set_flag.ensures L s y sound.tasks caller target e ∙ ap (λ (t : Task). words L (grant (not (eqb t.suspended 0)) (flag 0 a.target s) s a)) x
