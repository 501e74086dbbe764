-- `tasks::suspend_task` meets its contract. Assumes nothing.
use Rattle.rules.specs.Calls.{flag, grant, may_suspend, serve}
use Rattle.rules.specs.Table.{Task, words}
use mathlib.Core.Bool.{Bool}
use mathlib.Core.Path.{◌∙◌, ap}
use Rattle.tasks.proofs.suspend_task.Goals as goal

pub returns : goal.returns
unfolding serve
returns c =
    λ L key s y sound caller target e.
    let a = c.args.c in
    let x = c.task_at-x.ensures.value L s y sound.tasks target e in
    let may = c.may_suspend.ensures ∙ ap (λ (t : Task). may_suspend t a) x in
    c.set_flag.ensures L s y sound.tasks caller target e ∙ ap (λ (b : Bool). words L (grant b (flag 1 a.target s) s a)) may
