-- `tasks::set_flag` meets its contract. Assumes nothing.
use Rattle.rules.specs.Calls.{flag}
use Rattle.rules.specs.Lists.{flagged}
use Rattle.rules.specs.Table.{Task, set_task, words}
use Rattle.tasks.proofs.Laws.{failed, granted, tasks-flag}
use mathlib.Core.Path.{◌∙◌, ◌≡◌, ap}
use native.Mathlib.Omega.{arith}
use Rattle.tasks.proofs.set_flag.Goals as goal

pub returns-then-not-holds : goal.returns-then-not-holds
returns-then-not-holds c =
    λ L s y fits caller target e.
    c.give_answer.ensures L s y fits caller e ∙ ap (words L) (failed _ _ s c.args.c c.if-not-holds.true)

pub returns : goal.returns
unfolding flag flagged
returns c =
    λ L s y fits caller target e.
    let a = c.args.c in
    let f = c.args.f in
    let x = c.task_at-x.ensures.value L s y fits target e in
    let set : c.set_task.new.t ≡ words L (flag f a.target s) =
    c.set_task.ensures L s y fits target e ∙ ap (λ (r : Task). words L (set_task a.target (flagged f r) s)) x
    in
    let many = tasks-flag (λ j. j) a.target s f in
    c.give_answer-2.ensures L (flag f a.target s) y (omega (arith, many, fits)) (omega (arith, many, caller)) set
    ∙ ap (words L) (granted _ _ s a c.if-not-holds.false)
