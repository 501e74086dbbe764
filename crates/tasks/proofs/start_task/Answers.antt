-- `tasks::start_task` meets its contract. Assumes nothing.
use Rattle.moves.specs.Moves.{key_of}
use Rattle.rules.specs.Calls.{serve, start}
use Rattle.rules.specs.Table.{Task, words}
use Rattle.tasks.proofs.Laws.{failed, granted, tasks-start}
use borrow.Author.Tests.{eq-eqb, ne_eqb}
use mathlib.Core.Path.{◌∙◌, ap, sym}
use native.Mathlib.Omega.{arith}
use Rattle.tasks.proofs.start_task.Goals as goal

pub returns-then-task_at-ne-INACTIVE : goal.returns-then-task_at-ne-INACTIVE
unfolding serve
returns-then-task_at-ne-INACTIVE c =
    λ L s y sound caller target e.
    let x = c.task_at.ensures.value L s y sound.tasks target e in
    let state = ap (λ (r : Task). r.state) x in
    c.give_answer.ensures L s y sound.tasks caller e
    ∙ ap (words L) (failed _ _ s _ (ne_eqb _ 1 (λ q. c.if-task_at-ne-INACTIVE.true (state ∙ q))))

pub returns : goal.returns
unfolding serve start
returns c =
    λ L s y sound caller target e.
    let x = c.task_at.ensures.value L s y sound.tasks target e in
    let state = ap (λ (r : Task). r.state) x in
    let a = c.args in
    let key = key_of a.keys.now in
    let made = c.make_ready.ensures L s y sound.tasks target e in
    let joined = c.join_ready.ensures.table L _ y made in
    let many = tasks-start key a.c.target s in
    c.give_answer-2.ensures L (start key a.c.target s) y (omega (arith, many, sound.tasks)) (omega (arith, many, caller)) joined
    ∙ ap (words L) (granted _ _ s a.c (eq-eqb _ 1 (sym state ∙ c.if-task_at-ne-INACTIVE.false)))
