-- `reorder::put_back` meets its contract. Assumes nothing.
use Rattle.reorder.proofs.Back.{rejoin-hub, rejoin-ready, rejoin-unlisted, rejoin-used}
use Rattle.rules.specs.Table.{words}
use mathlib.Core.Path.{◌∙◌, ◌≡◌, ap}
use native.Mathlib.Omega.{arith}
use Rattle.reorder.proofs.put_back.Goals as goal

pub returns-in-Some-Ready : goal.returns-in-Some-Ready
returns-in-Some-Ready c =
    λ L s y g used e.
    let r = c.task_at.ensures.value L s y g.tasks used e in
    c.join_ready.ensures.table L s y e
    ∙ ap (words L) (rejoin-ready _ _ s _ r (rw c.in-Some-Ready.field-0-is at c.in-Some-Ready.ensures))

pub returns-in-Some-Waiting : goal.returns-in-Some-Waiting
returns-in-Some-Waiting c =
    λ L s y g used e.
    let r = c.task_at.ensures.value L s y g.tasks used e in
    let h = c.in-Some-Waiting.h.0 in
    let there = rw c.in-Some-Waiting.field-0-is at c.in-Some-Waiting.ensures in
    let n : c.task_at.result.state ≡ 2 → ⊥ = λ q. omega (arith, there.0, q) in
    c.join_hub.ensures.table L s y (rejoin-used (λ j. j) _ s _ r n there.0 g h there.1) e
    ∙ ap (words L) (rejoin-hub _ _ s _ r n there.0 h there.1)

pub returns-in-None : goal.returns-in-None
returns-in-None c =
    λ L s y g used e.
    let r = c.task_at.ensures.value L s y g.tasks used e in
    e ∙ ap (words L) (rejoin-unlisted _ _ s _ r c.in-None.ensures g)
