-- `moves::leave_list` meets its contract. Assumes nothing.
use Prim.Native.Nat.{◌+◌, ◌-◌, ℕ}
use Rattle.moves.proofs.Laws.{by_listed, by_unlisted}
use mathlib.Core.Path.{◌∙◌, ◌≡◌}
use native.Mathlib.Omega.{arith}
use Rattle.moves.proofs.leave_list.Goals as goal

pub returns-in-Some : goal.returns-in-Some
returns-in-Some c =
    λ L s y g used e.
    let r = c.task_at.ensures.value L s y g.tasks used e in
    let a = c.list_at-a in
    let n : ℕ = a.result + 16 - a.result in
    let many : n ≡ 16 = omega arith in
    by_listed L _ s g _ r y c.args.t.now _ a.result n many e c.in-Some.list c.in-Some.ensures a.ensures c.leave.ensures

pub returns-in_default : goal.returns-in_default
returns-in_default c =
    λ L s y g used e.
    let r = c.task_at.ensures.value L s y g.tasks used e in
    e ∙ by_unlisted L _ s g _ r c.in_default.ensures g.hubs
