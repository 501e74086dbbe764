-- `kernel::add_started` meets its contract: the keys are those that it was given, and the added task's its own priority.
-- Assumes nothing.
use Prim.Native.Nat.{◌<◌, ◌≤◌}
use Rattle.kernel.proofs.Laws.{key-added}
use Rattle.rules.proofs.Changes.{length-add_task}
use Rattle.rules.proofs.Places.{tasks-word}
use Rattle.rules.specs.Calls.{add_started, add_task, start}
use lib.ListN.{get_or, length}
use mathlib.Core.Path.{◌∙◌, ◌≡◌, refl}
use native.Mathlib.Omega.{arith}
use Rattle.kernel.proofs.add_started.Goals as goal

pub returns : goal.returns
unfolding add_started start
returns c =
    λ L s y room e.
    let a = c.args in
    let n = get_or a.t.now 1 0 in
    let s' = add_task a.priority s in
    let many : n ≡ length s.tasks = rw e (tasks-word L s) in
    let grown = length-add_task a.priority s in
    let fits : length s'.tasks ≤ 16 = omega (arith, grown) in
    let used : n < length s'.tasks = omega (arith, grown, many) in
    let low : n < length a.keys.now = omega (arith, many) in
    let added = c.add_task.ensures L s y room e in
    let made = c.make_ready.ensures L s' y fits used added in
    c.join_ready.ensures.table L _ y made
    ∙ rw (key-added a.keys.now n a.priority s many low, many) refl
