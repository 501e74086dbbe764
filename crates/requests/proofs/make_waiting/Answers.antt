-- `requests::make_waiting` meets its contract. Assumes nothing.
use Rattle.rules.specs.Lists.{waits}
use Rattle.rules.specs.Table.{Task, set_task, words}
use mathlib.Core.Path.{◌∙◌, ap}
use native.Mathlib.Numerals.{add-one}
use Rattle.requests.proofs.make_waiting.Goals as goal

pub returns : goal.returns
unfolding waits
returns c =
    λ L s y fits used e.
    let a = c.args in
    let k = a.c in
    let x = c.task_at-x.ensures.value L s y fits used e in
    c.set_task.ensures L s y fits used e
    ∙ rw add-one (ap (λ (r : Task). words L (set_task k.caller (waits k.target k.ticks k.side a.word r) s)) x)
