-- `tasks::sleep_task` meets its contract. Assumes nothing.
use Rattle.rules.proofs.Room.{sound_stands}
use Rattle.rules.specs.Calls.{serve, slept}
use Rattle.rules.specs.Lists.{asleep, leave}
use Rattle.rules.specs.Table.{Task, set_task, words}
use mathlib.Core.Path.{◌∙◌, ap}
use Rattle.tasks.proofs.sleep_task.Goals as goal

pub returns : goal.returns
unfolding asleep leave serve slept
returns c =
    λ L key s y sound caller e.
    let a = c.args.c in
    let left = c.leave_list.ensures L s y (sound_stands s sound a.caller) caller e in
    let x = c.task_at-x.ensures.value L (leave a.caller s) y sound.tasks caller left in
    c.set_task.ensures L (leave a.caller s) y sound.tasks caller left
    ∙ ap (λ (r : Task). words L (set_task a.caller (asleep a.ticks r) (leave a.caller s))) x
