-- `moves::wake_task` meets its contract. Assumes nothing.
use Rattle.rules.proofs.Room.{sound_stands}
use Rattle.rules.specs.Lists.{leave, wake}
use Rattle.rules.specs.Table.{set_task}
use Rattle.moves.proofs.wake_task.Goals as goal

pub returns : goal.returns
unfolding leave set_task wake
returns c =
    λ L s y sound used e.
    let i = c.args.i.0 in
    let left = c.leave_list.ensures L s y (sound_stands s sound i) used e in
    let made = c.make_ready.ensures L (leave i s) y sound.tasks used left in
    c.join_ready.ensures.table L _ y made
