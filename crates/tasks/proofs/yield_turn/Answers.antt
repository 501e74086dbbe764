-- `tasks::yield_turn` meets its contract. Assumes nothing.
use Rattle.rules.proofs.Room.{sound_stands}
use Rattle.rules.specs.Calls.{serve, yielded}
use Rattle.rules.specs.Lists.{answer, leave}
use Rattle.tasks.proofs.yield_turn.Goals as goal

pub returns : goal.returns
unfolding answer leave serve yielded
returns c =
    λ L s y sound caller e.
    let i = c.args.c.caller in
    let left = c.leave_list.ensures L s y (sound_stands s sound _) caller e in
    let said = c.give_answer.ensures L (leave i s) y sound.tasks caller left in
    c.join_ready.ensures.table L _ y said
