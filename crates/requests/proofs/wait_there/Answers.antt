-- `requests::wait_there` meets its contract. Assumes nothing.
use Prim.Native.Nat.{◌<◌}
use Rattle.lists.specs.Lists.{place_of}
use Rattle.requests.proofs.Laws.{left_list, left_room}
use Rattle.rules.proofs.Ahead.{ahead-wait}
use Rattle.rules.proofs.Room.{sound_stands}
use Rattle.rules.specs.Calls.{wait}
use Rattle.rules.specs.Lists.{leave, unqueue}
use Rattle.rules.specs.Table.{hub, set_task}
use lib.ListN.{length, length-map}
use mathlib.Core.Path.{◌∙◌, ap, refl, sym}
use Rattle.requests.proofs.wait_there.Goals as goal

pub returns : goal.returns
unfolding leave set_task wait
returns c =
    λ L s y sound caller used e.
    let k = c.args.c in
    let r = c.hub_at-x.ensures L s y sound.hubs used e in
    let word = c.kept_word-word.ensures.value (hub s k.target) k r.kind refl c.joined.ensures in
    let left = c.leave_list.ensures L s y (sound_stands s sound k.caller) caller e in
    let made = rw word at (c.make_waiting.ensures L (leave k.caller s) y sound.tasks caller left) in
    let named : k.target < length (leave k.caller s).hubs = rw (length-map s.hubs (unqueue k.caller)) used in
    let joined = c.join_hub.ensures in
    record {
      table = joined.table L _ y named made;
      ahead =
          joined.place L _ y named (left_room s k.caller k.target sound) made
          ∙ ap (place_of _ _) (left_list s k.caller k.target)
          ∙ sym (ahead-wait _ s k caller used);
    }
