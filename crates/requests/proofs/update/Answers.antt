-- `requests::update` meets its contract. Assumes nothing.
use Rattle.hubtable.specs.Says.{StoreBelow, store_after}
use Rattle.moves.specs.Moves.{key_of}
use Rattle.requests.proofs.Boards.{told, update-fits, update-state, written}
use Rattle.requests.proofs.Laws.{told_sound, told_used}
use Rattle.verdicts.proofs.Laws.{asked, caller-used, held}
use Rattle.rules.specs.Calls.{hold}
use Rattle.rules.specs.Table.{hub, set_hub, words}
use borrow.Author.Rules.{rules}
use mathlib.Core.Path.{◌∙◌, ap}
use Rattle.requests.proofs.update.Goals as goal

pub hold_hub-requires : goal.hold_hub-requires
unfolding StoreBelow
hold_hub-requires c = search rules

pub returns : goal.returns
unfolding hold set_hub
returns c =
    λ L s y g r b d e.
    let a = c.args in
    let k = a.c in
    let after = store_after (written s g k r b) (hub s k.target).held in
    let j = c.joined-word.ensures in
    let wrote = rw j at (c.hold_hub.ensures L s y g.hubs (asked s g k r).named (held s g k r) (rw j (update-fits s g k r b)) e) in
    let said = c.give_answer.ensures L (hold k.target 1 after s) y g.tasks (caller-used s g k r) wrote in
    (rw j at (c.meet_all.ensures L (told s g k r b) y (told_sound s g k r 1 0 after) (told_used s g k r 1 0 after) said))
    ∙ ap (words L) (update-state s g k r b (key_of a.keys.now) d)
