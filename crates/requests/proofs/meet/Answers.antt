-- `requests::meet` meets its contract. Assumes nothing.
use Rattle.records.specs.Entries.{numbered}
use Rattle.hubtable.specs.Says.{Below, met_with, store_after}
use Rattle.moves.specs.Moves.{key_of}
use Rattle.requests.proofs.Laws.{meeting_fits, met-state, told_in, told_sound, waiter-used}
use Rattle.verdicts.proofs.Laws.{asked, caller-used}
use Rattle.rules.specs.Calls.{hold, meet_all}
use Rattle.rules.specs.Table.{hub, set_hub}
use borrow.Author.Rules.{rules}
use mathlib.Core.Path.{◌∙◌, ap, refl}
use native.Mathlib.Omega.{arith}
use Rattle.requests.proofs.meet.Goals as goal

pub hold_hub-requires : goal.hold_hub-requires
unfolding Below
hold_hub-requires c = search rules

pub give_answer-requires : goal.give_answer-requires
unfolding Below
give_answer-requires c = search rules

pub wake_task-requires : goal.wake_task-requires
unfolding Below
wake_task-requires c = search rules

pub returns-then-waiter-lt16 : goal.returns-then-waiter-lt16
unfolding hold meet_all met_with set_hub
returns-then-waiter-lt16 c =
    λ L s y g r v e.
    let a = c.args in
    let k = a.c in
    let m = a.m in
    let q = asked s g k r in
    let held = c.hold_hub.ensures L s y g.hubs q.named (g.ranges.held k.target q.named) (meeting_fits s g k r m v) e in
    let caller = caller-used s g k r in
    let said = c.give_answer.ensures L (hold k.target m.count (store_after m.store (hub s k.target).held) s) y g.tasks caller held in
    let sound = told_sound s g k r m.count m.word (store_after m.store (hub s k.target).held) in
    let is = ap numbered c.in-Some.is in
    let w = waiter-used s g k r m v _ is in
    let woken = c.wake_task.ensures L _ y sound (told_in s k m.word (hold k.target m.count (store_after m.store (hub s k.target).held) s) refl w) said in
    woken ∙ rw (← met-state s g k r m v (key_of a.keys.now), is) refl

pub returns-else-waiter-lt16 : goal.returns-else-waiter-lt16
returns-else-waiter-lt16 c =
    λ L s y g r v e.
    let a = c.args in
    let w = waiter-used s g a.c r a.m v _ (ap numbered c.in-Some.is) in
    absurd (omega (arith, w, g.tasks, c.if-waiter-lt16.false))

pub returns-in_default : goal.returns-in_default
unfolding hold meet_all met_with set_hub
returns-in_default c =
    λ L s y g r v e.
    let a = c.args in
    let k = a.c in
    let m = a.m in
    let q = asked s g k r in
    let held = c.hold_hub.ensures L s y g.hubs q.named (g.ranges.held k.target q.named) (meeting_fits s g k r m v) e in
    let caller = caller-used s g k r in
    let said = c.give_answer.ensures L (hold k.target m.count (store_after m.store (hub s k.target).held) s) y g.tasks caller held in
    said ∙ rw (← met-state s g k r m v (key_of a.keys.now), ap numbered c.in_default.is) refl
