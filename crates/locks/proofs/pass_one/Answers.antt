-- `locks::pass_one` meets its contract: not owned, owned with a waiter, owned with none. Assumes nothing.
use Rattle.moves.specs.Moves.{key_of}
use Rattle.records.specs.Entries.{numbered}
use Rattle.rules.proofs.Handed.{one-not}
use Rattle.rules.specs.Calls.{hold}
use Rattle.rules.specs.Table.{hub, set_hub, words}
use Rattle.locks.proofs.Laws.{count_set, heir-used, passed_none, passed-some, sound_hold}
use mathlib.Core.Path.{◌∙◌, ◌≡◌, ap, sym}
use native.Mathlib.Omega.{arith}
use Rattle.locks.proofs.pass_one.Goals as goal

pub returns-then-not-is_owner : goal.returns-then-not-is_owner
returns-then-not-is_owner c =
    λ L s y sound w used e.
    let no = sym (c.is_owner.ensures L s y sound.hubs used e) ∙ c.if-not-is_owner.true in
    e ∙ ap (words L) (sym (one-not _ _ _ s no))

pub returns-then-waiter-lt16 : goal.returns-then-waiter-lt16
unfolding hold set_hub
returns-then-waiter-lt16 c =
    λ L s y sound w used e.
    let a = c.args in
    let h = a.h.0 in
    let n = c.entry_of.result in
    let o = sym (c.is_owner.ensures L s y sound.hubs used e) ∙ c.if-not-is_owner.false in
    let f = sym (c.first_waiter.ensures.value L s y sound w used e) ∙ ap numbered c.in-Some.is in
    let held : c.set_count.new.t ≡ words L (hold h n (hub s h).held s) = c.set_count.ensures ∙ rw (c.hubs_at.ensures, y.size, e) (count_set L s y h n c.requires.h_bound used) in
    c.wake_task.ensures L (hold h n (hub s h).held s) y (sound_hold h n s sound) (heir-used s sound h _ f) held
    ∙ ap (words L) (passed-some (key_of a.keys.now) a.i.0 h s o n _ (c.entry_of.ensures (omega (arith, c.if-waiter-lt16.true))) f)

pub returns-else-waiter-lt16 : goal.returns-else-waiter-lt16
returns-else-waiter-lt16 c =
    λ L s y sound w used e.
    let f = sym (c.first_waiter.ensures.value L s y sound w used e) ∙ ap numbered c.in-Some.is in
    absurd (omega (arith, heir-used s sound _ _ f, sound.tasks, c.if-waiter-lt16.false))

pub returns-in-None : goal.returns-in-None
returns-in-None c =
    λ L s y sound w used e.
    let a = c.args in
    let h = a.h.0 in
    let o = sym (c.is_owner.ensures L s y sound.hubs used e) ∙ c.if-not-is_owner.false in
    let f = sym (c.first_waiter.ensures.value L s y sound w used e) ∙ ap numbered c.in-None.is in
    let held : c.set_count-in-None.new.t ≡ words L (hold h 0 (hub s h).held s) = c.set_count-in-None.ensures ∙ rw (c.hubs_at-in-None.ensures, y.size, e) (count_set L s y h 0 c.requires.h_bound used) in
    held ∙ ap (words L) (passed_none (key_of a.keys.now) a.i.0 h s o f)
