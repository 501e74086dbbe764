-- `requests::meet_all` meets its contract. Assumes nothing.
use Prim.Native.Nat.{◌≤◌, ℕ}
use Rattle.moves.specs.Moves.{key_of}
use Rattle.requests.proofs.Boards.{all-met, steps, steps_last, steps_ready}
use Rattle.rules.proofs.Room.{waiters-room}
use Rattle.rules.specs.Table.{hub, words}
use lib.ListN.{length}
use mathlib.Core.Path.{◌∙◌, ◌≡◌, ap, refl}
use native.Mathlib.Numerals.{add-one}
use native.Mathlib.Omega.{arith}
use Rattle.requests.proofs.meet_all.Goals as goal

pub loop-init : goal.loop-init
unfolding steps
loop-init c L s y sound used e = e

pub loop-preserved : goal.loop-preserved
loop-preserved c L s y sound used e =
    let l = c.loop in
    let a = c.args in
    let key = key_of a.keys.now in
    let h = a.h.0 in
    let r = steps_ready key a.w h l.counter s (sound, used) in
    rw (add-one, steps_last key a.w h l.counter s) (c.meet_first.ensures L (steps key a.w h l.counter s) y r.0 r.1 (l.invariant L s y sound used e))

pub returns : goal.returns
returns c L s y sound used e =
    let a = c.args in
    let key = key_of a.keys.now in
    let h = a.h.0 in
    let end : c.loop.counter ≡ 16 = omega (arith, c.loop-test.false, c.loop.auto.counter-end) in
    let few : length (hub s h).waiters ≤ 16 = omega (arith, waiters-room s sound.listed h, sound.tasks) in
    c.loop.invariant L s y sound used e
    ∙ ap (words L) (ap (λ (n : ℕ). steps key a.w h n s) end ∙ all-met key a.w h (hub s h).waiters 16 s (sound, used) refl few)
