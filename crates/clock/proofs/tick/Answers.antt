-- `clock::tick` meets its contract. Assumes nothing.
use Prim.Native.Nat.{◌<◌, ℕ}
use Rattle.clock.proofs.Laws.{sound_tick}
use Rattle.moves.specs.Moves.{key_of}
use Rattle.rules.proofs.Lengths.{length_tick}
use Rattle.rules.proofs.Places.{tasks-word}
use Rattle.rules.specs.Calls.{tick_all}
use Rattle.rules.specs.Table.{words}
use lib.ListN.{length}
use mathlib.Core.Path.{◌∙◌, ◌≡◌, ap}
use native.Mathlib.Numerals.{add-one}
use native.Mathlib.Omega.{arith}
use Rattle.clock.proofs.tick.Goals as goal

pub loop-i-init : goal.loop-i-init
unfolding tick_all
loop-i-init c = λ L s y sound e. (rw e (tasks-word L s), e)

pub loop-i-preserved : goal.loop-i-preserved
unfolding tick_all
loop-i-preserved c =
    λ L s y sound e.
    let i = c.loop-i.i in
    let key = key_of c.args.keys.now in
    let held = c.loop-i.invariant L s y sound e in
    let taken : i < length s.tasks = omega (arith, held.0, c.loop-i-test.true) in
    let ticked = c.tick_one.ensures L (tick_all key i s) y (sound_tick key i s sound (omega (arith, taken))) (omega (arith, taken, length_tick key i s)) held.1 in
    (held.0, rw add-one ticked)

pub returns : goal.returns
returns c =
    λ L s y sound e.
    let held = c.loop-i.invariant L s y sound e in
    let end : c.loop-i.i ≡ length s.tasks = omega (arith, held.0, c.loop-i-test.false) in
    held.1 ∙ ap (λ (n : ℕ). words L (tick_all (key_of c.args.keys.now) n s)) end
