-- `locks::pass_all` meets its contract. Assumes nothing.
use Prim.Native.Nat.{ℕ}
use Rattle.locks.proofs.Laws.{sound_pass}
use Rattle.moves.specs.Moves.{key_of}
use Rattle.rules.proofs.Hubs.{many_pass}
use Rattle.rules.proofs.Waiting.{good_pass}
use Rattle.rules.specs.Calls.{pass_all}
use Rattle.rules.specs.Table.{words}
use mathlib.Core.Path.{◌∙◌, ◌≡◌, ap}
use native.Mathlib.Numerals.{add-one}
use native.Mathlib.Omega.{arith}
use Rattle.locks.proofs.pass_all.Goals as goal

pub loop-h-init : goal.loop-h-init
unfolding pass_all
loop-h-init c = λ L s y sound g many e. e

pub loop-h-preserved : goal.loop-h-preserved
unfolding pass_all
loop-h-preserved c =
    λ L s y sound g many e.
    let l = c.loop-h in
    let key = key_of c.args.keys.now in
    let i = c.args.i.0 in
    rw add-one (c.pass_one.ensures L (pass_all key i l.h s) y (sound_pass key i l.h s sound) (good_pass key i l.h s g).waits
    (omega (arith, many, c.loop-h-test.true, many_pass key i l.h s)) (l.invariant L s y sound g many e))

pub returns : goal.returns
returns c =
    λ L s y sound g many e.
    let a = c.args in
    let end : c.loop-h.h ≡ a.n = omega (arith, c.loop-h-test.false) in
    c.loop-h.invariant L s y sound g many e ∙ ap (λ (n : ℕ). words L (pass_all (key_of a.keys.now) a.i.0 n s)) end
