-- `moves::join_ready` meets its contract. Assumes nothing.
use Prim.Native.Nat.{◌+◌, ◌-◌, ℕ}
use Rattle.moves.proofs.Laws as Laws
use mathlib.Core.Path.{◌∙◌, ◌≡◌}
use native.Mathlib.Omega.{arith}
use Rattle.moves.proofs.join_ready.Goals as goal

pub returns : goal.returns
returns c =
    let a = c.args in
    let r = c.ready_at-a in
    let n : ℕ = r.result + 16 - r.result in
    let many : n ≡ 16 = omega arith in
    let joined = c.join.ensures in
    record {
      table = λ L s y e. Laws.join_ready_lem L s y a.t.now _ r.result n many e (omega (arith, r.ensures, y.size)) a.keys.now a.i.0 joined.list;
      place = λ L s y fits e. joined.place ∙ Laws.place-ready L s y a.t.now a.t.now r.result n many e (omega (arith, r.ensures, y.size)) a.keys.now _ fits;
    }
