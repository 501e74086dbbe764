-- `moves::join_hub` meets its contract. Assumes nothing.
use Prim.Native.Nat.{◌+◌, ◌-◌, ℕ}
use Rattle.lists.proofs.Laws.{place_most}
use Rattle.moves.proofs.Laws as Laws
use lib.ListN.{drop, get_or}
use mathlib.Core.Path.{◌∙◌, ◌≡◌}
use native.Mathlib.Omega.{arith}
use Rattle.moves.proofs.join_hub.Goals as goal

pub returns : goal.returns
returns c =
    let a = c.args in
    let r = c.waits_at-a in
    let n : ℕ = r.result + 16 - r.result in
    let many : n ≡ 16 = omega arith in
    let joined = c.join.ensures in
    record {
      low = omega (arith, joined.place, many, place_most a.keys.now (get_or a.keys.now a.i.0 0) n (drop r.result a.t.now));
      table = λ L s y used e. Laws.join_hub_lem L s y a.t.now _ r.result n many e a.h.0 (omega arith) used (omega (arith, r.ensures, y.size)) a.keys.now a.i.0 joined.list;
      place = λ L s y used fits e. joined.place ∙ Laws.place-hub L s y a.t.now a.t.now r.result n many e a.h.0 (omega arith) used (omega (arith, r.ensures, y.size)) a.keys.now _ fits;
    }
