-- `stores::is_out` meets its contract. Assumes nothing.
use Prim.Native.Nat.{◌≤◌, ℕ}
use Rattle.rules.specs.HubTable.{is_out}
use Rattle.rules.specs.Table.{hub}
use lib.Dec.{eqb}
use lib.ListN.{get_or-eq_default, length}
use mathlib.Core.Path.{ap}
use native.Mathlib.Omega.{arith}
use Rattle.stores.proofs.is_out.Goals as goal

pub returns-then-b : goal.returns-then-b
unfolding is_out
returns-then-b c = λ L s y used few e. ap (λ (m : ℕ). eqb m 1) (c.held_at.ensures.value L s y used e)

pub returns-else-b : goal.returns-else-b
unfolding is_out
returns-else-b c =
    λ L s y used few e.
    let a = c.args in
    let out : length (hub s a.h.0).held ≤ a.b = omega (arith, c.if-b.false) in
    rw (get_or-eq_default (hub s a.h.0).held 0 out)
