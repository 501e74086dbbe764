-- `stores::take_oldest` meets its contract. Assumes nothing.
use Prim.Native.Nat.{◌+◌, ◌-◌, ℕ}
use Rattle.records.specs.Records.{store_size}
use Rattle.stores.proofs.Stores.{store_taken}
use mathlib.Core.Path.{◌≡◌}
use native.Mathlib.Omega.{arith}
use Rattle.stores.proofs.take_oldest.Goals as goal

pub returns : goal.returns
returns c =
    λ L s y used room e.
    let a = c.args in
    let p = c.requires in
    let at = c.store_at-a.result in
    let n : ℕ = at + c.store_size-n.result - at in
    let many : n ≡ store_size a.ts.words = omega (arith, c.store_size-n.ensures) in
    store_taken y p.table.low p.table.high s a.h.0 p.h_bound used a.t.now e at c.store_at-a.ensures.place _ n many room
    (rw c.width_of.ensures at c.remove_first.ensures)
