-- `stores::held_at` meets its contract. Assumes nothing.
use Prim.Native.Nat.{◌*◌, ◌-◌, ◌<◌, ◌≤◌, ℕ}
use Rattle.stores.proofs.Stores.{held-read}
use mathlib.Core.Path.{◌∙◌, ◌≡◌}
use native.Mathlib.Nat.{mul-le-mul}
use native.Mathlib.Omega.{arith}
use Rattle.stores.proofs.held_at.Goals as goal

-- at most 7 messages of at most 2 words stand before the place
few : (n v ts : ℕ) → n < 8 → v ≡ ts - 7 → ts ≤ 9 → n * v ≤ 7 * 2
few n v ts h e l = mul-le-mul {n₁ = n} {m₁ = v} {n₂ = 7} {m₂ = 2} (omega arith) (omega arith)

pub overflow_mul-k : goal.overflow_mul-k
overflow_mul-k c = omega (arith, few _ _ _ c.requires.k_bound c.width_of-v.ensures c.requires.table.high)

pub overflow_add-store_at : goal.overflow_add-store_at
overflow_add-store_at c = omega (arith, few _ _ _ c.requires.k_bound c.width_of-v.ensures c.requires.table.high)

pub message-requires : goal.message-requires
message-requires c = omega (arith, few _ _ _ c.requires.k_bound c.width_of-v.ensures c.requires.table.high)

pub returns : goal.returns
returns c =
    let a = c.args in
    let p = c.requires in
    let v = c.width_of-v.ensures in
    record {
      upper_bound = rw v at c.message.ensures.low;
      value = λ L s y used e.
          rw v at c.message.ensures.value
          ∙ held-read y p.table.low p.table.high s a.h.0 p.h_bound used a.t.now e _ c.store_at.ensures.place a.k p.k_bound;
    }
