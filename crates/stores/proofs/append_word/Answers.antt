-- `stores::append_word` meets its contract. Assumes nothing.
use Prim.Native.Nat.{◌*◌, ◌-◌, ◌<◌, ◌≤◌, ℕ}
use Rattle.stores.proofs.Stores.{store_grown}
use mathlib.Core.Path.{◌∙◌, ◌≡◌}
use native.Mathlib.Nat.{mul-le-mul}
use native.Mathlib.Omega.{arith}
use Rattle.stores.proofs.append_word.Goals as goal

-- at most 7 messages of at most 2 words stand before the place
few : (n v ts : ℕ) → n < 8 → v ≡ ts - 7 → ts ≤ 9 → n * v ≤ 7 * 2
few n v ts h e l = mul-le-mul {n₁ = n} {m₁ = v} {n₂ = 7} {m₂ = 2} (omega arith) (omega arith)

pub overflow_mul-n : goal.overflow_mul-n
overflow_mul-n c = omega (arith, few _ _ _ c.if-n-lt-STORE_MESSAGES.true c.width_of-v.ensures c.requires.table.high)

pub overflow_add-store_at : goal.overflow_add-store_at
overflow_add-store_at c = omega (arith, few _ _ _ c.if-n-lt-STORE_MESSAGES.true c.width_of-v.ensures c.requires.table.high)

pub set_message-requires : goal.set_message-requires
set_message-requires c = omega (arith, few _ _ _ c.if-n-lt-STORE_MESSAGES.true c.width_of-v.ensures c.requires.table.high)

pub returns-then-n-lt-STORE_MESSAGES : goal.returns-then-n-lt-STORE_MESSAGES
returns-then-n-lt-STORE_MESSAGES c =
    λ L s y used many room e.
    let a = c.args in
    let p = c.requires in
    let v = c.width_of-v.ensures in
    c.set_message.ensures
    ∙ rw v (store_grown y p.table.low p.table.high s a.h.0 p.h_bound used a.t.now e _ c.store_at.ensures.place a.n a.w many room p.w_bound)

pub returns-else-n-lt-STORE_MESSAGES : goal.returns-else-n-lt-STORE_MESSAGES
returns-else-n-lt-STORE_MESSAGES c = λ L s y used many room e. absurd (omega (arith, c.if-n-lt-STORE_MESSAGES.false))
