-- `stores::set_mark` meets its contract. Assumes nothing.
use Prim.Native.Nat.{◌*◌, ◌-◌, ◌<◌, ◌≤◌, ℕ}
use Rattle.stores.proofs.Stores.{After, as_held, store_marked}
use Rattle.rules.specs.Table.{hub}
use lib.Seq.{set_out}
use mathlib.Core.Path.{◌∙◌, ◌≡◌, ap, sym}
use native.Mathlib.Nat.{mul-le-mul}
use native.Mathlib.Omega.{arith}
use Rattle.stores.proofs.set_mark.Goals as goal

-- at most 8 messages of at most 2 words stand before the place
few : (b n v ts : ℕ) → b < n → n ≤ 8 → v ≡ ts - 7 → ts ≤ 9 → b * v ≤ 8 * 2
few b n v ts lt h e l = mul-le-mul {n₁ = b} {m₁ = v} {n₂ = 8} {m₂ = 2} (omega arith) (omega arith)

pub overflow_mul-b : goal.overflow_mul-b
overflow_mul-b c = omega (arith, few _ _ _ _ c.if-b-n.true c.if-n-le-STORE_MESSAGES.true c.width_of-v.ensures c.requires.table.high)

pub overflow_add-store_at : goal.overflow_add-store_at
overflow_add-store_at c = omega (arith, few _ _ _ _ c.if-b-n.true c.if-n-le-STORE_MESSAGES.true c.width_of-v.ensures c.requires.table.high)

pub set_message-requires : goal.set_message-requires
set_message-requires c = omega (arith, few _ _ _ _ c.if-b-n.true c.if-n-le-STORE_MESSAGES.true c.width_of-v.ensures c.requires.table.high)

pub returns-then-b-n : goal.returns-then-b-n
returns-then-b-n c =
    λ L s y used many room e.
    let a = c.args in
    let p = c.requires in
    let v = c.width_of-v.ensures in
    c.set_message.ensures
    ∙ rw v (store_marked y p.table.low p.table.high s a.h.0 p.h_bound used a.t.now e _ c.store_at.ensures.place a.n a.b a.m many room c.if-b-n.true p.m_bound)

pub returns-else-b-n : goal.returns-else-b-n
returns-else-b-n c =
    λ L s y used many room e.
    let a = c.args in
    e ∙ as_held L s _ ∙ ap (After L s a.h.0) (sym (set_out (hub s a.h.0).held a.b a.m (omega (arith, many, c.if-b-n.false))))

pub returns-else-n-le-STORE_MESSAGES : goal.returns-else-n-le-STORE_MESSAGES
returns-else-n-le-STORE_MESSAGES c = λ L s y used many room e. absurd (omega (arith, c.if-n-le-STORE_MESSAGES.false))
