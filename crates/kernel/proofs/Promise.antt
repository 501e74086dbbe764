-- "Any two results that fit it are shown to be equal": the contract of `call` leaves one reply and one table. (The contract of
-- `summary` is the equation that `summaries_agree` of crate rules speaks of.) Assumes nothing.
use Prim.Native.Nat.{ℕ}
use Rattle.kernel.specs.Promise.{Called}
use Rattle.rules.proofs.Promise.{calls_agree}
use Rattle.rules.specs.declared.Call.{Call}
use Rattle.rules.specs.declared.Reply.{Reply}
use mathlib.Core.List.{List}
use mathlib.Core.Path.{◌≡◌}

pub one_result : (t : List ℕ) (c : Call) (r₁ r₂ : Reply) (t₁ t₂ : List ℕ) → Called t c r₁ t₁ → Called t c r₂ t₂ → (r₁ ≡ r₂) × (t₁ ≡ t₂)
one_result t c r₁ r₂ t₁ t₂ a b = calls_agree t c r₁ r₂ t₁ t₂ (a.reply, a.table) (b.reply, b.table)
