-- `editions::high_zero` meets its contract. Assumes nothing.
use Prim.Native.Nat.{ℕ}
use Rattle.rules.specs.Editions.{high_zero, zeros_at}
use mathlib.Core.Bool.{Bool, ◌&&◌}
use mathlib.Core.Path.{◌∙◌, ap, ap₂}
use Rattle.editions.proofs.high_zero.Goals as goal

pub returns : goal.returns
unfolding high_zero
returns c =
    let t = c.args.t.now in
    ap₂ {C = Bool} ◌&&◌ c.zeros_at.ensures (c.zeros_at-2.ensures ∙ ap (λ (p : ℕ). zeros_at p 2 128 1 t) c.stores_at-stores.ensures)
