-- `wellformed::order_right` meets its contract: what is exact is a sound state's words, so the keys are effective priorities, and
-- the order by them is all that is left to test. Assumes nothing.
use Rattle.rules.specs.Table.{read}
use Rattle.wellformed.proofs.Ordered.{exact_sound, exact_words, formed_by}
use native.Mathlib.Omega.{arith}
use Rattle.wellformed.proofs.order_right.Goals as goal

pub returns : goal.returns
returns c L y =
    let t = c.args.t.now in
    let e = c.requires.exact_table.each L y in
    let s = exact_sound L t e in
    let w = exact_words L t e y (λ k. omega (arith, c.type_inv.t k)) in
    let ks = c.find_keys.ensures in
    formed_by L t _ _ e ks.long (ks.each L (read L t) y s w) (c.in_order.ensures L (read L t) y s w)
