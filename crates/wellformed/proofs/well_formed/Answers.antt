-- `wellformed::well_formed` meets its contract: not exact, or exact and then the order. Assumes nothing.
use Rattle.wellformed.proofs.Ordered.{exact_all, formed_no}
use mathlib.Core.List.{[]}
use mathlib.Core.Path.{◌∙◌, refl, sym}
use Rattle.wellformed.proofs.well_formed.Goals as goal

pub returns-then-not-exact : goal.returns-then-not-exact
returns-then-not-exact c L y = (formed_no L _ {ks = []} (sym (c.exact.ensures L y) ∙ c.if-not-exact.true)).right

pub order_right-requires : goal.order_right-requires
order_right-requires c = record { exact_table = exact_all _ _ c.args.ts.low c.args.ts.high (λ L y. sym (c.exact.ensures L y) ∙ c.if-not-exact.false) }

pub returns : goal.returns
returns c L y = (c.order_right.ensures L y).right
