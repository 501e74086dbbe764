-- `wellformed::well_formed_keys` meets its contract: not exact, or exact and then the order. Assumes nothing.
use Rattle.wellformed.proofs.Ordered.{exact_all, formed_no}
use mathlib.Core.Path.{◌∙◌, sym}
use Rattle.wellformed.proofs.well_formed_keys.Goals as goal

pub returns-then-not-exact : goal.returns-then-not-exact
returns-then-not-exact c L y = formed_no L _ (sym (c.exact.ensures L y) ∙ c.if-not-exact.true)

pub order_right-requires : goal.order_right-requires
order_right-requires c = record { exact_table = exact_all _ _ c.args.ts.low c.args.ts.high (λ L y. sym (c.exact.ensures L y) ∙ c.if-not-exact.false) }
