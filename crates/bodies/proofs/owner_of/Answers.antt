-- `bodies::owner_of` meets its contract. Assumes nothing.
use Rattle.rules.proofs.KindNumbers.{same_kind}
use Rattle.rules.specs.declared.kinds.Kind.TheVariants.{Resource}
use mathlib.Core.Path.{◌∙◌, sym}
use Rattle.bodies.proofs.owner_of.Goals as goal

pub returns-then-eq : goal.returns-then-eq
returns-then-eq c = rw (sym (c.eq.ensures ∙ same_kind c.of.result Resource c.args.kind c.of.ensures) ∙ c.if-eq.true)

pub returns-else-eq : goal.returns-else-eq
returns-else-eq c = rw (sym (c.eq.ensures ∙ same_kind c.of.result Resource c.args.kind c.of.ensures) ∙ c.if-eq.false)
