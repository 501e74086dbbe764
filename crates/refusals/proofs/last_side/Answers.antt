-- `refusals::last_side` meets its contract: the kind compared by name is compared by its number. Assumes nothing.
use Rattle.rules.proofs.KindNumbers.{same_kind}
use Rattle.rules.proofs.Numbers.{last_side_lem}
use Rattle.rules.specs.declared.kinds.Kind.TheVariants.{Board}
use lib.Dec.{eqb}
use mathlib.Core.Bool.{false, true}
use mathlib.Core.Path.{◌∙◌, ◌≡◌, refl, sym}
use Rattle.refusals.proofs.last_side.Goals as goal

pub returns-then-eq : goal.returns-then-eq
returns-then-eq c =
    let board : eqb c.args.kind 6 ≡ true = sym (same_kind c.of.result Board c.args.kind c.of.ensures) ∙ sym c.eq.ensures ∙ c.if-eq.true in
    rw (last_side_lem c.args.kind, board) refl

pub returns-else-eq : goal.returns-else-eq
returns-else-eq c =
    let other : eqb c.args.kind 6 ≡ false = sym (same_kind c.of.result Board c.args.kind c.of.ensures) ∙ sym c.eq.ensures ∙ c.if-eq.false in
    rw (last_side_lem c.args.kind, other) refl
