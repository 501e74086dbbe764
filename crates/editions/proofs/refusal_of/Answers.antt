-- `editions::refusal_of` meets its contract: the destination's size, and the tests of the source. Assumes nothing.
use Rattle.editions.proofs.Ways.{room_right}
use Rattle.rules.proofs.Coded.{fails, handed_on, passes}
use Rattle.rules.proofs.Editions.{refused_room}
use Rattle.rules.proofs.Layouts.{store_place}
use borrow.Author.Tests.{eqb-false}
use lib.Dec.{eqb}
use mathlib.Core.Path.{◌∙◌, ap, sym}
use Rattle.editions.proofs.refusal_of.Goals as goal

pub returns-in_err-need : goal.returns-in_err-need
returns-in_err-need c =
    λ L M y z.
    let no = fails _ _ 1 c.in_err-need.ensures in
    handed_on _ _ c.from_residual.ensures.1 ∙ no.1 ∙ refused_room L M _ _ 0 (λ e. eqb-false _ _ no.0 (e ∙ sym (c.table_size.ensures ∙ store_place z 16)))

pub returns : goal.returns
returns c =
    λ L M y z.
    let size = c.table_size.ensures ∙ store_place z 16 in
    c.for_table.ensures L y ∙ room_right L M _ _ 0 (ap (eqb c.args.room) (sym size) ∙ passes _ 0 c.in_ok-need.ensures)
