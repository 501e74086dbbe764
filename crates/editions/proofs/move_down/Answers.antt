-- `editions::move_down` meets its contract, each way out by its tests. Assumes nothing.
use Rattle.editions.proofs.Ways.{down_done, down_high, down_refused, down_tables}
use Rattle.rules.proofs.Coded.{code-some, fails, handed_on, passes}
use mathlib.Core.Path.{◌∙◌, refl, sym}
use native.Mathlib.Omega.{arith}
use Rattle.editions.proofs.move_down.Goals as goal

pub returns-in_err-refusal_of : goal.returns-in_err-refusal_of
returns-in_err-refusal_of c =
    let a = c.args in
    rw (handed_on _ _ c.from_residual.ensures.1) (down_refused a.from.now a.to.now _ c.in_err-refusal_of.ensures (code-some _))

pub returns-in_err-need : goal.returns-in_err-need
returns-in_err-need c =
    let a = c.args in
    let no = fails _ _ 9 c.in_err-need.ensures in
    rw (handed_on _ _ c.from_residual-in_err-need.ensures.1, no.1) (down_high a.from.now a.to.now _ c.in_ok-refusal_of.ensures refl (sym c.high_zero.ensures ∙ no.0))

pub copy-requires-clause-table : goal.copy-requires-clause-table
copy-requires-clause-table c = (down_tables c.args.from.now c.args.to.now _ c.in_ok-refusal_of.ensures refl).0

pub copy-requires-clause-table_2 : goal.copy-requires-clause-table_2
copy-requires-clause-table_2 c = (down_tables c.args.from.now c.args.to.now _ c.in_ok-refusal_of.ensures refl).1

pub returns : goal.returns
returns c =
    let a = c.args in
    down_done a.from.now a.to.now _ c.in_ok-refusal_of.ensures refl (sym c.high_zero.ensures ∙ passes _ 8 c.in_ok-need.ensures) (λ k. omega (arith, c.type_inv.from k)) _ c.copy.ensures
