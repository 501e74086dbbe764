-- `editions::move_up` meets its contract, each way out by its tests. Assumes nothing.
use Rattle.editions.proofs.Ways.{up_done, up_refused, up_tables}
use Rattle.rules.proofs.Coded.{code-some, handed_on}
use mathlib.Core.Path.{refl}
use native.Mathlib.Omega.{arith}
use Rattle.editions.proofs.move_up.Goals as goal

pub returns-in_err-refusal_of : goal.returns-in_err-refusal_of
returns-in_err-refusal_of c =
    let a = c.args in
    rw (handed_on _ _ c.from_residual.ensures.1) (up_refused a.from.now a.to.now _ c.in_err-refusal_of.ensures (code-some _))

pub copy-requires-clause-table : goal.copy-requires-clause-table
copy-requires-clause-table c = (up_tables c.args.from.now c.args.to.now _ c.in_ok-refusal_of.ensures refl).0

pub copy-requires-clause-table_2 : goal.copy-requires-clause-table_2
copy-requires-clause-table_2 c = (up_tables c.args.from.now c.args.to.now _ c.in_ok-refusal_of.ensures refl).1

pub returns : goal.returns
returns c =
    let a = c.args in
    up_done a.from.now a.to.now _ c.in_ok-refusal_of.ensures refl (λ k. omega (arith, c.type_inv.from k)) _ c.copy.ensures
