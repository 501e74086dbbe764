-- `listing::list_in` meets its contract, each way out by its tests. Assumes nothing.
use Rattle.listing.proofs.SetUps.{counts, listed_8, listed-all, listed-refused, listing-lines}
use Rattle.rules.proofs.Coded.{fails, on_table_ok, passes}
use Rattle.rules.proofs.Layouts.{edition_of_lem, in_some}
use borrow.Author.Tests.{eqb-true, leb-false, leb-true}
use lib.ListN.{length}
use mathlib.Core.Path.{◌∙◌, ap}
use native.Mathlib.Omega.{arith}
use Rattle.listing.proofs.list_in.Goals as goal

pub returns-in_err-for_table : goal.returns-in_err-for_table
returns-in_err-for_table c = λ L y. listed-refused L _ _ _ _ c.from_residual.ensures.1 (c.in_err-for_table.ensures L y)

pub measure-bytes-requires-clause-n_bound : goal.measure-bytes-requires-clause-n_bound
measure-bytes-requires-clause-n_bound c = let few = in_some c.args.ts.words c.args.ts.low c.args.ts.high (λ L y. counts L c.args.t.now (on_table_ok L _ (c.in_ok-for_table.ensures L y)).1) in few.0

pub measure-bytes-requires-clause-m_bound : goal.measure-bytes-requires-clause-m_bound
measure-bytes-requires-clause-m_bound c = let few = in_some c.args.ts.words c.args.ts.low c.args.ts.high (λ L y. counts L c.args.t.now (on_table_ok L _ (c.in_ok-for_table.ensures L y)).1) in few.1

pub returns-in_err-need : goal.returns-in_err-need
returns-in_err-need c =
    λ L y.
    let t = c.args.t.now in
    let good = c.in_ok-for_table.ensures L y in
    let text = listing-lines L y t (λ k. omega (arith, c.type_inv.t k)) (on_table_ok L t good).1 in
    let no = fails _ _ 8 c.in_err-need.ensures in
    let short = leb-false _ _ no.0 in
    listed_8 L t _ good _ _ c.from_residual-in_err-need.ensures.1 no.1 (omega (arith, short, c.measure-bytes.ensures.value, ap length text))

pub write_lines-requires-clause-n_bound : goal.write_lines-requires-clause-n_bound
write_lines-requires-clause-n_bound c = let few = in_some c.args.ts.words c.args.ts.low c.args.ts.high (λ L y. counts L c.args.t.now (on_table_ok L _ (c.in_ok-for_table.ensures L y)).1) in few.0

pub write_lines-requires-clause-m_bound : goal.write_lines-requires-clause-m_bound
write_lines-requires-clause-m_bound c = let few = in_some c.args.ts.words c.args.ts.low c.args.ts.high (λ L y. counts L c.args.t.now (on_table_ok L _ (c.in_ok-for_table.ensures L y)).1) in few.1

pub write_lines-requires-clause-m_in_bounds : goal.write_lines-requires-clause-m_in_bounds
write_lines-requires-clause-m_in_bounds c = omega (arith, leb-true _ _ (passes _ 7 c.in_ok-need.ensures), c.measure-bytes.ensures.value)

pub returns : goal.returns
returns c =
    λ L y.
    let t = c.args.t.now in
    let good = c.in_ok-for_table.ensures L y in
    let text = listing-lines L y t (λ k. omega (arith, c.type_inv.t k)) (on_table_ok L t good).1 in
    let n = c.measure-bytes.ensures.value ∙ ap length text in
    listed-all L t _ good _ _ n (leb-true _ _ (passes _ 7 c.in_ok-need.ensures)) (rw (n, ← text) c.write_lines.ensures)

pub bounds-t-1 : goal.bounds-t-1
bounds-t-1 c =
    let e = edition_of_lem c.args.ts.words c.args.ts.low c.args.ts.high in
    let long = eqb-true _ _ (on_table_ok e.layout c.args.t.now (c.in_ok-for_table.ensures e.layout e.laid)).0 in
    omega (arith, long)

pub bounds-t-2 : goal.bounds-t-2
bounds-t-2 c =
    let e = edition_of_lem c.args.ts.words c.args.ts.low c.args.ts.high in
    let long = eqb-true _ _ (on_table_ok e.layout c.args.t.now (c.in_ok-for_table.ensures e.layout e.laid)).0 in
    omega (arith, long)
