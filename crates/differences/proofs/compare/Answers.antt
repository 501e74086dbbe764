-- `differences::compare` meets its contract, each way out by its tests. Assumes nothing.
use Rattle.differences.proofs.Ways.{compared, formed_most, other_edition, refused_by, refused_first, refused_second, short_buffer, table-formed}
use Rattle.rules.proofs.Coded.{fails, passes}
use borrow.Author.Tests.{eqb-false, eqb-true, leb-false, leb-true}
use mathlib.Core.Path.{◌∙◌, sym}
use native.Mathlib.Omega.{arith}
use Rattle.differences.proofs.compare.Goals as goal

pub returns-in_err-refusal_of : goal.returns-in_err-refusal_of
returns-in_err-refusal_of c =
    let a = c.args in
    refused_by a.first.now a.second.now a.places.now _ _ c.from_residual.ensures.1
    (refused_first a.first.now a.second.now a.places.now _ c.in_err-refusal_of.ensures)

pub returns-in_err-refusal_of-2 : goal.returns-in_err-refusal_of-2
returns-in_err-refusal_of-2 c =
    let a = c.args in
    let f = table-formed a.first.now (sym c.in_ok-refusal_of.ensures) in
    refused_by a.first.now a.second.now a.places.now _ _ c.from_residual-in_err-refusal_of-2.ensures.1
    (refused_second a.first.now a.second.now a.places.now f _ c.in_err-refusal_of-2.ensures)

pub returns-in_err-need : goal.returns-in_err-need
returns-in_err-need c =
    let a = c.args in
    let f = table-formed a.first.now (sym c.in_ok-refusal_of.ensures) in
    let g = table-formed a.second.now (sym c.in_ok-refusal_of-2.ensures) in
    let no = fails _ _ 13 c.in_err-need.ensures in
    refused_by a.first.now a.second.now a.places.now _ _ c.from_residual-in_err-need.ensures.1
    (no.1 ∙ other_edition a.first.now a.second.now _ f g (eqb-false _ _ no.0))

pub returns-in_err-need-2 : goal.returns-in_err-need-2
returns-in_err-need-2 c =
    let a = c.args in
    let f = table-formed a.first.now (sym c.in_ok-refusal_of.ensures) in
    let g = table-formed a.second.now (sym c.in_ok-refusal_of-2.ensures) in
    let same = eqb-true _ _ (passes _ 12 c.in_ok-need.ensures) in
    let no = fails _ _ 8 c.in_err-need-2.ensures in
    let short = leb-false _ _ no.0 in
    refused_by a.first.now a.second.now a.places.now _ _ c.from_residual-in_err-need-2.ensures.1
    (no.1 ∙ short_buffer a.first.now a.second.now _ f g same (omega (arith, short, c.count_entries-count.ensures.value)))

pub count_entries-count-requires : goal.count_entries-count-requires
count_entries-count-requires c = eqb-true _ _ (passes _ 12 c.in_ok-need.ensures)

pub write_entries-requires-clause-first_len : goal.write_entries-requires-clause-first_len
write_entries-requires-clause-first_len c = eqb-true _ _ (passes _ 12 c.in_ok-need.ensures)

pub write_entries-requires-clause-first_len_bound : goal.write_entries-requires-clause-first_len_bound
write_entries-requires-clause-first_len_bound c =
    let a = c.args in
    let f = table-formed a.first.now (sym c.in_ok-refusal_of.ensures) in
    omega (arith, formed_most a.first.now f)

pub write_entries-requires-clause-room : goal.write_entries-requires-clause-room
write_entries-requires-clause-room c = omega (arith, leb-true _ _ (passes _ 7 c.in_ok-need-2.ensures), c.count_entries-count.ensures.value)

pub overflow_cast-result : goal.overflow_cast-result
overflow_cast-result c =
    let a = c.args in
    let f = table-formed a.first.now (sym c.in_ok-refusal_of.ensures) in
    omega (arith, formed_most a.first.now f, c.count_entries-count.ensures.upper_bound)

pub returns : goal.returns
returns c =
    let a = c.args in
    let f = table-formed a.first.now (sym c.in_ok-refusal_of.ensures) in
    let g = table-formed a.second.now (sym c.in_ok-refusal_of-2.ensures) in
    let same = eqb-true _ _ (passes _ 12 c.in_ok-need.ensures) in
    compared a.first.now a.second.now a.places.now f g same _ _ c.count_entries-count.ensures.value
    (omega (arith, leb-true _ _ (passes _ 7 c.in_ok-need-2.ensures))) c.write_entries.ensures
