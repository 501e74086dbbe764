-- `summaries::summarise` meets its contract: a summary by the three tests, and where they pass the mask of the hub's
-- waiting list. Assumes nothing.
use Rattle.refusals.proofs.Found.{hub_missing}
use Rattle.rules.proofs.Coded.{given_err, on_table_err, on_table_ok}
use Rattle.rules.proofs.Layouts.{edition_of_lem}
use Rattle.rules.proofs.Reading.{read-hubs}
use Rattle.rules.specs.Refusals.{need}
use Rattle.rules.specs.Reply.{summary_in, summary_refusal}
use Rattle.summaries.proofs.Masks.{found_here, mask_lt}
use Rattle.summaries.proofs.Promise.{in_use}
use mathlib.Core.Path.{◌∙◌, refl, sym}
use native.Mathlib.Nat.{add-sub_cancel_left}
use native.Mathlib.Omega.{arith}
use Rattle.summaries.proofs.summarise.Goals as goal

pub returns-in_err-for_table : goal.returns-in_err-for_table
unfolding summary_in summary_refusal
returns-in_err-for_table c L y = given_err _ _ _ _ c.from_residual.ensures.1 (on_table_err L _ _ _ (c.in_err-for_table.ensures L y))

pub returns-in_err-h : goal.returns-in_err-h
unfolding need summary_in summary_refusal
returns-in_err-h c L y =
    let missing = hub_missing c.args.t.now c.args.hub _ (c.in_err-h.ensures.value ∙ rw c.find_hub.ensures refl) in
    let good = on_table_ok L _ (c.in_ok-for_table.ensures L y) in
    given_err _ _ _ _ c.from_residual-in_err-h.ensures.1 (missing.1 ∙ rw (good.0, good.1, read-hubs L c.args.t.now, missing.0))

-- the hub is the one looked up, in use, and its list stands within the table, which is well formed: in every layout, and so in one
pub waits_at-at-requires-clause-h_bound : goal.waits_at-at-requires-clause-h_bound
waits_at-at-requires-clause-h_bound c =
    let e = edition_of_lem c.args.ts.words c.args.ts.low c.args.ts.high in
    let L = e.layout in
    let y = e.laid in
    let f = found_here L c.args.t.now c.args.hub c.in_ok-h.h (c.in_ok-for_table.ensures L y) (c.in_ok-h.ensures.value ∙ rw c.find_hub.ensures refl) in
    omega (arith, f.below)

pub overflow_add-at : goal.overflow_add-at
overflow_add-at c =
    let e = edition_of_lem c.args.ts.words c.args.ts.low c.args.ts.high in
    let L = e.layout in
    let y = e.laid in
    let f = found_here L c.args.t.now c.args.hub c.in_ok-h.h (c.in_ok-for_table.ensures L y) (c.in_ok-h.ensures.value ∙ rw c.find_hub.ensures refl) in
    omega (arith, f.below, c.waits_at-at.ensures, c.args.ts.high)

pub offset_bounds-t-at : goal.offset_bounds-t-at
offset_bounds-t-at c =
    let e = edition_of_lem c.args.ts.words c.args.ts.low c.args.ts.high in
    let L = e.layout in
    let y = e.laid in
    let f = found_here L c.args.t.now c.args.hub c.in_ok-h.h (c.in_ok-for_table.ensures L y) (c.in_ok-h.ensures.value ∙ rw c.find_hub.ensures refl) in
    omega (arith, f.below, c.waits_at-at.ensures, c.args.ts.high)

pub slice_bounds-mask_of-end : goal.slice_bounds-mask_of-end
slice_bounds-mask_of-end c =
    let e = edition_of_lem c.args.ts.words c.args.ts.low c.args.ts.high in
    let L = e.layout in
    let y = e.laid in
    let f = found_here L c.args.t.now c.args.hub c.in_ok-h.h (c.in_ok-for_table.ensures L y) (c.in_ok-h.ensures.value ∙ rw c.find_hub.ensures refl) in
    omega (arith, f.below, f.long, c.waits_at-at.ensures, e.laid.size, c.args.ts.low)

pub mask_of-mask-requires-clause-list_value : goal.mask_of-mask-requires-clause-list_value
mask_of-mask-requires-clause-list_value c =
    let e = edition_of_lem c.args.ts.words c.args.ts.low c.args.ts.high in
    let L = e.layout in
    let y = e.laid in
    let f = found_here L c.args.t.now c.args.hub c.in_ok-h.h (c.in_ok-for_table.ensures L y) (c.in_ok-h.ensures.value ∙ rw c.find_hub.ensures refl) in
    rw (add-sub_cancel_left, c.waits_at-at.ensures, e.laid.size) f.packed

pub mask_of-mask-requires-clause-list_bound : goal.mask_of-mask-requires-clause-list_bound
mask_of-mask-requires-clause-list_bound c =
    let e = edition_of_lem c.args.ts.words c.args.ts.low c.args.ts.high in
    let L = e.layout in
    let y = e.laid in
    let f = found_here L c.args.t.now c.args.hub c.in_ok-h.h (c.in_ok-for_table.ensures L y) (c.in_ok-h.ensures.value ∙ rw c.find_hub.ensures refl) in
    rw (add-sub_cancel_left, c.waits_at-at.ensures, e.laid.size) (rw f.mask (mask_lt 16 _))

pub returns : goal.returns
returns c L y =
    let f = found_here L c.args.t.now c.args.hub c.in_ok-h.h (c.in_ok-for_table.ensures L y) (c.in_ok-h.ensures.value ∙ rw c.find_hub.ensures refl) in
    let mask = (rw (add-sub_cancel_left, c.waits_at-at.ensures, y.size) at c.mask_of-mask.ensures) ∙ f.mask in
    rw mask (sym (in_use L _ _ (on_table_ok L _ (c.in_ok-for_table.ensures L y)).1 f.used))
