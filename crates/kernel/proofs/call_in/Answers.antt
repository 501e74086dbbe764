-- `kernel::call_in` meets its contract. Assumes nothing.
use Rattle.kernel.proofs.Laws.{called-accepted, called_refused, caller-after, fits-table}
use Rattle.rules.proofs.After.{after-valid}
use Rattle.rules.proofs.Layouts.{edition_of_lem}
use Rattle.rules.proofs.Room.{valid-room}
use Rattle.rules.specs.Calls.{served}
use Rattle.rules.specs.Refusals.{refusal_in}
use Rattle.rules.specs.Table.{read}
use borrow.Author.Rules.{rules}
use mathlib.Core.Path.{◌≡◌, sym}
use Rattle.kernel.proofs.call_in.Goals as goal

pub returns-in-Err : goal.returns-in-Err
returns-in-Err c = λ L y. called_refused L _ _ _ (c.in-Err.ensures.judged L y).refusal

pub serve_call-served-requires-clause-accepts : goal.serve_call-served-requires-clause-accepts
serve_call-served-requires-clause-accepts c =
    let e = edition_of_lem _ c.args.ts.low c.args.ts.high in
    record { edition = e; none = sym (c.in-Ok.ensures.judged e.layout e.laid).refusal }

pub outcome_of-requires-clause-table : goal.outcome_of-requires-clause-table
outcome_of-requires-clause-table c =
    let p = c.requires in
    let e = edition_of_lem _ c.args.ts.low c.args.ts.high in
    let fits = fits-table e.laid c.args.ts.low c.args.ts.high c.args.t.now c.args.c (sym (c.in-Ok.ensures.judged e.layout e.laid).refusal) in
    search rules

pub returns : goal.returns
returns c =
    λ L y.
    let a = c.args in
    let t = a.t.now in
    let k = a.c in
    let j = c.in-Ok.ensures.judged L y in
    let ok : refusal_in L t k ≡ 0 = sym j.refusal in
    let s' = served (read L t) k in
    let e = c.serve_call-served.ensures L y j in
    let g = after-valid L t k ok in
    called-accepted L t k ok _ _ _ _
    (c.outcome_of.ensures L s' y g.tasks (λ b. caller-after L t k ok b) e.table)
    (c.next.ensures L s' y (valid-room s' g) g.listed e.table)
    e
