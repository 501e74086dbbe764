-- `wellformed::exact` meets its contract: a test that fails is one that an exact table passes, and a table that passes all of
-- them is exact. Assumes nothing.
use Prim.Native.Nat.{◌+◌, ◌-◌, ◌≤◌, zero-le, ℕ}
use Rattle.records.specs.Records.{table_size}
use Rattle.bodies.proofs.Parts.{lent-long, so_many}
use Rattle.bodies.specs.Bodies.{Used}
use Rattle.lists.proofs.Laws.{bool_case}
use Rattle.rules.proofs.Layouts.{Laid, in_some}
use Rattle.rules.specs.Table.{Layout, part, read, ready_at}
use Rattle.rules.specs.WellFormed.{contents_right, for_all, unused_zero}
use Rattle.wellformed.proofs.Whole.{contents-used, exact_passed, no_marks, ready-marks, refused, whole}
use Rattle.wellformed.specs.Walks.{exact_in, hub_right, walks}
use lib.ListN.{drop, get_or, length, take}
use mathlib.Core.Bool.{true}
use mathlib.Core.List.{List}
use mathlib.Core.Path.{◌∙◌, ◌≡◌, ap, refl, sym}
use native.Mathlib.Omega.{arith}
use Rattle.wellformed.proofs.exact.Goals as goal

-- a table whose length and contents are right
used : (ts : ℕ) (t : List ℕ) → 8 ≤ ts → ts ≤ 9 → length t ≡ table_size ts → ((L : Layout) → Laid ts L → contents_right L t ≡ true) → Used ts t
used ts t low high long right = in_some ts low high (λ L y. contents-used L t low high long (right L y))

-- the ready list as the code lends it, and as every layout has it
abbrev lent : ℕ → List ℕ → List ℕ
lent a t = take (a + 16 - a) (drop a t)

listed : (a : ℕ) (t : List ℕ) (L : Layout) → a ≡ ready_at L → lent a t ≡ part (ready_at L) 16 t
listed a t L e = so_many a 16 t ∙ ap (λ (k : ℕ). part k 16 t) e

pub returns-then-t-table_size : goal.returns-then-t-table_size
returns-then-t-table_size c L y =
    let t = c.args.t.now in
    bool_case (exact_in L t) (λ w. absurd (c.if-t-table_size.true (omega (arith, (exact_passed L t w).long)))) (λ w. sym w)

pub returns-then-not-contents_right : goal.returns-then-not-contents_right
returns-then-not-contents_right c L y =
    let t = c.args.t.now in
    refused L t (contents_right L t) (λ w. (exact_passed L t w).contents) (sym (c.contents_right.ensures L y) ∙ c.if-not-contents_right.true)

pub invariant_of-counted : goal.invariant_of-counted
invariant_of-counted c =
    record { used = used c.args.ts.words c.args.t.now c.args.ts.low c.args.ts.high (c.if-t-table_size.false ∙ c.table_size.ensures) (λ L y. sym (c.contents_right.ensures L y) ∙ c.if-not-contents_right.false) }

pub returns-then-not-unused_zero : goal.returns-then-not-unused_zero
returns-then-not-unused_zero c L y =
    let t = c.args.t.now in
    refused L t (unused_zero L t) (λ w. (exact_passed L t w).unused) (sym (c.unused_zero.ensures L y) ∙ c.if-not-unused_zero.true)

pub walk-requires : goal.walk-requires
walk-requires c =
    let u = used c.args.ts.words c.args.t.now c.args.ts.low c.args.ts.high (c.if-t-table_size.false ∙ c.table_size.ensures) (λ L y. sym (c.contents_right.ensures L y) ∙ c.if-not-contents_right.false) in
    record { list_len = lent-long c.args.t.now c.ready_at-a.result 16 (omega (arith, u.long)); marks = record { long = refl; low = λ j. rw (no_marks 16 j) zero-le } }

pub returns-then-not-walk : goal.returns-then-not-walk
returns-then-not-walk c L y =
    let t = c.args.t.now in
    let e = listed c.ready_at-a.result c.args.t.now L (omega arith) in
    refused L t (walks (read L t) 0 0 0 (lent c.ready_at-a.result c.args.t.now)) (λ w. rw e (exact_passed L t w).ready) (sym (c.walk.ensures L y).right ∙ c.if-not-walk.true)

pub hubs_right-requires : goal.hubs_right-requires
hubs_right-requires c =
    let u = used c.args.ts.words c.args.t.now c.args.ts.low c.args.ts.high (c.if-t-table_size.false ∙ c.table_size.ensures) (λ L y. sym (c.contents_right.ensures L y) ∙ c.if-not-contents_right.false) in
    record { marks = in_some c.args.ts.words c.args.ts.low c.args.ts.high (λ L y. ready-marks (lent c.ready_at-a.result c.args.t.now) (c.walk.ensures L y) c.if-not-walk.false (lent-long c.args.t.now c.ready_at-a.result 16 (omega (arith, u.long)))) }

pub returns-then-not-hubs_right : goal.returns-then-not-hubs_right
returns-then-not-hubs_right c L y =
    let t = c.args.t.now in
    refused L t (for_all (get_or t 2 0) (hub_right L t)) (λ w. (exact_passed L t w).hubs) (sym (c.hubs_right.ensures L y).right ∙ c.if-not-hubs_right.true)

pub returns : goal.returns
returns c L y =
    let u = used c.args.ts.words c.args.t.now c.args.ts.low c.args.ts.high (c.if-t-table_size.false ∙ c.table_size.ensures) (λ L y. sym (c.contents_right.ensures L y) ∙ c.if-not-contents_right.false) in
    whole L c.args.t.now _ _ _ (omega (arith, u.long))
    (sym (c.contents_right.ensures L y) ∙ c.if-not-contents_right.false)
    (sym (c.unused_zero.ensures L y) ∙ c.if-not-unused_zero.false)
    (rw (listed c.ready_at-a.result c.args.t.now L (omega arith)) at (c.walk.ensures L y)) c.if-not-walk.false
    (c.hubs_right.ensures L y) c.if-not-hubs_right.false
    (c.tasks_right.ensures L y)
