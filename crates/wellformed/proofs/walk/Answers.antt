-- `wellformed::walk` meets its contract. The loop's invariant is `Walking`, in every layout: what is left of the list is what
-- the whole comes to, and what is left to mark makes up the marks. Assumes nothing.
use Prim.Native.Nat.{◌-◌, ◌≤◌}
use Rattle.rules.proofs.Layouts.{in_some}
use Rattle.wellformed.proofs.Turns.{walking_end, walking_full, walking_hit, walking_low, walking_miss, walking_used}
use lib.ListN.{get_or}
use mathlib.Core.Path.{◌∙◌, sym}
use native.Mathlib.Omega.{arith}
use Rattle.wellformed.proofs.walk.Goals.{Else-not-entry_right}
use Rattle.wellformed.proofs.walk.Goals as goal

pub returns-then-e-eq0 : goal.returns-then-e-eq0
returns-then-e-eq0 c L y =
    let l = c.loop-k in
    walking_end L c.args.t.now.words.now c.args.list.now c.args.hub c.args.side c.args.owner c.args.marks.now l.marks l.k (l.invariant L y) c.requires.list_len (omega (arith, c.loop-k-test.true, c.requires.list_len)) c.if-e-eq0.true c.zeros.result c.zeros.ensures

pub returns-then-not-entry_right : goal.returns-then-not-entry_right
returns-then-not-entry_right c L y =
    let l = c.loop-k in
    walking_miss L c.args.t.now.words.now c.args.list.now c.args.hub c.args.side c.args.owner c.args.marks.now l.marks l.k (l.invariant L y) c.requires.list_len (omega (arith, c.loop-k-test.true, c.requires.list_len)) c.if-e-eq0.false (sym (c.entry_right.ensures L y) ∙ c.if-not-entry_right.true)

-- the entry is a task in use
used : (c : Else-not-entry_right) → get_or c.args.list.now c.loop-k.k 0 ≤ 16
used c =
    let l = c.loop-k in
    in_some c.args.t.now.ts.words c.args.t.now.used.low c.args.t.now.used.high
    (λ L y. omega (arith, walking_used L c.args.t.now.words.now c.args.list.now c.args.hub c.args.side c.args.owner c.args.marks.now l.marks l.k (l.invariant L y) c.requires.list_len (omega (arith, c.loop-k-test.true, c.requires.list_len)) c.if-e-eq0.false (sym (c.entry_right.ensures L y) ∙ c.if-not-entry_right.false)))

pub bounds-marks-e : goal.bounds-marks-e
bounds-marks-e c = omega (arith, used (goal.at.bounds-marks-e c).Else-not-entry_right)

pub overflow_add-marks : goal.overflow_add-marks
overflow_add-marks c =
    let l = c.loop-k in
    in_some c.args.t.now.ts.words c.args.t.now.used.low c.args.t.now.used.high
    (λ L y. omega (arith, walking_low L c.args.t.now.words.now c.args.list.now c.args.hub c.args.side c.args.owner c.args.marks.now l.marks l.k (l.invariant L y) c.requires.list_len c.requires.marks (get_or c.args.list.now l.k 0 - 1)))

pub bounds-marks-e-in-loop-k : goal.bounds-marks-e-in-loop-k
bounds-marks-e-in-loop-k c = omega (arith, used (goal.at.bounds-marks-e-in-loop-k c).Else-not-entry_right)

pub loop-k-preserved : goal.loop-k-preserved
loop-k-preserved c L y =
    let l = c.loop-k in
    walking_hit L c.args.t.now.words.now c.args.list.now c.args.hub c.args.side c.args.owner c.args.marks.now l.marks l.k (l.invariant L y) c.requires.list_len (omega (arith, c.loop-k-test.true, c.requires.list_len)) c.if-e-eq0.false (sym (c.entry_right.ensures L y) ∙ c.if-not-entry_right.false) c.requires.marks.long c.args.t.now.used.tasks

pub returns : goal.returns
returns c L y =
    let l = c.loop-k in
    walking_full L c.args.t.now.words.now c.args.list.now c.args.hub c.args.side c.args.owner c.args.marks.now l.marks l.k (l.invariant L y) c.requires.list_len (omega (arith, c.loop-k-test.false, c.requires.list_len))
