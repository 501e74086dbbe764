-- `refusals::running` meets its contract. The loop's invariant: the running task is the first free one of what is left of
-- the ready list. Assumes nothing.
use Prim.Native.Nat.{◌+◌, ◌-◌, ◌<◌, ◌≤◌, suc, ℕ}
use lib.Dec.{eqb}
use mathlib.Core.List.{List}
use Rattle.records.specs.Records.{ready_at, task_at}
use Rattle.refusals.proofs.Ready.{running_none, running_some}
use Rattle.rules.proofs.Layouts.{Laid}
use Rattle.rules.proofs.Valid.{Listed, Room}
use Rattle.rules.specs.Lists.{first_free, next}
use Rattle.rules.specs.Table.{Layout, State, words}
use lib.ListN.{drop, drop_of_length-le, get_or, length}
use mathlib.Core.Bool.{Bool, cond, not}
use mathlib.Core.Path.{◌≡◌, ◌∙◌, ap, refl, sym}
use native.Mathlib.Numerals.{add-one}
use native.Mathlib.Omega.{arith}
use Rattle.refusals.proofs.running.Goals as goal

-- the entry's task, by its flag
step : {ts : ℕ} (L : Layout) (s : State) (y : Laid ts L) (t : List ℕ) (at k w : ℕ) (flag : Bool)
    → Room s
    → Listed s
    → t ≡ words L s
    → next s ≡ first_free s (drop k s.ready)
    → k < 16
    → at ≡ ready_at ts
    → w ≡ get_or t (at + k) 0
    → (w ≡ 0 → ⊥)
    → flag ≡ not (eqb (task_at ts t (w - 1)).suspended 0)
    → next s ≡ cond flag (first_free s (drop (suc k) s.ready)) w
step {ts} L s y t at k w flag room listed e left inside place word some is =
    let here : w ≡ suc (w - 1) = omega (arith, some) in
    let entry : get_or (words L s) (ready_at ts + k) 0 ≡ suc (w - 1) = rw (e, place) at (sym word ∙ here) in
    left
    ∙ running_some L y s listed room k inside (w - 1) entry
    ∙ rw (← here, ← e, ← is)

pub loop-k-init : goal.loop-k-init
unfolding next
loop-k-init c = λ L s y room listed e. refl

pub returns-then-e-eq0-clause-number : goal.returns-then-e-eq0-clause-number
returns-then-e-eq0-clause-number c L s y room listed e =
    let l = c.loop-k in
    let none = running_none L y s listed room l.k (omega arith) in
    sym (l.invariant L s y room listed e ∙ none (rw (e, c.ready_at-at.ensures) at (sym c.word-e.ensures ∙ c.if-e-eq0.true)))

pub returns-then-not-is_suspended-clause-number : goal.returns-then-not-is_suspended-clause-number
returns-then-not-is_suspended-clause-number c L s y room listed e = sym (step L s y c.args.t.now c.ready_at-at.result c.loop-k.k c.word-e.result c.is_suspended.result room listed e (c.loop-k.invariant L s y room listed e) (omega arith) c.ready_at-at.ensures c.word-e.ensures c.if-e-eq0.false c.is_suspended.ensures ∙ rw (c.if-not-is_suspended.true) (omega (arith, c.if-e-eq0.false)))

pub loop-k-preserved : goal.loop-k-preserved
loop-k-preserved c = λ L s y room listed e. rw add-one (step L s y c.args.t.now c.ready_at-at.result c.loop-k.k c.word-e.result c.is_suspended.result room listed e (c.loop-k.invariant L s y room listed e) (omega arith) c.ready_at-at.ensures c.word-e.ensures c.if-e-eq0.false c.is_suspended.ensures ∙ rw (c.if-not-is_suspended.false))

pub returns-clause-number : goal.returns-clause-number
unfolding first_free
returns-clause-number c L s y room listed e =
    let l = c.loop-k in
    let past : length s.ready ≤ l.k = omega (arith, room.ready) in
    sym (l.invariant L s y room listed e ∙ ap (first_free s) (drop_of_length-le s.ready past))
