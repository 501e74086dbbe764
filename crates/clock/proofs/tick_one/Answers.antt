-- `clock::tick_one` meets its contract. Assumes nothing.
use Prim.Native.Nat.{◌-◌, suc}
use Rattle.clock.proofs.Laws.{tick_down, tick_idle, tick_last, tick_none}
use Rattle.rules.specs.Table.{Task, words}
use Rattle.rules.specs.WellFormed.{within}
use mathlib.Core.Path.{◌∙◌, ◌≡◌, ap, sym}
use native.Mathlib.Omega.{arith}
use Rattle.clock.proofs.tick_one.Goals as goal

pub returns-then-not-counts_down : goal.returns-then-not-counts_down
returns-then-not-counts_down c =
    λ L s y sound used e.
    let x = c.task_at-x.ensures.value L s y sound.tasks used e in
    let counts = sym (ap (λ (r : Task). within 3 4 r.state) x) ∙ sym c.counts_down.ensures in
    e ∙ ap (words L) (tick_idle _ _ s (counts ∙ c.if-not-counts_down.true))

pub returns-in-0 : goal.returns-in-0
returns-in-0 c =
    λ L s y sound used e.
    let x = c.task_at-x.ensures.value L s y sound.tasks used e in
    let counts = sym (ap (λ (r : Task). within 3 4 r.state) x) ∙ sym c.counts_down.ensures in
    let yes = counts ∙ c.if-not-counts_down.false in
    let ticks = ap (λ (r : Task). r.ticks) x in
    e ∙ ap (words L) (tick_none _ _ s yes (sym ticks ∙ c.in-0.is))

pub returns-in-1 : goal.returns-in-1
returns-in-1 c =
    λ L s y sound used e.
    let x = c.task_at-x.ensures.value L s y sound.tasks used e in
    let counts = sym (ap (λ (r : Task). within 3 4 r.state) x) ∙ sym c.counts_down.ensures in
    let yes = counts ∙ c.if-not-counts_down.false in
    let ticks = ap (λ (r : Task). r.ticks) x in
    c.wake_task.ensures L s y sound used e
    ∙ ap (words L) (tick_last _ _ s yes (sym ticks ∙ c.in-1.is))

pub returns-in_default : goal.returns-in_default
returns-in_default c =
    λ L s y sound used e.
    let x = c.task_at-x.ensures.value L s y sound.tasks used e in
    let counts = sym (ap (λ (r : Task). within 3 4 r.state) x) ∙ sym c.counts_down.ensures in
    let yes = counts ∙ c.if-not-counts_down.false in
    let ticks = ap (λ (r : Task). r.ticks) x in
    let n = c.task_at-x.result.ticks - 2 in
    let less : c.task_at-x.result.ticks - 1 ≡ suc n = omega arith in
    c.set_ticks.ensures L s y sound.tasks used e
    ∙ rw less (ap (words L) (tick_down _ _ s yes n (omega (arith, ticks, less))))
