-- `moves::first_waiter` meets its contract: one list holds one side only, so its first entry tells. Assumes nothing.
use Prim.Native.Nat.{◌-◌, suc, zero, ℕ}
use Rattle.lists.specs.Lists.{entries}
use Rattle.moves.proofs.Laws.{entry_first, entry_read, entry_stands, no_entry, nobody, waiter_in}
use Rattle.records.proofs.Laws.{first_is}
use Rattle.records.specs.Entries.{numbered}
use Rattle.records.specs.Records.{first}
use Rattle.rules.proofs.Standing.{listed-waiting}
use Rattle.rules.specs.Table.{Task, hub}
use lib.ListN.{get_or}
use mathlib.Core.Option.{none, some}
use mathlib.Core.Path.{◌∙◌, ◌≡◌, ap, refl, sym}
use native.Mathlib.Omega.{arith}
use Rattle.moves.proofs.first_waiter.Goals as goal

-- the entry that names nobody, and one that names task i
names_none : (e : ℕ) → none ≡ first e → e ≡ 0
unfolding first
names_none zero q = refl
names_none (suc e) q = absurd (let z : ◌≡◌ {A = ℕ} 0 1 = cc in omega arith)

names_some : (e i : ℕ) → some i ≡ first e → e ≡ 0 → ⊥
unfolding first
names_some zero i q z = let y : ◌≡◌ {A = ℕ} 0 1 = cc in omega arith
names_some (suc e) i q z = omega arith

pub returns-in_err-i-clause-value : goal.returns-in_err-i-clause-value
returns-in_err-i-clause-value c =
    λ L s y g w used e.
    let read = rw (e, c.waits_at.ensures) at c.word.ensures ∙ entry_read L s y g.hubs _ used in
    let z = names_none _ (sym (ap numbered c.in_err-i.was) ∙ c.entry.ensures.value) in
    let q : get_or (entries 16 (hub s _).waiters) 0 0 ≡ 0 = sym read ∙ z in
    rw c.from_residual.ensures (sym (no_entry s _ (hub s _).waiters q))

pub returns-then-x-side-clause-value : goal.returns-then-x-side-clause-value
returns-then-x-side-clause-value c =
    λ L s y g w used e.
    let read = rw (e, c.waits_at.ensures) at c.word.ensures ∙ entry_read L s y g.hubs _ used in
    let told = sym (ap numbered c.in_ok-i.was) ∙ c.entry.ensures.value in
    let some-e = names_some _ _ told in
    let d = c.args.side in
    let is : c.word.result - 1 ≡ c.in_ok-i.i.0 = first_is _ _ some-e (sym told) in
    let stands = rw is at (entry_stands s d (hub s _).waiters _ read some-e) in
    let x = c.task_at-x.ensures.value L s y g.tasks (waiter_in s g.listed _ _ stands) e in
    told ∙ sym (entry_first s d (hub s _).waiters _ read some-e (rw is (sym (ap (λ (r : Task). r.side) x) ∙ c.if-x-side.true)))

pub returns-else-x-side-clause-value : goal.returns-else-x-side-clause-value
returns-else-x-side-clause-value c =
    λ L s y g w used e.
    let read = rw (e, c.waits_at.ensures) at c.word.ensures ∙ entry_read L s y g.hubs _ used in
    let told = sym (ap numbered c.in_ok-i.was) ∙ c.entry.ensures.value in
    let some-e = names_some _ _ told in
    let d = c.args.side in
    let h = c.args.h.0 in
    let is : c.word.result - 1 ≡ c.in_ok-i.i.0 = first_is _ _ some-e (sym told) in
    let stands = rw is at (entry_stands s d (hub s h).waiters _ read some-e) in
    let x = c.task_at-x.ensures.value L s y g.tasks (waiter_in s g.listed _ _ stands) e in
    sym (nobody s d (hub s h).waiters (λ i o d. c.if-x-side.false (ap (λ (r : Task). r.side) x ∙ w.one_side h _ i (listed-waiting s g.listed h _ stands) (listed-waiting s g.listed h i o) ∙ d)))
