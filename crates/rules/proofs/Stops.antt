-- A Stop in the terms of the state before it: the task is inactive, each Resource that it owned has its first waiter as owner or is
-- free, that waiter is met, and everything else is as it was (`Stopped`). By any key.
use Prim.Native.Nat.{◌<◌, ◌≤◌, suc, ℕ}
use Rattle.lists.proofs.Laws.{bool_case, without-none}
use Rattle.lists.specs.Lists.{occ}
use Rattle.rules.proofs.Cases.{and_l}
use Rattle.rules.proofs.Changes.{hub-leave, set_other, set_same}
use Rattle.rules.proofs.Handed.{Passed, first_same, handed, handed_not, owned-count, owned-kind, owns_core, somewhere, takes, takes_waits}
use Rattle.rules.proofs.Hubs.{core, hubs-deactivate}
use Rattle.rules.proofs.Standing.{listed-waiting}
use Rattle.rules.proofs.Valid.{GetWaits, MayWait, PutWaits}
use Rattle.rules.proofs.Waiting.{Good, stop-passed}
use Rattle.rules.specs.Calls.{deactivate, heir, stop}
use Rattle.rules.specs.Lists.{leave, queued, readied, unqueue}
use Rattle.rules.specs.Table.{Get, Hub, NoSide, Put, Resource, Side, State, Task, Wipe, hub, inactive, owns, set_task, task}
use Rattle.rules.specs.WellFormed.{waits_for}
use borrow.Author.Tests.{ne_eqb}
use lib.ListN.{length}
use mathlib.Core.Bool.{cond, false, false≢true, true}
use mathlib.Core.List.{List}
use mathlib.Core.Logic.{◌≢◌, ◌⊎◌, inl, inr}
use mathlib.Core.Path.{◌∙◌, ◌≡◌, ap, sym}
use native.Mathlib.Omega.{arith}

-- ---- an owner does not wait for what it owns

never_waits : (d : Side) (x : Hub) (i : ℕ) → x.count ≡ suc i → MayWait d Resource x i → ⊥
unfolding GetWaits MayWait PutWaits
never_waits NoSide x i e m = m
never_waits Put x i e m = m
never_waits Get x i e m = m.1 e
never_waits Wipe x i e m = m

module _ (i : ℕ) (s : State) (g : Good s) where
  pub owner_elsewhere : (h : ℕ) → owns i (hub s h) ≡ true → waits_for s h i ≡ false
  owner_elsewhere h o =
      bool_case (waits_for s h i)
      (λ w. absurd (never_waits _ (hub s h) i (owned-count i (hub s h) o) (rw (owned-kind i (hub s h) o) at (g.waits.may h i w))))
      (λ w. w)

  pub deactivate_other : (j : ℕ) → j ≢ i → task (deactivate i s) j ≡ task s j
  unfolding deactivate leave
  deactivate_other j n = set_other (leave i s) i _ j n

  same_owner : (h : ℕ) → owns i (hub (deactivate i s) h) ≡ owns i (hub s h)
  same_owner h = owns_core i (hub s h) (hub (deactivate i s) h) ((hubs-deactivate i s).each h)

  -- so its first waiter is who it was
  owned_same : (h : ℕ) → owns i (hub s h) ≡ true → hub (deactivate i s) h ≡ hub s h
  unfolding deactivate queued set_task unqueue
  owned_same h o =
      hub-leave i s h ∙ ap (λ (l : List ℕ). queued l (hub s h)) (without-none i (hub s h).waiters (g.listed.waiters h i ∙ rw (owner_elsewhere h o)))

  same_heir : (h : ℕ) → owns i (hub s h) ≡ true → heir (deactivate i s) h ≡ heir s h
  same_heir h o =
      rw (owned_same h o)
      (first_same s (deactivate i s) 2 (hub s h).waiters (λ j p. ap (λ (t : Task). t.side) (deactivate_other j (λ e. other h j o p e))))
    where
      other : (h j : ℕ) → owns i (hub s h) ≡ true → 1 ≤ occ j (hub s h).waiters → j ≡ i → ⊥
      other h j o p e = false≢true (sym (owner_elsewhere h o) ∙ (rw e at (listed-waiting s g.listed h j p)))

  same_takes : (h j : ℕ) → takes i (deactivate i s) h j ≡ takes i s h j
  unfolding takes
  same_takes h j =
      bool_case (owns i (hub s h))
      (λ o. rw (same_owner h, o, same_heir h o))
      (λ o. rw (same_owner h, o))

  same_handed : (h : ℕ) → core (handed i (heir (deactivate i s) h) (hub (deactivate i s) h)) ≡ core (handed i (heir s h) (hub s h))
  same_handed h =
      bool_case (owns i (hub s h))
      (λ o. rw (same_heir h o, owned_same h o))
      (λ o. rw (handed_not i (heir (deactivate i s) h) (hub (deactivate i s) h) (same_owner h ∙ o), handed_not i (heir s h) (hub s h) o) ((hubs-deactivate i s).each h))

-- ---- the state after a Stop

pub record Stopped (i : ℕ) (s s' : State) : Type 0 where
  pub many : length s'.hubs ≡ length s.hubs
  pub hubs : (h : ℕ) → core (hub s' h) ≡ core (handed i (heir s h) (hub s h))
  pub target : task s' i ≡ inactive (task s i).priority
  pub waiter : (h j : ℕ) → j ≢ i → waits_for s h j ≡ true → task s' j ≡ cond (takes i s h j) (readied 1 0 (task s j)) (task s j)
  pub other : (j : ℕ) → j ≢ i → ((h : ℕ) → waits_for s h j ≡ false) → task s' j ≡ task s j

module _ (key : ℕ → ℕ) (i : ℕ) (s : State) (g : Good s) (u : i < length s.tasks) where
  p : Passed i (deactivate i s) (stop key i s)
  p = stop-passed key i s g u

  is_out_lem : task (deactivate i s) i ≡ inactive (task s i).priority
  unfolding deactivate leave
  is_out_lem = set_same (leave i s) i _ u

  out-waits : (h : ℕ) → waits_for (deactivate i s) h i ≡ false
  unfolding inactive
  out-waits h = rw (ne_eqb (task (deactivate i s) i).state 3 (λ e. omega (arith, e, ap (λ (t : Task). t.state) is_out_lem)))

  other_waits : (h j : ℕ) → j ≢ i → waits_for (deactivate i s) h j ≡ waits_for s h j
  other_waits h j n = rw (deactivate_other i s g j n)

  pub stop-stopped : Stopped i s (stop key i s)
  stop-stopped = record {
    many = p.many ∙ (hubs-deactivate i s).many;
    hubs = λ h. p.hubs h ∙ same_handed i s g h;
    target = p.other i out-waits ∙ is_out_lem;
    waiter = λ h j n w. p.waiter h j (other_waits h j n ∙ w) ∙ rw (same_takes i s g h j, deactivate_other i s g j n);
    other = λ j n f. p.other j (λ h. other_waits h j n ∙ f h) ∙ deactivate_other i s g j n;
  }

-- ---- what follows of the tasks

module _ (i : ℕ) (s s' : State) (g : Good s) (q : Stopped i s s') where
  -- a record is as it was, or its task has taken over a hub
  pub stopped-task : (j : ℕ) → j ≢ i → (task s' j ≡ task s j) ⊎ ((h : ℕ) × (takes i s h j ≡ true) × (task s' j ≡ readied 1 0 (task s j)))
  stopped-task j n = by (somewhere s j)
    where
      by : ((h : ℕ) × (waits_for s h j ≡ true)) ⊎ ((h : ℕ) → waits_for s h j ≡ false)
          → (task s' j ≡ task s j) ⊎ ((h : ℕ) × (takes i s h j ≡ true) × (task s' j ≡ readied 1 0 (task s j)))
      by (inl (h, w)) =
          bool_case (takes i s h j)
          (λ b. inr (h, b, q.waiter h j n w ∙ rw b))
          (λ b. inl (q.waiter h j n w ∙ rw b))
      by (inr f) = inl (q.other j n f)

  -- whoever takes over is not the stopped task, and is met
  pub heir_other : (h j : ℕ) → takes i s h j ≡ true → j ≢ i
  unfolding takes
  heir_other h j b e =
      false≢true (sym (owner_elsewhere i s g h (and_l _ _ b)) ∙ (rw e at (takes_waits i s g.listed h j b)))

  pub heir-met : (h j : ℕ) → takes i s h j ≡ true → task s' j ≡ readied 1 0 (task s j)
  heir-met h j b = q.waiter h j (heir_other h j b) (takes_waits i s g.listed h j b) ∙ rw b
