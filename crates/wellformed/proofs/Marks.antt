-- The lists are exact where every mark is right, and every mark is right where the lists are exact. A task's hub word says
-- which list it may stand in, and its state whether it must.
-- Not here: that a walk refuses a task whose hub word names another list (Queues.antt). Assumes nothing.
use Prim.Native.Nat.{◌+◌, ◌<◌, ◌≤◌, pred, suc, suc-le-suc, zero, zero-le, ℕ}
use Rattle.lists.specs.Lists.{bit, occ}
use Rattle.rules.proofs.Cases.{same_or}
use Rattle.rules.proofs.Shapes.{shape_at}
use Rattle.rules.proofs.Tests.{t_all, t_each, t_eq, t_is, t_lt}
use Rattle.rules.proofs.Valid.{Listed, Records, Shape, TaskOk}
use Rattle.rules.specs.Table.{State, Task, hub, stage_of, task}
use Rattle.rules.specs.WellFormed.{exactly, is_ready, lists_exact, waits_for}
use Rattle.wellformed.specs.Walks.{listed, met_at}
use borrow.Author.Tests.{eq-eqb, ne_eqb}
use lib.Dec.{eqb}
use lib.ListN.{length}
use mathlib.Core.Bool.{and-false, false, or-false, true}
use mathlib.Core.Path.{◌∙◌, ◌≡◌, refl, sym}
use native.Mathlib.Omega.{arith}

-- ---- how often a task stands in the hubs' lists, where it may stand in none, or in one

none_in : (n : ℕ) → (1 ≤ n → ⊥) → n ≡ 0
none_in zero f = refl
none_in (suc n) f = absurd (f (suc-le-suc zero-le))

module _ (s : State) (i : ℕ) where
  met-none : (n : ℕ) → ((h : ℕ) → h < n → occ i (hub s h).waiters ≡ 0) → met_at s n i ≡ 0
  unfolding met_at
  met-none zero f = refl
  met-none (suc n) f = rw (met-none n (λ h k. f h (omega arith)), f n (omega arith))

  met-only : (k n : ℕ) → k < n → ((h : ℕ) → h < n → (h ≡ k → ⊥) → occ i (hub s h).waiters ≡ 0) → met_at s n i ≡ occ i (hub s k).waiters
  unfolding met_at
  met-only k zero l f = absurd (omega arith)
  met-only k (suc n) l f =
      same_or k n
      (λ e. rw (e) (omega (arith, met-none n (λ h u. f h (omega arith) (λ z. omega arith)))))
      (λ d. omega (arith, met-only k n (omega arith) (λ h u. f h (omega arith)), f n (omega arith) (λ z. d (sym z))))

-- ---- a task's hub word and its state

module _ (s : State) (x : Task) (ok : TaskOk s x) where
  pub ready_shape : x.state ≡ 2 → (x.hub ≡ 0) × (x.side ≡ 0)
  unfolding Shape stage_of
  ready_shape e = let q = shape_at s x 2 ok e in (q.0, q.2)

  waiting_shape : x.state ≡ 3 → (1 ≤ x.hub) × (x.hub ≤ length s.hubs)
  unfolding Shape stage_of
  waiting_shape e = let q = shape_at s x 3 ok e in (q.0, q.1)

at-hub : (s : State) (x : Task) (n : ℕ) → Shape (stage_of n) s x → (x.hub ≡ 0 → ⊥) → n ≡ 3
unfolding Shape stage_of
at-hub s x zero q f = absurd q
at-hub s x (suc zero) q f = absurd (f q.1)
at-hub s x (suc (suc zero)) q f = absurd (f q.0)
at-hub s x (suc (suc (suc zero))) q f = refl
at-hub s x (suc (suc (suc (suc zero)))) q f = absurd (f q.0)
at-hub s x (suc (suc (suc (suc (suc n))))) q f = absurd q

-- ---- exact by marks

-- every list holds tasks in use whose hub word names it
pub record Placed (s : State) : Type 0 where
  pub ready : (i : ℕ) → 1 ≤ occ i s.ready → (i < length s.tasks) × ((task s i).hub ≡ 0)
  pub waiters : (h : ℕ) → h < length s.hubs → (i : ℕ) → 1 ≤ occ i (hub s h).waiters → (i < length s.tasks) × ((task s i).hub ≡ suc h)

module _ (s : State) (r : Records s) where
  abbrev Right : ℕ → Type 0
  Right i = occ i s.ready + met_at s (length s.hubs) i ≡ listed (task s i).state

  module _ (p : Placed s) where
    ready_exact : (i : ℕ) → Right i → occ i s.ready ≡ bit (is_ready s i)
    ready_exact i m =
        same_or (task s i).hub 0
        (λ z. let none : met_at s (length s.hubs) i ≡ 0 = met-none s i _ (λ h k. none_in _ (λ o. omega (arith, (p.waiters h k i o).1))) in
        let f : eqb (task s i).state 3 ≡ false = ne_eqb _ 3 (λ e. omega (arith, (waiting_shape s (task s i) (r.each i) e).0)) in
        let q : occ i s.ready + met_at s (length s.hubs) i ≡ bit (is_ready s i) = m ∙ rw (f, or-false) in
        omega (arith, q, none))
        (λ n. let e : (task s i).state ≡ 3 = at-hub s (task s i) _ (r.each i).shape n in rw e (none_in _ (λ o. n (p.ready i o).1)))

    waiters_exact : (h : ℕ) → h < length s.hubs → (i : ℕ) → Right i → occ i (hub s h).waiters ≡ bit (waits_for s h i)
    waiters_exact h k i m =
        same_or (task s i).hub (suc h)
        (λ z. let e : (task s i).state ≡ 3 = at-hub s (task s i) _ (r.each i).shape (λ y. omega arith) in
        let o = none_in (occ i s.ready) (λ o. omega (arith, (p.ready i o).1)) in
        let w = met-only s i h _ k (λ g l n. none_in _ (λ o. n (omega (arith, (p.waiters g l i o).1)))) in
        rw (e, eq-eqb (task s i).hub (suc h) z) (omega (arith, rw e at m, o, w)))
        (λ n. rw (ne_eqb _ _ n, and-false) (none_in _ (λ o. n (p.waiters h k i o).1)))

    pub marks_exact : ((i : ℕ) → i < length s.tasks → Right i) → lists_exact s ≡ true
    unfolding exactly lists_exact
    marks_exact m =
        rw (
          (t_all _ _ (λ i. t_eq (occ i s.ready) (bit (is_ready s i))) (length s.tasks)).conv (λ i u. ready_exact i (m i u)),
          (t_each _ _ (λ i. t_lt i (length s.tasks)) s.ready).conv (λ i o. (p.ready i o).0),
        )
        ((t_all (λ h. exactly (length s.tasks) (waits_for s h) (hub s h).waiters ≡ true) _ (λ h. t_is _) (length s.hubs)).conv
        (λ h k. rw (
          (t_all _ _ (λ i. t_eq (occ i (hub s h).waiters) (bit (waits_for s h i))) (length s.tasks)).conv (λ i u. waiters_exact h k i (m i u)),
          (t_each _ _ (λ i. t_lt i (length s.tasks)) (hub s h).waiters).conv (λ i o. (p.waiters h k i o).0),
        )))

  pub exact_marks : Listed s → (i : ℕ) → Right i
  exact_marks l i =
      same_or (task s i).state 3
      (λ e. let w = waiting_shape s (task s i) (r.each i) e in
      let k : suc (pred (task s i).hub) ≡ (task s i).hub = omega (arith, w.0) in
      let a : occ i s.ready ≡ 0 = l.ready i ∙ rw e in
      let b : occ i (hub s (pred (task s i).hub)).waiters ≡ 1 = l.waiters (pred (task s i).hub) i ∙ rw (e, eq-eqb (task s i).hub _ (sym k)) in
      let c = met-only s i (pred (task s i).hub) (length s.hubs) (omega (arith, w.0, w.1)) (λ h u n. l.waiters h i ∙ rw (ne_eqb (task s i).hub (suc h) (λ z. n (omega arith)), and-false)) in
      rw e (omega (arith, a, b, c)))
      (λ n. let f = ne_eqb (task s i).state 3 n in
      let c = met-none s i (length s.hubs) (λ h u. l.waiters h i ∙ rw f) in
      rw (f, or-false) (omega (arith, l.ready i, c)))
