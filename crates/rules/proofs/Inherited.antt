-- What M-108 promises. In order: there is one smallest priority; effective priorities depend on who waits for whom alone
-- (`effective_alike`), not on the order of lists (`effective-kept`); the reordering (`reordering`), and when a call's lists are
-- in order after it (`order_after`, `service_order`); an owner is as urgent as its waiters (`inherits`, `inherits_all`); who
-- runs (`running_least`, `owner-first`).
-- Not here: the meaning of an effective priority itself (Meaning.antt: `effective_means`, `valid_means`). Assumes nothing.
use Prim.Native.Nat.{◌<◌, ◌≤◌, suc, ℕ}
use Rattle.lists.proofs.Counting.{occ_tail}
use Rattle.lists.proofs.Laws.{bool_case}
use Rattle.lists.specs.Lists.{occ}
use Rattle.rules.proofs.Cases.{and_l, same_or}
use Rattle.rules.proofs.Least.{none_urgent}
use Rattle.rules.proofs.Meaning.{OwnersLow, effective_means}
use Rattle.rules.proofs.Order.{order_cong}
use Rattle.rules.proofs.Reordered.{Kept, SameMembers, Stays, kept_back, kept-count, kept-kind, kept_out, kept-task, kept_trans, listed_back, order_back, order_out, stays_back, stays_out, stays_trans}
use Rattle.rules.proofs.Valid.{Below, Listed, Ordered, Sorted, Sound}
use Rattle.rules.specs.Effective.{effective}
use Rattle.rules.specs.Lists.{first_free, next}
use Rattle.rules.specs.Meaning.{Reaches, Smallest, WaitsFor, itself, through}
use Rattle.rules.specs.Reorder.{changed, reordered, taken_out}
use Rattle.rules.specs.Table.{State, Task, hub, is_suspended, kind_of, task}
use borrow.Author.Tests.{eqb-true, ltb-false, ltb-true, not-false}
use lib.Dec.{ltb}
use lib.ListN.{length}
use mathlib.Core.Bool.{false, false≢true, not, true}
use mathlib.Core.List.{List, [], ◌∷◌}
use mathlib.Core.Path.{◌∙◌, ◌≡◌, ap, refl, sym}
use native.Mathlib.Omega.{arith}

-- all that an effective priority depends on: who waits for whom, and own priorities
pub record SameWaits (s s' : State) : Type 0 where
  pub forth : (j i : ℕ) → WaitsFor s j i → WaitsFor s' j i
  pub back : (j i : ℕ) → WaitsFor s' j i → WaitsFor s j i
  pub own : (i : ℕ) → (task s' i).priority ≡ (task s i).priority

-- what the reordering comes to: r is the state afterwards
pub record Reordering (s s' r : State) : Type 0 where
  pub listed : Listed r
  pub members : SameMembers s' r
  pub kept : Kept s' r
  pub same : (i : ℕ) → effective r i ≡ effective s' i
  pub stays : Stays (λ i. not (changed s s' i)) s' r
  -- where the lists are in order but for those that changed, they are in order
  pub order : Ordered (effective s') (taken_out (changed s s') s') → Ordered (effective r) r

-- ---- one smallest priority

pub smallest_one : (s : State) (i p q : ℕ) → Smallest s i p → Smallest s i q → p ≡ q
smallest_one s i p q a b =
    omega (arith, a.its, b.its, a.least b.whose b.among, b.least a.whose a.among)

-- ---- by the records alone

pub reaches_more : (s s' : State) → ((j i : ℕ) → WaitsFor s j i → WaitsFor s' j i) → (j i : ℕ) → Reaches s j i → Reaches s' j i
reaches_more s s' f j i itself = itself
reaches_more s s' f j i (through {k = m} r w) = through (reaches_more s s' f j m r) (f m i w)

smallest_alike : (s s' : State) → SameWaits s s' → (i p : ℕ) → Smallest s i p → Smallest s' i p
smallest_alike s s' k i p a = record {
  least = λ j r. rw (k.own j) (a.least j (reaches_more s' s k.back j i r));
  whose = a.whose;
  among = reaches_more s s' k.forth a.whose i a.among;
  its = rw (k.own a.whose) a.its;
}

pub effective_alike : (s s' : State) → SameWaits s s' → Sound s → Sound s' → OwnersLow s → OwnersLow s' → (i : ℕ) → effective s' i ≡ effective s i
effective_alike s s' k x x' o o' i =
    smallest_one s' i (effective s' i) (effective s i) (effective_means s' x' o' i)
    (smallest_alike s s' k i (effective s i) (effective_means s x o i))

-- a waiting task's state and hub, and a hub's kind and count, say who waits for whom
waits_same : (s s' : State) → ((i : ℕ) → (task s' i).state ≡ (task s i).state) → ((i : ℕ) → (task s' i).hub ≡ (task s i).hub)
    → ((h : ℕ) → (hub s' h).kind ≡ (hub s h).kind) → ((h : ℕ) → (hub s' h).count ≡ (hub s h).count) → (j i : ℕ) → WaitsFor s j i → WaitsFor s' j i
waits_same s s' a b k n j i w = record {
  at = w.at;
  waiting = a j ∙ w.waiting;
  there = b j ∙ w.there;
  resource = ap kind_of (k w.at) ∙ w.resource;
  owned = n w.at ∙ w.owned;
}

pub same_waits : (s s' : State) → ((i : ℕ) → (task s' i).state ≡ (task s i).state) → ((i : ℕ) → (task s' i).hub ≡ (task s i).hub)
    → ((i : ℕ) → (task s' i).priority ≡ (task s i).priority)
    → ((h : ℕ) → (hub s' h).kind ≡ (hub s h).kind) → ((h : ℕ) → (hub s' h).count ≡ (hub s h).count) → SameWaits s s'
same_waits s s' a b p k n = record {
  forth = waits_same s s' a b k n;
  back = waits_same s' s (λ i. sym (a i)) (λ i. sym (b i)) (λ h. sym (k h)) (λ h. sym (n h));
  own = p;
}

module _ (s s' : State) (k : Kept s s') where
  pub owners_kept : OwnersLow s → OwnersLow s'
  owners_kept o = record {
    low = λ h e. omega (arith, kept-count s s' k h, o.low h (ap kind_of (sym (kept-kind s s' k h)) ∙ e), ap length k.tasks);
  }

  -- no order of lists matters
  pub effective-kept : Sound s → Sound s' → OwnersLow s → (i : ℕ) → effective s' i ≡ effective s i
  effective-kept x x' o =
      effective_alike s s'
      (same_waits s s' (λ i. ap (λ (t : Task). t.state) (kept-task s s' k i)) (λ i. ap (λ (t : Task). t.hub) (kept-task s s' k i))
      (λ i. ap (λ (t : Task). t.priority) (kept-task s s' k i)) (kept-kind s s' k) (kept-count s s' k))
      x x' o (owners_kept o)

-- ---- the reordering

module _ (s s' : State) where
  pub kept-reordered : Kept s' (reordered s s')
  unfolding reordered
  kept-reordered =
      kept_trans s' (taken_out (changed s s') s') _ (kept_out (changed s s') s') (kept_back (effective s') (changed s s') (length s.tasks) _)

  changed-low : (j : ℕ) → changed s s' j ≡ true → j < length s.tasks
  changed-low j e = ltb-true j (length s.tasks) (and_l _ _ e)

  module _ (x : Sound s') where
    listed-reordered : Listed (reordered s s')
    unfolding reordered
    listed-reordered = listed_back (effective s') (changed s s') (length s.tasks) changed-low s' x.listed

    pub exact_reordered : Sound (reordered s s')
    exact_reordered = record {
      tasks = omega (arith, x.tasks, ap length kept-reordered.tasks);
      hubs = omega (arith, x.hubs, kept-reordered.hubs.many);
      listed = listed-reordered;
    }

    pub members_reordered : SameMembers s' (reordered s s')
    members_reordered = record {
      ready = λ i. listed-reordered.ready i ∙ (rw (kept-task s' (reordered s s') kept-reordered i) (sym (x.listed.ready i)));
      waiters = λ h i. listed-reordered.waiters h i ∙ (rw (kept-task s' (reordered s s') kept-reordered i) (sym (x.listed.waiters h i)));
    }

    module _ (o : OwnersLow s') where
      same : (i : ℕ) → effective (reordered s s') i ≡ effective s' i
      same = effective-kept s' (reordered s s') kept-reordered x exact_reordered o

      order : Ordered (effective s') (taken_out (changed s s') s') → Ordered (effective (reordered s s')) (reordered s s')
      order b =
          order_cong (effective s') (effective (reordered s s')) (reordered s s') same
          (unfold reordered in order_back (effective s') (changed s s') (length s.tasks) (taken_out (changed s s') s') b)

      pub reordering : Reordering s s' (reordered s s')
      reordering = record {
        listed = listed-reordered;
        members = members_reordered;
        kept = kept-reordered;
        same = same;
        stays = unfold reordered in stays_trans _ s' (taken_out (changed s s') s') _ (stays_out (changed s s') s')
            (stays_back (effective s') _ (changed s s') (λ i e. rw e refl) (length s.tasks) (taken_out (changed s s') s'));
        order = order;
      }

      -- a call that kept its lists in order by some key: that of each task that did not change is its effective priority
      pub order_after : (key : ℕ → ℕ) → ((j : ℕ) → changed s s' j ≡ false → effective s' j ≡ key j) → Ordered key s'
          → Ordered (effective (reordered s s')) (reordered s s')
      order_after key e b = order (order_out key (effective s') (changed s s') s' e b)

      -- by the effective priorities before the call, where it added no task
      pub service_order : length s'.tasks ≤ length s.tasks → Ordered (effective s) s' → Ordered (effective (reordered s s')) (reordered s s')
      service_order few = order_after (effective s) same_key
        where
          same_key : (j : ℕ) → changed s s' j ≡ false → effective s' j ≡ effective s j
          same_key j e =
              bool_case (ltb j (length s.tasks))
              (λ b. sym (eqb-true (effective s j) (effective s' j) (not-false _ (rw b at e))))
              (λ b. let h : length s.tasks ≤ j = ltb-false j (length s.tasks) b in
              none_urgent s' j (omega arith) ∙ sym (none_urgent s j h))

-- ---- who stands in a list in order

pub below_listed : (key : ℕ → ℕ) (n : ℕ) (l : List ℕ) → Below key n l → (j : ℕ) → 1 ≤ occ j l → n ≤ key j
unfolding Below
below_listed key n [] b j h = absurd (unfold occ in omega (arith, h))
below_listed key n (x ∷ xs) b j h = same_or x j (λ e. omega (arith, b.0, ap key e)) (λ d. below_listed key n xs b.1 j (occ_tail j x xs d h))

-- ---- an owner is at least as urgent as each of its waiters

module _ (s : State) (x : Sound s) (o : OwnersLow s) where
  pub inherits : (j i : ℕ) → WaitsFor s j i → effective s i ≤ effective s j
  inherits j i w =
      let a = effective_means s x o j in
      omega (arith, a.its, (effective_means s x o i).least a.whose (through a.among w))

  pub inherits_all : (j i : ℕ) → Reaches s j i → effective s i ≤ effective s j
  inherits_all j i itself = omega arith
  inherits_all j i (through {k = m} r w) = omega (arith, inherits m i w, inherits_all j m r)

  -- ---- who runs, where the ready list is in order by effective priority

  first-least : (key : ℕ → ℕ) (l : List ℕ) (i : ℕ) → Sorted key l → first_free s l ≡ suc i → (j : ℕ) → 1 ≤ occ j l → is_suspended (task s j) ≡ false → key i ≤ key j
  unfolding Sorted first_free
  first-least key [] i b e j h f = absurd (omega (arith, e))
  first-least key (t ∷ ts) i b e j h f =
      bool_case (is_suspended (task s t))
      (λ d. same_or t j
      (λ q. absurd (false≢true (sym f ∙ (ap (λ (n : ℕ). is_suspended (task s n)) (sym q) ∙ d))))
      (λ n. first-least key ts i b.1 (rw d at e) j (occ_tail j t ts n h) f))
      (λ d. let q : suc t ≡ suc i = rw d at e in
      let same : t ≡ i = omega arith in
      same_or t j
      (λ r. omega (arith, ap key same, ap key r))
      (λ n. omega (arith, ap key same, below_listed key (key t) ts b.0 j (occ_tail j t ts n h))))

  -- "the running task" is one whose effective priority is least among the ready tasks that aren't suspended
  pub running_least : Ordered (effective s) s → (i : ℕ) → next s ≡ suc i → (j : ℕ) → 1 ≤ occ j s.ready → is_suspended (task s j) ≡ false → effective s i ≤ effective s j
  unfolding next
  running_least b i e j h f = first-least (effective s) s.ready i b.ready e j h f

  -- a ready task that owns a lock for which task j waits goes before every task less urgent than j
  pub owner-first : Ordered (effective s) s → (i j k : ℕ) → WaitsFor s j i → 1 ≤ occ i s.ready → is_suspended (task s i) ≡ false
      → effective s j < effective s k → next s ≡ suc k → ⊥
  owner-first b i j k w h f l e = omega (arith, inherits j i w, running_least b k e i h f)
