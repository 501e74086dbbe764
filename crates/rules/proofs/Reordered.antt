-- The reordering at the end of a call, for any test of who is taken out and any key by which they are put back. In order: what
-- it keeps (`Kept`: all but the lists); who stands in the lists, exact but for those that are out (`Missing`); lists in order;
-- those that were not taken out, in their order.
-- Not here: `only` as such (lists), what effective priorities mean (Meaning.antt), `reordered` itself (Inherited.antt).
-- Assumes nothing.
use Prim.Native.Nat.{◌+◌, ◌<◌, ◌≤◌, suc, zero, ℕ}
use Rattle.lists.proofs.Counting.{occ-insert}
use Rattle.lists.proofs.Laws.{bool_case}
use Rattle.lists.proofs.Only.{occ-only, only-again, only-all, only-insert, only-passes}
use Rattle.lists.specs.Lists.{bit, insert, left_out, occ, only}
use Rattle.rules.proofs.Cases.{cond_case, same_or}
use Rattle.rules.proofs.Changes.{hub-set_keeps, hub-set_other, hub-set_same, length-set_hub}
use Rattle.rules.proofs.Hubs.{SameHubs, core, hubs_join, hubs-refl}
use Rattle.rules.proofs.Order.{order_hub, order_ready, sorted_cong, sorted_only}
use Rattle.rules.proofs.Standing.{waiting-used}
use Rattle.rules.proofs.Valid.{Listed, Ordered, Sorted}
use Rattle.rules.specs.Lists.{join_hub, join_ready, queued}
use Rattle.rules.specs.Reorder.{put_back, rejoin, rejoin_hub, taken_out, thinned}
use Rattle.rules.specs.Table.{Hub, State, Task, hub, no_hub, set_hub, set_ready, task}
use Rattle.rules.specs.WellFormed.{is_ready, waits_for}
use borrow.Author.Tests.{eq-eqb, eqb-true, le-ltb, lt-ltb, ltb-false, ltb-true, ne_eqb, not-true}
use lib.Dec.{eqb, ltb}
use lib.ListN.{get_or-map, length, length-map}
use mathlib.Core.Bool.{Bool, ◌&&◌, and-false, cond, false, not, true}
use mathlib.Core.List.{List, [], ◌∷◌, map}
use mathlib.Core.Logic.{◌≢◌}
use mathlib.Core.Path.{◌∙◌, ◌≡◌, ap, refl, sym}
use native.Mathlib.Omega.{arith}

-- ---- what the reordering has to be, as statements: r is the state afterwards

-- no record, no count, no store: the task records, and the hubs apart from their waiting lists
pub record Kept (s s' : State) : Type 0 where
  pub tasks : s'.tasks ≡ s.tasks
  pub hubs : SameHubs s s'

-- those that pass the test stand in the same order among themselves
pub record Stays (q : ℕ → Bool) (s s' : State) : Type 0 where
  pub ready : only q s'.ready ≡ only q s.ready
  pub waiters : (h : ℕ) → only q (hub s' h).waiters ≡ only q (hub s h).waiters

-- each list has the tasks that it had, as often
pub record SameMembers (s s' : State) : Type 0 where
  pub ready : (i : ℕ) → occ i s'.ready ≡ occ i s.ready
  pub waiters : (h i : ℕ) → occ i (hub s' h).waiters ≡ occ i (hub s h).waiters

-- ---- all but the lists

pub kept_refl : (s : State) → Kept s s
kept_refl s = record { tasks = refl; hubs = hubs-refl s s refl }

pub kept_trans : (s₁ s₂ s₃ : State) → Kept s₁ s₂ → Kept s₂ s₃ → Kept s₁ s₃
kept_trans s₁ s₂ s₃ a b = record {
  tasks = b.tasks ∙ a.tasks;
  hubs = record { many = b.hubs.many ∙ a.hubs.many; each = λ h. b.hubs.each h ∙ a.hubs.each h };
}

module _ (s s' : State) (k : Kept s s') where
  pub kept-task : (i : ℕ) → task s' i ≡ task s i
  kept-task i = ap (λ (ts : List Task). task (record { tasks = ts; hubs = s.hubs; ready = s.ready }) i) k.tasks

  pub kept-kind : (h : ℕ) → (hub s' h).kind ≡ (hub s h).kind
  unfolding core queued
  kept-kind h = ap (λ (x : Hub). x.kind) (k.hubs.each h)

  pub kept-count : (h : ℕ) → (hub s' h).count ≡ (hub s h).count
  unfolding core queued
  kept-count h = ap (λ (x : Hub). x.count) (k.hubs.each h)

-- ---- taking out

module _ (p : ℕ → Bool) (s : State) where
  pub hub-out : (h : ℕ) → hub (taken_out p s) h ≡ thinned p (hub s h)
  unfolding no_hub only queued taken_out thinned
  hub-out h = get_or-map (thinned p) s.hubs h no_hub

  pub kept_out : Kept s (taken_out p s)
  unfolding taken_out
  kept_out = record {
    tasks = refl;
    hubs = record {
      many = length-map s.hubs (thinned p);
      each = λ h. ap core (hub-out h) ∙ unfold core queued thinned in refl;
    };
  }

  -- the waiting list of each hub
  pub out-waiters : (h : ℕ) → (hub (taken_out p s) h).waiters ≡ left_out p (hub s h).waiters
  unfolding queued thinned
  out-waiters h = ap (λ (x : Hub). x.waiters) (hub-out h)

  pub out-ready : (taken_out p s).ready ≡ left_out p s.ready
  unfolding taken_out
  out-ready = refl

-- ---- one task put back: a property of the state before that each way of joining keeps

module _ (key : ℕ → ℕ) (i : ℕ) (s : State) where
  -- by the record
  pub rejoin_by : (P : State → Type 0) → ((task s i).state ≡ 2 → P (join_ready key i s))
      → ((h : ℕ) → (task s i).state ≡ 3 → (task s i).hub ≡ suc h → P (join_hub key h i s))
      → (((h : ℕ) → waits_for s h i ≡ false) → (is_ready s i ≡ false) → P s)
      → P (rejoin key i s)
  unfolding rejoin
  rejoin_by P f g k =
      cond_case P (is_ready s i) _ _
      (λ b. f (eqb-true (task s i).state 2 b))
      (λ b. cond_case P (eqb (task s i).state 3) _ _ (λ d. at (task s i).hub refl d b) (λ d. k (λ h. rw d refl) b))
    where
      at : (n : ℕ) → (task s i).hub ≡ n → eqb (task s i).state 3 ≡ true → is_ready s i ≡ false → P (rejoin_hub key n i s)
      at zero e d b = unfold rejoin_hub in k (λ h. rw (ne_eqb (task s i).hub (suc h) (λ q. omega (arith, e, q)), and-false) refl) b
      at (suc h) e d b = unfold rejoin_hub in g h (eqb-true (task s i).state 3 d) e

  kept-ready : Kept s (join_ready key i s)
  unfolding join_ready set_ready
  kept-ready = record { tasks = refl; hubs = hubs-refl s _ refl }

  kept_queue : (h : ℕ) → Kept s (join_hub key h i s)
  kept_queue h = record { tasks = unfold join_hub set_hub in refl; hubs = hubs_join key h i s }

  kept-rejoin : Kept s (rejoin key i s)
  kept-rejoin = rejoin_by (Kept s) (λ _. kept-ready) (λ h _ _. kept_queue h) (λ _ _. kept_refl s)

pub kept_back : (key : ℕ → ℕ) (p : ℕ → Bool) (n : ℕ) (s : State) → Kept s (put_back key p n s)
unfolding put_back
kept_back key p zero s = kept_refl s
kept_back key p (suc n) s =
    let k = kept_back key p n s in
    cond_case (Kept s) (p n) _ _
    (λ _. kept_trans s (put_back key p n s) _ k (kept-rejoin key n (put_back key p n s)))
    (λ _. k)

-- ---- who stands in the lists: exact but for those that pass the test, who stand in none

record Missing (q : ℕ → Bool) (s : State) : Type 0 where
  ready : (j : ℕ) → occ j s.ready ≡ cond (q j) 0 (bit (is_ready s j))
  waiters : (h j : ℕ) → occ j (hub s h).waiters ≡ cond (q j) 0 (bit (waits_for s h j))
  used : (h j : ℕ) → waits_for s h j ≡ true → h < length s.hubs

missing_same : (q r : ℕ → Bool) (s : State) → ((j : ℕ) → q j ≡ r j) → Missing q s → Missing r s
missing_same q r s e m = record {
  ready = λ j. rw (sym (e j)) (m.ready j);
  waiters = λ h j. rw (sym (e j)) (m.waiters h j);
  used = m.used;
}

out-bit : (n m : ℕ) (b c : Bool) → n ≡ cond (not b) m 0 → m ≡ bit c → n ≡ cond b 0 (bit c)
out-bit n m true c e f = e
out-bit n m false c e f = e ∙ f

missing_out : (p : ℕ → Bool) (s : State) → Listed s → Missing p (taken_out p s)
unfolding taken_out
missing_out p s l = record {
  ready = λ j. out-bit _ (occ j s.ready) (p j) (is_ready s j) (occ-only (λ i. not (p i)) j s.ready) (l.ready j);
  waiters = λ h j. ap (occ j) (out-waiters p s h)
      ∙ out-bit _ (occ j (hub s h).waiters) (p j) (waits_for s h j) (occ-only (λ i. not (p i)) j (hub s h).waiters) (l.waiters h j);
  used = λ h j w. omega (arith, waiting-used s l h j w, length-map s.hubs (thinned p));
}

module _ (q : ℕ → Bool) (i j n : ℕ) (b : Bool) (e : n ≡ cond (q j) 0 (bit b)) where
  -- i is put back, and this list is not its own
  elsewhere : (i ≡ j → b ≡ false) → n ≡ cond (q j && not (eqb i j)) 0 (bit b)
  elsewhere f =
      bool_case (eqb i j)
      (λ d. rw (d, and-false, f (eqb-true i j d)) (bool_case (q j) (λ c. rw c at e) (λ c. rw (c, f (eqb-true i j d)) at e)))
      (λ d. rw d (bool_case (q j) (λ c. rw c (rw c at e)) (λ c. rw c (rw c at e))))

  -- and this one is
  into : q i ≡ true → (i ≡ j → b ≡ true) → bit (eqb i j) + n ≡ cond (q j && not (eqb i j)) 0 (bit b)
  into o f =
      bool_case (eqb i j)
      (λ d. let c : q j ≡ true = ap q (sym (eqb-true i j d)) ∙ o in rw (d, and-false, f (eqb-true i j d)) (omega (arith, rw c at e)))
      (λ d. rw d (bool_case (q j) (λ c. rw c (omega (arith, rw c at e))) (λ c. rw c (omega (arith, rw c at e)))))

-- a task put back into its list
module _ (key : ℕ → ℕ) (q : ℕ → Bool) (i : ℕ) (s : State) (m : Missing q s) (o : q i ≡ true) where
  abbrev rest : ℕ → Bool
  rest j = q j && not (eqb i j)

  not-ready : (task s i).state ≢ 2 → (j : ℕ) → i ≡ j → is_ready s j ≡ false
  not-ready n j e = ne_eqb (task s j).state 2 (λ f. n (rw e f))

  not-waiting : (h : ℕ) → waits_for s h i ≡ false → (j : ℕ) → i ≡ j → waits_for s h j ≡ false
  not-waiting h n j e = rw (sym e) n

  missing_ready : (task s i).state ≡ 2 → Missing rest (join_ready key i s)
  unfolding join_ready set_ready
  missing_ready e = record {
    ready = λ j. occ-insert key i j s.ready ∙ into q i j _ (is_ready s j) (m.ready j) o (λ d. rw (sym d) (eq-eqb (task s i).state 2 e));
    waiters = λ h j. elsewhere q i j _ (waits_for s h j) (m.waiters h j)
        (not-waiting h (rw (ne_eqb (task s i).state 3 (λ f. omega (arith, e, f))) refl) j);
    used = m.used;
  }

  missing_hub : (h : ℕ) → (task s i).state ≡ 3 → (task s i).hub ≡ suc h → Missing rest (join_hub key h i s)
  unfolding join_hub
  missing_hub h e f = record {
    ready = λ j. unfold set_hub in elsewhere q i j _ (is_ready s j) (m.ready j) (not-ready (λ g. omega (arith, e, g)) j);
    waiters = λ g j. same_or g h (λ d. rw d (here j)) (λ n. there g j n);
    used = λ g j w. omega (arith, m.used g j (unfold set_hub in w), length-set_hub s h x);
  }
    where
      x : Hub
      x = queued (insert key i (hub s h).waiters) (hub s h)

      waits : waits_for s h i ≡ true
      waits = rw (eq-eqb (task s i).state 3 e, eq-eqb (task s i).hub (suc h) f) refl

      here : (j : ℕ) → occ j (hub (set_hub h x s) h).waiters ≡ cond (rest j) 0 (bit (waits_for (set_hub h x s) h j))
      here j =
          ap (λ (y : Hub). occ j y.waiters) (hub-set_same s h x (m.used h i waits))
          ∙ unfold queued set_hub in (occ-insert key i j (hub s h).waiters
          ∙ into q i j _ (waits_for s h j) (m.waiters h j) o (λ d. rw (sym d) waits))

      there : (g j : ℕ) → g ≢ h → occ j (hub (set_hub h x s) g).waiters ≡ cond (rest j) 0 (bit (waits_for (set_hub h x s) g j))
      there g j n =
          ap (λ (y : Hub). occ j y.waiters) (hub-set_other s h x g n)
          ∙ unfold set_hub in (elsewhere q i j _ (waits_for s g j) (m.waiters g j)
          (not-waiting g (rw (ne_eqb (task s i).hub (suc g) (λ r. n (omega (arith, f, r))), and-false) refl) j))

  missing_none : ((h : ℕ) → waits_for s h i ≡ false) → is_ready s i ≡ false → Missing rest s
  missing_none w r = record {
    ready = λ j. elsewhere q i j _ (is_ready s j) (m.ready j) (λ d. rw (sym d) r);
    waiters = λ h j. elsewhere q i j _ (waits_for s h j) (m.waiters h j) (not-waiting h (w h) j);
    used = m.used;
  }

  missing_rejoin : Missing rest (rejoin key i s)
  missing_rejoin = rejoin_by key i s (Missing rest) missing_ready missing_hub missing_none

-- those from n on
abbrev from : (ℕ → Bool) → ℕ → ℕ → Bool
from p n j = p j && not (ltb j n)

from_out : (p : ℕ → Bool) (n : ℕ) → p n ≡ false → (j : ℕ) → from p n j ≡ from p (suc n) j
from_out p n e j =
    same_or n j
    (λ d. rw (sym d, e))
    (λ d. bool_case (ltb j n)
    (λ b. rw (b, lt-ltb j (suc n) (omega (arith, ltb-true j n b))))
    (λ b. let g : n ≤ j = ltb-false j n b in rw (b, le-ltb j (suc n) (omega arith))))

from_next : (p : ℕ → Bool) (n j : ℕ) → (from p n j && not (eqb n j)) ≡ from p (suc n) j
from_next p n j =
    same_or n j
    (λ d. rw (eq-eqb n j d, and-false, lt-ltb j (suc n) (omega (arith, d)), and-false) refl)
    (λ d. rw (ne_eqb n j d) (bool_case (ltb j n)
    (λ b. rw (b, lt-ltb j (suc n) (omega (arith, ltb-true j n b)), and-false) refl)
    (λ b. let g : n ≤ j = ltb-false j n b in rw (b, le-ltb j (suc n) (omega arith)) (bool_case (p j) (λ c. rw c) (λ c. rw c)))))

missing_back : (key : ℕ → ℕ) (p : ℕ → Bool) (n : ℕ) (s : State) → Missing p s → Missing (from p n) (put_back key p n s)
unfolding put_back
missing_back key p zero s m = missing_same p (from p 0) s (λ j. rw (le-ltb j 0 (omega arith)) (bool_case (p j) (λ c. rw c) (λ c. rw c))) m
missing_back key p (suc n) s m =
    let b = missing_back key p n s m in
    cond_case (Missing (from p (suc n))) (p n) _ _
    (λ e. missing_same _ (from p (suc n)) _ (from_next p n)
    (missing_rejoin key (from p n) n (put_back key p n s) b (rw (e, le-ltb n n (omega arith)))))
    (λ e. missing_same (from p n) (from p (suc n)) _ (from_out p n e) b)

-- all of them back
missing_nobody : (q : ℕ → Bool) (s : State) → ((j : ℕ) → q j ≡ false) → Missing q s → Listed s
missing_nobody q s e m = record {
  ready = λ j. rw (e j) at (m.ready j);
  waiters = λ h j. rw (e j) at (m.waiters h j);
}

pub listed_back : (key : ℕ → ℕ) (p : ℕ → Bool) (n : ℕ) → ((j : ℕ) → p j ≡ true → j < n) → (s : State) → Listed s → Listed (put_back key p n (taken_out p s))
listed_back key p n low s l =
    missing_nobody (from p n) _
    (λ j. bool_case (p j) (λ e. rw (e, lt-ltb j n (low j e))) (λ e. rw e))
    (missing_back key p n (taken_out p s) (missing_out p s l))

-- ---- in order by the key by which they are put back

module _ (key : ℕ → ℕ) where
  pub order_back : (p : ℕ → Bool) (n : ℕ) (s : State) → Ordered key s → Ordered key (put_back key p n s)
  unfolding put_back
  order_back p zero s o = o
  order_back p (suc n) s o =
      let b = order_back p n s o in
      cond_case (Ordered key) (p n) _ _
      (λ _. rejoin_by key n (put_back key p n s) (Ordered key) (λ _. order_ready key n _ b) (λ h _ _. order_hub key h n _ b) (λ _ _. b))
      (λ _. b)

-- what is left after taking out is in order by any key that those left have in common with the one that orders the whole
pub order_out : (k key : ℕ → ℕ) (p : ℕ → Bool) (s : State) → ((j : ℕ) → p j ≡ false → key j ≡ k j) → Ordered k s → Ordered key (taken_out p s)
order_out k key p s e o = record {
  ready = rw (out-ready p s) (each s.ready o.ready);
  waiters = λ h. rw (out-waiters p s h) (each (hub s h).waiters (o.waiters h));
}
  where
    each : (l : List ℕ) → Sorted k l → Sorted key (left_out p l)
    each l b =
        sorted_cong k key (left_out p l) (λ j h. e j (not-true (p j) (only-passes (λ i. not (p i)) j l h)))
        (sorted_only k (λ i. not (p i)) l b)

-- ---- those that are not taken out stay in their order

pub stays_trans : (q : ℕ → Bool) (s₁ s₂ s₃ : State) → Stays q s₁ s₂ → Stays q s₂ s₃ → Stays q s₁ s₃
stays_trans q s₁ s₂ s₃ a b = record { ready = b.ready ∙ a.ready; waiters = λ h. b.waiters h ∙ a.waiters h }

stays_refl : (q : ℕ → Bool) (s : State) → Stays q s s
stays_refl q s = record { ready = refl; waiters = λ h. refl }

pub stays_out : (p : ℕ → Bool) (s : State) → Stays (λ i. not (p i)) s (taken_out p s)
stays_out p s = record {
  ready = ap (only (λ i. not (p i))) (out-ready p s) ∙ only-again (λ i. not (p i)) s.ready;
  waiters = λ h. ap (only (λ i. not (p i))) (out-waiters p s h) ∙ only-again (λ i. not (p i)) (hub s h).waiters;
}

module _ (key : ℕ → ℕ) (q : ℕ → Bool) where
  stays_rejoin : (i : ℕ) (s : State) → q i ≡ false → Stays q s (rejoin key i s)
  stays_rejoin i s e = rejoin_by key i s (Stays q s) (λ _. ready) (λ h _ _. queue h) (λ _ _. stays_refl q s)
    where
      ready : Stays q s (join_ready key i s)
      ready = unfold join_ready set_ready in record { ready = only-insert key q i e s.ready; waiters = λ h. refl }

      queue : (h : ℕ) → Stays q s (join_hub key h i s)
      queue h = unfold join_hub in record {
        ready = unfold set_hub in refl;
        waiters = hub-set_keeps s h _ (λ (x : Hub). only q x.waiters) (unfold queued in only-insert key q i e (hub s h).waiters);
      }

  pub stays_back : (p : ℕ → Bool) → ((i : ℕ) → p i ≡ true → q i ≡ false) → (n : ℕ) (s : State) → Stays q s (put_back key p n s)
  unfolding put_back
  stays_back p f zero s = stays_refl q s
  stays_back p f (suc n) s =
      let b = stays_back p f n s in
      cond_case (Stays q s) (p n) _ _
      (λ e. stays_trans q s (put_back key p n s) _ b (stays_rejoin n (put_back key p n s) (f n e)))
      (λ _. b)

-- ---- nobody taken out

pub out_none : (p : ℕ → Bool) (s : State) → ((j : ℕ) → p j ≡ false) → taken_out p s ≡ s
unfolding taken_out
out_none p s e = rw (only-all (λ i. not (p i)) (λ j. rw (e j)) s.ready, all s.hubs) refl
  where
    all : (xs : List Hub) → map (thinned p) xs ≡ xs
    all [] = refl
    all (x ∷ xs) =
        let same : thinned p x ≡ x = unfold queued thinned in ap (λ (l : List ℕ). queued l x) (only-all (λ i. not (p i)) (λ j. rw (e j)) x.waiters) in
        rw (same, all xs)
