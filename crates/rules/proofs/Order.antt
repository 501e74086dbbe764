-- Services keep the lists in order, by any key that each task has before the call (M-108: its effective priority). In order:
-- sorted lists; the moves; the services' parts; a task added; each service.
-- Not here: the reordering at the end of a call (Reordered.antt), and that the keys are then those after it (Inherited.antt).
use Prim.Native.Nat.{◌<◌, ◌≤◌, suc, zero, ℕ}
use Rattle.lists.proofs.Counting.{occ_here}
use Rattle.lists.proofs.Laws.{bool_case}
use Rattle.lists.specs.Lists.{insert, occ, only, without}
use Rattle.rules.proofs.Cases.{cond_case, same_or}
use Rattle.rules.proofs.Changes.{hub-added_other, hub-added_same, hub-leave, hub-set_other, hub-set_same, in_use}
use Rattle.rules.proofs.Passing.{pass_keeps}
use Rattle.rules.proofs.Standing.{listed-ready, listed-waits}
use Rattle.rules.proofs.Valid.{Below, Listed, Ordered, Sorted}
use Rattle.rules.specs.Calls.{AddHub, AddTask, Blank, HubRequest, Resume, Service, Sleep, Start, Stop, Suspend, Tick, Unknown, Yield, add_hub, add_started, add_task, blank, carry_out, deactivate, flag, grant, hold, key_added, meet_all, new_hub, serve, settle, slept, start, stop, tick_all, tick_by, tick_one, wait, yielded}
use Rattle.rules.specs.HubTable.{Meeting, Verdict, fail, met, not_now, verdict}
use Rattle.rules.specs.Lists.{answer, holding, join_hub, join_ready, leave, queued, unqueue, wake}
use Rattle.rules.specs.Table.{Hub, State, Task, hub, no_hub, set_hub, set_ready, set_task, task}
use Rattle.rules.specs.declared.Call.{Call}
use borrow.Author.Tests.{ltb-false, ltb-true, ne_eqb}
use lib.Dec.{eqb, ltb}
use lib.ListN.{length}
use lib.Seq.{set_out}
use mathlib.Core.Bool.{Bool, false, true}
use mathlib.Core.List.{List, [], ◌∷◌}
use mathlib.Core.Path.{◌≡◌}
use native.Mathlib.Omega.{arith}

-- ---- sorted lists

module _ (key : ℕ → ℕ) where
  pub below_le : (n m : ℕ) (l : List ℕ) → n ≤ m → Below key m l → Below key n l
  unfolding Below
  below_le n m [] h b = tt
  below_le n m (x ∷ xs) h b = (omega (arith, b.0), below_le n m xs h b.1)

  below_insert : (n t : ℕ) (l : List ℕ) → n ≤ key t → Below key n l → Below key n (insert key t l)
  unfolding Below insert
  below_insert n t [] h b = (h, tt)
  below_insert n t (x ∷ xs) h b =
      bool_case (ltb (key t) (key x)) (λ q. rw q (h, b)) (λ q. rw q (b.0, below_insert n t xs h b.1))

  pub sorted_insert : (t : ℕ) (l : List ℕ) → Sorted key l → Sorted key (insert key t l)
  unfolding Below Sorted insert
  sorted_insert t [] b = (tt, tt)
  sorted_insert t (x ∷ xs) b =
      bool_case (ltb (key t) (key x))
      (λ q. let h : key t < key x = ltb-true (key t) (key x) q in
      rw q ((omega arith, below_le (key t) (key x) xs (omega arith) b.0), b))
      (λ q. rw q (below_insert (key x) t xs (ltb-false (key t) (key x) q) b.0, sorted_insert t xs b.1))

  below_without : (n t : ℕ) (l : List ℕ) → Below key n l → Below key n (without t l)
  unfolding Below without
  below_without n t [] b = tt
  below_without n t (x ∷ xs) b =
      bool_case (eqb x t) (λ q. rw q (below_without n t xs b.1)) (λ q. rw q (b.0, below_without n t xs b.1))

  pub sorted_without : (t : ℕ) (l : List ℕ) → Sorted key l → Sorted key (without t l)
  unfolding Sorted without
  sorted_without t [] b = tt
  sorted_without t (x ∷ xs) b =
      bool_case (eqb x t)
      (λ q. rw q (sorted_without t xs b.1))
      (λ q. rw q (below_without (key x) t xs b.0, sorted_without t xs b.1))

module _ (key : ℕ → ℕ) (p : ℕ → Bool) where
  below_only : (n : ℕ) (l : List ℕ) → Below key n l → Below key n (only p l)
  unfolding Below only
  below_only n [] b = tt
  below_only n (x ∷ xs) b = bool_case (p x) (λ e. rw e (b.0, below_only n xs b.1)) (λ e. rw e (below_only n xs b.1))

  pub sorted_only : (l : List ℕ) → Sorted key l → Sorted key (only p l)
  unfolding Sorted only
  sorted_only [] b = tt
  sorted_only (x ∷ xs) b = bool_case (p x) (λ e. rw e (below_only (key x) xs b.0, sorted_only xs b.1)) (λ e. rw e (sorted_only xs b.1))

-- only the keys of those in the list matter
below_cong : (p p' : ℕ → ℕ) (n : ℕ) (l : List ℕ) → ((j : ℕ) → 1 ≤ occ j l → p' j ≡ p j) → Below p n l → Below p' n l
unfolding Below occ
below_cong p p' n [] e b = tt
below_cong p p' n (x ∷ xs) e b = (omega (arith, b.0, e x (occ_here x xs)), below_cong p p' n xs (λ j h. e j (omega arith)) b.1)

pub sorted_cong : (p p' : ℕ → ℕ) (l : List ℕ) → ((j : ℕ) → 1 ≤ occ j l → p' j ≡ p j) → Sorted p l → Sorted p' l
unfolding Sorted occ
sorted_cong p p' [] e b = tt
sorted_cong p p' (x ∷ xs) e b = (
  rw (e x (occ_here x xs)) (below_cong p p' (p x) xs (λ j h. e j (omega arith)) b.0),
  sorted_cong p p' xs (λ j h. e j (omega arith)) b.1,
)

pub order_cong : (p p' : ℕ → ℕ) (s : State) → ((j : ℕ) → p' j ≡ p j) → Ordered p s → Ordered p' s
order_cong p p' s e o = record {
  ready = sorted_cong p p' s.ready (λ j _. e j) o.ready;
  waiters = λ h. sorted_cong p p' (hub s h).waiters (λ j _. e j) (o.waiters h);
}

-- ---- in order by a key that stays, move by move

module _ (key : ℕ → ℕ) where
  abbrev Keeps : State → Type 0
  Keeps s = Ordered key s

  -- ---- the moves

  order_leave : (i : ℕ) (s : State) → Keeps s → Keeps (leave i s)
  unfolding leave
  order_leave i s o = record {
    ready = sorted_without key i s.ready o.ready;
    waiters = λ h. rw (hub-leave i s h) (unfold queued unqueue in sorted_without key i (hub s h).waiters (o.waiters h));
  }

  order_set : (i : ℕ) (t : Task) (s : State) → Keeps s → Keeps (set_task i t s)
  unfolding set_task
  order_set i t s o = record { ready = o.ready; waiters = o.waiters }

  pub order_ready : (i : ℕ) (s : State) → Ordered key s → Ordered key (join_ready key i s)
  unfolding join_ready set_ready
  order_ready i s o = record { ready = sorted_insert key i s.ready o.ready; waiters = o.waiters }

  pub order_set_hub : (h : ℕ) (x : Hub) (s : State) → Sorted key x.waiters → Ordered key s → Ordered key (set_hub h x s)
  order_set_hub h x s b o = record { ready = unfold set_hub in o.ready; waiters = at }
    where
      at : (g : ℕ) → Sorted key (hub (set_hub h x s) g).waiters
      at g =
          same_or g h
          (λ q. bool_case (ltb h (length s.hubs))
          (λ n. rw (q, hub-set_same s h x (ltb-true _ _ n)) b)
          (λ n. unfold set_hub in rw (set_out s.hubs h x (ltb-false _ _ n)) (o.waiters g)))
          (λ n. rw (hub-set_other s h x g n) (o.waiters g))

  pub order_hub : (h i : ℕ) (s : State) → Ordered key s → Ordered key (join_hub key h i s)
  unfolding join_hub
  order_hub h i s o = order_set_hub h _ s (unfold queued in sorted_insert key i (hub s h).waiters (o.waiters h)) o

  -- ---- the services' parts

  order_hold : (h n : ℕ) (ws : List ℕ) (s : State) → Keeps s → Keeps (hold h n ws s)
  unfolding hold
  order_hold h n ws s o = order_set_hub h _ s (unfold holding in o.waiters h) o

  order_answer : (i a w : ℕ) (s : State) → Keeps s → Keeps (answer i a w s)
  unfolding answer
  order_answer i a w s o = order_set i _ s o

  order_wake : (i a w : ℕ) (s : State) → Keeps s → Keeps (wake key i a w s)
  unfolding wake
  order_wake i a w s o = order_ready i _ (order_set i _ (leave i s) (order_leave i s o))

  order_meet_all : (ms : List Meeting) (s : State) → Keeps s → Keeps (meet_all key ms s)
  unfolding meet_all
  order_meet_all [] s o = o
  order_meet_all (m ∷ ms) s o = order_meet_all ms _ (order_wake m.waiter 1 m.word s o)

  order_start : (i : ℕ) (s : State) → Keeps s → Keeps (start key i s)
  unfolding start
  order_start i s o = order_ready i _ (order_set i _ s o)

  order_carry : (h : ℕ) (v : Verdict) (s : State) → Keeps s → Keeps (carry_out key h v s)
  unfolding carry_out
  order_carry h (met n ws x ms) s o = order_meet_all ms _ (order_hold h n ws s o)
  order_carry h not_now s o = o
  order_carry h fail s o = o

  order_stop : (i : ℕ) (s : State) → Keeps s → Keeps (stop key i s)
  unfolding deactivate stop
  order_stop i s o = pass_keeps key Keeps (λ h z. order_carry h _ z) i (length s.hubs) _ (order_set i _ (leave i s) (order_leave i s o))

  order_flag : (f i : ℕ) (s : State) → Keeps s → Keeps (flag f i s)
  unfolding flag
  order_flag f i s o = order_set i _ s o

  order_yield : (i : ℕ) (s : State) → Keeps s → Keeps (yielded key i s)
  unfolding yielded
  order_yield i s o = order_ready i _ (order_answer i 1 0 (leave i s) (order_leave i s o))

  order_sleep : (n i : ℕ) (s : State) → Keeps s → Keeps (slept n i s)
  unfolding slept
  order_sleep n i s o = order_set i _ (leave i s) (order_leave i s o)

  order_tick_by : (n i : ℕ) (s : State) → Keeps s → Keeps (tick_by key n i s)
  unfolding tick_by
  order_tick_by zero i s o = o
  order_tick_by (suc zero) i s o = order_wake i 3 0 s o
  order_tick_by (suc (suc n)) i s o = order_set i _ s o

  order_tick : (n : ℕ) (s : State) → Keeps s → Keeps (tick_all key n s)
  unfolding tick_all tick_one
  order_tick zero s o = o
  order_tick (suc n) s o = order_tick_by _ n (tick_all key n s) (order_tick n s o)

  order_grant : (b : Bool) (s₁ s₂ : State) (c : Call) → Keeps s₁ → Keeps s₂ → Keeps (grant b s₁ s₂ c)
  unfolding grant
  order_grant true s₁ s₂ c p o = order_answer c.caller 1 0 s₁ p
  order_grant false s₁ s₂ c p o = order_answer c.caller 2 0 s₂ o

  order_wait : (c : Call) (s : State) → Keeps s → Keeps (wait key s c)
  unfolding wait
  order_wait c s o = order_hub c.target c.caller _ (order_set c.caller _ (leave c.caller s) (order_leave c.caller s o))

  order_settle : (v : Verdict) (c : Call) (s : State) → Keeps s → Keeps (settle key v s c)
  unfolding settle
  order_settle (met n ws x ms) c s o = order_meet_all ms _ (order_answer c.caller 1 x _ (order_hold c.target n ws s o))
  order_settle not_now c s o = cond_case Keeps (eqb c.mode 2) _ _ (λ _. order_answer c.caller 2 0 s o) (λ _. order_wait c s o)
  order_settle fail c s o = order_answer c.caller 2 0 s o

  pub order_blank : Keeps blank
  unfolding Sorted blank no_hub
  order_blank = record { ready = tt; waiters = λ h. tt }

  order_add_hub : (c : Call) (s : State) → Keeps s → Keeps (add_hub (new_hub c) s)
  order_add_hub c s o = record { ready = unfold add_hub in o.ready; waiters = at }
    where
      at : (h : ℕ) → Sorted key (hub (add_hub (new_hub c) s) h).waiters
      at h =
          same_or h (length s.hubs)
          (λ e. rw (e, hub-added_same (new_hub c) s) (unfold Sorted new_hub in tt))
          (λ n. rw (hub-added_other (new_hub c) s h n) (o.waiters h))

-- ---- a task added stands in no list yet

order_added : (key : ℕ → ℕ) (p : ℕ) (s : State) → Listed s → Ordered key s → Ordered (key_added key p s) (add_task p s)
unfolding add_task
order_added key p s l o = record {
  ready = sorted_cong key (key_added key p s) s.ready (λ j h. other j 0 (listed-ready s l j h)) o.ready;
  waiters = λ g. sorted_cong key (key_added key p s) (hub s g).waiters (λ j h. other j 1 (listed-waits s l g j h).0) (o.waiters g);
}
  where
    other : (j n : ℕ) → (task s j).state ≡ suc (suc n) → key_added key p s j ≡ key j
    other j n e = rw (ne_eqb j (length s.tasks) (λ q. omega (arith, q, in_use s j n e)))

-- ---- by service: by the keys before it, and by its own priority for a task that is added

unfoldable pub key_in : (ℕ → ℕ) → Service → State → Call → ℕ → ℕ
key_in key Blank s c = key
key_in key HubRequest s c = key
key_in key Start s c = key
key_in key Stop s c = key
key_in key Suspend s c = key
key_in key Resume s c = key
key_in key Yield s c = key
key_in key Sleep s c = key
key_in key Tick s c = key
key_in key AddTask s c = key_added key c.target s
key_in key AddHub s c = key
key_in key Unknown s c = key

pub order_serve : (key : ℕ → ℕ) (v : Service) (s : State) (c : Call) → Listed s → Ordered key s → Ordered (key_in key v s c) (serve key v s c)
unfolding key_in serve
order_serve key Blank s c l o = order_blank key
order_serve key HubRequest s c l o = order_settle key (verdict s c) c s o
order_serve key Start s c l o = order_grant key _ _ s c (order_start key c.target s o) o
order_serve key Stop s c l o = order_grant key _ _ s c (order_stop key c.target s o) o
order_serve key Suspend s c l o = order_grant key _ _ s c (order_flag key 1 c.target s o) o
order_serve key Resume s c l o = order_grant key _ _ s c (order_flag key 0 c.target s o) o
order_serve key Yield s c l o = order_yield key c.caller s o
order_serve key Sleep s c l o = order_sleep key c.ticks c.caller s o
order_serve key Tick s c l o = order_tick key (length s.tasks) s o
order_serve key AddTask s c l o =
    let a = order_added key c.target s l o in
    cond_case (Ordered (key_added key c.target s)) (eqb c.side 1) _ _
    (λ _. unfold add_started in order_start (key_added key c.target s) (length s.tasks) (add_task c.target s) a)
    (λ _. a)
order_serve key AddHub s c l o = order_add_hub key c s o
order_serve key Unknown s c l o = o
