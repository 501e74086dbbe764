-- Every accepted call keeps the state valid, and a blank table's state is valid. In order: a valid state but for the order of its
-- lists (`Unsorted`), which every service keeps, and so does whatever leaves records and hubs alone; the key of an added task is
-- its own priority, for nobody waits for it; after the reordering the lists are in order by the effective priorities then
-- (`order_served`); the whole.
use Prim.Native.Nat.{◌+◌, ◌≤◌, suc, ℕ}
use Rattle.lists.proofs.Laws.{bool_case}
use Rattle.rules.proofs.Cases.{cond_case, same_or}
use Rattle.rules.proofs.Changes.{added_same, length-add_task, length-set_task, set_keeps}
use Rattle.rules.proofs.Inherited.{order_after, reordering, service_order, smallest_one}
use Rattle.rules.proofs.Least.{none_urgent}
use Rattle.rules.proofs.Lengths.{hubs-room, length-serve, tasks-room, tasks_after}
use Rattle.rules.proofs.Meaning.{OwnersLow, effective_means, ranges_low}
use Rattle.rules.proofs.Order.{key_in, order_blank, order_serve}
use Rattle.rules.proofs.Owners.{lively_tasks, owners_blank, owners_same, owners_serve}
use Rattle.rules.proofs.Quiet.{quiet_same}
use Rattle.rules.proofs.Reordered.{Kept, kept-task}
use Rattle.rules.proofs.Shapes.{records_blank, records_move, records_serve, words_core}
use Rattle.rules.proofs.Valid.{Listed, Ordered, Owners, Records, Sound, Valid}
use Rattle.rules.proofs.Waiting.{Good, good_blank, good_quiet, good_serve, valid_good}
use Rattle.rules.specs.Calls.{AddHub, AddTask, Blank, HubRequest, Resume, Service, Sleep, Start, Stop, Suspend, Tick, Unknown, Yield, add_started, add_task, blank, key_added, serve, served, service_of, start}
use Rattle.rules.specs.Effective.{effective}
use Rattle.rules.specs.Lists.{join_ready, readied}
use Rattle.rules.specs.Meaning.{Reaches, itself, through}
use Rattle.rules.specs.Refusals.{refusal, refusal_for}
use Rattle.rules.specs.Reorder.{changed, reordered}
use Rattle.rules.specs.Table.{Hub, Resource, State, Task, hub, inactive, kind_of, set_ready, set_task, task}
use Rattle.rules.specs.declared.Call.{Call}
use borrow.Author.Tests.{eq-eqb, eqb-true, ltb-false, ne_eqb, not-false}
use lib.Dec.{eqb, ltb}
use lib.ListN.{length}
use mathlib.Core.Bool.{false}
use mathlib.Core.List.{List, []}
use mathlib.Core.Path.{◌∙◌, ◌≡◌, ap, refl, sym}
use native.Mathlib.Omega.{arith}

-- ---- valid but for the order of lists

pub record Unsorted (s : State) : Type 0 where
  pub tasks : length s.tasks ≤ 16
  pub hubs : length s.hubs ≤ 16
  pub good : Good s
  pub records : Records s
  pub owners : Owners s

pub valid_unsorted : (s : State) → Valid s → Unsorted s
valid_unsorted s v = record { tasks = v.tasks; hubs = v.hubs; good = valid_good s v; records = v.records; owners = v.owners }

module _ (s : State) (g : Unsorted s) where
  pub unsorted_sound : Sound s
  unsorted_sound = record { tasks = g.tasks; hubs = g.hubs; listed = g.good.listed }

  pub unsorted_low : OwnersLow s
  unsorted_low = ranges_low s g.good.ranges

pub unsorted_serve : (key : ℕ → ℕ) (v : Service) (s : State) (c : Call) → Unsorted s → refusal_for v s c ≡ 0 → Unsorted (serve key v s c)
unsorted_serve key v s c g e = record {
  tasks = tasks-room key v s c e g.tasks;
  hubs = hubs-room key v s c e g.hubs;
  good = good_serve key v s c g.good e;
  records = records_serve key v s c g.good.listed g.records e;
  owners = owners_serve key v s c g.good g.owners e;
}

-- the records as they were, and the hubs apart from their lists, in which the same tasks stand
unsorted_kept : (s s' : State) → Kept s s' → Listed s' → Unsorted s → Unsorted s'
unsorted_kept s s' k l g =
    let same = kept-task s s' k in
    record {
      tasks = omega (arith, g.tasks, ap length k.tasks);
      hubs = omega (arith, g.hubs, k.hubs.many);
      good = good_quiet s s' g.good l (quiet_same s s' same) k.hubs (omega (arith, ap length k.tasks));
      records = records_move s s' (words_core s s' k.hubs) k.tasks g.records;
      owners = owners_same s s' g.owners k.hubs (lively_tasks s s' same);
    }

-- ---- the key of an added task is its own priority, and nobody waits for it

-- who owns nothing has its own priority
owns_nothing : (s : State) → Sound s → OwnersLow s → (i : ℕ) → ((h : ℕ) → kind_of (hub s h).kind ≡ Resource → (hub s h).count ≡ suc i → ⊥) → effective s i ≡ (task s i).priority
owns_nothing s x o i none =
    smallest_one s i (effective s i) (task s i).priority (effective_means s x o i)
    (record { least = λ j r. only-itself j i r none; whose = i; among = itself; its = refl })
  where
    only-itself : (j i : ℕ) → Reaches s j i → ((h : ℕ) → kind_of (hub s h).kind ≡ Resource → (hub s h).count ≡ suc i → ⊥) → (task s i).priority ≤ (task s j).priority
    only-itself j i itself none = omega arith
    only-itself j i (through r w) none = absurd (none w.at w.resource w.owned)

-- what an added task leaves as it is, and its own priority
record Adds (p : ℕ) (s s' : State) : Type 0 where
  hubs : s'.hubs ≡ s.hubs
  many : length s'.tasks ≡ length s.tasks + 1
  own : (task s' (length s.tasks)).priority ≡ p

adds : (key : ℕ → ℕ) (s : State) (c : Call) → Adds c.target s (serve key AddTask s c)
unfolding add_started serve
adds key s c = cond_case (Adds c.target s) (eqb c.side 1) _ _ (λ _. started) (λ _. fresh)
  where
    s₁ : State
    s₁ = add_task c.target s

    fresh : Adds c.target s s₁
    fresh = record {
      hubs = unfold add_task in refl;
      many = length-add_task c.target s;
      own = ap (λ (t : Task). t.priority) (added_same c.target s) ∙ unfold inactive in refl;
    }

    started : Adds c.target s (start (key_added key c.target s) (length s.tasks) s₁)
    started = unfold join_ready set_ready start in record {
      hubs = unfold add_task set_task in refl;
      many = length-set_task s₁ (length s.tasks) _ ∙ fresh.many;
      own = set_keeps s₁ (length s.tasks) (readied 0 0 (task s₁ (length s.tasks))) (λ (t : Task). t.priority) (unfold readied in refl) (length s.tasks) ∙ fresh.own;
    }

-- ---- the call

module _ (s : State) (c : Call) (v : Valid s) where
  -- a service that adds no task
  order_same : (w : Service) → tasks_after w (length s.tasks) ≤ length s.tasks → refusal_for w s c ≡ 0 → Ordered (effective s) (serve (effective s) w s c)
      → Ordered (effective (reordered s (serve (effective s) w s c))) (reordered s (serve (effective s) w s c))
  order_same w few e o =
      let g = unsorted_serve (effective s) w s c (valid_unsorted s v) e in
      service_order s (serve (effective s) w s c) (unsorted_sound _ g) (unsorted_low _ g) (omega (arith, length-serve (effective s) w s c)) o

  order_more : refusal_for AddTask s c ≡ 0 → Ordered (key_added (effective s) c.target s) (serve (effective s) AddTask s c)
      → Ordered (effective (reordered s (serve (effective s) AddTask s c))) (reordered s (serve (effective s) AddTask s c))
  order_more e o = order_after s s' x w (key_added (effective s) c.target s) key o
    where
      T : ℕ
      T = length s.tasks

      s' : State
      s' = serve (effective s) AddTask s c

      g : Unsorted s'
      g = unsorted_serve (effective s) AddTask s c (valid_unsorted s v) e

      x : Sound s'
      x = unsorted_sound s' g

      w : OwnersLow s'
      w = unsorted_low s' g

      a : Adds c.target s s'
      a = adds (effective s) s c

      old : OwnersLow s
      old = ranges_low s v.ranges

      same : (h : ℕ) → hub s' h ≡ hub s h
      same h = ap (λ (l : List Hub). hub (record { tasks = []; hubs = l; ready = [] }) h) a.hubs

      own : effective s' T ≡ c.target
      own =
          owns_nothing s' x w T
          (λ h r n. omega (arith, old.low h (ap (λ (y : Hub). kind_of y.kind) (sym (same h)) ∙ r), ap (λ (y : Hub). y.count) (same h), n))
          ∙ a.own

      key : (j : ℕ) → changed s s' j ≡ false → effective s' j ≡ key_added (effective s) c.target s j
      key j f =
          same_or j T
          (λ q. rw (eq-eqb j T q) (ap (effective s') q ∙ own))
          (λ q. rw (ne_eqb j T q) (bool_case (ltb j T)
          (λ b. sym (eqb-true (effective s j) (effective s' j) (not-false _ (rw b at f))))
          (λ b. let h : T ≤ j = ltb-false j T b in none_urgent s' j (omega (arith, a.many)) ∙ sym (none_urgent s j h))))

  order_served : (w : Service) → refusal_for w s c ≡ 0
      → Ordered (effective (reordered s (serve (effective s) w s c))) (reordered s (serve (effective s) w s c))
  unfolding key_in tasks_after
  order_served w e = by w e (order_serve (effective s) w s c v.listed v.ordered)
    where
      by : (w : Service) → refusal_for w s c ≡ 0 → Ordered (key_in (effective s) w s c) (serve (effective s) w s c)
          → Ordered (effective (reordered s (serve (effective s) w s c))) (reordered s (serve (effective s) w s c))
      by Blank e o = order_same Blank (omega arith) e o
      by HubRequest e o = order_same HubRequest (omega arith) e o
      by Start e o = order_same Start (omega arith) e o
      by Stop e o = order_same Stop (omega arith) e o
      by Suspend e o = order_same Suspend (omega arith) e o
      by Resume e o = order_same Resume (omega arith) e o
      by Yield e o = order_same Yield (omega arith) e o
      by Sleep e o = order_same Sleep (omega arith) e o
      by Tick e o = order_same Tick (omega arith) e o
      by AddTask e o = order_more e o
      by AddHub e o = order_same AddHub (omega arith) e o
      by Unknown e o = order_same Unknown (omega arith) e o

-- ---- every accepted call keeps a valid state valid

pub valid-served : (s : State) (c : Call) → Valid s → refusal s c ≡ 0 → Valid (served s c)
unfolding refusal served
valid-served s c v e =
    let w = service_of c.service in
    let g = unsorted_serve (effective s) w s c (valid_unsorted s v) e in
    let r = reordering s (serve (effective s) w s c) (unsorted_sound _ g) (unsorted_low _ g) in
    let k = unsorted_kept (serve (effective s) w s c) (reordered s (serve (effective s) w s c)) r.kept r.listed g in
    record {
      tasks = k.tasks;
      hubs = k.hubs;
      listed = k.good.listed;
      ordered = order_served s c v w e;
      records = k.records;
      waits = k.good.waits;
      ranges = k.good.ranges;
      owners = k.owners;
    }

pub valid-blank : Valid blank
valid-blank = record {
  tasks = unfold blank in (omega arith);
  hubs = unfold blank in (omega arith);
  listed = good_blank.listed;
  ordered = order_blank (effective blank);
  records = records_blank;
  waits = good_blank.waits;
  ranges = good_blank.ranges;
  owners = owners_blank;
}
