-- A valid state has room in a table: its lists have at most as many entries as there are tasks, and its stores at most 8
-- words. In a sound state each task stands where its record says, at most once (`sound_stands`).
-- Not here: that a list in which each number stands at most once is that short (lists, Counting).
use Prim.Native.Nat.{◌≤◌, ℕ}
use Rattle.lists.proofs.Counting.{length_below}
use Rattle.lists.proofs.Laws.{bool_case}
use Rattle.lists.specs.Lists.{bit, occ}
use Rattle.rules.proofs.Changes.{in_use}
use Rattle.rules.proofs.Standing.{listed-ready, listed-waits}
use Rattle.rules.proofs.Valid.{Held, Listed, Range, Room, Sound, Stands, Valid}
use Rattle.rules.specs.Table.{Board, Event, Fifo, Hub, Kind, Memory, NoKind, Port, Resource, Semaphore, State, hub, kind_of, no_hub, stored}
use Rattle.rules.specs.WellFormed.{is_ready, waits_for}
use borrow.Author.Tests.{ltb-false, ltb-true}
use lib.Dec.{ltb}
use lib.ListN.{get_or-eq_default, length}
use mathlib.Core.Bool.{Bool, false, true}
use native.Mathlib.Omega.{arith}

bit_le : (b : Bool) → bit b ≤ 1
bit_le true = omega arith
bit_le false = omega arith

-- ---- lists that hold exactly the tasks that their records say have room for them all

module _ (s : State) (l : Listed s) where
  pub ready-once : (i : ℕ) → occ i s.ready ≤ 1
  ready-once i = rw (l.ready i) (bit_le (is_ready s i))

  pub waits-once : (h i : ℕ) → occ i (hub s h).waiters ≤ 1
  waits-once h i = rw (l.waiters h i) (bit_le (waits_for s h i))

  pub ready-room : length s.ready ≤ length s.tasks
  ready-room = length_below (length s.tasks) s.ready ready-once (λ i h. in_use s i 0 (listed-ready s l i h))

  pub waiters-room : (h : ℕ) → length (hub s h).waiters ≤ length s.tasks
  waiters-room h = length_below (length s.tasks) (hub s h).waiters (waits-once h) (λ i k. in_use s i 1 (listed-waits s l h i k).0)

-- ---- one task, of the others nothing

pub sound_stands : (s : State) → Sound s → (i : ℕ) → Stands i s
sound_stands s g i = record {
  tasks = g.tasks;
  hubs = g.hubs;
  ready = omega (arith, g.tasks, ready-room s g.listed);
  waiters = λ h. omega (arith, g.tasks, waiters-room s g.listed h);
  in_ready = g.listed.ready i;
  at_hub = λ h. g.listed.waiters h i;
}

module _ (i : ℕ) (s : State) (g : Stands i s) where
  pub stands-ready-once : occ i s.ready ≤ 1
  stands-ready-once = rw g.in_ready (bit_le (is_ready s i))

  pub stands-waits-once : (h : ℕ) → occ i (hub s h).waiters ≤ 1
  stands-waits-once h = rw (g.at_hub h) (bit_le (waits_for s h i))

-- ---- the parts of a valid state

-- how many messages a hub holds, by its record
pub stored_le : (k : Kind) (T : ℕ) (h : Hub) → Range k T h → stored k h.count h.limit ≤ 8
unfolding Range stored
stored_le NoKind T h r = absurd r
stored_le Event T h r = omega arith
stored_le Semaphore T h r = omega arith
stored_le Port T h r = omega arith
stored_le Fifo T h r = omega (arith, r.0, r.2)
stored_le Resource T h r = omega arith
stored_le Board T h r = omega (arith, r.0)
stored_le Memory T h r = r.1

pub store_le : (k : Kind) (T : ℕ) (h : Hub) → Range k T h → Held k h → length h.held ≤ 8
unfolding Held
store_le k T h r e = omega (arith, stored_le k T h r, e)

pub valid-room : (s : State) → Valid s → Room s
valid-room s g = record {
  tasks = g.tasks;
  hubs = g.hubs;
  ready = omega (arith, g.tasks, ready-room s g.listed);
  waiters = λ h. omega (arith, g.tasks, waiters-room s g.listed h);
  held = g.ranges.held;
  stores = stores;
}
  where
    stores : (h : ℕ) → length (hub s h).held ≤ 8
    stores h =
        bool_case (ltb h (length s.hubs))
        (λ b. let n = ltb-true h _ b in store_le (kind_of (hub s h).kind) _ (hub s h) (g.ranges.range h n) (g.ranges.held h n))
        (λ b. rw (get_or-eq_default s.hubs no_hub (ltb-false h _ b)) (unfold no_hub in omega arith))
