-- An effective priority is the smallest own priority among the task and all that wait for it, directly or through others
-- (`effective_means`). In order: a waiter in a list waits for the owner, and the other way round; whoever is found reaches the
-- task (`task-among`); chains of waiting tasks, cut so that nobody stands in one twice, so that none has more than 16 tasks
-- and a ring ends (`short_chain`); whoever reaches the task is found (`chain_finds`); the theorem, and for valid states.
-- Not here: what asking finds, step by step (Least.antt). Assumes nothing.
use Prim.Native.Nat.{◌<◌, ◌≤◌, suc, zero, ℕ}
use Rattle.lists.proofs.Counting.{length_below, occ_tail}
use Rattle.lists.proofs.Laws.{bool_case}
use Rattle.lists.specs.Lists.{occ}
use Rattle.rules.proofs.Cases.{same_or}
use Rattle.rules.proofs.Changes.{in_use}
use Rattle.rules.proofs.Handed.{owned-count, owned-kind}
use Rattle.rules.proofs.Least.{task-from, task-own, task-waiter}
use Rattle.rules.proofs.Standing.{listed-waits, waiting-listed, waiting-used}
use Rattle.rules.proofs.Valid.{Range, Ranges, Sound, Valid}
use Rattle.rules.specs.Effective.{effective, over_task}
use Rattle.rules.specs.Meaning.{Reaches, Smallest, WaitsFor, itself, through}
use Rattle.rules.specs.Table.{Hub, Kind, Resource, State, hub, is_resource, kind_of, no_hub, owns, task}
use Rattle.rules.specs.WellFormed.{waits_for}
use borrow.Author.Tests.{eq-eqb, ltb-false, ltb-true, ne_eqb}
use lib.Dec.{eqb, ltb}
use lib.ListN.{get_or-eq_default, length}
use mathlib.Core.Bool.{true}
use mathlib.Core.List.{List, [], ◌∷◌}
use mathlib.Core.Path.{◌≡◌, ap, refl, subst}
use native.Mathlib.Nat.{le_of_suc-le-suc}
use native.Mathlib.Omega.{arith}

-- "owner below T", the clause of the kinds table that the meaning rests on beside exact lists
pub record OwnersLow (s : State) : Type 0 where
  pub low : (h : ℕ) → kind_of (hub s h).kind ≡ Resource → (hub s h).count ≤ length s.tasks

module _ (s : State) (x : Sound s) where
  -- a waiter of a Resource that i owns waits for i
  pub waits_for_lem : (h i j : ℕ) → owns i (hub s h) ≡ true → 1 ≤ occ j (hub s h).waiters → WaitsFor s j i
  waits_for_lem h i j o w =
      let l = listed-waits s x.listed h j w in record {
        at = h;
        waiting = l.0;
        there = l.1;
        resource = owned-kind i (hub s h) o;
        owned = owned-count i (hub s h) o;
      }

  module _ (j i : ℕ) (w : WaitsFor s j i) where
    waits_there : waits_for s w.at j ≡ true
    waits_there = rw (eq-eqb (task s j).state 3 w.waiting, eq-eqb (task s j).hub (suc w.at) w.there) refl

    pub waiter-listed : 1 ≤ occ j (hub s w.at).waiters
    waiter-listed = waiting-listed s x.listed w.at j waits_there

    pub waiter-used : w.at < length s.hubs
    waiter-used = waiting-used s x.listed w.at j waits_there

    pub waiter-owner : owns i (hub s w.at) ≡ true
    unfolding is_resource owns
    waiter-owner = rw (w.resource, eq-eqb (hub s w.at).count (suc i) w.owned) refl

    waiter-low : j < 16
    waiter-low = omega (arith, x.tasks, in_use s j 1 w.waiting)

  -- ---- whoever is found reaches the task

  pub task-among : (P : ℕ → Type 0) (n i : ℕ) → ((j : ℕ) → Reaches s j i → P (task s j).priority) → (p : ℕ) → P p → P (over_task n s i p)
  task-among P zero i f p b = unfold over_task in b
  task-among P (suc n) i f p b =
      task-from P n s i (f i itself)
      (λ h j q l o w a. task-among P n j (λ k r. f k (through r (waits_for_lem h i j o w))) q a)
      p b

-- ---- chains: the tasks from i down to j, of whom each waits for the one before

data Chain (s : State) (j : ℕ) : ℕ → List ℕ → Type 0 where
  alone : Chain s j j (j ∷ [])
  behind : {k i : ℕ} {l : List ℕ} → Chain s j k l → WaitsFor s k i → Chain s j i (i ∷ l)

-- a chain to i among the tasks of l
record Within (s : State) (j i : ℕ) (l : List ℕ) : Type 0 where
  tasks : List ℕ
  chain : Chain s j i tasks
  fewer : (m : ℕ) → occ m tasks ≤ occ m l

-- a task in a chain ends one, cut off there
cut : (s : State) (j k i : ℕ) (l : List ℕ) → Chain s j k l → 1 ≤ occ i l → Within s j i l
unfolding occ
cut s j k i l (alone) h =
    same_or j i
    (λ e. subst (λ (m : ℕ). Within s j m (j ∷ [])) e (record { tasks = j ∷ []; chain = alone; fewer = λ m. omega arith }))
    (λ n. absurd (omega (arith, occ_tail i j [] n h)))
cut s j k i l (behind {k = k₁} {l = l₁} c w) h =
    same_or k i
    (λ e. subst (λ (m : ℕ). Within s j m (k ∷ l₁)) e (record { tasks = k ∷ l₁; chain = behind c w; fewer = λ m. omega arith }))
    (λ n. let r = cut s j k₁ i l₁ c (occ_tail i k l₁ n h) in
    record { tasks = r.tasks; chain = r.chain; fewer = λ m. omega (arith, r.fewer m) })

-- a chain in which nobody stands twice
record Simple (s : State) (j i : ℕ) : Type 0 where
  tasks : List ℕ
  chain : Chain s j i tasks
  once : (m : ℕ) → occ m tasks ≤ 1

simple : (s : State) (j i : ℕ) → Reaches s j i → Simple s j i
unfolding occ
simple s j i itself = record { tasks = j ∷ []; chain = alone; once = λ m. bool_case (eqb j m) (λ e. rw e (omega arith)) (λ e. rw e (omega arith)) }
simple s j i (through {k = k} r w) =
    let c = simple s j k r in
    bool_case (ltb 0 (occ i c.tasks))
    (λ e. let p = cut s j k i c.tasks c.chain (ltb-true 0 (occ i c.tasks) e) in
    record { tasks = p.tasks; chain = p.chain; once = λ m. omega (arith, p.fewer m, c.once m) })
    (λ e. record {
      tasks = i ∷ c.tasks;
      chain = behind c.chain w;
      once = λ m. same_or i m
          (λ q. rw (eq-eqb i m q) (omega (arith, ltb-false 0 (occ i c.tasks) e, ap (λ (n : ℕ). occ n c.tasks) q)))
          (λ n. rw (ne_eqb i m n) (omega (arith, c.once m)));
    })

-- p is the own priority of somebody among those of i
record Found (s : State) (i p : ℕ) : Type 0 where
  whose : ℕ
  among : Reaches s whose i
  its : p ≡ (task s whose).priority

module _ (s : State) (x : Sound s) where
  -- who waits is one of the sixteen
  chain_low : (j i : ℕ) (l : List ℕ) → Chain s j i l → i < 16 → (m : ℕ) → 1 ≤ occ m l → m < 16
  chain_low j i l (alone) h m w =
      same_or j m (λ e. omega (arith, h, e)) (λ n. absurd (unfold occ in omega (arith, occ_tail m j [] n w)))
  chain_low j i l (behind {k = k} {l = l₁} c u) h m w =
      same_or i m (λ e. omega (arith, h, e)) (λ n. chain_low j k l₁ c (waiter-low s x k i u) m (occ_tail m i l₁ n w))

  -- "to at most 16 tasks deep": so deep a chain in which nobody stands twice goes
  short_chain : OwnersLow s → (j i : ℕ) (l : List ℕ) → Chain s j i l → ((m : ℕ) → occ m l ≤ 1) → length l ≤ 16
  short_chain o j i l (alone) once = omega arith
  short_chain o j i l (behind {k = k} {l = l₁} c w) once =
      let low : i < 16 = omega (arith, x.tasks, o.low w.at w.resource, w.owned) in
      length_below 16 (i ∷ l₁) once (chain_low j i (i ∷ l₁) (behind c w) low)

  -- ---- whoever reaches the task is found

  chain_finds : (j i : ℕ) (l : List ℕ) → Chain s j i l → (n : ℕ) → length l ≤ n → (p : ℕ) → over_task n s i p ≤ (task s j).priority
  chain_finds j i l (alone) zero h p = absurd (omega arith)
  chain_finds j i l (alone) (suc n) h p = task-own n s j p
  chain_finds j i l (behind {k = k} c w) zero h p = absurd (omega arith)
  chain_finds j i l (behind {k = k} {l = l₁} c w) (suc n) h p =
      task-waiter n s i k w.at (task s j).priority (waiter-used s x k i w) (waiter-owner s x k i w) (waiter-listed s x k i w)
      (λ q. chain_finds j k l₁ c n (le_of_suc-le-suc h) q) p

  -- ---- the meaning of an effective priority

  pub effective_means : OwnersLow s → (i : ℕ) → Smallest s i (effective s i)
  unfolding effective
  effective_means o i = record { least = least; whose = found.whose; among = found.among; its = found.its }
    where
      least : (j : ℕ) → Reaches s j i → effective s i ≤ (task s j).priority
      least j r =
          let c = simple s j i r in
          chain_finds j i c.tasks c.chain 16 (short_chain o j i c.tasks c.chain c.once) (task s i).priority

      found : Found s i (effective s i)
      found =
          task-among s x (Found s i) 16 i (λ j r. record { whose = j; among = r; its = refl }) (task s i).priority
          (record { whose = i; among = itself; its = refl })

-- ---- valid states

range-low : (k : Kind) (T : ℕ) (h : Hub) → Range k T h → k ≡ Resource → h.count ≤ T
unfolding Range
range-low k T h r e = (subst (λ (k : Kind). Range k T h) e r).0

pub ranges_low : (s : State) → Ranges s → OwnersLow s
unfolding kind_of no_hub
ranges_low s r = record {
  low = λ h e. bool_case (ltb h (length s.hubs))
      (λ b. range-low (kind_of (hub s h).kind) (length s.tasks) (hub s h) (r.range h (ltb-true h _ b)) e)
      (λ b. rw (get_or-eq_default s.hubs no_hub (ltb-false h (length s.hubs) b)) (omega arith));
}

pub valid_sound : (s : State) → Valid s → Sound s
valid_sound s v = record { tasks = v.tasks; hubs = v.hubs; listed = v.listed }

pub valid_means : (s : State) → Valid s → (i : ℕ) → Smallest s i (effective s i)
valid_means s v = effective_means s (valid_sound s v) (ranges_low s v.ranges)
