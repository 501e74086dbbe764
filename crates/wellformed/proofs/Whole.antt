-- The tests of this crate but that of order, taken together, are `exact_in`, in any layout: `passed_exact` and `exact_passed`.
-- Not here: what a walk of a list says (Queues.antt), exact lists by marks (Marks.antt), the order (Ordered.antt). Assumes nothing.
use Prim.Native.Nat.{◌+◌, ◌<◌, ◌≤◌, pred, suc, zero, ℕ}
use Rattle.bodies.specs.Bodies.{Used, body_test, kind_test, owner_of, owner_test, store_test}
use Rattle.lists.proofs.Counting.{occ_most}
use Rattle.lists.proofs.Laws.{bool_case, length-numbers}
use Rattle.lists.specs.Lists.{numbers, occ, packed}
use Rattle.records.specs.Records.{table_size}
use Rattle.rules.proofs.Cases.{and_l, and_r}
use Rattle.rules.proofs.Reading.{read-hub, read-hubs, read-tasks}
use Rattle.rules.proofs.Standing.{listed-ready, listed-waiting, listed-waits}
use Rattle.rules.proofs.Tests.{t_all, t_each, t_is, t_kind, t_may, t_one_side, t_owner, t_records, t_task}
use Rattle.rules.proofs.Written.{Written, written-says}
use Rattle.rules.specs.Table.{Hub, Layout, State, Task, hub, hub_at, hub_word_at, inactive, kind_of, part, read, ready_at, side_of, size, stage_of, store_part, task, wait_part}
use Rattle.rules.specs.WellFormed.{contents_right, fields_right, for_all, hubs_right, kind_right, lists_exact, lists_packed, may_wait, owner_right, owners_right, stage_right, store_right, stores_right, tasks_right, unused_zero, waiters_right, written}
use Rattle.wellformed.proofs.Hubs.{wait-words}
use Rattle.wellformed.proofs.Marks.{Placed, exact_marks, marks_exact, ready_shape}
use Rattle.wellformed.proofs.Ordered.{Exact, exact_says}
use Rattle.wellformed.proofs.Queues.{Entry, Line, Queue, first_in, first-none, may-wait, queue_holds, queue_says, walks-holds, walks-says}
use Rattle.wellformed.specs.Walks.{Marked, Marks, exact_in, hub_right, listed, may, met_at, queue_test, record_right, task_right, walks}
use borrow.Author.Tests.{eq-eqb, eqb-false, eqb-true, leb-true, ltb-false, ltb-true, ne_eqb, not-true}
use lib.Dec.{eqb, leb, ltb}
use lib.ListN.{get_or-eq_default, get_or, length, replicate}
use mathlib.Core.Bool.{Bool, ◌&&◌, false, false≢true, not, true}
use mathlib.Core.List.{List}
use mathlib.Core.Path.{◌∙◌, ◌≡◌, ap, refl, sym}
use native.Mathlib.Omega.{arith}

-- how often task i is met in all lists
abbrev mark_of : Layout → List ℕ → ℕ → ℕ
mark_of L t i = occ i (read L t).ready + met_at (read L t) (get_or t 2 0) i

pub record Passed (L : Layout) (t : List ℕ) : Type 0 where
  pub long : length t ≡ size L
  pub contents : contents_right L t ≡ true
  pub unused : unused_zero L t ≡ true
  pub ready : walks (read L t) 0 0 0 (part (ready_at L) 16 t) ≡ true
  pub hubs : for_all (get_or t 2 0) (hub_right L t) ≡ true
  pub tasks : for_all (get_or t 1 0) (λ i. task_right (read L t) i (mark_of L t i)) ≡ true

-- the counts of such a table
pub contents-used : (L : Layout) (t : List ℕ) {ts : ℕ} → 8 ≤ ts → ts ≤ 9 → length t ≡ table_size ts → contents_right L t ≡ true → Used ts t
unfolding contents_right
contents-used L t low high long e =
    let a = and_r (eqb (get_or t 0 0) L.edition) _ e in
    record {
      low = low;
      high = high;
      long = long;
      tasks = leb-true (get_or t 1 0) 16 (and_l _ _ a);
      hubs = leb-true (get_or t 2 0) 16 (and_l _ _ (and_r (leb (get_or t 1 0) 16) _ a));
    }

-- every number below n, one by one
each_at : (n : ℕ) (p : ℕ → Bool) → for_all n p ≡ true → (i : ℕ) → i < n → p i ≡ true
each_at n p = (t_all (λ i. p i ≡ true) p (λ i. t_is (p i)) n).yes

each_so : (n : ℕ) (p : ℕ → Bool) → ((i : ℕ) → i < n → p i ≡ true) → for_all n p ≡ true
each_so n p = (t_all (λ i. p i ≡ true) p (λ i. t_is (p i)) n).conv

-- ---- what passed is exact

module _ (L : Layout) (t : List ℕ) (p : Passed L t) where
  abbrev s : State
  s = read L t

  queue : Queue s 0 0 0 (part (ready_at L) 16 t)
  queue = walks-says s 0 0 0 (part (ready_at L) 16 t) p.ready

  module _ (h : ℕ) (u : h < get_or t 2 0) where
    right : hub_right L t h ≡ true
    right = each_at (get_or t 2 0) (hub_right L t) p.hubs h u

    body : body_test L t h ≡ true
    unfolding hub_right
    body = and_l _ _ right

    kind-passed : kind_right (kind_of (hub s h).kind) (length s.tasks) (hub s h) ≡ true
    unfolding body_test kind_test
    kind-passed = rw (read-tasks L t) (and_l (kind_test L t h) _ body)

    store_passed : store_right L (kind_of (hub_word_at L t h 0)) (hub_word_at L t h 1) (hub_word_at L t h 2) (store_part L t h) ≡ true
    unfolding body_test hub_at store_test
    store_passed = rw (read-hub L t h u) at (and_l (store_test L t h) _ (and_r (kind_test L t h) _ body))

    line : Line s h (hub s h) (wait_part L t h)
    unfolding hub_right queue_test
    line = queue_says s h (hub s h) (wait_part L t h) (and_r (body_test L t h) _ right)

    owner-passed : owner_right s (hub s h) ≡ true
    unfolding body_test owner_test
    owner-passed = and_r (store_test L t h) _ (and_r (kind_test L t h) _ body)

    waits : (i : ℕ) → 1 ≤ occ i (hub s h).waiters → 1 ≤ occ i (numbers (wait_part L t h))
    waits i o = rw (wait-words L t h u) at o

    may-passed : (i : ℕ) → 1 ≤ occ i (hub s h).waiters → may_wait (side_of (task s i).side) (kind_of (hub s h).kind) (hub s h) i ≡ true
    may-passed i o =
        let g = line.queue.each i (waits i o) in
        let a = may-wait (task s i).side (hub s h).kind (length s.tasks) i (hub s h) ((t_kind (kind_of (hub s h).kind) (length s.tasks) (hub s h)).yes kind-passed) in
        a ∙ rw (g.side, line.allowed i (waits i o), ne_eqb (suc i) (owner_of (hub s h).kind (hub s h).count) g.other)

  task-passed : (i : ℕ) → i < get_or t 1 0 → task_right s i (mark_of L t i) ≡ true
  task-passed i u = each_at (get_or t 1 0) (λ i. task_right s i (mark_of L t i)) p.tasks i u

  tasks-passed : tasks_right s ≡ true
  unfolding record_right task_right tasks_right
  tasks-passed =
      each_so (length s.tasks) _
      (λ i u. let e = task-passed i (rw (read-tasks L t) at u) in
      rw (and_l (fields_right (task s i)) _ e) (and_l _ _ (and_r (fields_right (task s i)) _ e)))

  placed : Placed s
  unfolding read
  placed = record {
    ready = λ i o. let g = queue.each i o in (g.used, g.hub);
    waiters = λ h k i o. let u = rw (read-hubs L t) at k in let g = (line h u).queue.each i (waits h u i o) in (g.used, g.hub);
  }

  lists_passed : lists_exact s ≡ true
  unfolding record_right task_right
  lists_passed =
      marks_exact s ((t_records s).yes tasks-passed) placed
      (λ i u. rw (read-hubs L t) (eqb-true _ _ (and_r (stage_right (stage_of (task s i).state) s (task s i)) _ (and_r (fields_right (task s i)) _ (task-passed i (rw (read-tasks L t) at u))))))

  waiters-passed : waiters_right s ≡ true
  unfolding waiters_right
  waiters-passed =
      each_so (length s.hubs) _
      (λ h k. let u = rw (read-hubs L t) at k in
      rw
      ((t_one_side s (hub s h).waiters).conv (λ i o j r. ((line h u).queue.each i (waits h u i o)).side ∙ sym ((line h u).queue.each j (waits h u j r)).side))
      ((t_each (λ i. may_wait (side_of (task s i).side) (kind_of (hub s h).kind) (hub s h) i ≡ true) _ (λ i. t_is _) (hub s h).waiters).conv (λ i o. may-passed h u i o)))

  hubs-passed : hubs_right s ≡ true
  unfolding hubs_right
  hubs-passed = each_so (length s.hubs) _ (λ h k. kind-passed h (rw (read-hubs L t) at k))

  owners_passed : owners_right s ≡ true
  unfolding owners_right
  owners_passed = each_so (length s.hubs) _ (λ h k. owner-passed h (rw (read-hubs L t) at k))

  written-passed : written L t ≡ true
  unfolding lists_packed stores_right written
  written-passed =
      rw (
        eq-eqb (length t) (size L) p.long,
        p.contents,
        p.unused,
        queue.full,
        each_so (get_or t 2 0) (λ h. packed (wait_part L t h)) (λ h u. (line h u).queue.full),
      )
      (each_so (get_or t 2 0) _ store_passed)

  pub passed_exact : exact_in L t ≡ true
  unfolding exact_in
  passed_exact = rw (written-passed, hubs-passed, lists_passed, tasks-passed, waiters-passed, owners_passed)

-- ---- what is exact passes

-- a task that is ready or waits is in use
in_use : (s : State) (i n : ℕ) → (task s i).state ≡ suc (suc n) → i < length s.tasks
unfolding inactive
in_use s i n e =
    bool_case (ltb i (length s.tasks)) (ltb-true i _)
    (λ b. absurd (omega (arith, e, ap (λ (x : Task). x.state) (get_or-eq_default s.tasks (inactive 0) (ltb-false i (length s.tasks) b)))))

module _ (L : Layout) (t : List ℕ) (e : exact_in L t ≡ true) where
  state : Exact L t
  state = exact_says L t e

  says : Written L t
  says = written-says L t state.wrote

  contents-pass : contents_right L t ≡ true
  unfolding written
  contents-pass = and_l _ _ (and_r (eqb (length t) (size L)) _ state.wrote)

  ready-pass : walks (read L t) 0 0 0 (part (ready_at L) 16 t) ≡ true
  unfolding read
  ready-pass =
      walks-holds (read L t) 0 0 0 (part (ready_at L) 16 t) (record { full = says.ready; each = entry })
    where
      entry : (i : ℕ) → 1 ≤ occ i (read L t).ready → Entry (read L t) 0 0 0 i
      entry i o =
          let two = listed-ready (read L t) state.listed i o in
          let q = ready_shape (read L t) (task (read L t) i) (state.records.each i) two in
          record { used = in_use (read L t) i 0 two; hub = q.0; side = q.1; other = λ z. omega arith }

  module _ (h : ℕ) (u : h < get_or t 2 0) where
    abbrev x : Hub
    x = hub (read L t) h

    kind-pass : kind_right (kind_of x.kind) (length (read L t).tasks) x ≡ true
    kind-pass = (t_kind (kind_of x.kind) (length (read L t).tasks) x).conv (state.ranges h (rw (read-hubs L t) u))

    store_pass : store_right L (kind_of x.kind) x.count x.limit (store_part L t h) ≡ true
    unfolding hub_at
    store_pass = rw (read-hub L t h u) (says.stores h u)

    module _ (i : ℕ) (o : 1 ≤ occ i (numbers (wait_part L t h))) where
      stands : 1 ≤ occ i x.waiters
      stands = rw (wait-words L t h u) o

      may-pass : (may (task (read L t) i).side x.kind x.count x.limit && not (eqb (suc i) (owner_of x.kind x.count))) ≡ true
      may-pass =
          sym (may-wait (task (read L t) i).side x.kind (length (read L t).tasks) i x ((t_kind (kind_of x.kind) (length (read L t).tasks) x).yes kind-pass))
          ∙ (t_may (side_of (task (read L t) i).side) (kind_of x.kind) x i).conv (state.waits.may h i (listed-waiting (read L t) state.listed h i stands))

    abbrev first : ℕ
    first = pred (get_or (wait_part L t h) 0 0)

    same_side : (i : ℕ) → 1 ≤ occ i (numbers (wait_part L t h)) → (task (read L t) i).side ≡ (task (read L t) first).side
    same_side i o =
        state.waits.one_side h i first (listed-waiting (read L t) state.listed h i (stands i o))
        (listed-waiting (read L t) state.listed h first (stands first (first_in (wait_part L t h) (λ z. first-none (wait_part L t h) z i o))))

    line-pass : Line (read L t) h x (wait_part L t h)
    line-pass = record {
      side = (task (read L t) first).side;
      queue = record {
        full = says.waiters h u;
        each = λ i o. let three = listed-waits (read L t) state.listed h i (stands i o) in
            record {
              used = in_use (read L t) i 1 three.0;
              hub = three.1;
              side = same_side i o;
              other = eqb-false _ _ (not-true _ (and_r (may (task (read L t) i).side x.kind x.count x.limit) _ (may-pass i o)));
            };
      };
      allowed = λ i o. rw (same_side i o) at (and_l (may (task (read L t) i).side x.kind x.count x.limit) _ (may-pass i o));
    }

    owner-pass : owner_right (read L t) x ≡ true
    owner-pass = (t_owner (read L t) x).conv (state.owners.active h)

    hub-pass : hub_right L t h ≡ true
    unfolding body_test hub_right kind_test owner_test queue_test store_test
    hub-pass =
        rw (rw (read-tasks L t) at kind-pass, store_pass, owner-pass) (queue_holds (read L t) h x (wait_part L t h) line-pass)

  task-pass : (i : ℕ) → task_right (read L t) i (mark_of L t i) ≡ true
  unfolding record_right task_right
  task-pass i =
      let q = (t_task (read L t) (task (read L t) i)).conv (state.records.each i) in
      let m : mark_of L t i ≡ listed (task (read L t) i).state = rw (read-hubs L t) at (exact_marks (read L t) state.records state.listed i) in
      let a : fields_right (task (read L t) i) ≡ true = and_l _ _ q in
      rw (a, and_r (fields_right (task (read L t) i)) _ q, eq-eqb (mark_of L t i) _ m)

  pub exact_passed : Passed L t
  exact_passed = record {
    long = says.long;
    contents = contents-pass;
    unused = says.unused;
    ready = ready-pass;
    hubs = each_so (get_or t 2 0) (hub_right L t) hub-pass;
    tasks = each_so (get_or t 1 0) (λ i. task_right (read L t) i (mark_of L t i)) (λ i u. task-pass i);
  }

-- ---- a test that exact tables pass, and the last one

pub refused : (L : Layout) (t : List ℕ) (b : Bool) → (exact_in L t ≡ true → b ≡ true) → b ≡ false → false ≡ exact_in L t
refused L t b f e = bool_case (exact_in L t) (λ w. absurd (false≢true (sym e ∙ f w))) (λ w. sym w)

settled : (L : Layout) (t : List ℕ) (b : Bool) → (exact_in L t ≡ true → b ≡ true) → (b ≡ true → exact_in L t ≡ true) → b ≡ exact_in L t
settled L t b f g = bool_case b (λ e. rw (e, g e)) (λ e. rw e (refused L t b f e))

-- the same test of every number
for_all_same : (n : ℕ) (p q : ℕ → Bool) → ((i : ℕ) → p i ≡ q i) → for_all n p ≡ for_all n q
unfolding for_all
for_all_same zero p q f = refl
for_all_same (suc n) p q f = rw (f n, for_all_same n p q f)

-- ---- the marks, from none to all

pub no_marks : (n j : ℕ) → get_or {A = ℕ} (replicate n 0) j 0 ≡ 0
no_marks zero j = refl
no_marks (suc n) zero = refl
no_marks (suc n) (suc j) = no_marks n j

pub ready-marks : {r test : Bool} {m : List ℕ} (l : List ℕ) → Marked r test (λ j. occ j (numbers l)) (replicate 16 0) m → r ≡ true → length l ≡ 16 → Marks 16 m
ready-marks l g e n = record {
  long = g.long;
  low = λ j. omega (arith, g.marks e j, no_marks 16 j, occ_most j (numbers l), length-numbers l);
}

-- all tests but the last have passed, and the last is of the marks that they left
pub whole : (L : Layout) (t : List ℕ) {m n : List ℕ} (a b r : Bool) → length t ≡ size L → contents_right L t ≡ true → unused_zero L t ≡ true
    → Marked a (walks (read L t) 0 0 0 (part (ready_at L) 16 t)) (λ j. occ j (numbers (part (ready_at L) 16 t))) (replicate 16 0) m → a ≡ true
    → Marked b (for_all (get_or t 2 0) (hub_right L t)) (met_at (read L t) (get_or t 2 0)) m n → b ≡ true
    → r ≡ for_all (get_or t 1 0) (λ i. task_right (read L t) i (get_or n i 0)) → r ≡ exact_in L t
unfolding read
whole L t {m} {n} a b r long c z f fa g gb e =
    settled L t r (λ w. same ∙ (exact_passed L t w).tasks)
    (λ o. passed_exact L t (record { long = long; contents = c; unused = z; ready = sym f.right ∙ fa; hubs = sym g.right ∙ gb; tasks = sym same ∙ o }))
  where
    mark : (j : ℕ) → get_or n j 0 ≡ mark_of L t j
    mark j = omega (arith, f.marks fa j, g.marks gb j, no_marks 16 j)

    same : r ≡ for_all (get_or t 1 0) (λ i. task_right (read L t) i (mark_of L t i))
    same =
        e ∙ for_all_same (get_or t 1 0) (λ i. task_right (read L t) i (get_or n i 0)) (λ i. task_right (read L t) i (mark_of L t i)) (λ i. ap (task_right (read L t) i) (mark i))
