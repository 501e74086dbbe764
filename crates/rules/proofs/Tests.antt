-- The tests of specs/WellFormed.antt say what Valid.antt states: a test and what it tests (`Tests`), put together by and,
-- or, not, for all; then each clause in the order of the definitions; then the whole, in both directions.
use Prim.Native.Nat.{◌<◌, ◌≤◌, pred, suc, zero, zero-le, ℕ}
use Rattle.lists.proofs.Counting.{occ_here, occ_tail}
use Rattle.lists.proofs.Laws.{bool_case}
use Rattle.lists.specs.Lists.{bit, occ}
use Rattle.rules.proofs.Cases.{and_l, and_r, same_or}
use Rattle.rules.proofs.Shapes.{ok_inactive, shape_at}
use Rattle.rules.proofs.Standing.{listed-waiting, waiting-listed, waiting-used}
use Rattle.rules.proofs.Valid.{Below, Fits, GetWaits, Listed, MayWait, Ordered, Owners, PutWaits, Range, Records, Shape, Sorted, TaskOk, Valid, Waits}
use Rattle.rules.specs.Effective.{effective}
use Rattle.rules.specs.Table.{Board, Event, Fifo, Get, Hub, Inactive, Kind, Memory, NoKind, NoSide, NoStage, Port, Put, Ready, Resource, Semaphore, Side, Sleeping, Stage, State, Task, Waiting, Wipe, hub, inactive, is_resource, kind_of, no_hub, owns, side_of, stage_of, task}
use Rattle.rules.specs.WellFormed.{bears_word, every, exactly, fields_right, for_all, hubs_right, in_order, in_order_by, is_ready, kind_right, lists_exact, may_wait, one_side, owner_right, owners_right, rising, stage_right, tasks_right, valid, waiters_right, waits_for, within}
use Rattle.std.proofs.lemmas.List.FromFn.{get_or-range_with_len, length-range_with_len}
use Rattle.std.specs.Bool.{MatchBool}
use Rattle.std.specs.List.{AllWithin, HoldsAt, range_with_len}
use borrow.Author.Tests.{eq-eqb, eqb-false, eqb-true, le-leb, leb-true, lt-ltb, ltb-false, ltb-true, ne_eqb}
use lib.Dec.{eqb, leb, ltb}
use lib.ListN.{get_or-eq_default, get_or, length}
use mathlib.Core.Bool.{Bool, ◌&&◌, ◌||◌, false, false≢true, not, true}
use mathlib.Core.List.{List, [], ◌∷◌}
use mathlib.Core.Logic.{◌≢◌}
use mathlib.Core.Path.{◌∙◌, ◌≡◌, ap, refl, subst, sym}
use native.Mathlib.Omega.{arith}

-- ---- a test, and what it tests

pub record Tests (b : Bool) (P : Type 0) : Type 0 where
  pub yes : b ≡ true → P
  pub conv : P → b ≡ true

pub t_iff : {P Q : Type 0} (b : Bool) → Tests b P → (P → Q) → (Q → P) → Tests b Q
t_iff b t f g = record { yes = λ e. f (t.yes e); conv = λ q. t.conv (g q) }

pub t_and : {P Q : Type 0} (a b : Bool) → Tests a P → Tests b Q → Tests (a && b) (P × Q)
t_and a b s t = record { yes = λ e. (s.yes (and_l a b e), t.yes (and_r a b e)); conv = λ p. rw (s.conv p.0, t.conv p.1) refl }

pub t_not : {P : Type 0} (a : Bool) → Tests a P → Tests (not a) (P → ⊥)
t_not true s = record { yes = λ e. absurd (false≢true e); conv = λ f. absurd (f (s.yes refl)) }
t_not false s = record { yes = λ e p. false≢true (s.conv p); conv = λ f. refl }

-- a or b: b unless a; a unless b
pub t_or : {P Q : Type 0} (a b : Bool) → Tests a P → Tests b Q → Tests (a || b) ((P → ⊥) → Q)
t_or true b s t = record { yes = λ e n. absurd (n (s.yes refl)); conv = λ f. refl }
t_or false b s t = record { yes = λ e n. t.yes e; conv = λ f. t.conv (f (λ p. false≢true (s.conv p))) }

pub t_unless : {P Q : Type 0} (a b : Bool) → Tests a P → Tests b Q → Tests (a || b) ((Q → ⊥) → P)
t_unless true b s t = record { yes = λ e n. s.yes refl; conv = λ f. refl }
t_unless false true s t = record { yes = λ e n. absurd (n (t.yes refl)); conv = λ f. refl }
t_unless false false s t = record { yes = λ e. absurd (false≢true e); conv = λ f. s.conv (f (λ q. false≢true (t.conv q))) }

pub t_is : (b : Bool) → Tests b (b ≡ true)
t_is b = record { yes = λ e. e; conv = λ e. e }

pub t_eq : (m n : ℕ) → Tests (eqb m n) (m ≡ n)
t_eq m n = record { yes = eqb-true m n; conv = eq-eqb m n }

pub t_le : (m n : ℕ) → Tests (leb m n) (m ≤ n)
t_le m n = record { yes = leb-true m n; conv = le-leb m n }

pub t_lt : (m n : ℕ) → Tests (ltb m n) (m < n)
t_lt m n = record { yes = ltb-true m n; conv = lt-ltb m n }

pub t_within : (lo hi n : ℕ) → Tests (within lo hi n) ((lo ≤ n) × (n ≤ hi))
t_within lo hi n = t_and _ _ (t_le lo n) (t_le n hi)

pub t_true : Tests true (Unit {0})
t_true = record { yes = λ e. tt; conv = λ p. refl }

pub t_false : Tests false ⊥
t_false = record { yes = λ e. false≢true e; conv = λ p. absurd p }

-- every number below n
pub t_all : (P : ℕ → Type 0) (p : ℕ → Bool) → ((i : ℕ) → Tests (p i) (P i)) → (n : ℕ) → Tests (for_all n p) ((i : ℕ) → i < n → P i)
unfolding for_all
t_all P p t zero = record { yes = λ e i h. absurd (omega arith); conv = λ f. refl }
t_all P p t (suc n) =
    t_iff (p n && for_all n p) (t_and (p n) (for_all n p) (t n) (t_all P p t n))
    (λ q i h. same_or i n (λ e. subst P (sym e) q.0) (λ d. q.1 i (omega arith)))
    (λ f. (f n (omega arith), λ i h. f i (omega arith)))

-- every number below n passes
pub t_below_all : (p : ℕ → Bool) (n : ℕ) → Tests (for_all n p) ((i : ℕ) → i < n → p i ≡ true)
t_below_all p n = t_all (λ i. p i ≡ true) p (λ i. t_is (p i)) n

-- what `all` says of the numbers below n
number_at : (n i : ℕ) → i < n → get_or (range_with_len 0 n) i 0 ≡ i
number_at n i l = get_or-range_with_len 0 n i 0 l ∙ omega arith

pub every_number : (p : ℕ → Bool) (n : ℕ) (r : Bool)
    → MatchBool r (AllWithin (λ h. h < n → p h ≡ true) (range_with_len 0 n) 0 (length (range_with_len 0 n)))
    ((k : ℕ) × (k < length (range_with_len 0 n)) × HoldsAt (λ h. h < n → p h ≡ false) (range_with_len 0 n) k)
    → r ≡ for_all n p
every_number p n true all =
    sym ((t_below_all p n).conv (λ i l. (rw (number_at n i l) at (all i 0 zero-le (omega (arith, length-range_with_len 0 n)))) l))
every_number p n false (k, l, fails) =
    let inside : k < n = omega (arith, length-range_with_len 0 n) in
    let here : p k ≡ false = (rw (number_at n k inside) at (fails 0)) inside in
    bool_case (for_all n p) (λ b. absurd (false≢true (sym here ∙ (t_below_all p n).yes b k inside))) (λ b. sym b)

-- every entry of a list
pub t_each : (P : ℕ → Type 0) (p : ℕ → Bool) → ((i : ℕ) → Tests (p i) (P i)) → (l : List ℕ) → Tests (every p l) ((i : ℕ) → 1 ≤ occ i l → P i)
unfolding every occ
t_each P p t [] = record { yes = λ e i h. absurd (omega arith); conv = λ f. refl }
t_each P p t (x ∷ xs) =
    t_iff (p x && every p xs) (t_and (p x) (every p xs) (t x) (t_each P p t xs))
    (λ q i h. same_or x i (λ e. subst P e q.0) (λ n. q.1 i (occ_tail i x xs n h)))
    (λ f. (f x (occ_here x xs), λ i h. f i (omega arith)))

-- just the numbers that pass a test stand in the list, each once, where none from T on passes it
pub t_exactly : (T : ℕ) (p : ℕ → Bool) → ((i : ℕ) → T ≤ i → p i ≡ false) → (l : List ℕ) → Tests (exactly T p l) ((i : ℕ) → occ i l ≡ bit (p i))
unfolding exactly
t_exactly T p out l =
    t_iff _ (t_and _ _ (t_all _ _ (λ i. t_eq (occ i l) (bit (p i))) T) (t_each (λ i. i < T) (λ i. ltb i T) (λ i. t_lt i T) l))
    (λ q i. bool_case (ltb i T) (λ b. q.0 i (ltb-true i T b)) (λ b. let h : T ≤ i = ltb-false i T b in rw (out i h) (absent i h (q.1 i))))
    (λ f. (
      λ i h. f i,
      λ i h. bool_case (ltb i T) (ltb-true i T) (λ b. absurd (omega (arith, f i ∙ ap bit (out i (ltb-false i T b))))),
    ))
  where
    absent : (i : ℕ) → T ≤ i → (1 ≤ occ i l → i < T) → occ i l ≡ 0
    absent i h f =
        bool_case (eqb (occ i l) 0) (eqb-true _ 0) (λ b. let n : occ i l ≢ 0 = eqb-false (occ i l) 0 b in absurd (omega (arith, f (omega arith))))

-- ---- the kinds table

pub t_kind : (k : Kind) (T : ℕ) (h : Hub) → Tests (kind_right k T h) (Range k T h)
unfolding Range kind_right
t_kind NoKind T h = t_false
t_kind Event T h =
    t_iff _ (t_and _ _ (t_le _ 1) (t_and _ _ (t_eq _ 1) (t_eq _ 0))) (λ q. (q.0, q.1.0, q.1.1)) (λ q. (q.0, (q.1, q.2)))
t_kind Semaphore T h =
    t_iff _ (t_and _ _ (t_le _ _) (t_and _ _ (t_within 1 65535 h.limit) (t_le _ _)))
    (λ q. (q.0, q.1.0.0, q.1.0.1, q.1.1))
    (λ q. (q.0, ((q.1, q.2), q.3)))
t_kind Port T h =
    t_iff _ (t_and _ _ (t_eq _ 0) (t_and _ _ (t_eq _ 0) (t_eq _ 0))) (λ q. (q.0, q.1.0, q.1.1)) (λ q. (q.0, (q.1, q.2)))
t_kind Fifo T h =
    t_iff _ (t_and _ _ (t_le _ _) (t_and _ _ (t_within 1 8 h.limit) (t_eq _ 0)))
    (λ q. (q.0, q.1.0.0, q.1.0.1, q.1.1))
    (λ q. (q.0, ((q.1, q.2), q.3)))
t_kind Resource T h =
    t_iff _ (t_and _ _ (t_le _ T) (t_and _ _ (t_eq _ 1) (t_eq _ 0))) (λ q. (q.0, q.1.0, q.1.1)) (λ q. (q.0, (q.1, q.2)))
t_kind Board T h =
    t_iff _ (t_and _ _ (t_le _ 1) (t_and _ _ (t_eq _ 1) (t_eq _ 0))) (λ q. (q.0, q.1.0, q.1.1)) (λ q. (q.0, (q.1, q.2)))
t_kind Memory T h =
    t_iff _
    (t_and _ _ (t_within 1 8 h.limit) (t_and _ _ (t_eq _ _)
    (t_and _ _ (t_all (λ b. get_or h.held b 0 ≤ 1) _ (λ b. t_le (get_or h.held b 0) 1) h.limit) (t_eq _ _))))
    (λ q. (q.0.0, q.0.1, q.1.0, q.1.1.0, q.1.1.1))
    (λ q. ((q.0, q.1), (q.2, (q.3, q.4))))

pub t_hubs : (s : State) → Tests (hubs_right s) ((h : ℕ) → h < length s.hubs → Range (kind_of (hub s h).kind) (length s.tasks) (hub s h))
unfolding hubs_right
t_hubs s = t_all _ _ (λ h. t_kind (kind_of (hub s h).kind) (length s.tasks) (hub s h)) (length s.hubs)

-- ---- the lists

-- past the end no task is ready, and none waits
not-used : (s : State) (n i : ℕ) → length s.tasks ≤ i → eqb (task s i).state (suc (suc n)) ≡ false
unfolding inactive
not-used s n i h =
    ne_eqb (task s i).state (suc (suc n)) (λ e. omega (arith, e, ap (λ (t : Task). t.state) (get_or-eq_default s.tasks (inactive 0) h)))

none-listed : (s : State) (h i : ℕ) → length s.hubs ≤ h → occ i (hub s h).waiters ≡ 0
unfolding no_hub occ
none-listed s h i l = ap (λ (x : Hub). occ i x.waiters) (get_or-eq_default s.hubs no_hub l)

none-waiting : (s : State) → Records s → (h i : ℕ) → length s.hubs ≤ h → waits_for s h i ≡ false
unfolding Shape stage_of
none-waiting s r h i l =
    bool_case (waits_for s h i)
    (λ b. absurd (omega (
      arith,
      (shape_at s (task s i) 3 (r.each i) (eqb-true _ 3 (and_l _ _ b))).1,
      eqb-true (task s i).hub (suc h) (and_r (eqb (task s i).state 3) _ b),
    )))
    (λ b. b)

pub t_lists : (s : State) → Records s → Tests (lists_exact s) (Listed s)
unfolding lists_exact
t_lists s r =
    t_iff _
    (t_and _ _ (t_exactly T (is_ready s) (λ i h. not-used s 0 i h) s.ready)
    (t_all _ _ (λ h. t_exactly T (waits_for s h) (λ i k. rw (not-used s 1 i k) refl) (hub s h).waiters) (length s.hubs)))
    (λ q. record {
      ready = q.0;
      waiters = λ h i. bool_case (ltb h (length s.hubs))
          (λ b. q.1 h (ltb-true _ _ b) i)
          (λ b. none-listed s h i (ltb-false _ _ b) ∙ sym (ap bit (none-waiting s r h i (ltb-false _ _ b))));
    })
    (λ l. (l.ready, λ h k i. l.waiters h i))
  where
    T : ℕ
    T = length s.tasks

-- ---- order

pub t_below : (key : ℕ → ℕ) (n : ℕ) (l : List ℕ) → Tests (every (λ y. leb n (key y)) l) (Below key n l)
unfolding Below every
t_below key n [] = t_true
t_below key n (x ∷ xs) = t_and _ _ (t_le n (key x)) (t_below key n xs)

pub t_sorted : (key : ℕ → ℕ) (l : List ℕ) → Tests (rising key l) (Sorted key l)
unfolding Sorted rising
t_sorted key [] = t_true
t_sorted key (x ∷ xs) = t_and _ _ (t_below key (key x) xs) (t_sorted key xs)

pub t_order : (key : ℕ → ℕ) (s : State) → Tests (in_order_by key s) (Ordered key s)
unfolding in_order_by
t_order key s =
    t_iff _
    (t_and _ _ (t_sorted key s.ready)
    (t_all (λ h. Sorted key (hub s h).waiters) _ (λ h. t_sorted key (hub s h).waiters) (length s.hubs)))
    (λ q. record {
      ready = q.0;
      waiters = λ h. bool_case (ltb h (length s.hubs))
          (λ b. q.1 h (ltb-true _ _ b))
          (λ b. rw (get_or-eq_default s.hubs no_hub (ltb-false h (length s.hubs) b)) (unfold Sorted no_hub in tt));
    })
    (λ o. (o.ready, λ h k. o.waiters h))

-- ---- the task records

pub t_stage : (g : Stage) (s : State) (t : Task) → Tests (stage_right g s t) (Shape g s t)
unfolding Shape stage_right
t_stage NoStage s t = t_false
t_stage Inactive s t =
    t_iff _ (t_and _ _ (t_eq _ 0) (t_and _ _ (t_eq _ 0) (t_and _ _ (t_eq _ 0) (t_and _ _ (t_eq _ 0) (t_and _ _ (t_eq _ 0) (t_eq _ 0))))))
    (λ q. (q.0, q.1.0, q.1.1.0, q.1.1.1.0, q.1.1.1.1.0, q.1.1.1.1.1))
    (λ q. (q.0, (q.1, (q.2, (q.3, (q.4, q.5))))))
t_stage Ready s t =
    t_iff _ (t_and _ _ (t_eq _ 0) (t_and _ _ (t_eq _ 0) (t_and _ _ (t_eq _ 0) (t_or _ _ (t_eq t.answer 1) (t_eq t.word 0)))))
    (λ q. (q.0, q.1.0, q.1.1.0, q.1.1.1))
    (λ q. (q.0, (q.1, (q.2, q.3))))
t_stage Waiting s t =
    t_iff _
    (t_and _ _ (t_within 1 (length s.hubs) t.hub)
    (t_and _ _ (t_within 1 2 t.side)
    (t_and _ _ (t_eq _ 0)
    (t_unless _ _ (t_and _ _ (t_eq t.side 1) (t_is (bears_word (kind_of (hub s (pred t.hub)).kind)))) (t_eq t.word 0)))))
    (λ q. (q.0.0, q.0.1, q.1.0.0, q.1.0.1, q.1.1.0, q.1.1.1))
    (λ q. ((q.0, q.1), ((q.2, q.3), (q.4, q.5))))
t_stage Sleeping s t =
    t_iff _ (t_and _ _ (t_eq _ 0) (t_and _ _ (t_eq _ 0) (t_and _ _ (t_eq _ 0) (t_and _ _ (t_eq _ 0) (t_le 1 _)))))
    (λ q. (q.0, q.1.0, q.1.1.0, q.1.1.1.0, q.1.1.1.1))
    (λ q. (q.0, (q.1, (q.2, (q.3, q.4)))))

pub t_task : (s : State) (t : Task) → Tests (fields_right t && stage_right (stage_of t.state) s t) (TaskOk s t)
unfolding fields_right
t_task s t =
    t_iff _ (t_and _ _ (t_and _ _ (t_le _ 1) (t_and _ _ (t_le _ 255) (t_and _ _ (t_le _ 1000000) (t_le _ 3)))) (t_stage (stage_of t.state) s t))
    (λ q. record { suspended = q.0.0; priority = q.0.1.0; ticks = q.0.1.1.0; answer = q.0.1.1.1; shape = q.1 })
    (λ q. ((q.suspended, (q.priority, (q.ticks, q.answer))), q.shape))

pub t_records : (s : State) → Tests (tasks_right s) (Records s)
unfolding tasks_right
t_records s =
    t_iff _ (t_all (λ i. TaskOk s (task s i)) _ (λ i. t_task s (task s i)) (length s.tasks))
    (λ q. record {
      each = λ i. bool_case (ltb i (length s.tasks))
          (λ b. q i (ltb-true _ _ b))
          (λ b. rw (get_or-eq_default s.tasks (inactive 0) (ltb-false i (length s.tasks) b)) (ok_inactive s 0 (omega arith)));
    })
    (λ r i h. r.each i)

-- ---- who may wait

pub t_may : (d : Side) (k : Kind) (h : Hub) (i : ℕ) → Tests (may_wait d k h i) (MayWait d k h i)
unfolding GetWaits MayWait PutWaits may_wait
t_may NoSide k h i = t_false
t_may Put NoKind h i = t_false
t_may Put Event h i = t_eq _ _
t_may Put Semaphore h i = t_eq _ _
t_may Put Port h i = t_true
t_may Put Fifo h i = t_eq _ _
t_may Put Resource h i = t_false
t_may Put Board h i = t_false
t_may Put Memory h i = t_false
t_may Get NoKind h i = t_false
t_may Get Event h i = t_eq _ _
t_may Get Semaphore h i = t_eq _ _
t_may Get Port h i = t_true
t_may Get Fifo h i = t_eq _ _
t_may Get Resource h i = t_and _ _ (t_not _ (t_eq _ _)) (t_not _ (t_eq _ _))
t_may Get Board h i = t_eq _ _
t_may Get Memory h i = t_eq _ _
t_may Wipe k h i = t_false

pub t_one_side : (s : State) (l : List ℕ) → Tests (one_side s l) ((i : ℕ) → 1 ≤ occ i l → (j : ℕ) → 1 ≤ occ j l → (task s i).side ≡ (task s j).side)
unfolding one_side
t_one_side s l = t_each _ _ (λ i. t_each (λ j. (task s i).side ≡ (task s j).side) _ (λ j. t_eq (task s i).side (task s j).side) l) l

pub t_waits : (s : State) → Listed s → Tests (waiters_right s) (Waits s)
unfolding waiters_right
t_waits s l =
    t_iff _
    (t_all _ _ (λ h. t_and _ _ (t_one_side s (hub s h).waiters)
    (t_each _ _ (λ i. t_may (side_of (task s i).side) (kind_of (hub s h).kind) (hub s h) i) (hub s h).waiters)) (length s.hubs))
    (λ q. record {
      may = λ h i w. (q h (waiting-used s l h i w)).1 i (waiting-listed s l h i w);
      one_side = λ h i j w u. (q h (waiting-used s l h i w)).0 i (waiting-listed s l h i w) j (waiting-listed s l h j u);
    })
    (λ m h k. (λ i o j p. m.one_side h i j (listed-waiting s l h i o) (listed-waiting s l h j p), λ i o. m.may h i (listed-waiting s l h i o)))

-- ---- owners

-- not a hub that is owned by an inactive task
pub t_owner : (s : State) (x : Hub) → Tests (owner_right s x) ((i : ℕ) → owns i x ≡ true → (task s i).state ≢ 1)
unfolding owner_right owns
t_owner s x =
    t_iff _ (t_not _ (t_and _ _ (t_is (is_resource (kind_of x.kind))) (t_and _ _ (t_not _ (t_eq x.count 0)) (t_eq (task s (pred x.count)).state 1))))
    (λ q i o z. let e : x.count ≡ suc i = eqb-true _ _ (and_r (is_resource (kind_of x.kind)) _ o) in
    q (and_l _ _ o, (λ w. omega (arith, e, w), rw e z)))
    (λ f p. f (pred x.count) (rw p.0 (eq-eqb x.count (suc (pred x.count)) (let n : x.count ≢ 0 = p.1.0 in omega arith))) p.1.1)

no_hub-owned : (i : ℕ) → owns i no_hub ≡ false
unfolding is_resource kind_of no_hub owns
no_hub-owned i = refl

pub t_owners : (s : State) → Tests (owners_right s) (Owners s)
unfolding owners_right
t_owners s =
    t_iff _ (t_all _ _ (λ h. t_owner s (hub s h)) (length s.hubs))
    (λ q. record {
      active = λ h i. bool_case (ltb h (length s.hubs))
          (λ b. q h (ltb-true _ _ b) i)
          (λ b. rw (get_or-eq_default s.hubs no_hub (ltb-false h (length s.hubs) b)) (λ o. absurd (false≢true (sym (no_hub-owned i) ∙ o))));
    })
    (λ a h k. a.active h)

-- ---- the whole

pub tested : (s : State) → Fits s → valid s ≡ true → Valid s
unfolding valid
tested s f e =
    let e₁ = and_r (hubs_right s) _ e in
    let e₂ = and_r (lists_exact s) _ e₁ in
    let e₃ = and_r (in_order s) _ e₂ in
    let e₄ = and_r (tasks_right s) _ e₃ in
    let r : Records s = (t_records s).yes (and_l _ _ e₃) in
    let l : Listed s = (t_lists s r).yes (and_l _ _ e₁) in
    record {
      tasks = f.tasks;
      hubs = f.hubs;
      listed = l;
      ordered = (t_order (effective s) s).yes (and_l _ _ e₂);
      records = r;
      waits = (t_waits s l).yes (and_l _ _ e₄);
      ranges = record { range = (t_hubs s).yes (and_l _ _ e); held = f.held };
      owners = (t_owners s).yes (and_r (waiters_right s) _ e₄);
    }

pub test_valid : (s : State) → Valid s → valid s ≡ true
unfolding valid
test_valid s v =
    rw (
      (t_hubs s).conv v.ranges.range,
      (t_lists s v.records).conv v.listed,
      (t_order (effective s) s).conv v.ordered,
      (t_records s).conv v.records,
      (t_waits s v.listed).conv v.waits,
      (t_owners s).conv v.owners,
    ) refl
