-- Calls keep who may wait where, and the hubs in their ranges. In order: what is said of a hub does not read its waiting
-- list; calls that meet no request; the hub request, for any waiters met; a hub added; each service. By any key.
use Prim.Native.Nat.{◌<◌, ◌≤◌, suc, zero, ℕ}
use Rattle.lists.proofs.Counting.{occ-replicate}
use Rattle.lists.proofs.Laws.{bool_case}
use Rattle.rules.proofs.Accepted.{Asked, caller-ready, hub_tests, on_task_lem, request_tests, within-true}
use Rattle.rules.proofs.Cases.{and_l, and_r, cond_case, same_or}
use Rattle.rules.proofs.Changes.{hub-added_other, hub-added_same, in_use, length-add_hub, length-set_task}
use Rattle.rules.proofs.Handed.{Part, Passed, handed, handed_not, handed_owned, owned-kind, parts, passed-all, still_task, still_waits, takes_heir}
use Rattle.rules.proofs.Hubs.{SameHubs, core, hub_else, hub-target, hubs-answer, hubs-deactivate, hubs-serve, many_pass, many_settle}
use Rattle.rules.proofs.Lengths.{length-serve, tasks_grow}
use Rattle.rules.proofs.Listed.{listed_answer, listed-blank, listed-deactivate, listed-pass, listed-serve}
use Rattle.rules.proofs.Passing.{length-pass}
use Rattle.rules.proofs.Quiet.{Moved, Other, Quiet, is_add_task, is_resume, is_sleep, is_start, is_suspend, is_tick, is_unknown, is_yield, quiet_answer, quiet_deactivate, quiet_refl, quiet_same, quiet_serve, stays, stopped, timed}
use Rattle.rules.proofs.Settled.{Partners, caller_in, later_asked, length-answer, length-settle, met_other, met-waiting, partners, quiet_told, wait-caller, wait_other}
use Rattle.rules.proofs.Standing.{first-waits, listed-waiting, listed-waits, none-waits, waiting-listed, waiting-used}
use Rattle.rules.proofs.Valid.{GetWaits, Held, Listed, MayWait, PutWaits, Range, Ranges, Valid, Waits}
use Rattle.rules.proofs.Verdicts.{Apart, Each, JoinLaw, across, after-kind, held-side, hub_after, join_side, pass-held, pass-range, pass-wait, range-side, side_get, wait-side, waiters_met}
use Rattle.rules.specs.Calls.{AddHub, AddTask, Blank, HubRequest, Resume, Service, Sleep, Start, Stop, Suspend, Tick, Unknown, Yield, add_hub, blank, deactivate, grant, heir, may_stop, new_hub, pass_all, serve, settle, stop, wait}
use Rattle.rules.specs.HubTable.{Verdict, fail, met, not_now, pass, verdict}
use Rattle.rules.specs.Lists.{answer, first_waiting, leave, queued, waits}
use Rattle.rules.specs.Refusals.{good_hub, refusal_for}
use Rattle.rules.specs.Table.{Board, Event, Fifo, Get, Hub, Kind, Memory, NoKind, NoSide, Port, Put, Resource, Semaphore, Side, State, Task, Wipe, hub, inactive, kind_of, owns, side_of, stored, task}
use Rattle.rules.specs.WellFormed.{waits_for, within}
use Rattle.rules.specs.declared.Call.{Call}
use borrow.Author.Tests.{eq-eqb, eqb-true, leb-true, lt-ltb, ltb-false, ltb-true}
use lib.Dec.{eqb, ltb}
use lib.ListN.{get_or-replicate, length, length-replicate}
use mathlib.Core.Bool.{Bool, ◌&&◌, false, false≢true, true}
use mathlib.Core.List.{List}
use mathlib.Core.Logic.{◌≢◌, ◌⊎◌, inl, inr}
use mathlib.Core.Option.{Option, none, some}
use mathlib.Core.Path.{◌∙◌, ◌≡◌, ap, refl, subst, sym}
use native.Mathlib.Omega.{arith}

-- ---- what is said of a hub does not read its waiting list

core_move : (P : Hub → Type 0) → ((x : Hub) (l : List ℕ) → P x → P (queued l x)) → (x x' : Hub) → core x' ≡ core x → P x → P x'
unfolding core queued
core_move P f x x' e p = subst P (sym (ap (queued x'.waiters) e)) (f x x'.waiters p)

may-queued : (d : Side) (k : Kind) (x : Hub) (l : List ℕ) (j : ℕ) → MayWait d k x j → MayWait d k (queued l x) j
unfolding GetWaits MayWait PutWaits queued
may-queued NoSide k x l j m = m
may-queued Put NoKind x l j m = m
may-queued Put Event x l j m = m
may-queued Put Semaphore x l j m = m
may-queued Put Port x l j m = m
may-queued Put Fifo x l j m = m
may-queued Put Resource x l j m = m
may-queued Put Board x l j m = m
may-queued Put Memory x l j m = m
may-queued Get NoKind x l j m = m
may-queued Get Event x l j m = m
may-queued Get Semaphore x l j m = m
may-queued Get Port x l j m = m
may-queued Get Fifo x l j m = m
may-queued Get Resource x l j m = m
may-queued Get Board x l j m = m
may-queued Get Memory x l j m = m
may-queued Wipe k x l j m = m

-- the same side and kind, read from equal numbers
may_move : (d d' : ℕ) (x x' : Hub) (j : ℕ) → d' ≡ d → core x' ≡ core x → MayWait (side_of d) (kind_of x.kind) x j
    → MayWait (side_of d') (kind_of x'.kind) x' j
unfolding queued
may_move d d' x x' j e f m =
    rw e (core_move (λ (y : Hub). MayWait (side_of d) (kind_of y.kind) y j) (λ y l. may-queued (side_of d) (kind_of y.kind) y l j) x x' f m)

range-queued : (k : Kind) (T : ℕ) (x : Hub) (l : List ℕ) → Range k T x → Range k T (queued l x)
unfolding Range queued
range-queued NoKind T x l r = r
range-queued Event T x l r = r
range-queued Semaphore T x l r = r
range-queued Port T x l r = r
range-queued Fifo T x l r = r
range-queued Resource T x l r = r
range-queued Board T x l r = r
range-queued Memory T x l r = r

range_move : (T : ℕ) (x x' : Hub) → core x' ≡ core x → Range (kind_of x.kind) T x → Range (kind_of x'.kind) T x'
unfolding queued
range_move T = core_move (λ (y : Hub). Range (kind_of y.kind) T y) (λ y l. range-queued (kind_of y.kind) T y l)

held-queued : (k : Kind) (x : Hub) (l : List ℕ) → Held k x → Held k (queued l x)
unfolding Held queued
held-queued k x l e = e

held_move : (x x' : Hub) → core x' ≡ core x → Held (kind_of x.kind) x → Held (kind_of x'.kind) x'
unfolding queued
held_move = core_move (λ (y : Hub). Held (kind_of y.kind) y) (λ y l. held-queued (kind_of y.kind) y l)

-- more tasks: an owner stays below
range_more : (k : Kind) (T T' : ℕ) (x : Hub) → T ≤ T' → Range k T x → Range k T' x
unfolding Range
range_more NoKind T T' x h r = r
range_more Event T T' x h r = r
range_more Semaphore T T' x h r = r
range_more Port T T' x h r = r
range_more Fifo T T' x h r = r
range_more Resource T T' x h r = (omega (arith, h, r.0), r.1, r.2)
range_more Board T T' x h r = r
range_more Memory T T' x h r = r

-- ---- calls that meet no request

-- a task that waits after a quiet call waited before, at the same hub on the same side
waited : (s s' : State) (h i : ℕ) → Quiet s s' → waits_for s' h i ≡ true → (waits_for s h i ≡ true) × ((task s' i).side ≡ (task s i).side)
unfolding Quiet
waited s s' h i q w = go ((q i).old ((q i).new st))
  where
    st : (task s' i).state ≡ 3
    st = eqb-true _ 3 (and_l _ _ w)

    go : Moved (task s i) (task s' i) → (waits_for s h i ≡ true) × ((task s' i).side ≡ (task s i).side)
    go (stays a b c d) = (rw (eq-eqb (task s i).state 3 ((q i).new st), sym b) (and_r (eqb (task s' i).state 3) _ w), c)
    go (stopped a) = absurd (omega (arith, a, st))
    go (timed a b) = absurd (omega (arith, a, st))

waits_quiet : (s s' : State) → Waits s → Quiet s s' → ((h i : ℕ) → waits_for s h i ≡ true → core (hub s' h) ≡ core (hub s h)) → Waits s'
waits_quiet s s' m q e = record {
  may = λ h i w.
      let o = waited s s' h i q w in
      may_move (task s i).side (task s' i).side (hub s h) (hub s' h) i o.1 (e h i o.0) (m.may h i o.0);
  one_side = λ h i j w u.
      let o = waited s s' h i q w in
      let p = waited s s' h j q u in
      o.1 ∙ (m.one_side h i j o.0 p.0 ∙ sym p.1);
}

-- ---- after a hub request: still waiting and not met, or the caller that has just joined

data After (s : State) (c : Call) (v : Verdict) (s' : State) (h i : ℕ) : Type 0 where
  still : waits_for s h i ≡ true → (task s' i).side ≡ (task s i).side → Apart (waiters_met v) i → After s c v s' h i
  joined : i ≡ c.caller → h ≡ c.target → v ≡ not_now → (task s' i).side ≡ c.side → After s c v s' h i

same_waits : (s s' : State) (h i : ℕ) → task s' i ≡ task s i → waits_for s' h i ≡ true → waits_for s h i ≡ true
same_waits s s' h i e w = subst (λ (t : Task). (eqb t.state 3 && eqb t.hub (suc h)) ≡ true) e w

module _ (key : ℕ → ℕ) (s : State) (c : Call) (run : (task s c.caller).state ≡ 2) where
  after_told : (v : Verdict) → ((i : ℕ) → Apart (waiters_met v) i) → (h i : ℕ) → waits_for (answer c.caller 2 0 s) h i ≡ true
      → After s c v (answer c.caller 2 0 s) h i
  after_told v n h i w =
      let o = waited s (answer c.caller 2 0 s) h i (quiet_told s c run 2 0 s refl) w in
      still o.0 o.1 (n i)

  after-wait : (h i : ℕ) → waits_for (wait key s c) h i ≡ true → After s c not_now (wait key s c) h i
  unfolding Each waiters_met waits
  after-wait h i w =
      same_or i c.caller
      (λ e. let f : (task (wait key s c) c.caller).hub ≡ suc c.target = ap (λ (t : Task). t.hub) (wait-caller key s c run) in
      let g : (task (wait key s c) i).hub ≡ suc h = eqb-true _ (suc h) (and_r (eqb (task (wait key s c) i).state 3) _ w) in
      joined e (omega (arith, f, rw e at g)) refl (rw e (ap (λ (t : Task). t.side) (wait-caller key s c run))))
      (λ n. let q : task (wait key s c) i ≡ task s i = wait_other key s c run i n in
      still (same_waits s (wait key s c) h i q w) (ap (λ (t : Task). t.side) q) tt)

  after-settle : (v : Verdict) → Partners s c (waiters_met v) → (h i : ℕ) → waits_for (settle key v s c) h i ≡ true → After s c v (settle key v s c) h i
  unfolding Each settle waiters_met
  after-settle (met n ws x ms) p h i w =
      let d = met-waiting key s c run n ws x ms p i (eqb-true _ 3 (and_l _ _ w)) in
      let q : task (settle key (met n ws x ms) s c) i ≡ task s i = met_other key s c run n ws x ms p i d.0 d.1 in
      still (same_waits s (settle key (met n ws x ms) s c) h i q w) (ap (λ (t : Task). t.side) q) d.0
  after-settle not_now p h i w =
      cond_case (λ (z : State). waits_for z h i ≡ true → After s c not_now z h i) (eqb c.mode 2) _ _
      (λ _. after_told not_now (λ j. tt) h i)
      (λ _. after-wait h i)
      w
  after-settle fail p h i w = after_told fail (λ j. tt) h i w

-- ---- sides and their numbers

may-side : (n : ℕ) (k : Kind) (x : Hub) (j : ℕ) → MayWait (side_of n) k x j → (n ≡ 1) ⊎ (n ≡ 2)
unfolding MayWait side_of
may-side zero k x j m = absurd m
may-side (suc zero) k x j m = inl refl
may-side (suc (suc zero)) k x j m = inr refl
may-side (suc (suc (suc zero))) k x j m = absurd m
may-side (suc (suc (suc (suc n)))) k x j m = absurd m

-- two sides, of which one is not across from the other
same_side : (n d : ℕ) → (n ≡ 1) ⊎ (n ≡ 2) → (d ≡ 1) ⊎ (d ≡ 2) → n ≢ across (side_of d) → n ≡ d
unfolding across side_of
same_side n d (inl e) (inl f) h = e ∙ sym f
same_side n d (inl e) (inr f) h = absurd (h (rw f e))
same_side n d (inr e) (inl f) h = absurd (h (rw f e))
same_side n d (inr e) (inr f) h = e ∙ sym f

-- ---- the hub that a request names

module _ (key : ℕ → ℕ) (s : State) (l : Listed s) (m : Waits s) (r : Ranges s) (c : Call) (a : Asked s c) where
  abbrev x : Hub
  x = hub s c.target

  abbrev k : Kind
  k = kind_of x.kind

  abbrev T : ℕ
  T = length s.tasks

  abbrev v : Verdict
  v = verdict s c

  abbrev s' : State
  s' = settle key v s c

  kind-after : (P : Kind → Type 0) → P k → P (kind_of (hub_after x v).kind)
  kind-after P p = subst (λ (n : ℕ). P (kind_of n)) (sym (after-kind x v)) p

  range : Range k T x
  range = r.range c.target a.named

  held : Held k x
  held = r.held c.target a.named

  first_in : (d w : ℕ) → first_waiting s d x.waiters ≡ some w → w < T
  first_in d w e = in_use s w 1 (listed-waits s l c.target w (first-waits s d x.waiters w e).0).0

  first-may : (w : ℕ) → first_waiting s 1 x.waiters ≡ some w → MayWait Put k x w
  unfolding side_of
  first-may w e =
      let p = first-waits s 1 x.waiters w e in
      subst (λ (n : ℕ). MayWait (side_of n) k x w) p.1 (m.may c.target w (listed-waiting s l c.target w p.0))

  after-range : Range k T (hub_after x v)
  unfolding verdict
  after-range = range-side (side_of c.side) T s x c (caller_in s c a.run) (first_in 2) range

  after-held : Held k (hub_after x v)
  unfolding verdict
  after-held = held-side (side_of c.side) s x c held

  nobody_across : (i : ℕ) → waits_for s c.target i ≡ true → first_waiting s (across (side_of c.side)) x.waiters ≡ none
      → (task s i).side ≢ across (side_of c.side)
  nobody_across i w f = none-waits s _ x.waiters f i (waiting-listed s l c.target i w)

  goes_on : (i : ℕ) → waits_for s c.target i ≡ true → Apart (waiters_met v) i → MayWait (side_of (task s i).side) k (hub_after x v) i
  unfolding verdict
  goes_on i w n =
      wait-side (side_of c.side) (task s i).side T s x c i range held (m.may c.target i w) (waiting-listed s l c.target i w) refl (nobody_across i w) n

  -- told "not now": the caller may wait, and all who wait are on its side
  join_law : v ≡ not_now → MayWait (side_of c.side) k x c.caller × ((i : ℕ) → waits_for s c.target i ≡ true → (task s i).side ≡ c.side)
  unfolding JoinLaw verdict
  join_law q =
      let f : Option ℕ = first_waiting s (across (side_of c.side)) x.waiters in
      let j : JoinLaw k (side_of c.side) x c.caller f v = join_side (side_of c.side) T s x c range held first-may in
      let p : MayWait (side_of c.side) k x c.caller × (f ≡ none) = rw q at j in (
        p.0,
        λ i w. same_side (task s i).side c.side (may-side (task s i).side k x i (m.may c.target i w)) (later_asked s c a q) (nobody_across i w p.1),
      )

  may-after : (h i : ℕ) → After s c v s' h i → MayWait (side_of (task s' i).side) (kind_of (hub s' h).kind) (hub s' h) i
  may-after h i (still w d n) =
      same_or h c.target
      (λ e. rw e (may_move (task s i).side (task s' i).side (hub_after x v) (hub s' c.target) i d (hub-target key s c v a.named)
      (kind-after (λ z. MayWait (side_of (task s i).side) z (hub_after x v) i) (goes_on i (rw e at w) n))))
      (λ e. may_move (task s i).side (task s' i).side (hub s h) (hub s' h) i d (hub_else key s c v h e) (m.may h i w))
  may-after h i (joined b e q d) =
      rw (b, e) (may_move c.side (task s' c.caller).side x (hub s' c.target) c.caller (rw b at d)
      (hub-target key s c v a.named ∙ unmoved q) (join_law q).0)
    where
      unmoved : v ≡ not_now → core (hub_after x v) ≡ core x
      unmoved q = rw q (unfold hub_after in refl)

  one-after : (h i j : ℕ) → After s c v s' h i → After s c v s' h j → (task s' i).side ≡ (task s' j).side
  one-after h i j (still w d n) (still w' d' n') = d ∙ (m.one_side h i j w w' ∙ sym d')
  one-after h i j (still w d n) (joined b e q d') = d ∙ ((join_law q).1 i (rw e at w) ∙ sym d')
  one-after h i j (joined b e q d) (still w' d' n') = d ∙ sym (d' ∙ (join_law q).1 j (rw e at w'))
  one-after h i j (joined b e q d) (joined b' e' q' d') = d ∙ sym d'

  after : (h i : ℕ) → waits_for s' h i ≡ true → After s c v s' h i
  after h i w = after-settle key s c a.run v (partners s l c) h i w

  waits_request : Waits s'
  waits_request = record {
    may = λ h i w. may-after h i (after h i w);
    one_side = λ h i j w u. one-after h i j (after h i w) (after h j u);
  }

  -- what is true of the target after the verdict, and of each other hub, is true of all
  all-hubs : (P : Hub → Type 0) → ((y y' : Hub) → core y' ≡ core y → P y → P y') → P (hub_after x v) → ((h : ℕ) → h < length s.hubs → P (hub s h))
      → (h : ℕ) → h < length s'.hubs → P (hub s' h)
  all-hubs P move b p h n =
      same_or h c.target
      (λ e. rw e (move _ _ (hub-target key s c v a.named) b))
      (λ e. move _ _ (hub_else key s c v h e) (p h (rw (many_settle key s c v) at n)))

  ranges_request : Ranges s'
  ranges_request = record {
    range = λ h n. rw (length-settle key v s c) (all-hubs (λ (y : Hub). Range (kind_of y.kind) T y) (range_move T)
        (kind-after (λ z. Range z T (hub_after x v)) after-range) r.range h n);
    held = all-hubs (λ (y : Hub). Held (kind_of y.kind) y) held_move (kind-after (λ z. Held z (hub_after x v)) after-held) r.held;
  }

-- ---- a hub added

new-range : (k : Kind) (c : Call) (T : ℕ) → kind_of c.target ≡ k → good_hub k c.ticks c.word ≡ true → Range k T (new_hub c)
unfolding Range good_hub new_hub stored
new-range NoKind c T q e = absurd (false≢true e)
new-range Event c T q e =
    let b : c.word ≡ 0 = eqb-true _ 0 (and_r (eqb c.ticks 1) _ e) in (omega (arith, b), eqb-true _ 1 (and_l _ _ e), b)
new-range Semaphore c T q e =
    let w = within-true 1 65535 c.ticks (and_l _ _ e) in
    let d : c.word ≤ c.ticks = leb-true _ _ (and_r (within 1 65535 c.ticks) _ e) in
    (d, w.0, w.1, d)
new-range Port c T q e =
    let b : c.word ≡ 0 = eqb-true _ 0 (and_r (eqb c.ticks 0) _ e) in (b, eqb-true _ 0 (and_l _ _ e), b)
new-range Fifo c T q e =
    let w = within-true 1 8 c.ticks (and_l _ _ e) in
    let d : c.word ≡ 0 = eqb-true _ 0 (and_r (within 1 8 c.ticks) _ e) in
    (omega (arith, d), w.0, w.1, d)
new-range Resource c T q e =
    let b : c.word ≡ 0 = eqb-true _ 0 (and_r (eqb c.ticks 1) _ e) in (omega (arith, b), eqb-true _ 1 (and_l _ _ e), b)
new-range Board c T q e =
    let b : c.word ≡ 0 = eqb-true _ 0 (and_r (eqb c.ticks 1) _ e) in (omega (arith, b), eqb-true _ 1 (and_l _ _ e), b)
new-range Memory c T q e =
    let w = within-true 1 8 c.ticks (and_l _ _ e) in
    let d : c.word ≡ c.ticks = eqb-true _ _ (and_r (within 1 8 c.ticks) _ e) in
    rw q (w.0, w.1, d, (λ b lt. rw (get_or-replicate {A = ℕ} c.ticks b 0 0 lt) (omega arith)), d ∙ sym (occ-replicate 0 c.ticks))

-- it holds as many messages as its record says, all 0
new-held : (c : Call) → Held (kind_of c.target) (new_hub c)
unfolding Held new_hub
new-held c = sym (length-replicate {A = ℕ} (stored (kind_of c.target) c.word c.ticks) 0)

-- ---- by service

pub record Good (s : State) : Type 0 where
  pub listed : Listed s
  pub waits : Waits s
  pub ranges : Ranges s

pub valid_good : (s : State) → Valid s → Good s
valid_good s v = record { listed = v.listed; waits = v.waits; ranges = v.ranges }

pub good_quiet : (s s' : State) → Good s → Listed s' → Quiet s s' → SameHubs s s' → length s.tasks ≤ length s'.tasks → Good s'
good_quiet s s' g l q same more = record {
  listed = l;
  waits = waits_quiet s s' g.waits q (λ h i w. same.each h);
  ranges = record {
    range = λ h n. range_move _ (hub s h) (hub s' h) (same.each h) (range_more _ _ _ (hub s h) more (g.ranges.range h (rw same.many at n)));
    held = λ h n. held_move (hub s h) (hub s' h) (same.each h) (g.ranges.held h (rw same.many at n));
  };
}

good_other : (key : ℕ → ℕ) (v : Service) → Other v → (s : State) (c : Call) → Good s → refusal_for v s c ≡ 0 → Good (serve key v s c)
good_other key v o s c g e =
    good_quiet s (serve key v s c) g (listed-serve key v s c g.listed e) (quiet_serve key v o s c (caller-ready s g.listed c v e)) (hubs-serve key v o s c)
    (rw (length-serve key v s c) (tasks_grow v o (length s.tasks)))

-- ---- Stop: the task is taken out, its Resources pass, the caller is answered

module _ (i n : ℕ) (s s' : State) (p : Part i n s s') (g : Good s) where
  -- what is said of a hub by its kind holds of it after the passing
  handed_case : (P : Kind → Hub → Type 0) (f : Option ℕ) (x : Hub) → P (kind_of x.kind) x
      → (owns i x ≡ true → P Resource x → P Resource (hub_after x (pass f x))) → P (kind_of (handed i f x).kind) (handed i f x)
  handed_case P f x a b =
      bool_case (owns i x)
      (λ o. let k = owned-kind i x o in
      subst (λ (y : Hub). P (kind_of y.kind) y) (sym (handed_owned i f x o))
      (subst (λ (z : Kind). P z (hub_after x (pass f x))) (sym (ap kind_of (after-kind x (pass f x)) ∙ k)) (b o (subst (λ (z : Kind). P z x) k a))))
      (λ o. rw (handed_not i f x o) a)

  -- and of every hub, passed or not
  part_case : (P : Kind → Hub → Type 0) → ((x x' : Hub) → core x' ≡ core x → P (kind_of x.kind) x → P (kind_of x'.kind) x')
      → (h : ℕ) → P (kind_of (hub s h).kind) (hub s h)
      → (h < n → owns i (hub s h) ≡ true → P Resource (hub s h) → P Resource (hub_after (hub s h) (pass (heir s h) (hub s h)))) → P (kind_of (hub s' h).kind) (hub s' h)
  part_case P move h a b =
      bool_case (ltb h n)
      (λ t. move _ _ (p.done h (ltb-true h n t)) (handed_case P (heir s h) (hub s h) a (b (ltb-true h n t))))
      (λ t. rw (p.later h (ltb-false h n t)) a)

  part-may : (h j : ℕ) → waits_for s' h j ≡ true → MayWait (side_of (task s' j).side) (kind_of (hub s' h).kind) (hub s' h) j
  part-may h j w =
      rw (ap (λ (t : Task). t.side) (still_task i n s s' p j (eqb-true _ 3 (and_l _ _ w))))
      (part_case (λ k x. MayWait (side_of (task s j).side) k x j) (λ x x' e m. may_move (task s j).side (task s j).side x x' j refl e m) h (g.waits.may h j before) (λ t o m.
      pass-wait (side_of (task s j).side) (heir s h) (hub s h) j m
      (λ f d. none-waits s 2 (hub s h).waiters f j (waiting-listed s g.listed h j before) (side_get (task s j).side d))
      (λ f. false≢true (sym (still_waits i n s s' p h j w).1 ∙ rw (lt-ltb h n t) (takes_heir i s h j o f)))))
    where
      before : waits_for s h j ≡ true
      before = (still_waits i n s s' p h j w).0

  good_part : Listed s' → length s'.tasks ≡ length s.tasks → length s'.hubs ≡ length s.hubs → Good s'
  good_part l many hubs = record {
    listed = l;
    waits = record {
      may = part-may;
      one_side = λ h j k w u.
          ap (λ (t : Task). t.side) (still_task i n s s' p j (eqb-true _ 3 (and_l _ _ w)))
          ∙ (g.waits.one_side h j k (still_waits i n s s' p h j w).0 (still_waits i n s s' p h k u).0
          ∙ sym (ap (λ (t : Task). t.side) (still_task i n s s' p k (eqb-true _ 3 (and_l _ _ u)))));
    };
    ranges = record {
      range = λ h m. rw many (part_case (λ k x. Range k (length s.tasks) x) (range_move (length s.tasks)) h (g.ranges.range h (rw hubs at m))
          (λ t o. pass-range (length s.tasks) (heir s h) (hub s h) (heir_in h)));
      held = λ h m. part_case Held held_move h (g.ranges.held h (rw hubs at m)) (λ t o. pass-held (heir s h) (hub s h));
    };
  }
    where
      heir_in : (h w : ℕ) → heir s h ≡ some w → w < length s.tasks
      heir_in h w e = in_use s w 1 (listed-waits s g.listed h w (first-waits s 2 (hub s h).waiters w e).0).0

-- the Resources below n have passed
pub good_pass : (key : ℕ → ℕ) (i n : ℕ) (s : State) → Good s → Good (pass_all key i n s)
good_pass key i n s g =
    good_part i n s (pass_all key i n s) (parts key i s g.listed n) g (listed-pass key i n s g.listed) (length-pass key i n s) (many_pass key i n s)

pub good_deactivate : (i : ℕ) (s : State) → Good s → i < length s.tasks → Good (deactivate i s)
good_deactivate i s g u =
    good_quiet s (deactivate i s) g (listed-deactivate i s g.listed u) (quiet_deactivate s i) (hubs-deactivate i s)
    (unfold deactivate leave in omega (arith, length-set_task (leave i s) i (inactive (task s i).priority)))

module _ (key : ℕ → ℕ) (i : ℕ) (s : State) (g : Good s) (u : i < length s.tasks) where
  out : Good (deactivate i s)
  out = good_deactivate i s g u

  pub good_stop : Good (stop key i s)
  good_stop = unfold stop in good_pass key i (length s.hubs) (deactivate i s) out

  -- the Resources of the task have passed
  stop-part : Part i (length s.hubs) (deactivate i s) (stop key i s)
  stop-part = unfold stop in parts key i (deactivate i s) out.listed (length s.hubs)

  pub stop-passed : Passed i (deactivate i s) (stop key i s)
  stop-passed = unfold stop in rw (← (hubs-deactivate i s).many) (passed-all key i (deactivate i s) out.listed)

  -- who waits afterwards waited before
  pub stop-waiting : (j : ℕ) → (task (stop key i s) j).state ≡ 3 → (task s j).state ≡ 3
  stop-waiting j e =
      unfold Quiet in
      (quiet_deactivate s i j).new (sym (ap (λ (t : Task). t.state) (still_task i (length s.hubs) (deactivate i s) (stop key i s) stop-part j e)) ∙ e)

good_serve_stop : (key : ℕ → ℕ) (s : State) (c : Call) → Good s → refusal_for Stop s c ≡ 0 → Good (serve key Stop s c)
unfolding grant refusal_for serve
good_serve_stop key s c g e = by (may_stop (task s c.target) c)
  where
    run : (task s c.caller).state ≡ 2
    run = (on_task_lem s g.listed c e).0

    used : c.target < length s.tasks
    used = (on_task_lem s g.listed c e).1

    told : (a : ℕ) (z : State) → Good z → ((task z c.caller).state ≢ 3) → Good (answer c.caller a 0 z)
    told a z k n =
        good_quiet z (answer c.caller a 0 z) k (listed_answer c.caller a 0 z k.listed) (quiet_answer z z c.caller a 0 (quiet_refl z) n)
        (hubs-answer c.caller a 0 z) (omega (arith, length-answer z c.caller a 0))

    by : (b : Bool) → Good (grant b (stop key c.target s) s c)
    by true = told 1 _ (good_stop key c.target s g used) (λ q. omega (arith, run, stop-waiting key c.target s g used c.caller q))
    by false = told 2 s g (λ q. omega (arith, run, q))

pub good_blank : Good blank
unfolding blank inactive
good_blank = record {
  listed = listed-blank;
  waits = record { may = λ h i w. absurd (false≢true w); one_side = λ h i j w u. absurd (false≢true w) };
  ranges = record { range = λ h n. absurd (omega arith); held = λ h n. absurd (omega arith) };
}

good_add_hub : (key : ℕ → ℕ) (s : State) (c : Call) → Good s → refusal_for AddHub s c ≡ 0 → Good (serve key AddHub s c)
unfolding serve
good_add_hub key s c g e = record {
  listed = listed-serve key AddHub s c g.listed e;
  waits = waits_quiet s s' g.waits (quiet_same s s' (λ j. unfold add_hub in refl))
      (λ h i w. ap core (hub-added_other (new_hub c) s h (λ q. omega (arith, q, waiting-used s g.listed h i w))));
  ranges = record {
    range = all (λ (y : Hub). Range (kind_of y.kind) (length s'.tasks) y) (unfold new_hub in new-range (kind_of c.target) c _ refl good)
        (unfold add_hub in g.ranges.range);
    held = all (λ (y : Hub). Held (kind_of y.kind) y) (unfold new_hub in new-held c) g.ranges.held;
  };
}
  where
    s' : State
    s' = add_hub (new_hub c) s

    good : good_hub (kind_of c.target) c.ticks c.word ≡ true
    good = (hub_tests s c e).0

    all : (P : Hub → Type 0) → P (new_hub c) → ((h : ℕ) → h < length s.hubs → P (hub s h)) → (h : ℕ) → h < length s'.hubs → P (hub s' h)
    all P b p h n =
        same_or h (length s.hubs)
        (λ q. rw (q, hub-added_same (new_hub c) s) b)
        (λ q. rw (hub-added_other (new_hub c) s h q) (p h (omega (arith, n, length-add_hub (new_hub c) s))))

pub good_serve : (key : ℕ → ℕ) (v : Service) (s : State) (c : Call) → Good s → refusal_for v s c ≡ 0 → Good (serve key v s c)
good_serve key Blank s c g e = unfold serve in good_blank
good_serve key HubRequest s c g e =
    let a = request_tests s g.listed c e in
    record {
      listed = listed-serve key HubRequest s c g.listed e;
      waits = unfold serve in waits_request key s g.listed g.waits g.ranges c a;
      ranges = unfold serve in ranges_request key s g.listed g.waits g.ranges c a;
    }
good_serve key Start s c g e = good_other key Start is_start s c g e
good_serve key Stop s c g e = good_serve_stop key s c g e
good_serve key Suspend s c g e = good_other key Suspend is_suspend s c g e
good_serve key Resume s c g e = good_other key Resume is_resume s c g e
good_serve key Yield s c g e = good_other key Yield is_yield s c g e
good_serve key Sleep s c g e = good_other key Sleep is_sleep s c g e
good_serve key Tick s c g e = good_other key Tick is_tick s c g e
good_serve key AddTask s c g e = good_other key AddTask is_add_task s c g e
good_serve key AddHub s c g e = good_add_hub key s c g e
good_serve key Unknown s c g e = good_other key Unknown is_unknown s c g e
