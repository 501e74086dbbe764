-- What a Stop leaves where the task's Resources have passed, record by record and hub by hub: a Resource that it owned has its
-- first waiter as owner, or is free; that waiter is met; everything else is as it was (`Passed`). By any key.
-- Each hub's passing looks at that hub's list alone, which no other passing changes: that is the proof.
use Prim.Native.Nat.{◌<◌, ◌≤◌, suc, zero, ℕ}
use Rattle.lists.proofs.Counting.{occ_here}
use Rattle.lists.proofs.Laws.{bool_case, without-none}
use Rattle.lists.specs.Lists.{occ}
use Rattle.rules.proofs.Cases.{and_l, and_r, same_or}
use Rattle.rules.proofs.Changes.{hub-set_other, hub-set_same, in_use}
use Rattle.rules.proofs.Hubs.{core, hubs-wake, many_pass}
use Rattle.rules.proofs.Listed.{listed-pass}
use Rattle.rules.proofs.Settled.{hub-wake, wake_other, wake_same}
use Rattle.rules.proofs.Standing.{first-waits, listed-waiting, listed-waits, waiting-used}
use Rattle.rules.proofs.Valid.{Listed}
use Rattle.rules.proofs.Verdicts.{hub_after}
use Rattle.rules.specs.Calls.{carry_out, heir, hold, meet_all, pass_all, pass_one}
use Rattle.rules.specs.HubTable.{pass}
use Rattle.rules.specs.Lists.{first_waiting, queued, readied, unqueue, wake}
use Rattle.rules.specs.Table.{Board, Event, Fifo, Hub, Kind, Memory, NoKind, Port, Resource, Semaphore, State, Task, hub, is_resource, kind_of, no_hub, owns, set_hub, task}
use Rattle.rules.specs.WellFormed.{waits_for}
use borrow.Author.Tests.{eq-eqb, eqb-true, ltb-false, ltb-true, lt-ltb, ne_eqb}
use lib.Dec.{eqb, ltb}
use lib.ListN.{get_or-eq_default, length}
use mathlib.Core.Bool.{Bool, ◌&&◌, and-false, cond, false, false≢true, true}
use mathlib.Core.List.{List, [], ◌∷◌}
use mathlib.Core.Logic.{◌≢◌, ◌⊎◌, inl, inr}
use mathlib.Core.Option.{Option, none, some}
use mathlib.Core.Path.{◌∙◌, ◌≡◌, ap, refl, subst, sym}
use native.Mathlib.Omega.{arith}

-- ---- who takes over

unfoldable pub is_heir : Option ℕ → ℕ → Bool
is_heir none j = false
is_heir (some w) j = eqb w j

-- task j takes over hub h from task i
unfoldable pub takes : ℕ → State → ℕ → ℕ → Bool
takes i s h j = owns i (hub s h) && is_heir (heir s h) j

-- the hub afterwards, where f waits first
unfoldable pub handed : ℕ → Option ℕ → Hub → Hub
handed i f x = cond (owns i x) (hub_after x (pass f x)) x

pub is_heir_lem : (f : Option ℕ) (j : ℕ) → is_heir f j ≡ true → f ≡ some j
unfolding is_heir
is_heir_lem none j e = absurd (false≢true e)
is_heir_lem (some w) j e = ap some (eqb-true w j e)

pub heir_is : (f : Option ℕ) (j : ℕ) → f ≡ some j → is_heir f j ≡ true
unfolding is_heir
heir_is f j e = rw e (eq-eqb j j refl)

pub takes_heir : (i : ℕ) (s : State) (h j : ℕ) → owns i (hub s h) ≡ true → heir s h ≡ some j → takes i s h j ≡ true
unfolding takes
takes_heir i s h j o e = rw (o, heir_is (heir s h) j e)

-- whoever takes over a hub waits there
pub takes_waits : (i : ℕ) (s : State) → Listed s → (h j : ℕ) → takes i s h j ≡ true → waits_for s h j ≡ true
unfolding takes
takes_waits i s l h j e =
    listed-waiting s l h j (first-waits s 2 (hub s h).waiters j (is_heir_lem (heir s h) j (and_r (owns i (hub s h)) _ e))).0

-- a hub that is owned is a Resource, its count the owner plus 1, and in use
is_resource_lem : (k : Kind) → is_resource k ≡ true → k ≡ Resource
unfolding is_resource
is_resource_lem NoKind e = absurd (false≢true e)
is_resource_lem Event e = absurd (false≢true e)
is_resource_lem Semaphore e = absurd (false≢true e)
is_resource_lem Port e = absurd (false≢true e)
is_resource_lem Fifo e = absurd (false≢true e)
is_resource_lem Resource e = refl
is_resource_lem Board e = absurd (false≢true e)
is_resource_lem Memory e = absurd (false≢true e)

pub owned-kind : (i : ℕ) (x : Hub) → owns i x ≡ true → kind_of x.kind ≡ Resource
unfolding owns
owned-kind i x e = is_resource_lem _ (and_l _ _ e)

pub owned-count : (i : ℕ) (x : Hub) → owns i x ≡ true → x.count ≡ suc i
unfolding owns
owned-count i x e = eqb-true _ (suc i) (and_r (is_resource (kind_of x.kind)) _ e)

pub owned_by : (i : ℕ) (x : Hub) → kind_of x.kind ≡ Resource → x.count ≡ suc i → owns i x ≡ true
unfolding is_resource owns
owned_by i x k e = rw (k, eq-eqb x.count (suc i) e)

-- whose it is does not depend on the waiting list
pub owns_core : (i : ℕ) (x x' : Hub) → core x' ≡ core x → owns i x' ≡ owns i x
unfolding core owns queued
owns_core i x x' e = ap (owns i) e

pub owned-used : (i : ℕ) (s : State) (h : ℕ) → owns i (hub s h) ≡ true → h < length s.hubs
unfolding is_resource kind_of no_hub owns
owned-used i s h e =
    bool_case (ltb h (length s.hubs))
    (ltb-true h _)
    (λ b. absurd (false≢true (sym (ap (owns i) (get_or-eq_default s.hubs no_hub (ltb-false h _ b))) ∙ e)))

pub handed_not : (i : ℕ) (f : Option ℕ) (x : Hub) → owns i x ≡ false → handed i f x ≡ x
unfolding handed
handed_not i f x e = rw e

pub handed_owned : (i : ℕ) (f : Option ℕ) (x : Hub) → owns i x ≡ true → handed i f x ≡ hub_after x (pass f x)
unfolding handed
handed_owned i f x e = rw e

-- a list's first waiter, by the sides of those in it
pub first_same : (s s' : State) (d : ℕ) (l : List ℕ) → ((j : ℕ) → 1 ≤ occ j l → (task s' j).side ≡ (task s j).side) → first_waiting s' d l ≡ first_waiting s d l
unfolding first_waiting occ
first_same s s' d [] e = refl
first_same s s' d (x ∷ xs) e = rw (e x (occ_here x xs), first_same s s' d xs (λ j h. e j (omega arith)))

-- ---- one hub

module _ (key : ℕ → ℕ) (i h : ℕ) (s : State) where
  pub one-not : owns i (hub s h) ≡ false → pass_one key i h s ≡ s
  unfolding pass_one
  one-not e = rw e

  pub one_none : owns i (hub s h) ≡ true → heir s h ≡ none → pass_one key i h s ≡ hold h 0 (hub s h).held s
  unfolding carry_out meet_all pass pass_one
  one_none e f = rw (e, f)

  pub one-some : owns i (hub s h) ≡ true → (w : ℕ) → heir s h ≡ some w → pass_one key i h s ≡ wake key w 1 0 (hold h (suc w) (hub s h).held s)
  unfolding carry_out meet_all pass pass_one
  one-some e w f = rw (e, f)

  module _ (l : Listed s) where
    heir-waits : (w : ℕ) → heir s h ≡ some w → ((task s w).state ≡ 3) × ((task s w).hub ≡ suc h)
    heir-waits w f = listed-waits s l h w (first-waits s 2 (hub s h).waiters w f).0

    -- by cases: not owned, owned with nobody waiting, owned with a waiter
    by_step : (P : State → Type 0) → (owns i (hub s h) ≡ false → P s)
        → (owns i (hub s h) ≡ true → heir s h ≡ none → P (hold h 0 (hub s h).held s))
        → (owns i (hub s h) ≡ true → (w : ℕ) → heir s h ≡ some w → P (wake key w 1 0 (hold h (suc w) (hub s h).held s))) → P (pass_one key i h s)
    by_step P a b d =
        bool_case (owns i (hub s h)) (λ e. by e (heir s h) refl) (λ e. rw (one-not e) (a e))
      where
        by : owns i (hub s h) ≡ true → (f : Option ℕ) → heir s h ≡ f → P (pass_one key i h s)
        by e none q = rw (one_none e q) (b e q)
        by e (some w) q = rw (one-some e w q) (d e w q)

    one-task : (j : ℕ) → task (pass_one key i h s) j ≡ cond (takes i s h j) (readied 1 0 (task s j)) (task s j)
    unfolding hold is_heir set_hub takes
    one-task j =
        by_step (λ (z : State). task z j ≡ cond (takes i s h j) (readied 1 0 (task s j)) (task s j))
        (λ e. rw e)
        (λ e q. rw (e, q))
        (λ e w q. same_or j w
        (λ a. rw (e, q, a, eq-eqb w w refl) (wake_same key (hold h (suc w) (hub s h).held s) w 1 0 (in_use s w 1 (heir-waits w q).0)))
        (λ n. rw (e, q, ne_eqb w j (λ a. n (sym a))) (wake_other key (hold h (suc w) (hub s h).held s) w 1 0 j n)))

    one_else : (g : ℕ) → g ≢ h → hub (pass_one key i h s) g ≡ hub s g
    unfolding hold
    one_else g n =
        by_step (λ (z : State). hub z g ≡ hub s g)
        (λ e. refl)
        (λ e q. hub-set_other s h _ g n)
        (λ e w q. hub-wake key _ w 1 0 g ∙ (ap (unqueue w) (hub-set_other s h _ g n) ∙ unqueued w (hub s g) (absent w q)))
      where
        absent : (w : ℕ) → heir s h ≡ some w → occ w (hub s g).waiters ≡ 0
        absent w q =
            l.waiters g w ∙ rw (ne_eqb (task s w).hub (suc g) (λ a. n (omega (arith, a, (heir-waits w q).1))), and-false)

        unqueued : (w : ℕ) (x : Hub) → occ w x.waiters ≡ 0 → unqueue w x ≡ x
        unqueued w x e = unfold queued unqueue in ap (λ (y : List ℕ). queued y x) (without-none w x.waiters e)

    one_core : core (hub (pass_one key i h s) h) ≡ core (handed i (heir s h) (hub s h))
    one_core =
        bool_case (owns i (hub s h))
        (λ e. by e (heir s h) refl ∙ ap core (sym (handed_owned i (heir s h) (hub s h) e)))
        (λ e. rw (one-not e, handed_not i (heir s h) (hub s h) e))
      where
        by : owns i (hub s h) ≡ true → (f : Option ℕ) → heir s h ≡ f → core (hub (pass_one key i h s) h) ≡ core (hub_after (hub s h) (pass (heir s h) (hub s h)))
        by e none q = unfold hub_after pass in rw (one_none e q, q) (unfold hold in ap core (hub-set_same s h _ (owned-used i s h e)))
        by e (some w) q =
            unfold hub_after pass in
            rw (one-some e w q, q) ((hubs-wake key w 1 0 (hold h (suc w) (hub s h).held s)).each h ∙ (unfold hold in ap core (hub-set_same s h _ (owned-used i s h e))))

-- ---- all of them

pub record Passed (i : ℕ) (s s' : State) : Type 0 where
  pub many : length s'.hubs ≡ length s.hubs
  pub hubs : (h : ℕ) → core (hub s' h) ≡ core (handed i (heir s h) (hub s h))
  pub waiter : (h j : ℕ) → waits_for s h j ≡ true → task s' j ≡ cond (takes i s h j) (readied 1 0 (task s j)) (task s j)
  pub other : (j : ℕ) → ((h : ℕ) → waits_for s h j ≡ false) → task s' j ≡ task s j

-- hubs below n have passed, and the others have not been looked at
pub record Part (i n : ℕ) (s s' : State) : Type 0 where
  pub later : (h : ℕ) → n ≤ h → hub s' h ≡ hub s h
  pub done : (h : ℕ) → h < n → core (hub s' h) ≡ core (handed i (heir s h) (hub s h))
  pub waiter : (h j : ℕ) → waits_for s h j ≡ true → task s' j ≡ cond (ltb h n && takes i s h j) (readied 1 0 (task s j)) (task s j)
  pub other : (j : ℕ) → ((h : ℕ) → waits_for s h j ≡ false) → task s' j ≡ task s j

none_below : (h : ℕ) → ltb h 0 ≡ false
none_below h = bool_case (ltb h 0) (λ b. absurd (omega (arith, ltb-true h 0 b))) (λ b. b)

not_below : (n : ℕ) → ltb n n ≡ false
not_below n = bool_case (ltb n n) (λ b. absurd (omega (arith, ltb-true n n b))) (λ b. b)

below_next : (h n : ℕ) → h ≢ n → ltb h (suc n) ≡ ltb h n
below_next h n d =
    bool_case (ltb h n)
    (λ b. rw b (lt-ltb h (suc n) (omega (arith, ltb-true h n b))))
    (λ b. bool_case (ltb h (suc n)) (λ a. absurd (omega (arith, ltb-true h (suc n) a, ltb-false h n b))) (λ a. rw (a, b)))

-- at one hub only
pub one-hub : (s : State) (h g j : ℕ) → waits_for s h j ≡ true → waits_for s g j ≡ true → h ≡ g
one-hub s h g j w u =
    omega (arith, eqb-true _ (suc h) (and_r (eqb (task s j).state 3) _ w), eqb-true _ (suc g) (and_r (eqb (task s j).state 3) _ u))

module _ (key : ℕ → ℕ) (i : ℕ) (s : State) (l : Listed s) where
  part_none : Part i 0 s (pass_all key i 0 s)
  unfolding pass_all
  part_none = record { later = λ h n. refl; done = λ h n. absurd (omega arith); waiter = λ h j w. rw (none_below h); other = λ j f. refl }

  module _ (n : ℕ) (p : Part i n s (pass_all key i n s)) where
    abbrev z : State
    z = pass_all key i n s

    untouched : (j : ℕ) → waits_for s n j ≡ true → task z j ≡ task s j
    untouched j w = p.waiter n j w ∙ rw (not_below n)

    heir_same : heir z n ≡ heir s n
    heir_same =
        ap (λ (x : Hub). first_waiting z 2 x.waiters) (p.later n (omega arith))
        ∙ first_same s z 2 (hub s n).waiters (λ j o. ap (λ (t : Task). t.side) (untouched j (listed-waiting s l n j o)))

    takes_same : (j : ℕ) → takes i z n j ≡ takes i s n j
    unfolding takes
    takes_same j = rw (heir_same, p.later n (omega arith))

    takes_other : (j : ℕ) → (waits_for s n j ≡ true → ⊥) → takes i s n j ≡ false
    takes_other j f = bool_case (takes i s n j) (λ b. absurd (f (takes_waits i s l n j b))) (λ b. b)

    next-task : (j : ℕ) → task (pass_all key i (suc n) s) j ≡ cond (takes i s n j) (readied 1 0 (task z j)) (task z j)
    unfolding pass_all
    next-task j = one-task key i n z (listed-pass key i n s l) j ∙ rw (takes_same j)

    part-next : Part i (suc n) s (pass_all key i (suc n) s)
    part-next = record {
      later = λ h m. unfold pass_all in (one_else key i n z (listed-pass key i n s l) h (λ e. omega (arith, e)) ∙ p.later h (omega arith));
      done = λ h m. same_or h n
          (λ e. rw e here)
          (λ e. unfold pass_all in (ap core (one_else key i n z (listed-pass key i n s l) h e) ∙ p.done h (omega arith)));
      waiter = λ h j w. next-task j ∙ same_or h n
          (λ e. rw e (rw (untouched j (rw e at w), lt-ltb n (suc n) (omega arith))))
          (λ e. rw (takes_other j (λ u. e (one-hub s h n j w u)), below_next h n e) (p.waiter h j w));
      other = λ j f. next-task j ∙ rw (takes_other j (λ u. false≢true (sym (f n) ∙ u))) (p.other j f);
    }
      where
        here : core (hub (pass_all key i (suc n) s) n) ≡ core (handed i (heir s n) (hub s n))
        here = unfold pass_all in (one_core key i n z (listed-pass key i n s l) ∙ rw (heir_same, p.later n (omega arith)))

  pub parts : (n : ℕ) → Part i n s (pass_all key i n s)
  parts zero = part_none
  parts (suc n) = part-next n (parts n)

  pub passed-all : Passed i s (pass_all key i (length s.hubs) s)
  passed-all = record {
    many = many_pass key i (length s.hubs) s;
    hubs = λ h. bool_case (ltb h (length s.hubs))
        (λ b. (parts (length s.hubs)).done h (ltb-true h _ b))
        (λ b. ap core ((parts (length s.hubs)).later h (ltb-false h _ b) ∙ sym (handed_not i (heir s h) (hub s h) (not-owned h b))));
    waiter = λ h j w. (parts (length s.hubs)).waiter h j w ∙ rw (lt-ltb h (length s.hubs) (waiting-used s l h j w));
    other = (parts (length s.hubs)).other;
  }
    where
      not-owned : (h : ℕ) → ltb h (length s.hubs) ≡ false → owns i (hub s h) ≡ false
      not-owned h b = bool_case (owns i (hub s h)) (λ o. absurd (omega (arith, owned-used i s h o, ltb-false h (length s.hubs) b))) (λ o. o)

-- ---- what follows of the tasks

-- a task waits at some hub, or at none
pub somewhere : (s : State) (j : ℕ) → ((h : ℕ) × (waits_for s h j ≡ true)) ⊎ ((h : ℕ) → waits_for s h j ≡ false)
somewhere s j = bool_case (eqb (task s j).state 3) (λ b. by b (task s j).hub refl) (λ b. inr (λ h. rw b))
  where
    by : eqb (task s j).state 3 ≡ true → (n : ℕ) → (task s j).hub ≡ n → ((h : ℕ) × (waits_for s h j ≡ true)) ⊎ ((h : ℕ) → waits_for s h j ≡ false)
    by b zero e = inr (λ h. rw (b, ne_eqb (task s j).hub (suc h) (λ q. omega (arith, e, q))))
    by b (suc g) e = inl (g, rw (b, eq-eqb (task s j).hub (suc g) e))

module _ (i n : ℕ) (s s' : State) (p : Part i n s s') where
  -- a record is as it was, or its task has taken over a hub
  pub passed-task : (j : ℕ) → (task s' j ≡ task s j) ⊎ ((h : ℕ) × (takes i s h j ≡ true) × (task s' j ≡ readied 1 0 (task s j)))
  passed-task j = by (somewhere s j)
    where
      by : ((h : ℕ) × (waits_for s h j ≡ true)) ⊎ ((h : ℕ) → waits_for s h j ≡ false)
          → (task s' j ≡ task s j) ⊎ ((h : ℕ) × (takes i s h j ≡ true) × (task s' j ≡ readied 1 0 (task s j)))
      by (inl (h, w)) =
          bool_case (ltb h n && takes i s h j)
          (λ b. inr (h, and_r (ltb h n) _ b, p.waiter h j w ∙ rw b))
          (λ b. inl (p.waiter h j w ∙ rw b))
      by (inr f) = inl (p.other j f)

  -- who waits afterwards is as it was
  pub still_task : (j : ℕ) → (task s' j).state ≡ 3 → task s' j ≡ task s j
  unfolding readied
  still_task j e = by (passed-task j)
    where
      by : (task s' j ≡ task s j) ⊎ ((h : ℕ) × (takes i s h j ≡ true) × (task s' j ≡ readied 1 0 (task s j))) → task s' j ≡ task s j
      by (inl q) = q
      by (inr (h, b, q)) = absurd (omega (arith, e, ap (λ (t : Task). t.state) q))

  pub still_waits : (h j : ℕ) → waits_for s' h j ≡ true → (waits_for s h j ≡ true) × ((ltb h n && takes i s h j) ≡ false)
  unfolding readied
  still_waits h j w =
      let q = still_task j (eqb-true _ 3 (and_l _ _ w)) in
      let w₀ : waits_for s h j ≡ true = subst (λ (t : Task). (eqb t.state 3 && eqb t.hub (suc h)) ≡ true) q w in
      (w₀, bool_case (ltb h n && takes i s h j) (λ b. absurd (taken w₀ b)) (λ b. b))
    where
      taken : waits_for s h j ≡ true → (ltb h n && takes i s h j) ≡ true → ⊥
      taken w₀ b =
          let q : task s' j ≡ readied 1 0 (task s j) = p.waiter h j w₀ ∙ rw b in
          let e : (task s' j).state ≡ 3 = eqb-true _ 3 (and_l _ _ w) in
          omega (arith, e, ap (λ (t : Task). t.state) q)
