-- A Stop that is granted: after it the requests and the table agree; those that turn met are the first waiters of the Resources
-- that the target owned (`turned-takes`), at each hub at most one (`stop-count`). Of a state, by any key.
use Prim.Native.Nat.{◌+◌, ◌<◌, ◌≤◌, suc, ℕ}
use Rattle.history.proofs.Again.{Agree, Entry, Meets, MovedOrMet, agree_moved, each-turned}
use Rattle.history.proofs.Asked.{same_moved}
use Rattle.history.proofs.Balance.{Share, owned-none, owned-some, owned_bit, share_same}
use Rattle.history.proofs.Classes.{class-met, class-stopped, class-waiting, is_class_lem}
use Rattle.history.proofs.Those.{each_imp, no_entries, those-map, those-none, those_same, those-those}
use Rattle.history.specs.History.{Request, again, at, class_of, how_many, is_class, is_waiting, met, reread, those, turned, turns, waiting, waits_by, words_of}
use Rattle.history.specs.Statements.{Each, Stands}
use Rattle.lists.proofs.Laws.{bool_case}
use Rattle.lists.specs.Lists.{bit}
use Rattle.rules.proofs.Cases.{and_l, and_r, same_or}
use Rattle.rules.proofs.Changes.{set_keeps}
use Rattle.rules.proofs.Handed.{handed, handed_not, handed_owned, is_heir_lem, one-hub, owned_by, owned-count, owned-kind, owned-used, owns_core, takes, takes_heir, takes_waits}
use Rattle.rules.proofs.Hubs.{core, hubs-answer}
use Rattle.rules.proofs.Quiet.{Moved, stopped}
use Rattle.rules.proofs.Settled.{answer_other}
use Rattle.rules.proofs.Standing.{first-waits, listed-waits}
use Rattle.rules.proofs.Stops.{Stopped, heir-met, heir_other, stop-stopped, stopped-task}
use Rattle.rules.proofs.Valid.{Valid}
use Rattle.rules.proofs.Verdicts.{after-kind, hub_after}
use Rattle.rules.proofs.Waiting.{stop-waiting, valid_good}
use Rattle.rules.specs.Calls.{heir, stop}
use Rattle.rules.specs.HubTable.{pass}
use Rattle.rules.specs.Lists.{answer, answered, holding, queued, readied}
use Rattle.rules.specs.Table.{Hub, Resource, State, Task, hub, inactive, kind_of, owns, task}
use Rattle.rules.specs.WellFormed.{waits_for}
use Rattle.rules.specs.declared.Call.{Call}
use borrow.Author.Tests.{eq-eqb, eqb-false, eqb-true, ne_eqb}
use lib.Dec.{eqb}
use lib.ListN.{length, length-map}
use mathlib.Core.Bool.{◌&&◌, false, false≢true, true}
use mathlib.Core.List.{List, [], map}
use mathlib.Core.Logic.{◌≢◌, ◌⊎◌, inl, inr}
use mathlib.Core.Option.{Option, none, some}
use mathlib.Core.Path.{◌∙◌, ◌≡◌, ap, refl, subst, sym}
use native.Mathlib.Omega.{arith}

pub handed_kind : (i : ℕ) (f : Option ℕ) (x : Hub) → (handed i f x).kind ≡ x.kind
handed_kind i f x =
    bool_case (owns i x)
    (λ o. ap (λ (y : Hub). y.kind) (handed_owned i f x o) ∙ after-kind x (pass f x))
    (λ o. ap (λ (y : Hub). y.kind) (handed_not i f x o))

-- the words of a side at a hub are as many as its requests
words_many : (h d : ℕ) (rs : List Request) → length (words_of h d rs) ≡ how_many (at h d) rs
unfolding words_of
words_many h d rs = length-map (those (at h d) rs) _

words-none : (h d : ℕ) (rs : List Request) → how_many (at h d) rs ≡ 0 → words_of h d rs ≡ []
words-none h d rs e = no_entries _ (words_many h d rs ∙ e)

passed-owner : (x : Hub) (j : ℕ) (f : Option ℕ) → f ≡ some j → kind_of x.kind ≡ Resource → owns j (hub_after x (pass f x)) ≡ true
unfolding holding hub_after pass
passed-owner x j f e k = rw e (owned_by j _ k refl)

module _ (key : ℕ → ℕ) (s : State) (c : Call) (g : Valid s) (run : (task s c.caller).state ≡ 2) (u : c.target < length s.tasks) where
  abbrev i : ℕ
  i = c.target

  -- the target is out, its Resources have passed, the caller is answered
  abbrev s₁ : State
  s₁ = stop key i s

  abbrev s' : State
  s' = answer c.caller 1 0 s₁

  q : Stopped i s s₁
  q = stop-stopped key i s (valid_good s g) u

  -- ---- a task that waited

  free : (j : ℕ) → (task s j).state ≡ 3 → j ≢ c.caller
  free j e p = omega (arith, run, rw p at e)

  -- it was the target; it takes over a hub; it takes none, and is as it was
  pub stop_fates : (P : Task → Type 0) (j : ℕ) → (task s j).state ≡ 3 → (j ≡ i → (t : Task) → t.state ≡ 1 → P t)
      → ((h : ℕ) → takes i s h j ≡ true → P (readied 1 0 (task s j))) → (((h : ℕ) → takes i s h j ≡ false) → P (task s j)) → P (task s' j)
  unfolding inactive readied
  stop_fates P j e out won rests =
      rw (answer_other s₁ c.caller 1 0 j (free j e))
      (same_or j i
      (λ p. out p (task s₁ j) (rw p (ap (λ (t : Task). t.state) q.target)))
      (λ n. by (stopped-task i s s₁ (valid_good s g) q j n)))
    where
      takes_none : task s₁ j ≡ task s j → (h : ℕ) → takes i s h j ≡ false
      takes_none p h =
          bool_case (takes i s h j)
          (λ b. absurd (omega (arith, e, ap (λ (t : Task). t.state) p, ap (λ (t : Task). t.state) (heir-met i s s₁ (valid_good s g) q h j b))))
          (λ b. b)

      by : (task s₁ j ≡ task s j) ⊎ ((h : ℕ) × (takes i s h j ≡ true) × (task s₁ j ≡ readied 1 0 (task s j))) → P (task s₁ j)
      by (inl p) = rw p (rests (takes_none p))
      by (inr (h, b, p)) = rw p (won h b)

  stop-moves : MovedOrMet s s'
  unfolding readied
  stop-moves j e =
      stop_fates (λ t. Moved (task s j) t ⊎ Meets t) j e (λ p t z. inl (stopped z)) (λ h b. inr (refl, refl)) (λ f. inl (same_moved (task s j) (task s j) refl e))

  -- who waits afterwards waited before
  stop_fresh : (j : ℕ) → (task s' j).state ≡ 3 → (task s j).state ≡ 3
  unfolding answer answered
  stop_fresh j e = stop-waiting key i s (valid_good s g) u j (sym (set_keeps s₁ c.caller _ (λ (t : Task). t.state) refl j) ∙ e)

  -- ---- the requests

  module _ (rs : List Request) (a : Agree s rs) where
    pub stop_agree : Agree s' (map (again s') rs)
    stop_agree = agree_moved s s' rs a stop-moves stop_fresh

    -- a request turns met just where its task takes over its hub
    turns_takes : (r : Request) → Entry s r → turns met s' r ≡ (is_waiting r && takes i s r.hub r.task)
    unfolding readied
    turns_takes r k =
        bool_case (is_waiting r) (λ b. rw b (by (k.stands (is_class_lem waiting r.class b)))) (λ b. rw b)
      where
        by : Stands s r → is_class met (class_of (task s' r.task)) ≡ takes i s r.hub r.task
        by p =
            stop_fates (λ t. is_class met (class_of t) ≡ takes i s r.hub r.task) r.task p.state
            (λ e t z. rw (class-stopped t z) (sym (none e)))
            (λ h b. rw (class-met (readied 1 0 (task s r.task)) refl refl) (sym (subst (λ (m : ℕ). takes i s m r.task ≡ true) (here h b) b)))
            (λ f. rw (class-waiting (task s r.task) p.state, f r.hub))
          where
            waits : waits_for s r.hub r.task ≡ true
            waits = rw (eq-eqb (task s r.task).state 3 p.state, eq-eqb (task s r.task).hub (suc r.hub) p.hub)

            here : (h : ℕ) → takes i s h r.task ≡ true → h ≡ r.hub
            here h b = one-hub s h r.hub r.task (takes_waits i s g.listed h r.task b) waits

            none : r.task ≡ i → takes i s r.hub r.task ≡ false
            none e = bool_case (takes i s r.hub r.task) (λ b. absurd (heir_other i s s₁ (valid_good s g) q r.hub r.task b e)) (λ b. b)

    -- who takes over a hub is a getter
    takes_side : (h j : ℕ) → takes i s h j ≡ true → (task s j).side ≡ 2
    unfolding takes
    takes_side h j b = (first-waits s 2 (hub s h).waiters j (is_heir_lem (heir s h) j (and_r (owns i (hub s h)) _ b))).1

    pub stop-turned : Each (λ r. (takes i s r.hub r.task ≡ true) × (r.side ≡ 2)) (turned met s' rs)
    unfolding reread
    stop-turned =
        each-turned _ met s' rs (each_imp (Entry s) _ (λ r k w m.
        let b : takes i s r.hub r.task ≡ true = and_r (is_waiting r) _ (sym (turns_takes r k) ∙ rw (w, m)) in
        (b, sym (k.stands w).side ∙ takes_side r.hub r.task b)) rs a.entries)

    -- how many of a side at a hub
    counted : (h d : ℕ) → how_many (at h d) (turned met s' rs) ≡ how_many (λ r. (is_waiting r && takes i s r.hub r.task) && at h d r) rs
    unfolding reread turned
    counted h d =
        ap length (those-map (at h d) (reread s') (those (turns met s') rs))
        ∙ (length-map (those (at h d) (those (turns met s') rs)) (reread s')
        ∙ ap length (those-those (at h d) (turns met s') rs ∙ those_same _ _ rs (each_imp (Entry s) _ (λ r k. rw (turns_takes r k)) rs a.entries)))

    count_none : (h d : ℕ) → ((j : ℕ) → takes i s h j ≡ true → d ≡ 2 → ⊥) → how_many (at h d) (turned met s' rs) ≡ 0
    count_none h d z = counted h d ∙ ap length (those-none _ rs (each_imp (Entry s) _ never rs a.entries))
      where
        never : (r : Request) → Entry s r → ((is_waiting r && takes i s r.hub r.task) && at h d r) ≡ false
        never r k =
            bool_case ((is_waiting r && takes i s r.hub r.task) && at h d r)
            (λ b. absurd (let w = is_class_lem waiting r.class (and_l (is_waiting r) _ (and_l (is_waiting r && takes i s r.hub r.task) _ b)) in
            let t : takes i s r.hub r.task ≡ true = and_r (is_waiting r) _ (and_l (is_waiting r && takes i s r.hub r.task) _ b) in
            let o = and_r (is_waiting r && takes i s r.hub r.task) _ b in
            let e : r.hub ≡ h = eqb-true r.hub h (and_l _ _ o) in
            let f : r.side ≡ d = eqb-true r.side d (and_r (eqb r.hub h) _ o) in
            z r.task (rw e at t) (sym f ∙ (sym (k.stands w).side ∙ takes_side r.hub r.task t))))
            (λ b. b)

    count-one : (h w : ℕ) → owns i (hub s h) ≡ true → heir s h ≡ some w → how_many (at h 2) (turned met s' rs) ≡ 1
    unfolding takes
    count-one h w o f =
        counted h 2
        ∙ (ap length (those_same _ (waits_by w) rs (each_imp (Entry s) _ (λ r k. bool_case (is_waiting r) (λ b. rw b (just r (k.stands (is_class_lem waiting r.class b)))) (λ b. rw b)) rs a.entries))
        ∙ (a.one w ∙ rw (eq-eqb (task s w).state 3 stands.0)))
      where
        stands : ((task s w).state ≡ 3) × ((task s w).hub ≡ suc h)
        stands = listed-waits s g.listed h w (first-waits s 2 (hub s h).waiters w f).0

        same : (j : ℕ) → takes i s h j ≡ true → j ≡ w
        same j b = some_is (sym (is_heir_lem (heir s h) j (and_r (owns i (hub s h)) _ b)) ∙ f)
          where
            some_is : some j ≡ some w → j ≡ w
            some_is e = cc

        just : (r : Request) → Stands s r → (takes i s r.hub r.task && at h 2 r) ≡ eqb r.task w
        just r p =
            same_or r.task w
            (λ e. let hb : r.hub ≡ h = omega (arith, p.hub, stands.1, ap (λ (j : ℕ). (task s j).hub) e) in
            let sd : r.side ≡ 2 = sym p.side ∙ (rw e (first-waits s 2 (hub s h).waiters w f).1) in
            rw (e, hb, sd, takes_heir i s h w o f, eq-eqb h h refl, eq-eqb w w refl))
            (λ n. rw (ne_eqb r.task w n)
            (bool_case (takes i s r.hub r.task && at h 2 r)
            (λ b. absurd (n (same r.task (subst (λ (m : ℕ). takes i s m r.task ≡ true) (eqb-true r.hub h (and_l _ _ (and_r (takes i s r.hub r.task) _ b))) (and_l _ _ b)))))
            (λ b. b)))

    -- where nobody waits nobody takes over
    unheired : (h j : ℕ) → takes i s h j ≡ true → heir s h ≡ none → ⊥
    unfolding takes
    unheired h j b e = absurd (let z : none ≡ some j = sym e ∙ is_heir_lem (heir s h) j (and_r (owns i (hub s h)) _ b) in let y : ◌≡◌ {A = ℕ} 0 1 = cc in omega arith)

    -- ---- the balance of each hub

    hubs-after : (h : ℕ) → core (hub s' h) ≡ core (handed i (heir s h) (hub s h))
    hubs-after h = (hubs-answer c.caller 1 0 s₁).each h ∙ q.hubs h

    pub stop-kind : (h : ℕ) → kind_of (hub s' h).kind ≡ kind_of (hub s h).kind
    unfolding core queued
    stop-kind h = ap (λ (x : Hub). kind_of x.kind) (hubs-after h) ∙ ap kind_of (handed_kind i (heir s h) (hub s h))

    no_puts : (h : ℕ) → words_of h 1 (turned met s' rs) ≡ []
    no_puts h = words-none h 1 _ (count_none h 1 (λ j b e. omega (arith, e)))

    -- one that waited has its lock, and one owner was removed
    share_owned : (h : ℕ) → owns i (hub s h) ≡ true → (f : Option ℕ) → heir s h ≡ f
        → owned_bit (hub s h) + length (words_of h 2 (turned met s' rs)) ≡ owned_bit (hub s' h) + 0 + 1
    unfolding core holding hub_after pass queued takes
    share_owned h o f e = by f e
      where
        before : owned_bit (hub s h) ≡ 1
        before = owned-some (hub s h) i (owned-count i (hub s h) o)

        count : (hub s' h).count ≡ (hub_after (hub s h) (pass (heir s h) (hub s h))).count
        count = ap (λ (x : Hub). x.count) (hubs-after h ∙ ap core (handed_owned i (heir s h) (hub s h) o))

        by : (f : Option ℕ) → heir s h ≡ f → owned_bit (hub s h) + length (words_of h 2 (turned met s' rs)) ≡ owned_bit (hub s' h) + 0 + 1
        by (some w) e =
            let n : (hub s' h).count ≡ suc w = count ∙ rw e in
            omega (arith, before, words_many h 2 (turned met s' rs), count-one h w o e, owned-some (hub s' h) w n)
        by none e =
            let n : (hub s' h).count ≡ 0 = count ∙ rw e in
            omega (arith, before, words_many h 2 (turned met s' rs), count_none h 2 (λ j b _. unheired h j b e), owned-none (hub s' h) n)

    pub stop_share : (h : ℕ) → Share (kind_of (hub s h).kind) (hub s h) (hub s' h) (bit (owns i (hub s h))) (words_of h 1 (turned met s' rs)) (words_of h 2 (turned met s' rs))
    unfolding Share takes
    stop_share h =
        rw (no_puts h)
        (bool_case (owns i (hub s h))
        (λ o. rw (o, owned-kind i (hub s h) o) (share_owned h o (heir s h) refl))
        (λ o. rw (o, words-none h 2 (turned met s' rs) (count_none h 2 (λ j b _. false≢true (sym o ∙ and_l _ _ b))))
        (share_same (kind_of (hub s h).kind) (hub s h) (hub s' h) (hubs-after h ∙ ap core (handed_not i (heir s h) (hub s h) o)))))

    pub stop_beyond : (h d : ℕ) → length s.hubs ≤ h → words_of h d (turned met s' rs) ≡ []
    unfolding takes
    stop_beyond h d l = words-none h d _ (count_none h d (λ j b e. omega (arith, l, owned-used i s h (and_l _ _ b))))

    -- who takes over a hub owns it afterwards
    pub stop-owner : (h j : ℕ) → takes i s h j ≡ true → owns j (hub s' h) ≡ true
    unfolding takes
    stop-owner h j b =
        let o : owns i (hub s h) ≡ true = and_l _ _ b in
        let f : heir s h ≡ some j = is_heir_lem (heir s h) j (and_r (owns i (hub s h)) _ b) in
        owns_core j (handed i (heir s h) (hub s h)) (hub s' h) (hubs-after h) ∙ ap (owns j) (handed_owned i (heir s h) (hub s h) o) ∙ passed-owner (hub s h) j (heir s h) f (owned-kind i (hub s h) o)

    -- one of a side at a hub at most
    pub stop-one : (h d : ℕ) → how_many (at h d) (turned met s' rs) ≤ 1
    unfolding takes
    stop-one h d = bool_case (eqb d 2) (λ b. rw (eqb-true d 2 b) (two (heir s h) refl)) (λ b. none-met d (λ j t e. eqb-false d 2 b e))
      where
        none-met : (d : ℕ) → ((j : ℕ) → takes i s h j ≡ true → d ≡ 2 → ⊥) → how_many (at h d) (turned met s' rs) ≤ 1
        none-met d z = omega (arith, count_none h d z)

        two : (f : Option ℕ) → heir s h ≡ f → how_many (at h 2) (turned met s' rs) ≤ 1
        two (some w) e =
            bool_case (owns i (hub s h))
            (λ o. omega (arith, count-one h w o e))
            (λ o. none-met 2 (λ j t _. false≢true (sym o ∙ and_l _ _ t)))
        two none e = none-met 2 (λ j t _. unheired h j t e)
