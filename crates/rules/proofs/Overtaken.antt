-- M-104's number under M-108: a caller that has to wait stands, after the reordering, at the place at which it joined
-- (`wait-ahead`). In order: what one more task that waits does to effective priorities (`one_more`); a list's beginning that the
-- reordering leaves alone (`Begins`), so the place of the one who waits (`ahead_stays`); a hub request that waits.
-- Not here: the number over tables (Ahead.antt). Assumes nothing.
use Prim.Native.Nat.{◌<◌, ◌≤◌, suc, zero, ℕ}
use Rattle.lists.proofs.Fronts.{index_front, insert-behind, length-place, occ-front, occ-take, only-front, place-low}
use Rattle.lists.proofs.Laws.{bool_case, insert-place, without-none}
use Rattle.lists.specs.Lists.{index_of, insert, left_out, occ, place_of}
use Rattle.rules.proofs.Accepted.{Asked, request_tests}
use Rattle.rules.proofs.Cases.{and_r, cond_case, same_or}
use Rattle.rules.proofs.Changes.{hub-leave, hub-set_other, hub-set_same}
use Rattle.rules.proofs.Hubs.{core, hubs_join, hubs-leave}
use Rattle.rules.proofs.Inherited.{inherits_all, reaches_more}
use Rattle.rules.proofs.Kept.{Unsorted, unsorted_low, unsorted_serve, unsorted_sound, valid_unsorted}
use Rattle.rules.proofs.Meaning.{OwnersLow, effective_means, ranges_low, valid_sound}
use Rattle.rules.proofs.Reordered.{out-waiters, rejoin_by}
use Rattle.rules.proofs.Settled.{wait-caller, wait_other}
use Rattle.rules.proofs.Valid.{Sound, Valid}
use Rattle.rules.specs.Calls.{HubRequest, kept, serve, wait}
use Rattle.rules.specs.Effective.{effective}
use Rattle.rules.specs.Lists.{join_hub, join_ready, leave, queued, unqueue, waits}
use Rattle.rules.specs.Meaning.{Reaches, WaitsFor, itself, through}
use Rattle.rules.specs.Refusals.{refusal_for}
use Rattle.rules.specs.Reorder.{changed, put_back, rejoin, reordered, taken_out}
use Rattle.rules.specs.Table.{Hub, State, Task, hub, kind_of, set_hub, set_ready, set_task, task}
use Rattle.rules.specs.declared.Call.{Call}
use borrow.Author.Tests.{eq-eqb, eqb-false, eqb-true, ltb-false, ltb-true, ne_eqb, not-true}
use lib.Dec.{eqb, ltb}
use lib.ListN.{drop, length, take}
use lib.Seq.{set_out}
use mathlib.Core.Bool.{and-false, not, true}
use mathlib.Core.List.{List, [], ◌++◌, ◌∷◌, append_assoc}
use mathlib.Core.Logic.{◌≢◌, ◌⊎◌, inl, inr, ⊎_elim}
use mathlib.Core.Path.{◌∙◌, ◌≡◌, ap, refl, subst, sym}
use native.Mathlib.Omega.{arith}

-- ---- one more task waits

module _ (s s' : State) (i : ℕ) (x : Sound s) (x' : Sound s') (o : OwnersLow s) (o' : OwnersLow s')
    (own : (j : ℕ) → (task s' j).priority ≡ (task s j).priority)
    (more : (j k : ℕ) → WaitsFor s j k → WaitsFor s' j k)
    (new : (j k : ℕ) → WaitsFor s' j k → WaitsFor s j k ⊎ (j ≡ i)) where
  -- whoever reaches k now did before, or reaches i, who reaches k
  reached : (j k : ℕ) → Reaches s' j k → Reaches s j k ⊎ (Reaches s j i × Reaches s' i k)
  reached j k itself = inl itself
  reached j k (through {k = m} r w) =
      ⊎_elim
      (λ a. ⊎_elim
      (λ old. inl (through a old))
      (λ e. inr (subst (λ (n : ℕ). Reaches s j n) e a, through (subst (λ (n : ℕ). Reaches s' n m) e itself) w))
      (new m k w))
      (λ b. inr (b.0, through b.1 w))
      (reached j m r)

  below : (j k : ℕ) → Reaches s j k → effective s k ≤ (task s' j).priority
  below j k r = rw (own j) ((effective_means s x o k).least j r)

  -- nobody is less urgent than before
  not_less : (k : ℕ) → effective s' k ≤ effective s k
  not_less k =
      let a = effective_means s x o k in
      omega (arith, a.its, own a.whose, (effective_means s' x' o' k).least a.whose (reaches_more s s' more a.whose k a.among))

  pub waiter_same : effective s' i ≡ effective s i
  waiter_same =
      let a = effective_means s' x' o' i in
      omega (arith, a.its, not_less i, below a.whose i (⊎_elim (λ r. r) (λ b. b.0) (reached a.whose i a.among)))

  -- whoever becomes more urgent becomes as urgent as the one who waits
  pub one_more : (k : ℕ) → (effective s' k ≡ effective s k) ⊎ ((effective s' k ≡ effective s i) × (effective s i < effective s k))
  one_more k =
      let a = effective_means s' x' o' k in
      bool_case (eqb (effective s' k) (effective s k))
      (λ b. inl (eqb-true (effective s' k) (effective s k) b))
      (λ b. let n : effective s' k ≡ effective s k → ⊥ = eqb-false (effective s' k) (effective s k) b in
      ⊎_elim
      (λ r. absurd (n (omega (arith, a.its, not_less k, below a.whose k r))))
      (λ r. let up : effective s' k ≤ effective s' i = inherits_all s' x' o' i k r.1 in
      let e : effective s' k ≡ effective s i = omega (arith, a.its, up, waiter_same, below a.whose i r.0) in
      inr (e, omega (arith, e, not_less k, n)))
      (reached a.whose k a.among))

  -- ---- the reordering leaves the beginning of a list alone that ends with the one who waits

  module _ (h : ℕ) (f : List ℕ) (low : (y : ℕ) → 1 ≤ occ y f → effective s y ≤ effective s i) where
    -- who stands there did not change
    front_same : (y : ℕ) → 1 ≤ occ y f → effective s' y ≡ effective s y
    front_same y e = ⊎_elim (λ q. q) (λ q. absurd (omega (arith, q.1, low y e))) (one_more y)

    front_stays : (y : ℕ) → 1 ≤ occ y f → not (changed s s' y) ≡ true
    front_stays y e = rw (eq-eqb (effective s y) (effective s' y) (sym (front_same y e)), and-false) refl

    -- and goes before whoever is put back
    front-first : (j : ℕ) → changed s s' j ≡ true → (y : ℕ) → 1 ≤ occ y f → effective s' y ≤ effective s' j
    front-first j e y l =
        ⊎_elim
        (λ q. absurd (eqb-false (effective s j) (effective s' j) (not-true _ (and_r (ltb j (length s.tasks)) _ e)) (sym q)))
        (λ q. omega (arith, q.0, front_same y l, low y l))
        (one_more j)

    -- hub h's list begins with f
    record Begins (z : State) : Type 0 where
      rest : List ℕ
      is : (hub z h).waiters ≡ f ++ rest

    begins_rejoin : (j : ℕ) → changed s s' j ≡ true → (z : State) → Begins z → Begins (rejoin (effective s') j z)
    begins_rejoin j e z b =
        rejoin_by (effective s') j z Begins
        (λ _. unfold join_ready set_ready in record { rest = b.rest; is = b.is })
        (λ g _ _. queue g)
        (λ _ _. b)
      where
        x₁ : ℕ → Hub
        x₁ g = queued (insert (effective s') j (hub z g).waiters) (hub z g)

        here : insert (effective s') j (hub z h).waiters ≡ f ++ insert (effective s') j b.rest
        here = ap (insert (effective s') j) b.is ∙ insert-behind (effective s') j f b.rest (front-first j e)

        queue : (g : ℕ) → Begins (join_hub (effective s') g j z)
        queue g =
            same_or h g
            (λ q. bool_case (ltb g (length z.hubs))
            (λ n. record {
              rest = insert (effective s') j b.rest;
              is = unfold join_hub in (rw q (ap (λ (y : Hub). y.waiters) (hub-set_same z g (x₁ g) (ltb-true _ _ n)) ∙ unfold queued in (rw q at here)));
            })
            (λ n. record {
              rest = b.rest;
              is = unfold join_hub set_hub in rw (set_out z.hubs g (x₁ g) (ltb-false _ _ n)) b.is;
            }))
            (λ n. record {
              rest = b.rest;
              is = unfold join_hub in (ap (λ (y : Hub). y.waiters) (hub-set_other z g (x₁ g) h n) ∙ b.is);
            })

    begins_back : (n : ℕ) (z : State) → Begins z → Begins (put_back (effective s') (changed s s') n z)
    unfolding put_back
    begins_back zero z b = b
    begins_back (suc n) z b =
        let r = begins_back n z b in
        cond_case Begins (changed s s' n) _ _ (λ e. begins_rejoin n e (put_back (effective s') (changed s s') n z) r) (λ _. r)

    begins_reordered : (rest : List ℕ) → (hub s' h).waiters ≡ f ++ rest → Begins (reordered s s')
    unfolding reordered
    begins_reordered rest e =
        begins_back (length s.tasks) (taken_out (changed s s') s') (record {
          rest = left_out (changed s s') rest;
          is = out-waiters (changed s s') s' h ∙ (ap (left_out (changed s s')) e ∙ only-front (λ j. not (changed s s' j)) f rest front_stays);
        })

  -- ---- the number ahead

  pub ahead_stays : (h : ℕ) → occ i (hub s h).waiters ≡ 0 → (hub s' h).waiters ≡ insert (effective s) i (hub s h).waiters
      → index_of i (hub (reordered s s') h).waiters ≡ place_of (effective s) (effective s i) (hub s h).waiters
  ahead_stays h none joined =
      let b = begins_reordered h f low (drop k l) list in
      ap (index_of i) (b.is ∙ append_assoc pre (i ∷ []) b.rest) ∙ (index_front i pre b.rest absent ∙ length-place (effective s) (effective s i) l)
    where
      l : List ℕ
      l = (hub s h).waiters

      k : ℕ
      k = place_of (effective s) (effective s i) l

      pre : List ℕ
      pre = take k l

      f : List ℕ
      f = pre ++ i ∷ []

      absent : occ i pre ≡ 0
      absent = omega (arith, none, occ-take i k l)

      list : (hub s' h).waiters ≡ f ++ drop k l
      list = joined ∙ (insert-place (effective s) i l ∙ sym (append_assoc pre (i ∷ []) (drop k l)))

      low : (y : ℕ) → 1 ≤ occ y f → effective s y ≤ effective s i
      low y e =
          same_or i y
          (λ q. omega (arith, ap (effective s) q))
          (λ n. place-low (effective s) (effective s i) l y (occ-front y i pre n e))

-- ---- a hub request that has to wait

module _ (s : State) (c : Call) (v : Valid s) (e : refusal_for HubRequest s c ≡ 0) (same : serve (effective s) HubRequest s c ≡ wait (effective s) s c) where
  abbrev after : State
  after = wait (effective s) s c

  asked : Asked s c
  asked = request_tests s v.listed c e

  unsorted_after : Unsorted after
  unsorted_after = subst Unsorted same (unsorted_serve (effective s) HubRequest s c (valid_unsorted s v) e)

  abbrev left : State
  left = set_task c.caller (waits c.target c.ticks c.side (kept (hub s c.target) c) (task s c.caller)) (leave c.caller s)

  core_after : (g : ℕ) → core (hub after g) ≡ core (hub s g)
  unfolding wait
  core_after g = (hubs_join (effective s) c.target c.caller left).each g ∙ (unfold set_task in (hubs-leave c.caller s).each g)

  kind-after : (g : ℕ) → (hub after g).kind ≡ (hub s g).kind
  unfolding core queued
  kind-after g = ap (λ (x : Hub). x.kind) (core_after g)

  count-after : (g : ℕ) → (hub after g).count ≡ (hub s g).count
  unfolding core queued
  count-after g = ap (λ (x : Hub). x.count) (core_after g)

  other : (j : ℕ) → j ≢ c.caller → task after j ≡ task s j
  other = wait_other (effective s) s c asked.run

  own-after : (j : ℕ) → (task after j).priority ≡ (task s j).priority
  own-after j =
      same_or j c.caller
      (λ q. rw q (ap (λ (t : Task). t.priority) (wait-caller (effective s) s c asked.run) ∙ unfold waits in refl))
      (λ n. ap (λ (t : Task). t.priority) (other j n))

  more_after : (j k : ℕ) → WaitsFor s j k → WaitsFor after j k
  more_after j k w =
      let n : j ≢ c.caller = λ q. omega (arith, w.waiting, asked.run, ap (λ (m : ℕ). (task s m).state) q) in
      record {
        at = w.at;
        waiting = ap (λ (t : Task). t.state) (other j n) ∙ w.waiting;
        there = ap (λ (t : Task). t.hub) (other j n) ∙ w.there;
        resource = ap kind_of (kind-after w.at) ∙ w.resource;
        owned = count-after w.at ∙ w.owned;
      }

  new-after : (j k : ℕ) → WaitsFor after j k → WaitsFor s j k ⊎ (j ≡ c.caller)
  new-after j k w =
      same_or j c.caller
      (λ q. inr q)
      (λ n. inl (record {
        at = w.at;
        waiting = ap (λ (t : Task). t.state) (sym (other j n)) ∙ w.waiting;
        there = ap (λ (t : Task). t.hub) (sym (other j n)) ∙ w.there;
        resource = ap kind_of (sym (kind-after w.at)) ∙ w.resource;
        owned = sym (count-after w.at) ∙ w.owned;
      }))

  not_there : occ c.caller (hub s c.target).waiters ≡ 0
  not_there = rw (v.listed.waiters c.target c.caller, ne_eqb (task s c.caller).state 3 (λ q. omega (arith, q, asked.run))) refl

  gone_after : (hub left c.target).waiters ≡ (hub s c.target).waiters
  unfolding queued set_task unqueue
  gone_after = ap (λ (x : Hub). x.waiters) (hub-leave c.caller s c.target) ∙ without-none c.caller (hub s c.target).waiters not_there

  used-after : c.target < length left.hubs
  unfolding set_task
  used-after = omega (arith, asked.named, (hubs-leave c.caller s).many)

  joined-after : (hub after c.target).waiters ≡ insert (effective s) c.caller (hub s c.target).waiters
  unfolding join_hub queued wait
  joined-after =
      ap (λ (x : Hub). x.waiters) (hub-set_same left c.target (queued (insert (effective s) c.caller (hub left c.target).waiters) (hub left c.target)) used-after)
      ∙ ap (insert (effective s) c.caller) gone_after

  -- "the call shall also say how many requests stand before it in that list", "read after this": the place at which it joined
  pub wait-ahead : index_of c.caller (hub (reordered s after) c.target).waiters ≡ place_of (effective s) (effective s c.caller) (hub s c.target).waiters
  wait-ahead =
      ahead_stays s after c.caller (valid_sound s v) (unsorted_sound after unsorted_after) (ranges_low s v.ranges) (unsorted_low after unsorted_after)
      own-after more_after new-after c.target not_there joined-after
