-- Calls keep every Resource's owner active (M-101). In order: no task but a stopped one becomes inactive (`Lively`), move by move;
-- hubs as they were; the hub request, whose row names the new owner; Stop, after which the heirs own; each service. By any key.
use Prim.Native.Nat.{◌<◌, suc, zero, ℕ}
use Rattle.lists.proofs.Laws.{bool_case}
use Rattle.rules.proofs.Accepted.{Asked, hub_tests, on_task_lem, request_tests}
use Rattle.rules.proofs.Cases.{and_r, cond_case, same_or}
use Rattle.rules.proofs.Changes.{added_other, hub-added_other, hub-added_same, past_end, set_case}
use Rattle.rules.proofs.Handed.{handed, handed_not, handed_owned, owned_by, owned-count, owned-kind, owns_core, takes, takes_heir}
use Rattle.rules.proofs.Hubs.{SameHubs, hub_else, hub-target, hubs-answer, hubs-serve}
use Rattle.rules.proofs.Quiet.{Other, is_add_task, is_resume, is_sleep, is_start, is_suspend, is_tick, is_unknown, is_yield}
use Rattle.rules.proofs.Standing.{first-waits, listed-waits}
use Rattle.rules.proofs.Stops.{Stopped, heir-met, stop-stopped, stopped-task}
use Rattle.rules.proofs.Valid.{Listed, Owners}
use Rattle.rules.proofs.Verdicts.{after-kind, hub_after, owner-side, pass-count}
use Rattle.rules.proofs.Waiting.{Good}
use Rattle.rules.specs.Calls.{AddHub, AddTask, Blank, HubRequest, Resume, Service, Sleep, Start, Stop, Suspend, Tick, Unknown, Yield, add_hub, add_started, add_task, blank, flag, grant, heir, hold, may_stop, meet_all, new_hub, serve, settle, slept, start, stop, tick_all, tick_by, tick_one, wait, yielded}
use Rattle.rules.specs.HubTable.{Meeting, Verdict, fail, met, not_now, verdict}
use Rattle.rules.specs.Lists.{answer, answered, asleep, counted, first_waiting, flagged, join_hub, join_ready, leave, readied, waits, wake}
use Rattle.rules.specs.Refusals.{good_hub, refusal_for}
use Rattle.rules.specs.Table.{Hub, Resource, State, Task, hub, inactive, is_resource, kind_of, no_hub, owns, set_hub, set_ready, set_task, task}
use Rattle.rules.specs.declared.Call.{Call}
use borrow.Author.Tests.{eqb-true}
use lib.Dec.{eqb}
use lib.ListN.{length}
use mathlib.Core.Bool.{Bool, false, false≢true, true}
use mathlib.Core.List.{List, [], ◌∷◌}
use mathlib.Core.Logic.{◌≢◌, ◌⊎◌, inl, inr}
use mathlib.Core.Option.{some}
use mathlib.Core.Path.{◌∙◌, ◌≡◌, ap, sym}
use native.Mathlib.Omega.{arith}

-- ---- who is not inactive does not become so

abbrev pub Lively1 : Task → Task → Type 0
Lively1 t t' = t.state ≢ 1 → t'.state ≢ 1

unfoldable pub Lively : State → State → Type 0
Lively s s' = (j : ℕ) → Lively1 (task s j) (task s' j)

lively_refl : (s : State) → Lively s s
unfolding Lively
lively_refl s j n = n

pub lively_tasks : (s s' : State) → ((j : ℕ) → task s' j ≡ task s j) → Lively s s'
unfolding Lively
lively_tasks s s' e j n = rw (e j) n

lively_trans : (s₁ s₂ s₃ : State) → Lively s₁ s₂ → Lively s₂ s₃ → Lively s₁ s₃
unfolding Lively
lively_trans s₁ s₂ s₃ a b j n = b j (a j n)

-- one more record replaced
lively_set : (s s' : State) (i : ℕ) (t : Task) → Lively s s' → Lively1 (task s' i) t → Lively s (set_task i t s')
unfolding Lively
lively_set s s' i t q h j n = set_case s' i t (λ u. u.state ≢ 1) j (λ e. h (rw e at (q j n))) (q j n)

lively_answer : (s s' : State) (i a w : ℕ) → Lively s s' → Lively s (answer i a w s')
unfolding answer answered
lively_answer s s' i a w q = lively_set s s' i _ q (λ n. n)

module _ (key : ℕ → ℕ) where
  lively_wake : (s s' : State) (i a w : ℕ) → Lively s s' → Lively s (wake key i a w s')
  unfolding Lively join_ready leave readied set_ready wake
  lively_wake s s' i a w q = lively_set s (leave i s') i _ q (λ n e. omega (arith, e))

  lively_meet_all : (ms : List Meeting) (s s' : State) → Lively s s' → Lively s (meet_all key ms s')
  unfolding meet_all
  lively_meet_all [] s s' q = q
  lively_meet_all (m ∷ ms) s s' q = lively_meet_all ms s _ (lively_wake s s' m.waiter 1 m.word q)

  lively_start : (s s' : State) (i : ℕ) → Lively s s' → Lively s (start key i s')
  unfolding Lively join_ready readied set_ready start
  lively_start s s' i q = lively_set s s' i _ q (λ n e. omega (arith, e))

  lively_tick_by : (n : ℕ) (s s' : State) (i : ℕ) → Lively s s' → Lively s (tick_by key n i s')
  unfolding counted tick_by
  lively_tick_by zero s s' i q = q
  lively_tick_by (suc zero) s s' i q = lively_wake s s' i 3 0 q
  lively_tick_by (suc (suc n)) s s' i q = lively_set s s' i _ q (λ n. n)

  lively_tick : (n : ℕ) (s : State) → Lively s (tick_all key n s)
  unfolding tick_all tick_one
  lively_tick zero s = lively_refl s
  lively_tick (suc n) s = lively_tick_by _ s (tick_all key n s) n (lively_tick n s)

  lively_wait : (s : State) (c : Call) → Lively s (wait key s c)
  unfolding Lively join_hub leave set_hub wait waits
  lively_wait s c = lively_set s (leave c.caller s) c.caller _ (lively_refl s) (λ n e. omega (arith, e))

  lively_settle : (v : Verdict) (s : State) (c : Call) → Lively s (settle key v s c)
  unfolding Lively hold set_hub settle
  lively_settle (met n ws x ms) s c = lively_meet_all ms s _ (lively_answer s (hold c.target n ws s) c.caller 1 x (lively_refl s))
  lively_settle not_now s c =
      cond_case (Lively s) (eqb c.mode 2) _ _ (λ _. lively_answer s s c.caller 2 0 (lively_refl s)) (λ _. lively_wait s c)
  lively_settle fail s c = lively_answer s s c.caller 2 0 (lively_refl s)

lively_added : (s : State) (p : ℕ) → Lively s (add_task p s)
unfolding Lively inactive
lively_added s p j n =
    same_or j (length s.tasks)
    (λ e. absurd (n (rw (e, past_end s))))
    (λ d. rw (added_other p s j d) n)

lively_grant : (b : Bool) (s s' : State) (c : Call) → Lively s s' → Lively s (grant b s' s c)
unfolding grant
lively_grant true s s' c q = lively_answer s s' c.caller 1 0 q
lively_grant false s s' c q = lively_answer s s c.caller 2 0 (lively_refl s)

lively_serve : (key : ℕ → ℕ) (v : Service) → Other v → (s : State) (c : Call) → Lively s (serve key v s c)
unfolding Lively add_started asleep flag flagged join_ready leave serve set_ready slept yielded
lively_serve key Start is_start s c = lively_grant _ s _ c (lively_start key s s c.target (lively_refl s))
lively_serve key Suspend is_suspend s c = lively_grant _ s _ c (lively_set s s c.target _ (lively_refl s) (λ n. n))
lively_serve key Resume is_resume s c = lively_grant _ s _ c (lively_set s s c.target _ (lively_refl s) (λ n. n))
lively_serve key Yield is_yield s c = lively_answer s (leave c.caller s) c.caller 1 0 (lively_refl s)
lively_serve key Sleep is_sleep s c = lively_set s (leave c.caller s) c.caller _ (lively_refl s) (λ n e. omega (arith, e))
lively_serve key Tick is_tick s c = lively_tick key (length s.tasks) s
lively_serve key AddTask is_add_task s c =
    cond_case (Lively s) (eqb c.side 1) _ _
    (λ _. lively_start _ s (add_task c.target s) (length s.tasks) (lively_added s c.target))
    (λ _. lively_added s c.target)
lively_serve key Unknown is_unknown s c = lively_refl s
lively_serve key Blank x' s c = elim x' [ ]
lively_serve key HubRequest x'' s c = elim x'' [ ]
lively_serve key Stop x3 s c = elim x3 [ ]
lively_serve key AddHub x4 s c = elim x4 [ ]

-- ---- hubs as they were

pub owners_same : (s s' : State) → Owners s → SameHubs s s' → Lively s s' → Owners s'
unfolding Lively
owners_same s s' o e q = record { active = λ h i w. q i (o.active h i (sym (owns_core i (hub s h) (hub s' h) (e.each h)) ∙ w)) }

-- ---- the hub request: its row names the owner

owner-row : (s : State) (c : Call) (i : ℕ) → kind_of (hub s c.target).kind ≡ Resource → (hub_after (hub s c.target) (verdict s c)).count ≡ suc i
    → ((hub s c.target).count ≡ suc i) ⊎ ((i ≡ c.caller) ⊎ (first_waiting s 2 (hub s c.target).waiters ≡ some i))
unfolding verdict
owner-row s c i k e = owner-side _ s (hub s c.target) c i k e

owners_request : (key : ℕ → ℕ) (s : State) (c : Call) → Listed s → Owners s → Asked s c → Owners (settle key (verdict s c) s c)
unfolding Lively
owners_request key s c l o a = record {
  active = λ h i w. lively_settle key (verdict s c) s c i (same_or h c.target
      (λ e. target i (rw e at w))
      (λ n. o.active h i (sym (owns_core i (hub s h) (hub s' h) (hub_else key s c (verdict s c) h n)) ∙ w)));
}
  where
    s' : State
    s' = settle key (verdict s c) s c

    x : Hub
    x = hub s c.target

    by : (i : ℕ) → kind_of x.kind ≡ Resource → (x.count ≡ suc i) ⊎ ((i ≡ c.caller) ⊎ (first_waiting s 2 x.waiters ≡ some i)) → (task s i).state ≢ 1
    by i k (inl q) = o.active c.target i (owned_by i x k q)
    by i k (inr (inl q)) = λ z. omega (arith, a.run, rw q at z)
    by i k (inr (inr q)) = λ z. omega (arith, z, (listed-waits s l c.target i (first-waits s 2 x.waiters i q).0).0)

    target : (i : ℕ) → owns i (hub s' c.target) ≡ true → (task s i).state ≢ 1
    target i w =
        let v : owns i (hub_after x (verdict s c)) ≡ true = sym (owns_core i (hub_after x (verdict s c)) (hub s' c.target) (hub-target key s c (verdict s c) a.named)) ∙ w in
        let k : kind_of x.kind ≡ Resource = ap kind_of (sym (after-kind x (verdict s c))) ∙ owned-kind i _ v in
        by i k (owner-row s c i k (owned-count i _ v))

-- ---- Stop: an owner that is left is none that was stopped, and an heir is ready

owners_stop : (key : ℕ → ℕ) (i : ℕ) (s : State) → Good s → Owners s → i < length s.tasks → Owners (stop key i s)
unfolding readied
owners_stop key i s g o u = record { active = λ h j w. bool_case (owns i (hub s h)) (taken h j w) (kept h j w) }
  where
    s' : State
    s' = stop key i s

    q : Stopped i s s'
    q = stop-stopped key i s g u

    now : (h j : ℕ) → owns j (hub s' h) ≡ true → owns j (handed i (heir s h) (hub s h)) ≡ true
    now h j w = sym (owns_core j (handed i (heir s h) (hub s h)) (hub s' h) (q.hubs h)) ∙ w

    taken : (h j : ℕ) → owns j (hub s' h) ≡ true → owns i (hub s h) ≡ true → (task s' j).state ≢ 1
    taken h j w b =
        let f : heir s h ≡ some j = pass-count (heir s h) (hub s h) j (owned-count j _ (rw (handed_owned i (heir s h) (hub s h) b) at (now h j w))) in
        λ z. omega (arith, z, ap (λ (t : Task). t.state) (heir-met i s s' g q h j (takes_heir i s h j b f)))

    lives : (j : ℕ) → (task s j).state ≢ 1 → (task s' j ≡ task s j) ⊎ ((h : ℕ) × (takes i s h j ≡ true) × (task s' j ≡ readied 1 0 (task s j))) → (task s' j).state ≢ 1
    lives j n (inl e) = λ z. n (sym (ap (λ (t : Task). t.state) e) ∙ z)
    lives j n (inr (h, b, e)) = λ z. omega (arith, z, ap (λ (t : Task). t.state) e)

    kept : (h j : ℕ) → owns j (hub s' h) ≡ true → owns i (hub s h) ≡ false → (task s' j).state ≢ 1
    kept h j w b =
        let v : owns j (hub s h) ≡ true = rw (handed_not i (heir s h) (hub s h) b) at (now h j w) in
        lives j (o.active h j v) (stopped-task i s s' g q j (λ e. false≢true (sym b ∙ (rw e at v))))

-- ---- by service

owners_add_hub : (c : Call) (s : State) → good_hub (kind_of c.target) c.ticks c.word ≡ true → Owners s → Owners (add_hub (new_hub c) s)
unfolding add_hub good_hub new_hub
owners_add_hub c s e o = record {
  active = λ h i w. same_or h (length s.hubs)
      (λ q. absurd (new i (rw (q, hub-added_same (new_hub c) s) at w)))
      (λ n. o.active h i (rw (hub-added_other (new_hub c) s h n) at w));
}
  where
    -- a Resource begins free
    new : (i : ℕ) → owns i (new_hub c) ≡ true → ⊥
    new i w =
        let k : kind_of c.target ≡ Resource = owned-kind i (new_hub c) w in
        let n : c.word ≡ suc i = owned-count i (new_hub c) w in
        let z : c.word ≡ 0 = eqb-true _ 0 (and_r (eqb c.ticks 1) _ (rw k at e)) in
        omega (arith, n, z)

pub owners_blank : Owners blank
unfolding blank is_resource kind_of no_hub owns
owners_blank = record { active = λ h i w. absurd (false≢true w) }

pub owners_serve : (key : ℕ → ℕ) (v : Service) (s : State) (c : Call) → Good s → Owners s → refusal_for v s c ≡ 0 → Owners (serve key v s c)
owners_serve key v s c g o e = by v e
  where
    other : (v : Service) → Other v → Owners (serve key v s c)
    other v k = owners_same s (serve key v s c) o (hubs-serve key v k s c) (lively_serve key v k s c)

    told : (a : ℕ) (z : State) → Owners z → Owners (answer c.caller a 0 z)
    told a z k = owners_same z _ k (hubs-answer c.caller a 0 z) (lively_answer z z c.caller a 0 (lively_refl z))

    stopped : refusal_for Stop s c ≡ 0 → (b : Bool) → Owners (grant b (stop key c.target s) s c)
    stopped e true = unfold grant in told 1 _ (owners_stop key c.target s g o (unfold refusal_for in (on_task_lem s g.listed c e).1))
    stopped e false = unfold grant in told 2 s o

    by : (v : Service) → refusal_for v s c ≡ 0 → Owners (serve key v s c)
    by Blank e = unfold serve in owners_blank
    by HubRequest e = unfold serve in owners_request key s c g.listed o (request_tests s g.listed c e)
    by Start e = other Start is_start
    by Stop e = unfold serve in stopped e (may_stop (task s c.target) c)
    by Suspend e = other Suspend is_suspend
    by Resume e = other Resume is_resume
    by Yield e = other Yield is_yield
    by Sleep e = other Sleep is_sleep
    by Tick e = other Tick is_tick
    by AddTask e = other AddTask is_add_task
    by AddHub e = unfold serve in owners_add_hub c s (hub_tests s c e).0 o
    by Unknown e = other Unknown is_unknown
