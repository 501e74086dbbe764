-- Calls keep the lists exact. In order: a task leaves all lists, changes, and joins one or none ("exact but for task i, who
-- is nowhere" between); each service's part; each service. By any key.
use Prim.Native.Nat.{◌+◌, ◌<◌, ◌≤◌, suc, zero, ℕ}
use Rattle.lists.proofs.Counting.{occ-insert, occ-without}
use Rattle.lists.proofs.Laws.{bool_case}
use Rattle.lists.specs.Lists.{bit, insert, occ}
use Rattle.rules.proofs.Accepted.{Asked, by_running_lem, on_task_lem, request_tests}
use Rattle.rules.proofs.Cases.{cond_case, same_or}
use Rattle.rules.proofs.Changes.{added_keeps, added_same, hub-added_other, hub-added_same, hub-leave, hub_past_end, hub-set_keeps, hub-set_other, hub-set_same, in_use, length-add_task, set_keeps, set_other, set_same}
use Rattle.rules.proofs.Hubs.{hubs-leave}
use Rattle.rules.proofs.Lengths.{length_tick}
use Rattle.rules.proofs.Passing.{pass_keeps}
use Rattle.rules.proofs.Settled.{InUse, in_use_move, length-answer, length-wake, partners, partners_in}
use Rattle.rules.proofs.Standing.{first-waits, listed-waits}
use Rattle.rules.proofs.Valid.{Listed}
use Rattle.rules.proofs.Verdicts.{Each, waiters_met}
use Rattle.rules.specs.Calls.{AddHub, AddTask, Blank, HubRequest, Resume, Service, Sleep, Start, Stop, Suspend, Tick, Unknown, Yield, add_hub, add_started, add_task, blank, carry_out, deactivate, flag, grant, heir, hold, kept, meet_all, new_hub, pass_all, serve, settle, slept, start, stop, tick_all, tick_by, tick_one, wait, yielded}
use Rattle.rules.specs.HubTable.{Meeting, Verdict, fail, met, not_now, pass, verdict}
use Rattle.rules.specs.Lists.{answer, answered, asleep, counted, flagged, holding, join_hub, join_ready, leave, queued, readied, unqueue, waits, wake}
use Rattle.rules.specs.Refusals.{refusal_for}
use Rattle.rules.specs.Table.{Hub, State, Task, hub, inactive, no_hub, set_hub, set_ready, set_task, task}
use Rattle.rules.specs.WellFormed.{is_ready, waits_for}
use Rattle.rules.specs.declared.Call.{Call}
use borrow.Author.Tests.{eq-eqb, eqb-false, eqb-true, ne_eqb}
use lib.Dec.{eqb}
use lib.ListN.{length}
use mathlib.Core.Bool.{Bool, and-false, cond, false, true}
use mathlib.Core.List.{List, [], ◌∷◌}
use mathlib.Core.Logic.{◌≢◌}
use mathlib.Core.Option.{Option, none, some}
use mathlib.Core.Path.{◌∙◌, ◌≡◌, ap, refl, subst, sym}
use native.Mathlib.Omega.{arith}

-- ---- exact but for task i, which stands in no list

record Almost (i : ℕ) (s : State) : Type 0 where
  ready : (j : ℕ) → occ j s.ready ≡ cond (eqb i j) 0 (bit (is_ready s j))
  waiters : (h j : ℕ) → occ j (hub s h).waiters ≡ cond (eqb i j) 0 (bit (waits_for s h j))

out-bit : (i j : ℕ) (b : Bool) → (i ≡ j → b ≡ false) → cond (eqb i j) 0 (bit b) ≡ bit b
out-bit i j b f = bool_case (eqb i j) (λ e. rw (e, f (eqb-true i j e)) refl) (λ e. rw e refl)

in_bit : (i j n : ℕ) (b : Bool) → (i ≡ j → b ≡ true) → n ≡ cond (eqb i j) 0 (bit b) → bit (eqb i j) + n ≡ bit b
in_bit i j n b f e = bool_case (eqb i j) (λ q. rw (e, q, f (eqb-true i j q)) refl) (λ q. rw (e, q) (omega arith))

not-ready : (s : State) (i j : ℕ) → (task s i).state ≢ 2 → i ≡ j → is_ready s j ≡ false
not-ready s i j n q = ne_eqb (task s j).state 2 (λ e. n (rw q e))

not-waiting : (s : State) (h i j : ℕ) → (task s i).state ≢ 3 → i ≡ j → waits_for s h j ≡ false
not-waiting s h i j n q = rw (ne_eqb (task s j).state 3 (λ e. n (rw q e))) refl

leaving : (i : ℕ) (s : State) → Listed s → Almost i (leave i s)
leaving i s l = record {
  ready = λ j. unfold leave in (occ-without i j s.ready ∙ ap (cond (eqb i j) 0) (l.ready j));
  waiters = λ h j. ap (λ (x : Hub). occ j x.waiters) (hub-leave i s h)
      ∙ (unfold leave queued unqueue in (occ-without i j (hub s h).waiters ∙ ap (cond (eqb i j) 0) (l.waiters h j)));
}

changing : (i : ℕ) (t : Task) (s : State) → Almost i s → Almost i (set_task i t s)
changing i t s a = record {
  ready = λ j. bool_case (eqb i j)
      (λ b. unfold set_task in rw b (rw b at (a.ready j)))
      (λ b. rw (set_other s i t j (λ e. eqb-false i j b (sym e))) (unfold set_task in a.ready j));
  waiters = λ h j. bool_case (eqb i j)
      (λ b. unfold set_task in rw b (rw b at (a.waiters h j)))
      (λ b. rw (set_other s i t j (λ e. eqb-false i j b (sym e))) (unfold set_task in a.waiters h j));
}

-- state 2: into the ready list
joining : (key : ℕ → ℕ) (i : ℕ) (s : State) → Almost i s → (task s i).state ≡ 2 → Listed (join_ready key i s)
unfolding join_ready set_ready
joining key i s a e = record {
  ready = λ j. occ-insert key i j s.ready ∙ in_bit i j _ (is_ready s j) (λ q. rw (sym q) (eq-eqb (task s i).state 2 e)) (a.ready j);
  waiters = λ h j. a.waiters h j ∙ out-bit i j (waits_for s h j) (not-waiting s h i j (λ f. omega (arith, f)));
}

-- state 3 at a hub in use: into the hub's list
queueing : (key : ℕ → ℕ) (h i : ℕ) (s : State) → Almost i s → h < length s.hubs → (task s i).state ≡ 3 → (task s i).hub ≡ suc h
    → Listed (join_hub key h i s)
unfolding join_hub queued set_hub
queueing key h i s a l e f = record {
  ready = λ j. a.ready j ∙ out-bit i j (is_ready s j) (not-ready s i j (λ g. omega (arith, g)));
  waiters = λ g j. same_or g h (λ q. rw q (here j)) (λ n. elsewhere g j n);
}
  where
    x : Hub
    x = queued (insert key i (hub s h).waiters) (hub s h)

    here : (j : ℕ) → occ j (hub (set_hub h x s) h).waiters ≡ bit (waits_for s h j)
    here j =
        ap (λ (y : Hub). occ j y.waiters) (hub-set_same s h x l)
        ∙ (occ-insert key i j (hub s h).waiters
        ∙ in_bit i j _ (waits_for s h j) (λ q. rw (sym q) (rw (eq-eqb (task s i).state 3 e) (eq-eqb (task s i).hub (suc h) f))) (a.waiters h j))

    elsewhere : (g j : ℕ) → g ≢ h → occ j (hub (set_hub h x s) g).waiters ≡ bit (waits_for s g j)
    elsewhere g j n =
        ap (λ (y : Hub). occ j y.waiters) (hub-set_other s h x g n)
        ∙ (a.waiters g j
        ∙ out-bit i j (waits_for s g j)
        (λ q. rw (sym q) (rw (ne_eqb (task s i).hub (suc g) (λ r. n (omega (arith, r)))) (and-false (eqb (task s i).state 3)))))

-- neither ready nor waiting: in no list
aside : (i : ℕ) (s : State) → Almost i s → (task s i).state ≢ 2 → (task s i).state ≢ 3 → Listed s
aside i s a e f = record {
  ready = λ j. a.ready j ∙ out-bit i j (is_ready s j) (not-ready s i j e);
  waiters = λ h j. a.waiters h j ∙ out-bit i j (waits_for s h j) (not-waiting s h i j f);
}

unlisted : (i : ℕ) (s : State) → Listed s → (task s i).state ≢ 2 → (task s i).state ≢ 3 → Almost i s
unlisted i s l e f = record {
  ready = λ j. l.ready j ∙ sym (out-bit i j (is_ready s j) (not-ready s i j e));
  waiters = λ h j. l.waiters h j ∙ sym (out-bit i j (waits_for s h j) (not-waiting s h i j f));
}

-- ---- the lists as they were, and the state and hub of every task

steady : (s s' : State) → Listed s → s'.ready ≡ s.ready → ((h : ℕ) → (hub s' h).waiters ≡ (hub s h).waiters)
    → ((j : ℕ) → (task s' j).state ≡ (task s j).state) → ((j : ℕ) → (task s' j).hub ≡ (task s j).hub) → Listed s'
steady s s' l r w st hb = record {
  ready = λ j. ap (occ j) r ∙ (l.ready j ∙ rw (st j) refl);
  waiters = λ h j. ap (occ j) (w h) ∙ (l.waiters h j ∙ rw (st j, hb j) refl);
}

listed-set : (i : ℕ) (t : Task) (s : State) → Listed s → t.state ≡ (task s i).state → t.hub ≡ (task s i).hub → Listed (set_task i t s)
listed-set i t s l e f =
    steady s (set_task i t s) l (unfold set_task in refl) (λ h. unfold set_task in refl)
    (set_keeps s i t (λ (x : Task). x.state) e) (set_keeps s i t (λ (x : Task). x.hub) f)

-- ---- the services' parts

pub listed_answer : (i a w : ℕ) (s : State) → Listed s → Listed (answer i a w s)
unfolding answer answered
listed_answer i a w s l = listed-set i (answered a w (task s i)) s l refl refl

listed-flag : (f i : ℕ) (s : State) → Listed s → Listed (flag f i s)
unfolding flag flagged
listed-flag f i s l = listed-set i (flagged f (task s i)) s l refl refl

pub listed-hold : (h n : ℕ) (ws : List ℕ) (s : State) → Listed s → Listed (hold h n ws s)
unfolding hold
listed-hold h n ws s l =
    steady s _ l (unfold set_hub in refl)
    (hub-set_keeps s h (holding n ws (hub s h)) (λ (x : Hub). x.waiters) (unfold holding in refl))
    (λ j. unfold set_hub in refl) (λ j. unfold set_hub in refl)

module _ (key : ℕ → ℕ) where
  pub listed-wake : (i a w : ℕ) (s : State) → Listed s → i < length s.tasks → Listed (wake key i a w s)
  unfolding wake
  listed-wake i a w s l h =
      joining key i (set_task i t (leave i s)) (changing i t (leave i s) (leaving i s l))
      (ap (λ (x : Task). x.state) (set_same (leave i s) i t (unfold leave in h)) ∙ unfold readied in refl)
    where
      t : Task
      t = readied a w (task s i)

  listed-meet_all : (ms : List Meeting) (s : State) → InUse s ms → Listed s → Listed (meet_all key ms s)
  unfolding Each meet_all
  listed-meet_all [] s u l = l
  listed-meet_all (m ∷ ms) s u l =
      listed-meet_all ms (wake key m.waiter 1 m.word s)
      (in_use_move s (wake key m.waiter 1 m.word s) ms (length-wake key s m.waiter 1 m.word) u.1)
      (listed-wake m.waiter 1 m.word s l u.0)

  -- a Resource passes to its first waiter, who is in use
  listed-pass-one : (h : ℕ) (s : State) → Listed s → Listed (carry_out key h (pass (heir s h) (hub s h)) s)
  unfolding Each carry_out pass
  listed-pass-one h s l = by (heir s h) refl
    where
      by : (f : Option ℕ) → heir s h ≡ f → Listed (carry_out key h (pass f (hub s h)) s)
      by (some w) e =
          listed-meet_all _ _ (unfold hold set_hub in (in_use s w 1 (listed-waits s l h w (first-waits s 2 (hub s h).waiters w e).0).0, tt)) (listed-hold h _ _ s l)
      by none e = unfold meet_all in listed-hold h _ _ s l

  pub listed-pass : (i n : ℕ) (s : State) → Listed s → Listed (pass_all key i n s)
  listed-pass = pass_keeps key Listed listed-pass-one

  listed_start : (i : ℕ) (s : State) → Listed s → i < length s.tasks → (task s i).state ≡ 1 → Listed (start key i s)
  unfolding start
  listed_start i s l h e =
      joining key i (set_task i t s) (changing i t s (unlisted i s l (λ f. omega (arith, f)) (λ f. omega (arith, f))))
      (ap (λ (x : Task). x.state) (set_same s i t h) ∙ unfold readied in refl)
    where
      t : Task
      t = readied 0 0 (task s i)

  listed_yield : (i : ℕ) (s : State) → Listed s → (task s i).state ≡ 2 → Listed (yielded key i s)
  unfolding answer yielded
  listed_yield i s l e =
      joining key i (set_task i t (leave i s)) (changing i t (leave i s) (leaving i s l))
      (ap (λ (x : Task). x.state) (set_same (leave i s) i t (unfold leave in in_use s i 0 e)) ∙ unfold answered leave in e)
    where
      t : Task
      t = answered 1 0 (task (leave i s) i)

  listed-wait : (s : State) (c : Call) → Listed s → Asked s c → Listed (wait key s c)
  unfolding wait
  listed-wait s c l a =
      queueing key c.target i (set_task i t (leave i s)) (changing i t (leave i s) (leaving i s l))
      (unfold set_task in subst (λ (n : ℕ). c.target < n) (sym (hubs-leave i s).many) a.named)
      (ap (λ (x : Task). x.state) same ∙ unfold waits in refl) (ap (λ (x : Task). x.hub) same ∙ unfold waits in refl)
    where
      i : ℕ
      i = c.caller

      t : Task
      t = waits c.target c.ticks c.side (kept (hub s c.target) c) (task s i)

      same : task (set_task i t (leave i s)) i ≡ t
      same = set_same (leave i s) i t (unfold leave in in_use s i 0 a.run)

  listed-settle : (v : Verdict) (s : State) (c : Call) → Listed s → InUse s (waiters_met v) → Asked s c → Listed (settle key v s c)
  unfolding settle waiters_met
  listed-settle (met n ws x ms) s c l u a =
      listed-meet_all ms s₁ (in_use_move s s₁ ms (unfold hold set_hub in length-answer (hold c.target n ws s) c.caller 1 x) u)
      (listed_answer c.caller 1 x _ (listed-hold c.target n ws s l))
    where
      s₁ : State
      s₁ = answer c.caller 1 x (hold c.target n ws s)
  listed-settle not_now s c l u a = cond_case Listed (eqb c.mode 2) _ _ (λ _. listed_answer c.caller 2 0 s l) (λ _. listed-wait s c l a)
  listed-settle fail s c l u a = listed_answer c.caller 2 0 s l

  listed-tick_by : (n i : ℕ) (s : State) → Listed s → i < length s.tasks → Listed (tick_by key n i s)
  unfolding counted tick_by
  listed-tick_by zero i s l h = l
  listed-tick_by (suc zero) i s l h = listed-wake i 3 0 s l h
  listed-tick_by (suc (suc n)) i s l h = listed-set i (counted (suc n) (task s i)) s l refl refl

  pub listed_tick : (n : ℕ) (s : State) → Listed s → n ≤ length s.tasks → Listed (tick_all key n s)
  unfolding tick_all tick_one
  listed_tick zero s l h = l
  listed_tick (suc n) s l h = listed-tick_by _ n (tick_all key n s) (listed_tick n s l (omega arith)) (omega (arith, length_tick key n s))

-- out of all lists, and neither ready nor waiting
listed-out : (i : ℕ) (t : Task) (s : State) → Listed s → i < length s.tasks → t.state ≢ 2 → t.state ≢ 3 → Listed (set_task i t (leave i s))
listed-out i t s l h e f =
    aside i (set_task i t (leave i s)) (changing i t (leave i s) (leaving i s l)) (λ q. e (sym st ∙ q)) (λ q. f (sym st ∙ q))
  where
    st : (task (set_task i t (leave i s)) i).state ≡ t.state
    st = ap (λ (x : Task). x.state) (set_same (leave i s) i t (unfold leave in h))

pub listed-deactivate : (i : ℕ) (s : State) → Listed s → i < length s.tasks → Listed (deactivate i s)
unfolding deactivate inactive
listed-deactivate i s l h = listed-out i _ s l h (λ f. omega (arith, f)) (λ f. omega (arith, f))

listed-grant : (b : Bool) (s' s : State) (c : Call) → (b ≡ true → Listed s') → Listed s → Listed (grant b s' s c)
unfolding grant
listed-grant true s' s c f l = listed_answer c.caller 1 0 s' (f refl)
listed-grant false s' s c f l = listed_answer c.caller 2 0 s l

listed-add_task : (p : ℕ) (s : State) → Listed s → Listed (add_task p s)
listed-add_task p s l =
    steady s (add_task p s) l (unfold add_task in refl) (λ h. unfold add_task in refl)
    (added_keeps p s (λ (t : Task). t.state) (unfold inactive in refl))
    (added_keeps p s (λ (t : Task). t.hub) (unfold inactive in refl))

listed-add_hub : (c : Call) (s : State) → Listed s → Listed (add_hub (new_hub c) s)
listed-add_hub c s l = steady s (add_hub (new_hub c) s) l (unfold add_hub in refl) same (λ j. unfold add_hub in refl) (λ j. unfold add_hub in refl)
  where
    same : (h : ℕ) → (hub (add_hub (new_hub c) s) h).waiters ≡ (hub s h).waiters
    same h =
        same_or h (length s.hubs)
        (λ e. rw (e, hub-added_same (new_hub c) s, hub_past_end s) (unfold new_hub no_hub in refl))
        (λ n. ap (λ (x : Hub). x.waiters) (hub-added_other (new_hub c) s h n))

pub listed-blank : Listed blank
unfolding blank inactive no_hub occ
listed-blank = record { ready = λ j. refl; waiters = λ h j. refl }

-- ---- by service

pub listed-serve : (key : ℕ → ℕ) (v : Service) (s : State) (c : Call) → Listed s → refusal_for v s c ≡ 0 → Listed (serve key v s c)
unfolding refusal_for serve
listed-serve key Blank s c l e = listed-blank
listed-serve key HubRequest s c l e =
    listed-settle key (verdict s c) s c l (partners_in s c _ (partners s l c)) (request_tests s l c e)
listed-serve key Start s c l e = listed-grant _ _ s c (λ b. listed_start key c.target s l (on_task_lem s l c e).1 (eqb-true _ 1 b)) l
listed-serve key Stop s c l e =
    listed-grant _ _ s c
    (λ b. unfold stop in listed-pass key c.target (length s.hubs) _ (listed-deactivate c.target s l (on_task_lem s l c e).1))
    l
listed-serve key Suspend s c l e = listed-grant _ _ s c (λ b. listed-flag 1 c.target s l) l
listed-serve key Resume s c l e = listed-grant _ _ s c (λ b. listed-flag 0 c.target s l) l
listed-serve key Yield s c l e = listed_yield key c.caller s l (by_running_lem s l c _ e).0
listed-serve key Sleep s c l e =
    unfold asleep slept in listed-out c.caller _ s l (in_use s c.caller 0 (by_running_lem s l c _ e).0)
    (λ f. omega (arith, f)) (λ f. omega (arith, f))
listed-serve key Tick s c l e = listed_tick key (length s.tasks) s l (omega arith)
listed-serve key AddTask s c l e =
    cond_case Listed (eqb c.side 1) _ _
    (λ _. unfold add_started in listed_start _ (length s.tasks) (add_task c.target s) (listed-add_task c.target s l)
    (omega (arith, length-add_task c.target s)) (ap (λ (t : Task). t.state) (added_same c.target s) ∙ unfold inactive in refl))
    (λ _. listed-add_task c.target s l)
listed-serve key AddHub s c l e = listed-add_hub c s l
listed-serve key Unknown s c l e = l
