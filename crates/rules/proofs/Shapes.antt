-- Calls keep every task's record in the shape of its state. In order: what a shape asks of the hubs; the records that the
-- services write; each service's part; each service. By any key.
use Prim.Native.Nat.{◌≤◌, suc, zero, ℕ}
use Rattle.rules.proofs.Accepted.{Asked, by_running_lem, request_tests, sleep_ticks, task_tests}
use Rattle.rules.proofs.Cases.{and_l, and_r, cond_case, same_or}
use Rattle.rules.proofs.Changes.{added_other, added_same, hub-added_other, hub_past_end, hub-set_keeps, length-add_hub, length-set_hub, set_case, set_keeps, set_other}
use Rattle.rules.proofs.Hubs.{SameHubs, core, hubs_join, hubs-leave, hubs-refl}
use Rattle.rules.proofs.Passing.{pass_keeps, pass-ready}
use Rattle.rules.proofs.Settled.{later_asked}
use Rattle.rules.proofs.Valid.{Listed, Records, Shape, TaskOk}
use Rattle.rules.specs.Calls.{AddHub, AddTask, Blank, HubRequest, Resume, Service, Sleep, Start, Stop, Suspend, Tick, Unknown, Yield, add_hub, add_started, add_task, blank, carry_out, deactivate, flag, grant, hold, kept, meet_all, new_hub, serve, settle, slept, start, stop, tick_all, tick_by, tick_one, wait, yielded}
use Rattle.rules.specs.HubTable.{Meeting, Verdict, fail, met, not_now, verdict}
use Rattle.rules.specs.Lists.{answer, answered, asleep, counted, flagged, holding, join_hub, join_ready, leave, queued, readied, waits, wake}
use Rattle.rules.specs.Refusals.{on_task, refusal_for}
use Rattle.rules.specs.Table.{Hub, Inactive, NoStage, Ready, Sleeping, Stage, State, Task, Waiting, hub, inactive, is_inactive, kind_of, no_hub, set_hub, set_ready, set_task, stage_of, task}
use Rattle.rules.specs.WellFormed.{bears_word, within}
use Rattle.rules.specs.declared.Call.{Call}
use borrow.Author.Tests.{eqb-false, eqb-true, not-true}
use lib.Dec.{eqb}
use lib.ListN.{get_or, length}
use mathlib.Core.Bool.{Bool, ◌&&◌, cond, false, false≢true, not, true}
use mathlib.Core.List.{List, [], ◌∷◌}
use mathlib.Core.Logic.{◌≢◌, ◌⊎◌, inl, inr}
use mathlib.Core.Path.{◌∙◌, ◌≡◌, ap, refl, subst, sym}
use native.Mathlib.Omega.{arith}

-- ---- what a shape asks of the hubs

-- no hub is dropped, and a hub whose puts bear words stays one
abbrev pub WordHubs : State → State → Type 0
WordHubs s s' =
    (length s.hubs ≤ length s'.hubs)
    × ((h : ℕ) → bears_word (kind_of (hub s h).kind) ≡ true → bears_word (kind_of (hub s' h).kind) ≡ true)

words_same : (s s' : State) → length s'.hubs ≡ length s.hubs → ((h : ℕ) → (hub s' h).kind ≡ (hub s h).kind) → WordHubs s s'
words_same s s' e k = (omega (arith, e), λ h b. rw (k h) b)

pub words_core : (s s' : State) → SameHubs s s' → WordHubs s s'
unfolding core queued
words_core s s' e = words_same s s' e.many (λ h. ap (λ (x : Hub). x.kind) (e.each h))

words-refl : (s s' : State) → s'.hubs ≡ s.hubs → WordHubs s s'
words-refl s s' e = words_core s s' (hubs-refl s s' e)

shape_move : (g : Stage) (s s' : State) (t : Task) → WordHubs s s' → Shape g s t → Shape g s' t
unfolding Shape
shape_move NoStage s s' t k h = h
shape_move Inactive s s' t k h = h
shape_move Ready s s' t k h = h
shape_move Waiting s s' t k h = (h.0, omega (arith, h.1, k.0), h.2, h.3, h.4, λ n. ((h.5 n).0, k.1 _ (h.5 n).1))
shape_move Sleeping s s' t k h = h

ok_move : (s s' : State) (t : Task) → WordHubs s s' → TaskOk s t → TaskOk s' t
ok_move s s' t k h = record {
  suspended = h.suspended;
  priority = h.priority;
  ticks = h.ticks;
  answer = h.answer;
  shape = shape_move (stage_of t.state) s s' t k h.shape;
}

pub records_move : (s s' : State) → WordHubs s s' → s'.tasks ≡ s.tasks → Records s → Records s'
records_move s s' k e r = record { each = λ i. ok_move s s' _ k (subst (λ (l : List Task). TaskOk s (get_or l i (inactive 0))) (sym e) (r.each i)) }

records_set : (i : ℕ) (t : Task) (s : State) → Records s → TaskOk s t → Records (set_task i t s)
records_set i t s r h = record {
  each = λ j. ok_move s (set_task i t s) _ (words-refl s (set_task i t s) (unfold set_task in refl)) (set_case s i t (TaskOk s) j (λ _. h) (r.each j));
}

-- ---- the records that the services write

pub shape_at : (s : State) (t : Task) (n : ℕ) → TaskOk s t → t.state ≡ n → Shape (stage_of n) s t
shape_at s t n h e = subst (λ (m : ℕ). Shape (stage_of m) s t) e h.shape

ok_answered : (s : State) (a w : ℕ) (t : Task) → TaskOk s t → t.state ≡ 2 → a ≤ 3 → (a ≢ 1 → w ≡ 0) → TaskOk s (answered a w t)
unfolding Shape answered stage_of
ok_answered s a w t h e b f =
    let p = shape_at s t 2 h e in
    record { suspended = h.suspended; priority = h.priority; ticks = h.ticks; answer = b; shape = rw e (p.0, p.1, p.2, f) }

ok_readied : (s : State) (a w : ℕ) (t : Task) → TaskOk s t → a ≤ 3 → (a ≢ 1 → w ≡ 0) → TaskOk s (readied a w t)
unfolding Shape readied stage_of
ok_readied s a w t h b f = record {
  suspended = h.suspended;
  priority = h.priority;
  ticks = omega arith;
  answer = b;
  shape = (refl, refl, refl, f);
}

pub ok_inactive : (s : State) (p : ℕ) → p ≤ 255 → TaskOk s (inactive p)
unfolding Shape inactive stage_of
ok_inactive s p b = record {
  suspended = omega arith;
  priority = b;
  ticks = omega arith;
  answer = omega arith;
  shape = (refl, refl, refl, refl, refl, refl);
}

ok_asleep : (s : State) (n : ℕ) (t : Task) → TaskOk s t → 1 ≤ n → n ≤ 1000000 → TaskOk s (asleep n t)
unfolding Shape asleep stage_of
ok_asleep s n t h a b = record {
  suspended = h.suspended;
  priority = h.priority;
  ticks = b;
  answer = omega arith;
  shape = (refl, refl, refl, refl, a);
}

shape_flag : (g : Stage) (s : State) (f : ℕ) (t : Task) → Shape g s t → (g ≡ Inactive → f ≡ 0) → Shape g s (flagged f t)
unfolding Shape flagged
shape_flag NoStage s f t h z = h
shape_flag Inactive s f t h z = (z refl, h.1, h.2, h.3, h.4, h.5)
shape_flag Ready s f t h z = h
shape_flag Waiting s f t h z = h
shape_flag Sleeping s f t h z = h

stage_inactive : (n : ℕ) → stage_of n ≡ Inactive → n ≡ 1
unfolding stage_of
stage_inactive zero e = absurd (false≢true (cc))
stage_inactive (suc zero) e = refl
stage_inactive (suc (suc zero)) e = absurd (false≢true (cc))
stage_inactive (suc (suc (suc zero))) e = absurd (false≢true (cc))
stage_inactive (suc (suc (suc (suc zero)))) e = absurd (false≢true (cc))
stage_inactive (suc (suc (suc (suc (suc n))))) e = absurd (false≢true (cc))

ok_flagged : (s : State) (f : ℕ) (t : Task) → TaskOk s t → f ≤ 1 → (t.state ≡ 1 → f ≡ 0) → TaskOk s (flagged f t)
unfolding flagged
ok_flagged s f t h b z = record {
  suspended = b;
  priority = h.priority;
  ticks = h.ticks;
  answer = h.answer;
  shape = shape_flag (stage_of t.state) s f t h.shape (λ e. z (stage_inactive t.state e));
}

shape_count : (n : ℕ) → within 3 4 n ≡ true → (s : State) (m : ℕ) (t : Task) → 1 ≤ m → Shape (stage_of n) s t → Shape (stage_of n) s (counted m t)
unfolding Shape counted stage_of
shape_count zero e s m t a h = h
shape_count (suc zero) e s m t a h = absurd (false≢true e)
shape_count (suc (suc zero)) e s m t a h = absurd (false≢true e)
shape_count (suc (suc (suc zero))) e s m t a h = h
shape_count (suc (suc (suc (suc zero)))) e s m t a h = (h.0, h.1, h.2, h.3, a)
shape_count (suc (suc (suc (suc (suc n))))) e s m t a h = h

ok_counted : (s : State) (m : ℕ) (t : Task) → TaskOk s t → within 3 4 t.state ≡ true → 1 ≤ m → m ≤ t.ticks → TaskOk s (counted m t)
unfolding counted
ok_counted s m t h e a b = record {
  suspended = h.suspended;
  priority = h.priority;
  ticks = omega (arith, h.ticks);
  answer = h.answer;
  shape = shape_count t.state e s m t a h.shape;
}

-- the word kept by a waiting put
kept_bears : (h : Hub) (c : Call) → kept h c ≢ 0 → (c.side ≡ 1) × (bears_word (kind_of h.kind) ≡ true)
unfolding kept
kept_bears h c =
    cond_case (λ w. w ≢ 0 → (c.side ≡ 1) × (bears_word (kind_of h.kind) ≡ true)) (eqb c.side 1 && bears_word (kind_of h.kind)) _ _
    (λ b _. (eqb-true _ 1 (and_l _ _ b), and_r (eqb c.side 1) _ b))
    (λ _ n. absurd (n refl))

ok_waits : (s : State) (c : Call) (t : Task) → TaskOk s t → Asked s c → (c.side ≡ 1) ⊎ (c.side ≡ 2)
    → TaskOk s (waits c.target c.ticks c.side (kept (hub s c.target) c) t)
unfolding Shape stage_of waits
ok_waits s c t h a d = record {
  suspended = h.suspended;
  priority = h.priority;
  ticks = a.ticks;
  answer = omega arith;
  shape = (omega arith, a.named, (side d).0, (side d).1, refl, λ n. kept_bears (hub s c.target) c n);
}
  where
    side : (c.side ≡ 1) ⊎ (c.side ≡ 2) → (1 ≤ c.side) × (c.side ≤ 2)
    side (inl e) = (omega (arith, e), omega (arith, e))
    side (inr e) = (omega (arith, e), omega (arith, e))

-- ---- the services' parts

words-leave : (i : ℕ) (s : State) → WordHubs s (leave i s)
words-leave i s = words_core s (leave i s) (hubs-leave i s)

-- a task leaves all lists, and its record is replaced
records_out : (i : ℕ) (t : Task) (s : State) → Records s → TaskOk s t → Records (set_task i t (leave i s))
records_out i t s r h =
    records_set i t (leave i s) (records_move s (leave i s) (words-leave i s) (unfold leave in refl) r) (ok_move s (leave i s) t (words-leave i s) h)

records_answer : (i a w : ℕ) (s : State) → Records s → (task s i).state ≡ 2 → a ≤ 3 → (a ≢ 1 → w ≡ 0) → Records (answer i a w s)
unfolding answer
records_answer i a w s r e b f = records_set i (answered a w (task s i)) s r (ok_answered s a w (task s i) (r.each i) e b f)

records_flag : (f i : ℕ) (s : State) → Records s → f ≤ 1 → ((task s i).state ≡ 1 → f ≡ 0) → Records (flag f i s)
unfolding flag
records_flag f i s r b z = records_set i (flagged f (task s i)) s r (ok_flagged s f (task s i) (r.each i) b z)

records_hold : (h n : ℕ) (ws : List ℕ) (s : State) → Records s → Records (hold h n ws s)
unfolding hold
records_hold h n ws s r =
    records_move s (set_hub h x s)
    (words_same s (set_hub h x s) (length-set_hub s h x) (hub-set_keeps s h x (λ (y : Hub). y.kind) (unfold holding in refl)))
    (unfold set_hub in refl) r
  where
    x : Hub
    x = holding n ws (hub s h)

module _ (key : ℕ → ℕ) where
  records_ready : (i : ℕ) (s : State) → Records s → Records (join_ready key i s)
  records_ready i s r =
      records_move s (join_ready key i s) (words-refl s (join_ready key i s) (unfold join_ready set_ready in refl)) (unfold join_ready set_ready in refl) r

  records_wake : (i a w : ℕ) (s : State) → Records s → a ≤ 3 → (a ≢ 1 → w ≡ 0) → Records (wake key i a w s)
  unfolding wake
  records_wake i a w s r b f =
      records_ready i _ (records_out i (readied a w (task s i)) s r (ok_readied s a w (task s i) (r.each i) b f))

  records_meet_all : (ms : List Meeting) (s : State) → Records s → Records (meet_all key ms s)
  unfolding meet_all
  records_meet_all [] s r = r
  records_meet_all (m ∷ ms) s r = records_meet_all ms _ (records_wake m.waiter 1 m.word s r (omega arith) (λ q. absurd (q refl)))

  records_carry : (h : ℕ) (v : Verdict) (s : State) → Records s → Records (carry_out key h v s)
  unfolding carry_out
  records_carry h (met n ws x ms) s r = records_meet_all ms _ (records_hold h n ws s r)
  records_carry h not_now s r = r
  records_carry h fail s r = r

  records_stop : (i : ℕ) (s : State) → Records s → Records (stop key i s)
  unfolding deactivate stop
  records_stop i s r =
      pass_keeps key Records (λ h z. records_carry h _ z) i (length s.hubs) _ (records_out i (inactive (task s i).priority) s r (ok_inactive s _ (r.each i).priority))

  records_start : (i : ℕ) (s : State) → Records s → Records (start key i s)
  unfolding start
  records_start i s r =
      records_ready i _ (records_set i (readied 0 0 (task s i)) s r (ok_readied s 0 0 (task s i) (r.each i) (omega arith) (λ _. refl)))

  records_tick_by : (n i : ℕ) (s : State) → Records s → (1 ≤ n → (within 3 4 (task s i).state ≡ true) × ((task s i).ticks ≡ n))
      → Records (tick_by key n i s)
  unfolding tick_by
  records_tick_by zero i s r e = r
  records_tick_by (suc zero) i s r e = records_wake i 3 0 s r (omega arith) (λ _. refl)
  records_tick_by (suc (suc n)) i s r e =
      let q = e (omega arith) in
      records_set i (counted (suc n) (task s i)) s r (ok_counted s (suc n) (task s i) (r.each i) q.0 (omega arith) (omega (arith, q.1)))

  records_tick : (n : ℕ) (s : State) → Records s → Records (tick_all key n s)
  unfolding tick_all tick_one
  records_tick zero s r = r
  records_tick (suc n) s r = records_tick_by _ n (tick_all key n s) (records_tick n s r) (amount _ _)
    where
      amount : (b : Bool) (m : ℕ) → 1 ≤ cond b m 0 → (b ≡ true) × (m ≡ cond b m 0)
      amount true m h = (refl, refl)
      amount false m h = absurd (omega arith)

  records_wait : (s : State) (c : Call) → Records s → Asked s c → (c.side ≡ 1) ⊎ (c.side ≡ 2) → Records (wait key s c)
  unfolding wait
  records_wait s c r a d =
      records_move s₁ _ (words_core s₁ _ (hubs_join key c.target c.caller s₁)) (unfold join_hub set_hub in refl)
      (records_out c.caller t s r (ok_waits s c (task s c.caller) (r.each c.caller) a d))
    where
      t : Task
      t = waits c.target c.ticks c.side (kept (hub s c.target) c) (task s c.caller)

      s₁ : State
      s₁ = set_task c.caller t (leave c.caller s)

  records_settle : (v : Verdict) (s : State) (c : Call) → Records s → Asked s c → (v ≡ not_now → (c.side ≡ 1) ⊎ (c.side ≡ 2)) → Records (settle key v s c)
  unfolding hold set_hub settle
  records_settle (met n ws x ms) s c r a d =
      records_meet_all ms _ (records_answer c.caller 1 x _ (records_hold c.target n ws s r) a.run (omega arith) (λ q. absurd (q refl)))
  records_settle not_now s c r a d =
      cond_case Records (eqb c.mode 2) _ _
      (λ _. records_answer c.caller 2 0 s r a.run (omega arith) (λ _. refl))
      (λ _. records_wait s c r a (d refl))
  records_settle fail s c r a d = records_answer c.caller 2 0 s r a.run (omega arith) (λ _. refl)

-- what is granted leaves the caller ready
records_grant : (b : Bool) (s' s : State) (c : Call) → (b ≡ true → Records s' × ((task s' c.caller).state ≡ 2)) → Records s
    → (task s c.caller).state ≡ 2 → Records (grant b s' s c)
unfolding grant
records_grant true s' s c f r e = let p = f refl in records_answer c.caller 1 0 s' p.0 p.1 (omega arith) (λ _. refl)
records_grant false s' s c f r e = records_answer c.caller 2 0 s r e (omega arith) (λ _. refl)

start-ready : (key : ℕ → ℕ) (i j : ℕ) (s : State) → (task s j).state ≡ 2 → (task (start key i s) j).state ≡ 2
unfolding join_ready readied set_ready start
start-ready key i j s e = set_case s i (readied 0 0 (task s i)) (λ t. t.state ≡ 2) j (λ _. refl) e

stop-ready : (key : ℕ → ℕ) (i j : ℕ) (s : State) → j ≢ i → (task s j).state ≡ 2 → (task (stop key i s) j).state ≡ 2
unfolding deactivate leave stop
stop-ready key i j s n e = pass-ready key i (length s.hubs) _ j (ap (λ (t : Task). t.state) (set_other (leave i s) i _ j n) ∙ e)

flag-ready : (f i j : ℕ) (s : State) → (task s j).state ≡ 2 → (task (flag f i s) j).state ≡ 2
unfolding flag flagged
flag-ready f i j s e = set_keeps s i _ (λ (t : Task). t.state) refl j ∙ e

records_add_task : (p : ℕ) (s : State) → p ≤ 255 → Records s → Records (add_task p s)
records_add_task p s b r = record {
  each = λ j. ok_move s (add_task p s) _ (words-refl s (add_task p s) (unfold add_task in refl))
      (same_or j (length s.tasks) (λ e. rw (e, added_same p s) (ok_inactive s p b)) (λ n. rw (added_other p s j n) (r.each j)));
}

words-add_hub : (x : Hub) (s : State) → WordHubs s (add_hub x s)
words-add_hub x s = (
  omega (arith, length-add_hub x s),
  λ h b. same_or h (length s.hubs) (λ e. absurd (false≢true (none h e ∙ b))) (λ n. rw (hub-added_other x s h n) b),
)
  where
    none : (h : ℕ) → h ≡ length s.hubs → false ≡ bears_word (kind_of (hub s h).kind)
    none h e = rw (e, hub_past_end s) (unfold bears_word kind_of no_hub in refl)

-- ---- by service

pub records_blank : Records blank
unfolding blank
records_blank = record { each = λ i. ok_inactive blank 0 (omega arith) }

pub records_serve : (key : ℕ → ℕ) (v : Service) (s : State) (c : Call) → Listed s → Records s → refusal_for v s c ≡ 0 → Records (serve key v s c)
unfolding on_task refusal_for serve
records_serve key Blank s c l r e = records_blank
records_serve key HubRequest s c l r e =
    let a = request_tests s l c e in
    records_settle key (verdict s c) s c r a (later_asked s c a)
records_serve key Start s c l r e =
    let run = (by_running_lem s l c _ e).0 in
    records_grant _ _ s c (λ b. (records_start key c.target s r, start-ready key c.target c.caller s run)) r run
records_serve key Stop s c l r e =
    let run = (by_running_lem s l c _ e).0 in
    records_grant _ _ s c (λ b. (records_stop key c.target s r, stop-ready key c.target c.caller s (λ q. apart b (sym q)) run)) r run
  where
    apart : not (is_inactive (task s c.target)) && not (eqb c.target c.caller) ≡ true → c.target ≢ c.caller
    apart b = eqb-false c.target c.caller (not-true _ (and_r (not (is_inactive (task s c.target))) _ b))
records_serve key Suspend s c l r e =
    let run = (by_running_lem s l c _ e).0 in
    records_grant _ _ s c
    (λ b. (
      records_flag 1 c.target s r (omega arith) (λ q. absurd (eqb-false (task s c.target).state 1 (not-true _ (and_l _ _ b)) q)),
      flag-ready 1 c.target c.caller s run,
    ))
    r run
records_serve key Resume s c l r e =
    let run = (by_running_lem s l c _ e).0 in
    records_grant _ _ s c (λ b. (records_flag 0 c.target s r (omega arith) (λ _. refl), flag-ready 0 c.target c.caller s run)) r run
records_serve key Yield s c l r e =
    unfold answer leave yielded in records_ready key c.caller _
    (records_out c.caller (answered 1 0 (task s c.caller)) s r
    (ok_answered s 1 0 (task s c.caller) (r.each c.caller) (by_running_lem s l c _ e).0 (omega arith) (λ _. refl)))
records_serve key Sleep s c l r e =
    let b = sleep_ticks s l c e in
    unfold slept in records_out c.caller (asleep c.ticks (task s c.caller)) s r
    (ok_asleep s c.ticks (task s c.caller) (r.each c.caller) b.0 b.1)
records_serve key Tick s c l r e = records_tick key (length s.tasks) s r
records_serve key AddTask s c l r e =
    let r₁ : Records (add_task c.target s) = records_add_task c.target s (task_tests s c e).0 r in
    cond_case Records (eqb c.side 1) _ _ (λ _. unfold add_started in records_start _ (length s.tasks) _ r₁) (λ _. r₁)
records_serve key AddHub s c l r e = records_move s _ (words-add_hub (new_hub c) s) (unfold add_hub in refl) r
records_serve key Unknown s c l r e = r
