-- The hubs after each service, apart from their waiting lists: as they were, but for the target of a hub request, which is
-- as the verdict says. By any key.
use Prim.Native.Nat.{◌<◌, suc, zero, ℕ}
use Rattle.lists.specs.Lists.{insert}
use Rattle.rules.proofs.Cases.{cond_case}
use Rattle.rules.proofs.Changes.{hub-leave, hub-set_keeps, hub-set_other, hub-set_same, length-set_hub}
use Rattle.rules.proofs.Passing.{pass_keeps}
use Rattle.rules.proofs.Quiet.{Other, is_add_task, is_resume, is_sleep, is_start, is_suspend, is_tick, is_unknown, is_yield}
use Rattle.rules.proofs.Verdicts.{hub_after}
use Rattle.rules.specs.Calls.{add_started, add_task, AddHub, AddTask, Blank, carry_out, deactivate, flag, grant, hold, HubRequest, kept, meet_all, pass_all, Resume, serve, Service, settle, Sleep, slept, Start, start, Stop, stop, Suspend, Tick, tick_all, tick_by, tick_one, Unknown, wait, Yield, yielded}
use Rattle.rules.specs.HubTable.{Meeting, Verdict, fail, met, not_now}
use Rattle.rules.specs.Lists.{answer, holding, join_hub, join_ready, leave, queued, unqueue, waits, wake}
use Rattle.rules.specs.Table.{Hub, State, hub, no_hub, set_hub, set_ready, set_task, task}
use Rattle.rules.specs.declared.Call.{Call}
use lib.Dec.{eqb}
use lib.ListN.{get_or, length, length-map}
use mathlib.Core.Bool.{Bool, false, true}
use mathlib.Core.List.{List, [], ◌∷◌}
use mathlib.Core.Logic.{◌≢◌}
use mathlib.Core.Path.{◌∙◌, ◌≡◌, ap, refl}

-- a hub apart from its waiting list
unfoldable pub core : Hub → Hub
core h = queued [] h

-- as many hubs, each as it was apart from its waiting list
pub record SameHubs (s s' : State) : Type 0 where
  pub many : length s'.hubs ≡ length s.hubs
  pub each : (h : ℕ) → core (hub s' h) ≡ core (hub s h)

pub hubs-refl : (s s' : State) → s'.hubs ≡ s.hubs → SameHubs s s'
hubs-refl s s' e = record { many = ap length e; each = λ h. ap (λ (l : List Hub). core (get_or l h no_hub)) e }

hubs_trans : (s₁ s₂ s₃ : State) → SameHubs s₁ s₂ → SameHubs s₂ s₃ → SameHubs s₁ s₃
hubs_trans s₁ s₂ s₃ a b = record { many = b.many ∙ a.many; each = λ h. b.each h ∙ a.each h }

-- ---- the moves

pub hubs-leave : (i : ℕ) (s : State) → SameHubs s (leave i s)
unfolding core leave queued unqueue
hubs-leave i s = record { many = length-map s.hubs (unqueue i); each = λ h. ap core (hub-leave i s h) }

-- and then nothing but the tasks and the ready list
hubs_left : (i : ℕ) (s s' : State) → s'.hubs ≡ (leave i s).hubs → SameHubs s s'
hubs_left i s s' e = hubs_trans s (leave i s) s' (hubs-leave i s) (hubs-refl (leave i s) s' e)

hubs-set : (h : ℕ) (x : Hub) (s : State) → core x ≡ core (hub s h) → SameHubs s (set_hub h x s)
hubs-set h x s e = record { many = length-set_hub s h x; each = λ g. hub-set_keeps s h x core e g }

module _ (key : ℕ → ℕ) where
  pub hubs-wake : (i a w : ℕ) (s : State) → SameHubs s (wake key i a w s)
  unfolding join_ready set_ready set_task wake
  hubs-wake i a w s = hubs_left i s _ refl

  hubs-meet_all : (ms : List Meeting) (s : State) → SameHubs s (meet_all key ms s)
  unfolding meet_all
  hubs-meet_all [] s = hubs-refl s s refl
  hubs-meet_all (m ∷ ms) s = hubs_trans s _ _ (hubs-wake m.waiter 1 m.word s) (hubs-meet_all ms _)

  hubs-tick_by : (n i : ℕ) (s : State) → SameHubs s (tick_by key n i s)
  unfolding set_task tick_by
  hubs-tick_by zero i s = hubs-refl s s refl
  hubs-tick_by (suc zero) i s = hubs-wake i 3 0 s
  hubs-tick_by (suc (suc n)) i s = hubs-refl s _ refl

  pub hubs_tick : (n : ℕ) (s : State) → SameHubs s (tick_all key n s)
  unfolding tick_all tick_one
  hubs_tick zero s = hubs-refl s s refl
  hubs_tick (suc n) s = hubs_trans s (tick_all key n s) _ (hubs_tick n s) (hubs-tick_by _ n (tick_all key n s))

  many_carry : (h : ℕ) (v : Verdict) (s : State) → length (carry_out key h v s).hubs ≡ length s.hubs
  unfolding carry_out hold
  many_carry h (met n ws x ms) s = (hubs-meet_all ms _).many ∙ length-set_hub s h (holding n ws (hub s h))
  many_carry h not_now s = refl
  many_carry h fail s = refl

  pub many_pass : (i n : ℕ) (s : State) → length (pass_all key i n s).hubs ≡ length s.hubs
  many_pass i n s = pass_keeps key (λ (z : State). length z.hubs ≡ length s.hubs) (λ h z e. many_carry h _ z ∙ e) i n s refl

  pub hubs_join : (h i : ℕ) (s : State) → SameHubs s (join_hub key h i s)
  unfolding core join_hub queued
  hubs_join h i s = hubs-set h (queued (insert key i (hub s h).waiters) (hub s h)) s refl

  pub hubs-wait : (s : State) (c : Call) → SameHubs s (wait key s c)
  unfolding wait
  hubs-wait s c = hubs_trans s s₁ _ (unfold set_task in hubs_left c.caller s s₁ refl) (hubs_join c.target c.caller s₁)
    where
      s₁ : State
      s₁ = set_task c.caller (waits c.target c.ticks c.side (kept (hub s c.target) c) (task s c.caller)) (leave c.caller s)

-- ---- services that meet no request

pub hubs-deactivate : (i : ℕ) (s : State) → SameHubs s (deactivate i s)
unfolding deactivate set_task
hubs-deactivate i s = hubs_left i s _ refl

pub hubs-answer : (i a w : ℕ) (s : State) → SameHubs s (answer i a w s)
unfolding answer set_task
hubs-answer i a w s = hubs-refl s _ refl

pub many_stop : (key : ℕ → ℕ) (i : ℕ) (s : State) → length (stop key i s).hubs ≡ length s.hubs
unfolding stop
many_stop key i s = many_pass key i (length s.hubs) (deactivate i s) ∙ (hubs-deactivate i s).many

hubs-grant : (b : Bool) (s s' : State) (c : Call) → SameHubs s s' → SameHubs s (grant b s' s c)
unfolding answer grant set_task
hubs-grant true s s' c e = hubs_trans s s' _ e (hubs-refl s' _ refl)
hubs-grant false s s' c e = hubs-refl s _ refl

pub hubs-serve : (key : ℕ → ℕ) (v : Service) → Other v → (s : State) (c : Call) → SameHubs s (serve key v s c)
unfolding add_started add_task answer flag join_ready serve set_ready set_task slept start yielded
hubs-serve key Start is_start s c = hubs-grant _ s _ c (hubs-refl s _ refl)
hubs-serve key Suspend is_suspend s c = hubs-grant _ s _ c (hubs-refl s _ refl)
hubs-serve key Resume is_resume s c = hubs-grant _ s _ c (hubs-refl s _ refl)
hubs-serve key Yield is_yield s c = hubs_left c.caller s _ refl
hubs-serve key Sleep is_sleep s c = hubs_left c.caller s _ refl
hubs-serve key Tick is_tick s c = hubs_tick key (length s.tasks) s
hubs-serve key AddTask is_add_task s c = cond_case (SameHubs s) (eqb c.side 1) _ _ (λ _. hubs-refl s _ refl) (λ _. hubs-refl s _ refl)
hubs-serve key Unknown is_unknown s c = hubs-refl s s refl
hubs-serve key Blank x' s c = elim x' [ ]
hubs-serve key HubRequest x'' s c = elim x'' [ ]
hubs-serve key Stop x3 s c = elim x3 [ ]
hubs-serve key AddHub x4 s c = elim x4 [ ]

-- ---- the hub request

module _ (key : ℕ → ℕ) (s : State) (c : Call) where
  hold_many : (n : ℕ) (ws : List ℕ) → length (hold c.target n ws s).hubs ≡ length s.hubs
  unfolding hold
  hold_many n ws = length-set_hub s c.target _

  hold_else : (n : ℕ) (ws : List ℕ) (h : ℕ) → h ≢ c.target → core (hub (hold c.target n ws s) h) ≡ core (hub s h)
  unfolding hold
  hold_else n ws h e = ap core (hub-set_other s c.target _ h e)

  hold-target : (n : ℕ) (ws : List ℕ) → c.target < length s.hubs
      → core (hub (hold c.target n ws s) c.target) ≡ core (holding n ws (hub s c.target))
  unfolding hold
  hold-target n ws l = ap core (hub-set_same s c.target _ l)

  -- met: the waiters' leaving changes no hub apart from its list
  met_same : (n : ℕ) (ws : List ℕ) (x : ℕ) (ms : List Meeting) → SameHubs (hold c.target n ws s) (settle key (met n ws x ms) s c)
  unfolding answer set_task settle
  met_same n ws x ms = hubs_trans _ _ _ (hubs-refl (hold c.target n ws s) _ refl) (hubs-meet_all key ms _)

  later_same : SameHubs s (settle key not_now s c)
  unfolding answer set_task settle
  later_same = cond_case (SameHubs s) (eqb c.mode 2) _ _ (λ _. hubs-refl s _ refl) (λ _. hubs-wait key s c)

  pub hub-target : (v : Verdict) → c.target < length s.hubs → core (hub (settle key v s c) c.target) ≡ core (hub_after (hub s c.target) v)
  unfolding answer hub_after set_task settle
  hub-target (met n ws x ms) l = (met_same n ws x ms).each c.target ∙ hold-target n ws l
  hub-target not_now l = later_same.each c.target
  hub-target fail l = refl

  pub hub_else : (v : Verdict) (h : ℕ) → h ≢ c.target → core (hub (settle key v s c) h) ≡ core (hub s h)
  unfolding answer set_task settle
  hub_else (met n ws x ms) h e = (met_same n ws x ms).each h ∙ hold_else n ws h e
  hub_else not_now h e = later_same.each h
  hub_else fail h e = refl

  pub many_settle : (v : Verdict) → length (settle key v s c).hubs ≡ length s.hubs
  unfolding answer set_task settle
  many_settle (met n ws x ms) = (met_same n ws x ms).many ∙ hold_many n ws
  many_settle not_now = later_same.many
  many_settle fail = refl
