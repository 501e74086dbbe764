-- Each hub is as its Add hub call made it: kind, limit and start never change, by any service.
use Prim.Native.Nat.{◌<◌, ℕ}
use Rattle.history.specs.History.{made, part_of}
use Rattle.history.specs.Statements.{MadeBy, no_call}
use Rattle.lists.proofs.Laws.{bool_case}
use Rattle.rules.proofs.Accepted.{Asked, on_task_lem, request_tests}
use Rattle.rules.proofs.Cases.{same_or}
use Rattle.rules.proofs.Changes.{hub-added_other, hub-added_same, length-add_hub}
use Rattle.rules.proofs.Handed.{handed, handed_not, handed_owned, passed-all}
use Rattle.rules.proofs.Hubs.{SameHubs, core, hub_else, hub-target, hubs-answer, hubs-deactivate, hubs-serve, many_settle, many_stop}
use Rattle.rules.proofs.Listed.{listed-deactivate}
use Rattle.rules.proofs.Quiet.{is_add_task, is_resume, is_sleep, is_start, is_suspend, is_tick, is_unknown, is_yield}
use Rattle.rules.proofs.Valid.{Listed}
use Rattle.rules.proofs.Verdicts.{hub_after}
use Rattle.rules.specs.Calls.{AddHub, AddTask, Blank, HubRequest, Resume, Service, Sleep, Start, Stop, Suspend, Tick, Unknown, Yield, add_hub, blank, deactivate, grant, heir, new_hub, pass_all, serve, settle, stop}
use Rattle.rules.specs.HubTable.{Verdict, fail, met, not_now, pass, verdict}
use Rattle.rules.specs.Lists.{holding, queued}
use Rattle.rules.specs.Refusals.{refusal_for}
use Rattle.rules.specs.Table.{Hub, State, hub, owns}
use Rattle.rules.specs.declared.Call.{Call}
use lib.ListN.{get_or-append, get_or, length, length-append}
use lib.Seq.{get_or-append_seam}
use mathlib.Core.Bool.{Bool, false, true}
use mathlib.Core.List.{List, [], ◌++◌, ◌∷◌}
use mathlib.Core.Option.{Option}
use mathlib.Core.Path.{◌∙◌, ◌≡◌, ap, refl, subst, sym}
use native.Mathlib.Omega.{arith}

-- cs: the accepted Add hub calls, in order
pub record Makes (s : State) (cs : List Call) : Type 0 where
  pub many : length cs ≡ length s.hubs
  pub each : (h : ℕ) → h < length s.hubs → MadeBy (get_or cs h no_call) (hub s h)

pub makes_blank : Makes blank []
unfolding blank
makes_blank = record { many = refl; each = λ h l. absurd (omega arith) }

-- a hub apart from its waiting list, its count and its words held
made_core : (c : Call) (x x' : Hub) → core x' ≡ core x → MadeBy c x → MadeBy c x'
unfolding core queued
made_core c x x' e m = record {
  kind = ap (λ (y : Hub). y.kind) e ∙ m.kind;
  limit = ap (λ (y : Hub). y.limit) e ∙ m.limit;
  start = ap (λ (y : Hub). y.start) e ∙ m.start;
}

made_after : (c : Call) (x : Hub) (v : Verdict) → MadeBy c x → MadeBy c (hub_after x v)
unfolding holding hub_after
made_after c x (met n ws y ms) m = record { kind = m.kind; limit = m.limit; start = m.start }
made_after c x not_now m = m
made_after c x fail m = m

pub makes_same : (s s' : State) (cs : List Call) → SameHubs s s' → Makes s cs → Makes s' cs
makes_same s s' cs e m = record {
  many = m.many ∙ sym e.many;
  each = λ h l. made_core _ (hub s h) (hub s' h) (e.each h) (m.each h (subst (λ (n : ℕ). h < n) e.many l));
}

makes_request : (key : ℕ → ℕ) (s : State) (c : Call) (cs : List Call) → Asked s c → Makes s cs → Makes (settle key (verdict s c) s c) cs
makes_request key s c cs t m = record {
  many = m.many ∙ sym (many_settle key s c (verdict s c));
  each = λ h l. each h (subst (λ (n : ℕ). h < n) (many_settle key s c (verdict s c)) l);
}
  where
    each : (h : ℕ) → h < length s.hubs → MadeBy (get_or cs h no_call) (hub (settle key (verdict s c) s c) h)
    each h l =
        same_or h c.target
        (λ e. rw e (made_core _ _ _ (hub-target key s c (verdict s c) t.named) (made_after _ (hub s c.target) (verdict s c) (m.each c.target t.named))))
        (λ n. made_core _ (hub s h) _ (hub_else key s c (verdict s c) h n) (m.each h l))

makes_add_hub : (s : State) (c : Call) (cs : List Call) → Makes s cs → Makes (add_hub (new_hub c) s) (cs ++ c ∷ [])
makes_add_hub s c cs m = record {
  many = omega (arith, length-append cs (c ∷ []), m.many, length-add_hub (new_hub c) s);
  each = λ h l.
      same_or h (length s.hubs)
      (λ e. rw (e, hub-added_same (new_hub c) s, last) (unfold new_hub in record { kind = refl; limit = refl; start = refl }))
      (λ n. let k : h < length s.hubs = omega (arith, l, length-add_hub (new_hub c) s) in
      rw (hub-added_other (new_hub c) s h n, get_or-append cs (c ∷ []) no_call h (omega (arith, m.many))) (m.each h k));
}
  where
    last : get_or (cs ++ c ∷ []) (length s.hubs) no_call ≡ c
    last = rw (← m.many) (get_or-append_seam cs c [] no_call)

-- Stop: a Resource passes, kind, limit and start as they were
makes_passed : (c : Call) (i : ℕ) (f : Option ℕ) (x : Hub) → MadeBy c x → MadeBy c (handed i f x)
makes_passed c i f x m =
    bool_case (owns i x) (λ o. rw (handed_owned i f x o) (made_after c x (pass f x) m)) (λ o. rw (handed_not i f x o) m)

makes_stop : (key : ℕ → ℕ) (i : ℕ) (s : State) (cs : List Call) → Listed s → i < length s.tasks → Makes s cs → Makes (stop key i s) cs
unfolding stop
makes_stop key i s cs l u m = record {
  many = m.many ∙ sym (many_stop key i s);
  each = λ h k. made_core (get_or cs h no_call) (handed i (heir s₁ h) (hub s₁ h)) (hub (stop key i s) h) (hubs-after h)
      (makes_passed (get_or cs h no_call) i (heir s₁ h) (hub s₁ h) (out h (subst (λ (n : ℕ). h < n) (many_stop key i s) k)));
}
  where
    s₁ : State
    s₁ = deactivate i s

    out : (h : ℕ) → h < length s.hubs → MadeBy (get_or cs h no_call) (hub s₁ h)
    out h k = made_core (get_or cs h no_call) (hub s h) (hub s₁ h) ((hubs-deactivate i s).each h) (m.each h k)

    hubs-after : (h : ℕ) → core (hub (pass_all key i (length s.hubs) s₁) h) ≡ core (handed i (heir s₁ h) (hub s₁ h))
    hubs-after h = rw (← (hubs-deactivate i s).many) ((passed-all key i s₁ (listed-deactivate i s l u)).hubs h)

makes_grant : (key : ℕ → ℕ) (b : Bool) (s : State) (c : Call) (cs : List Call) → Listed s → c.target < length s.tasks → Makes s cs
    → Makes (grant b (stop key c.target s) s c) cs
unfolding grant
makes_grant key true s c cs l u m = makes_same _ _ cs (hubs-answer c.caller 1 0 _) (makes_stop key c.target s cs l u m)
makes_grant key false s c cs l u m = makes_same _ _ cs (hubs-answer c.caller 2 0 s) m

pub makes_serve : (key : ℕ → ℕ) (w : Service) (s : State) (c : Call) (cs : List Call) → Listed s → refusal_for w s c ≡ 0 → Makes s cs → Makes (serve key w s c) (made (part_of w) c cs)
unfolding made part_of
makes_serve key Blank s c cs l e m = unfold serve in makes_blank
makes_serve key HubRequest s c cs l e m = unfold serve in makes_request key s c cs (request_tests s l c e) m
makes_serve key Start s c cs l e m = makes_same s _ cs (hubs-serve key Start is_start s c) m
makes_serve key Stop s c cs l e m = unfold serve in makes_grant key _ s c cs l (unfold refusal_for in (on_task_lem s l c e).1) m
makes_serve key Suspend s c cs l e m = makes_same s _ cs (hubs-serve key Suspend is_suspend s c) m
makes_serve key Resume s c cs l e m = makes_same s _ cs (hubs-serve key Resume is_resume s c) m
makes_serve key Yield s c cs l e m = makes_same s _ cs (hubs-serve key Yield is_yield s c) m
makes_serve key Sleep s c cs l e m = makes_same s _ cs (hubs-serve key Sleep is_sleep s c) m
makes_serve key Tick s c cs l e m = makes_same s _ cs (hubs-serve key Tick is_tick s c) m
makes_serve key AddTask s c cs l e m = makes_same s _ cs (hubs-serve key AddTask is_add_task s c) m
makes_serve key AddHub s c cs l e m = unfold serve in makes_add_hub s c cs m
makes_serve key Unknown s c cs l e m = makes_same s _ cs (hubs-serve key Unknown is_unknown s c) m
