-- What stands on a Board, by the calls alone, is what it holds: kept by every service (`Boards`). And that a read which is met
-- bears it (`board-read`).
-- Not here: which requests turn met (Asked.antt, Reasons.antt).
use Prim.Native.Nat.{◌<◌, ◌≤◌, ℕ}
use Rattle.history.proofs.Stopping.{handed_kind}
use Rattle.history.specs.History.{board_by, board_from, board_word, called, part_of, written}
use Rattle.lists.proofs.Laws.{bool_case}
use Rattle.rules.proofs.Accepted.{Asked, Sided, hub_tests, on_task_lem, request_tests}
use Rattle.rules.proofs.Cases.{and_r, same_or}
use Rattle.rules.proofs.Changes.{hub-added_other, hub-added_same, length-add_hub}
use Rattle.rules.proofs.Handed.{handed, handed_not, owned-kind, passed-all}
use Rattle.rules.proofs.Hubs.{SameHubs, core, hub_else, hub-target, hubs-answer, hubs-deactivate, hubs-serve, many_settle, many_stop}
use Rattle.rules.proofs.Listed.{listed-deactivate}
use Rattle.rules.proofs.Quiet.{is_add_task, is_resume, is_sleep, is_start, is_suspend, is_tick, is_unknown, is_yield}
use Rattle.rules.proofs.Valid.{Listed}
use Rattle.rules.proofs.Verdicts.{after-kind, hub_after, update-row}
use Rattle.rules.specs.Calls.{AddHub, AddTask, Blank, HubRequest, Resume, Service, Sleep, Start, Stop, Suspend, Tick, Unknown, Yield, add_hub, blank, deactivate, grant, heir, new_hub, serve, settle, stop}
use Rattle.rules.specs.HubTable.{get_board, message, met, on_get, on_side, on_wipe, verdict}
use Rattle.rules.specs.Lists.{holding, queued}
use Rattle.rules.specs.Refusals.{good_hub, refusal_for}
use Rattle.rules.specs.Table.{Board, Event, Fifo, Hub, Kind, Memory, NoKind, Port, Resource, Semaphore, State, hub, kind_of, no_hub, owns, side_of, stored}
use Rattle.rules.specs.declared.Call.{Call}
use borrow.Author.Tests.{eq-eqb, eqb-true, ne_eqb}
use lib.Dec.{eqb}
use lib.ListN.{length}
use mathlib.Core.Bool.{Bool, cond, false, true}
use mathlib.Core.List.{List, [], ◌++◌, ◌∷◌}
use mathlib.Core.Logic.{◌≢◌, ◌⊎◌, inl, inr}
use mathlib.Core.Option.{Option, none, some}
use mathlib.Core.Path.{◌∙◌, ◌≡◌, ap, refl, subst, sym}
use native.Mathlib.Omega.{arith}

-- two names are not one
pub clash : ◌≡◌ {A = ℕ} 0 1 → ⊥
clash e = omega (arith, e)

pub board_or : (k : Kind) → (k ≡ Board) ⊎ (k ≢ Board)
board_or NoKind = inr (λ e. clash (cc))
board_or Event = inr (λ e. clash (cc))
board_or Semaphore = inr (λ e. clash (cc))
board_or Port = inr (λ e. clash (cc))
board_or Fifo = inr (λ e. clash (cc))
board_or Resource = inr (λ e. clash (cc))
board_or Board = inl refl
board_or Memory = inr (λ e. clash (cc))

-- ---- one more call

pub board-next : (h : ℕ) (o : Option ℕ) (cs : List Call) (c : Call)
    → board_from h o (cs ++ c ∷ []) ≡ cond (eqb c.target h) (board_by (side_of c.side) c (board_from h o cs)) (board_from h o cs)
unfolding board_from
board-next h o [] c = refl
board-next h o (d ∷ cs) c = board-next h (cond (eqb d.target h) (board_by (side_of d.side) d o) o) cs c

-- cs: the accepted hub requests as they were called
pub record Boards (s : State) (cs : List Call) : Type 0 where
  pub each : (h : ℕ) → kind_of (hub s h).kind ≡ Board → (hub s h).held ≡ written (board_word h cs)
  pub beyond : (h : ℕ) → length s.hubs ≤ h → board_word h cs ≡ none

pub boards_blank : Boards blank []
unfolding blank board_from kind_of no_hub
boards_blank = record { each = λ h e. absurd (clash (cc)); beyond = λ h l. refl }

-- a hub apart from its waiting list
core_board : (x x' : Hub) → core x' ≡ core x → kind_of x'.kind ≡ Board → (kind_of x.kind ≡ Board) × (x'.held ≡ x.held)
unfolding core queued
core_board x x' e b = (sym (ap (λ (y : Hub). kind_of y.kind) e) ∙ b, ap (λ (y : Hub). y.held) e)

pub boards_same : (s s' : State) (cs : List Call) → SameHubs s s' → Boards s cs → Boards s' cs
boards_same s s' cs e m = record {
  each = λ h b. let k = core_board (hub s h) (hub s' h) (e.each h) b in k.1 ∙ m.each h k.0;
  beyond = λ h l. m.beyond h (subst (λ (n : ℕ). n ≤ h) e.many l);
}

-- ---- Hub request: an update writes, a read leaves, a wipe takes away

module _ (s : State) (c : Call) (b : kind_of (hub s c.target).kind ≡ Board) where
  pub read-row : c.side ≡ 2 → verdict s c ≡ get_board (hub s c.target).held (hub s c.target)
  unfolding on_get on_side side_of verdict
  read-row e = rw (e, b) refl

  pub wipe_row : c.side ≡ 3 → verdict s c ≡ met 0 [] 0 []
  unfolding on_side on_wipe side_of verdict
  wipe_row e = rw (e, b) refl

  stands_after : (cs : List Call) {k : Kind} → Sided k c.side → (hub s c.target).held ≡ written (board_word c.target cs)
      → (hub_after (hub s c.target) (verdict s c)).held ≡ written (board_word c.target (cs ++ c ∷ []))
  stands_after cs d m = rw (board-next c.target none cs c, eq-eqb c.target c.target refl) (by d)
    where
      by : {k : Kind} → Sided k c.side → (hub_after (hub s c.target) (verdict s c)).held ≡ written (board_by (side_of c.side) c (board_word c.target cs))
      by (inl e) = unfold board_by holding hub_after side_of written in rw (update-row s c b e, e) refl
      by (inr (inl e)) = unfold board_by side_of in rw (read-row e, e) (stays (hub s c.target).held ∙ m)
        where
          stays : (l : List ℕ) → (hub_after (hub s c.target) (get_board l (hub s c.target))).held ≡ (hub s c.target).held
          stays [] = unfold get_board hub_after in refl
          stays (x ∷ xs) = unfold get_board holding hub_after in refl
      by (inr (inr e)) = unfold board_by holding hub_after side_of written in rw (wipe_row e.0, e.0) refl

  -- the word of an update stands there after it
  pub update_word : (cs : List Call) → c.side ≡ 1 → board_word c.target (cs ++ c ∷ []) ≡ some (message c)
  unfolding board_by side_of
  update_word cs e = board-next c.target none cs c ∙ rw (eq-eqb c.target c.target refl, e) refl

  -- and so does what a read that is met receives
  pub board-read : (cs : List Call) → c.side ≡ 2 → (hub s c.target).held ≡ written (board_word c.target cs)
      → (n : ℕ) (ws : List ℕ) (x : ℕ) → verdict s c ≡ met n ws x [] → board_word c.target (cs ++ c ∷ []) ≡ some x
  board-read cs e m n ws x q =
      board-next c.target none cs c
      ∙ rw (eq-eqb c.target c.target refl, e) (unfold board_by side_of in by (hub s c.target).held (board_word c.target cs) m (sym (read-row e) ∙ q))
    where
      by : (l : List ℕ) (o : Option ℕ) → l ≡ written o → get_board l (hub s c.target) ≡ met n ws x [] → o ≡ some x
      by [] o w q = absurd (clash (unfold get_board in cc))
      by (y ∷ ys) none w q = absurd (clash (unfold written in cc))
      by (y ∷ ys) (some z) w q = unfold get_board written in cc

boards_request : (key : ℕ → ℕ) (s : State) (c : Call) (cs : List Call) → Asked s c → Boards s cs → Boards (settle key (verdict s c) s c) (cs ++ c ∷ [])
boards_request key s c cs t m = record {
  each = λ h b. same_or h c.target
      (λ e. rw e (here (rw e at b)))
      (λ n. let k = core_board (hub s h) (hub s₁ h) (hub_else key s c (verdict s c) h n) b in rw (off h n) (k.1 ∙ m.each h k.0));
  beyond = λ h l. let u : length s.hubs ≤ h = subst (λ (n : ℕ). n ≤ h) (many_settle key s c (verdict s c)) l in
      rw (off h (λ e. omega (arith, e, u, t.named))) (m.beyond h u);
}
  where
    s₁ : State
    s₁ = settle key (verdict s c) s c

    off : (h : ℕ) → h ≢ c.target → board_word h (cs ++ c ∷ []) ≡ board_word h cs
    off h n = board-next h none cs c ∙ rw (ne_eqb c.target h (λ q. n (sym q)))

    here : kind_of (hub s₁ c.target).kind ≡ Board → (hub s₁ c.target).held ≡ written (board_word c.target (cs ++ c ∷ []))
    here b =
        let k = core_board (hub_after (hub s c.target) (verdict s c)) (hub s₁ c.target) (hub-target key s c (verdict s c) t.named) b in
        let is : kind_of (hub s c.target).kind ≡ Board = sym (ap kind_of (after-kind (hub s c.target) (verdict s c))) ∙ k.0 in
        k.1 ∙ stands_after s c is cs t.side (m.each c.target is)

-- ---- Add hub, Stop

-- a Board is added with start 0, and so unwritten
new-board : (c : Call) → good_hub (kind_of c.target) c.ticks c.word ≡ true → kind_of c.target ≡ Board → (new_hub c).held ≡ []
unfolding good_hub new_hub stored
new-board c g b = rw (b, eqb-true c.word 0 (and_r (eqb c.ticks 1) _ (rw b at g)))

boards_add_hub : (s : State) (c : Call) (cs : List Call) → good_hub (kind_of c.target) c.ticks c.word ≡ true → Boards s cs → Boards (add_hub (new_hub c) s) cs
boards_add_hub s c cs g m = record {
  each = λ h b. same_or h (length s.hubs)
      (λ e. rw (e, hub-added_same (new_hub c) s, m.beyond (length s.hubs) (omega arith))
      (unfold written in new-board c g (unfold new_hub in rw (e, hub-added_same (new_hub c) s) at b)))
      (λ n. rw (hub-added_other (new_hub c) s h n) (m.each h (rw (hub-added_other (new_hub c) s h n) at b)));
  beyond = λ h l. m.beyond h (omega (arith, l, length-add_hub (new_hub c) s));
}

-- a Stop passes Resources, and leaves every other hub but for its waiting list
boards_stop : (key : ℕ → ℕ) (i : ℕ) (s : State) (cs : List Call) → Listed s → i < length s.tasks → Boards s cs → Boards (stop key i s) cs
boards_stop key i s cs l u m = record {
  each = λ h b. let k = core_board (hub s h) (hub (stop key i s) h) (same h b) b in k.1 ∙ m.each h k.0;
  beyond = λ h n. m.beyond h (subst (λ (n : ℕ). n ≤ h) (many_stop key i s) n);
}
  where
    s₁ : State
    s₁ = deactivate i s

    after : (h : ℕ) → core (hub (stop key i s) h) ≡ core (handed i (heir s₁ h) (hub s₁ h))
    after h = unfold stop in rw (← (hubs-deactivate i s).many) ((passed-all key i s₁ (listed-deactivate i s l u)).hubs h)

    same : (h : ℕ) → kind_of (hub (stop key i s) h).kind ≡ Board → core (hub (stop key i s) h) ≡ core (hub s h)
    same h b =
        bool_case (owns i (hub s₁ h))
        (λ o. let k : kind_of (hub s₁ h).kind ≡ Board = ap kind_of (sym (handed_kind i (heir s₁ h) (hub s₁ h))) ∙ (core_board _ _ (after h) b).0 in
        absurd (clash (cc (owned-kind i (hub s₁ h) o))))
        (λ o. after h ∙ ap core (handed_not i (heir s₁ h) (hub s₁ h) o) ∙ (hubs-deactivate i s).each h)

boards_grant : (key : ℕ → ℕ) (b : Bool) (s : State) (c : Call) (cs : List Call) → Listed s → c.target < length s.tasks → Boards s cs
    → Boards (grant b (stop key c.target s) s c) cs
unfolding grant
boards_grant key true s c cs l u m = boards_same _ _ cs (hubs-answer c.caller 1 0 _) (boards_stop key c.target s cs l u m)
boards_grant key false s c cs l u m = boards_same _ _ cs (hubs-answer c.caller 2 0 s) m

-- ---- by service

pub boards_serve : (key : ℕ → ℕ) (w : Service) (s : State) (c : Call) (cs : List Call) → Listed s → refusal_for w s c ≡ 0 → Boards s cs → Boards (serve key w s c) (called (part_of w) c cs)
unfolding called part_of
boards_serve key Blank s c cs l e m = unfold serve in boards_blank
boards_serve key HubRequest s c cs l e m = unfold serve in boards_request key s c cs (request_tests s l c e) m
boards_serve key Start s c cs l e m = boards_same s _ cs (hubs-serve key Start is_start s c) m
boards_serve key Stop s c cs l e m = unfold serve in boards_grant key _ s c cs l (unfold refusal_for in (on_task_lem s l c e).1) m
boards_serve key Suspend s c cs l e m = boards_same s _ cs (hubs-serve key Suspend is_suspend s c) m
boards_serve key Resume s c cs l e m = boards_same s _ cs (hubs-serve key Resume is_resume s c) m
boards_serve key Yield s c cs l e m = boards_same s _ cs (hubs-serve key Yield is_yield s c) m
boards_serve key Sleep s c cs l e m = boards_same s _ cs (hubs-serve key Sleep is_sleep s c) m
boards_serve key Tick s c cs l e m = boards_same s _ cs (hubs-serve key Tick is_tick s c) m
boards_serve key AddTask s c cs l e m = boards_same s _ cs (hubs-serve key AddTask is_add_task s c) m
boards_serve key AddHub s c cs l e m = unfold serve in boards_add_hub s c cs (hub_tests s c e).0 m
boards_serve key Unknown s c cs l e m = boards_same s _ cs (hubs-serve key Unknown is_unknown s c) m
