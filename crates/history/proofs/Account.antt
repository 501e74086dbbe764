-- What is kept from call to call, of a state: the requests agree with it, each hub's met words balance, and the met are the
-- met requests (`Account`). Every accepted call's service keeps it: services that meet nobody, Hub request, Stop, Add hub, then all;
-- and so does the reordering behind it (`account_kept`).
-- Not here: the hubs' own records (Made.antt), the tables of words (Run.antt).
use Prim.Native.Nat.{◌+◌, ◌<◌, ◌≤◌, ℕ}
use Rattle.history.proofs.Again.{Agree, again_kept, agree_kept, agree_quiet, met-again, turned-kept, turned_none}
use Rattle.history.proofs.Asked.{agree_settle, turned-place, turned-settle, words_append, words_got_lem, words_off, words-put}
use Rattle.history.proofs.Balance.{Balanced, Share, balance_step, law_side, owned-none, share_core, share_same}
use Rattle.history.proofs.Boards.{board_or}
use Rattle.history.proofs.Stopping.{stop_agree, stop_beyond, stop-kind, stop_share}
use Rattle.history.proofs.Those.{how_many_append, how_many_below, no_entries}
use Rattle.history.specs.History.{Class, Request, again, asked, how_many, is_met, opened, part_of, removed_at, removed_by, since_blank, those, turned, words_of}
use Rattle.history.specs.Statements.{Each}
use Rattle.lists.proofs.Laws.{bool_case}
use Rattle.lists.proofs.Padding.{all_zero-at, all_zero-replicate}
use Rattle.lists.specs.Lists.{bit, occ}
use Rattle.rules.proofs.Accepted.{Asked, caller-ready, hub_tests, on_task_lem, request_tests}
use Rattle.rules.proofs.Cases.{and_r, same_or}
use Rattle.rules.proofs.Changes.{hub-added_other, hub-added_same, in_use, length-add_hub}
use Rattle.rules.proofs.Handed.{owned-used}
use Rattle.rules.proofs.Hubs.{SameHubs, core, hub_else, hub-target, hubs-answer, hubs-serve, many_settle, many_stop}
use Rattle.rules.proofs.Passing.{length-stop}
use Rattle.rules.proofs.Quiet.{Other, Quiet, is_add_task, is_resume, is_sleep, is_start, is_suspend, is_tick, is_unknown, is_yield, quiet_answer, quiet_refl, quiet_same, quiet_serve}
use Rattle.rules.proofs.Reordered.{Kept}
use Rattle.rules.proofs.Settled.{answer_same, partners}
use Rattle.rules.proofs.Standing.{first-waits, listed-waiting}
use Rattle.rules.proofs.Valid.{GetWaits, Held, MayWait, Range, Valid}
use Rattle.rules.proofs.Verdicts.{after-kind, few, hub_after}
use Rattle.rules.specs.Calls.{AddHub, AddTask, Blank, HubRequest, Resume, Service, Sleep, Start, Stop, Suspend, Tick, Unknown, Yield, add_hub, blank, grant, may_stop, new_hub, serve, settle, stop}
use Rattle.rules.specs.HubTable.{Verdict, verdict}
use Rattle.rules.specs.Lists.{answer, answered, first_waiting, queued}
use Rattle.rules.specs.Refusals.{good_hub, refusal_for}
use Rattle.rules.specs.Table.{Board, Event, Fifo, Hub, Kind, Memory, NoKind, Port, Resource, Semaphore, State, Task, hub, inactive, kind_of, no_hub, owns, side_of, stored, tab, task}
use Rattle.rules.specs.WellFormed.{within}
use Rattle.rules.specs.declared.Call.{Call}
use borrow.Author.Tests.{eqb-true}
use lib.Dec.{eqb}
use lib.ListN.{length, replicate}
use mathlib.Core.Bool.{Bool, ◌&&◌, and-false, false, true}
use mathlib.Core.List.{List, [], ◌++◌, ◌∷◌, append-nil, map}
use mathlib.Core.Logic.{◌≢◌, ◌⊎◌, inl, inr}
use mathlib.Core.Option.{some}
use mathlib.Core.Path.{◌∙◌, ◌≡◌, ap, refl, subst, sym}
use native.Mathlib.Nat.{add-zero}
use native.Mathlib.Omega.{arith}

-- ms: the met, in order of meeting; gone: the hubs whose owner a Stop removed
pub record Account (s : State) (rs ms : List Request) (gone : List ℕ) : Type 0 where
  pub agree : Agree s rs
  pub balanced : (h : ℕ) → Balanced (kind_of (hub s h).kind) (hub s h) (removed_at h gone) (words_of h 1 ms) (words_of h 2 ms)
  pub beyond : (h d : ℕ) → length s.hubs ≤ h → words_of h d ms ≡ []
  pub unowned : (h : ℕ) → length s.hubs ≤ h → removed_at h gone ≡ 0
  pub meetings : (p : Request → Bool) → how_many p ms ≡ how_many (λ r. p r && is_met r) rs

no_hub_balanced : (x : Hub) → x ≡ no_hub → Balanced (kind_of x.kind) x 0 [] []
unfolding Balanced kind_of no_hub
no_hub_balanced x e = rw e tt

pub account_blank : Account blank [] [] []
account_blank = record {
  agree = record { entries = unfold Each in tt; one = λ i. unfold blank inactive those in refl };
  balanced = λ h. unfold words_of those in no_hub_balanced (hub blank h) (unfold blank in refl);
  beyond = λ h d l. unfold words_of those in refl;
  unowned = λ h l. unfold those in refl;
  meetings = λ p. unfold those in refl;
}

core_kind : (x y : Hub) → core x ≡ core y → kind_of x.kind ≡ kind_of y.kind
unfolding core queued
core_kind x y e = ap (λ (z : Hub). kind_of z.kind) e

-- a hub's balance through one call
balanced_on : (x x' : Hub) (m n : ℕ) (ps gs puts gets : List ℕ) → kind_of x'.kind ≡ kind_of x.kind → Balanced (kind_of x.kind) x m ps gs → Share (kind_of x.kind) x x' n puts gets
    → Balanced (kind_of x'.kind) x' (m + n) (ps ++ puts) (gs ++ gets)
balanced_on x x' m n ps gs puts gets e b l =
    subst (λ (k : Kind). Balanced k x' (m + n) (ps ++ puts) (gs ++ gets)) (sym e) (balance_step (kind_of x.kind) x x' m n ps gs puts gets b l)

meetings_on : (s' : State) (rs ms : List Request) → ((p : Request → Bool) → how_many p ms ≡ how_many (λ r. p r && is_met r) rs)
    → (p : Request → Bool) → how_many p (ms ++ turned Class.met s' rs) ≡ how_many (λ r. p r && is_met r) (map (again s') rs)
meetings_on s' rs ms m p = omega (arith, how_many_append p ms (turned Class.met s' rs), m p, met-again p s' rs)

-- a hub apart from its waiting list
balanced_core : (x x' : Hub) (n : ℕ) (ps gs : List ℕ) → core x' ≡ core x → Balanced (kind_of x.kind) x n ps gs → Balanced (kind_of x'.kind) x' n ps gs
balanced_core x x' n ps gs e b =
    rw (← append-nil ps, ← append-nil gs, ← add-zero n) (balanced_on x x' n 0 ps gs [] [] (core_kind _ _ e) b (share_same _ x x' e))

-- ---- services that meet nobody

module _ (s s' : State) (rs ms : List Request) (gone : List ℕ) (a : Account s rs ms gone) (q : Quiet s s') where
  none-met : turned Class.met s' rs ≡ []
  none-met = turned_none s s' rs a.agree.entries (λ j e. unfold Quiet in (q j).old e)

  same_words : (h d : ℕ) → words_of h d (ms ++ turned Class.met s' rs) ≡ words_of h d ms
  same_words h d = rw (none-met, append-nil ms)

  account_quiet : SameHubs s s' → Account s' (map (again s') rs) (ms ++ turned Class.met s' rs) gone
  account_quiet e = record {
    agree = agree_quiet s s' rs a.agree q;
    balanced = λ h. rw (same_words h 1, same_words h 2) (balanced_core (hub s h) (hub s' h) (removed_at h gone) (words_of h 1 ms) (words_of h 2 ms) (e.each h) (a.balanced h));
    beyond = λ h d l. same_words h d ∙ a.beyond h d (subst (λ (n : ℕ). n ≤ h) e.many l);
    unowned = λ h l. a.unowned h (subst (λ (n : ℕ). n ≤ h) e.many l);
    meetings = meetings_on s' rs ms a.meetings;
  }

-- ---- Hub request

-- a getter waits at a FIFO only where it is empty
held_empty : (s : State) → Valid s → (h i : ℕ) → first_waiting s 2 (hub s h).waiters ≡ some i → h < length s.hubs → kind_of (hub s h).kind ≡ Fifo → (hub s h).held ≡ []
unfolding GetWaits Held MayWait side_of stored
held_empty s g h i e n k =
    let f = first-waits s 2 (hub s h).waiters i e in
    let m : MayWait (side_of (task s i).side) (kind_of (hub s h).kind) (hub s h) i = g.waits.may h i (listed-waiting s g.listed h i f.0) in
    let z : (hub s h).count ≡ 0 = rw (f.1, k) at m in
    let w : (hub s h).count ≡ length (hub s h).held = rw k at (g.ranges.held h n) in
    no_entries (hub s h).held (omega (arith, z, w))

-- a Memory hub's count is how many of its blocks are free
free-counted : (s : State) → Valid s → (h : ℕ) → h < length s.hubs → kind_of (hub s h).kind ≡ Memory → (hub s h).count ≡ occ 0 (hub s h).held
unfolding Range
free-counted s g h n k = let r : Range Memory (length s.tasks) (hub s h) = rw k at (g.ranges.range h n) in r.4

module _ (key : ℕ → ℕ) (s : State) (rs ms : List Request) (gone : List ℕ) (a : Account s rs ms gone) (g : Valid s) (c : Call) (t : Asked s c) where
  abbrev v : Verdict
  v = verdict s c

  abbrev s₁ : State
  s₁ = settle key v s c

  -- those that turn met
  abbrev new : List Request
  new = turned Class.met s₁ (rs ++ asked s c ∷ [])

  -- all at the target
  elsewhere : (h d : ℕ) → c.target ≢ h → words_of h d new ≡ []
  elsewhere h d n = words_off c.target h d new n (turned-place key s c t.run rs a.agree v (partners s g.listed c))

  -- of a Board nothing is counted
  law : Share (kind_of (hub s c.target).kind) (hub s c.target) (hub_after (hub s c.target) v) 0 (words_of c.target 1 new) (words_of c.target 2 new)
  law = by (board_or (kind_of (hub s c.target).kind))
    where
      by : (kind_of (hub s c.target).kind ≡ Board) ⊎ (kind_of (hub s c.target).kind ≢ Board)
          → Share (kind_of (hub s c.target).kind) (hub s c.target) (hub_after (hub s c.target) v) 0 (words_of c.target 1 new) (words_of c.target 2 new)
      by (inl b) = unfold Share in rw b tt
      by (inr n) =
          rw (turned-settle key s c t.run rs a.agree v _ _ _ _ (few s c) (λ b _. n b) (partners s g.listed c), words-put s c v t.side, words_got_lem s c v t.side)
          (unfold verdict in law_side s (hub s c.target) c t.side (λ w e k. held_empty s g c.target w e t.named k) (free-counted s g c.target t.named))

  share : (h : ℕ) → Share (kind_of (hub s h).kind) (hub s h) (hub s₁ h) 0 (words_of h 1 new) (words_of h 2 new)
  share h =
      same_or h c.target
      (λ e. rw e (share_core _ _ _ _ 0 _ _ (hub-target key s c v t.named) law))
      (λ n. rw (elsewhere h 1 (λ q. n (sym q)), elsewhere h 2 (λ q. n (sym q))) (share_same _ (hub s h) (hub s₁ h) (hub_else key s c v h n)))

  kind_same : (h : ℕ) → kind_of (hub s₁ h).kind ≡ kind_of (hub s h).kind
  kind_same h =
      same_or h c.target
      (λ e. rw e (core_kind _ _ (hub-target key s c v t.named) ∙ ap kind_of (after-kind (hub s c.target) v)))
      (λ n. core_kind _ _ (hub_else key s c v h n))

  both : (h d : ℕ) → words_of h d (ms ++ new) ≡ words_of h d ms ++ words_of h d new
  both h d = words_append h d ms new

  new-meetings : (p : Request → Bool) → how_many p ms ≡ how_many (λ r. p r && is_met r) (rs ++ asked s c ∷ [])
  new-meetings p =
      omega (arith, a.meetings p, how_many_append (λ r. p r && is_met r) rs (asked s c ∷ []), none)
    where
      none : how_many (λ r. p r && is_met r) (asked s c ∷ []) ≡ 0
      none = unfold asked those in rw and-false

  account_request : Account s₁ (map (again s₁) (rs ++ asked s c ∷ [])) (ms ++ turned Class.met s₁ (rs ++ asked s c ∷ [])) gone
  account_request = record {
    agree = agree_settle key s c t.run rs a.agree v (partners s g.listed c);
    balanced = λ h. rw (both h 1, both h 2, ← add-zero (removed_at h gone)) (balanced_on (hub s h) (hub s₁ h) (removed_at h gone) 0 (words_of h 1 ms) (words_of h 2 ms) _ _ (kind_same h) (a.balanced h) (share h));
    beyond = λ h d l.
        let m : length s.hubs ≤ h = subst (λ (n : ℕ). n ≤ h) (many_settle key s c v) l in
        both h d ∙ rw (a.beyond h d m, elsewhere h d (λ e. omega (arith, e, t.named)));
    unowned = λ h l. a.unowned h (subst (λ (n : ℕ). n ≤ h) (many_settle key s c v) l);
    meetings = meetings_on s₁ (rs ++ asked s c ∷ []) ms new-meetings;
  }

-- ---- Stop: granted, or not

module _ (key : ℕ → ℕ) (s : State) (rs ms : List Request) (gone : List ℕ) (a : Account s rs ms gone) (g : Valid s) (c : Call)
    (run : (task s c.caller).state ≡ 2) (u : c.target < length s.tasks) where
  abbrev s₂ : State
  s₂ = answer c.caller 1 0 (stop key c.target s)

  -- the hubs that the target owned
  abbrev owned : List ℕ
  owned = those (λ h. owns c.target (hub s h)) (tab (length s.hubs) 0 (λ h. h))

  owned-once : (h : ℕ) → removed_at h owned ≡ bit (owns c.target (hub s h))
  owned-once h =
      how_many_below (λ h. owns c.target (hub s h)) (length s.hubs) h
      (λ o. owned-used c.target s h o)

  after : (h d : ℕ) → words_of h d (ms ++ turned Class.met s₂ rs) ≡ words_of h d ms ++ words_of h d (turned Class.met s₂ rs)
  after h d = words_append h d ms (turned Class.met s₂ rs)

  account_stop : Account s₂ (map (again s₂) rs) (ms ++ turned Class.met s₂ rs) (gone ++ owned)
  account_stop = record {
    agree = stop_agree key s c g run u rs a.agree;
    balanced = λ h. rw (after h 1, after h 2, how_many_append (λ g. eqb g h) gone owned, owned-once h)
        (balanced_on (hub s h) (hub s₂ h) (removed_at h gone) _ (words_of h 1 ms) (words_of h 2 ms) _ _ (stop-kind key s c g run u rs a.agree h) (a.balanced h) (stop_share key s c g run u rs a.agree h));
    beyond = λ h d l. let m : length s.hubs ≤ h = subst (λ (n : ℕ). n ≤ h) many l in
        after h d ∙ rw (a.beyond h d m, stop_beyond key s c g run u rs a.agree h d m);
    unowned = λ h l. let m : length s.hubs ≤ h = subst (λ (n : ℕ). n ≤ h) many l in
        omega (arith, how_many_append (λ g. eqb g h) gone owned, a.unowned h m, owned-once h, ap bit (not-owned h m));
    meetings = meetings_on s₂ rs ms a.meetings;
  }
    where
      many : length s₂.hubs ≡ length s.hubs
      many = (hubs-answer c.caller 1 0 (stop key c.target s)).many ∙ many_stop key c.target s

      not-owned : (h : ℕ) → length s.hubs ≤ h → owns c.target (hub s h) ≡ false
      not-owned h l = bool_case (owns c.target (hub s h)) (λ o. absurd (omega (arith, owned-used c.target s h o))) (λ o. o)

-- ---- Add hub: the new hub has no requests yet

new_balanced : (c : Call) (k : Kind) → kind_of c.target ≡ k → good_hub k c.ticks c.word ≡ true → Balanced k (new_hub c) 0 [] []
unfolding Balanced good_hub new_hub occ stored
new_balanced c NoKind q e = tt
new_balanced c Event q e = refl
new_balanced c Semaphore q e = refl
new_balanced c Port q e = refl
new_balanced c Fifo q e = rw (q, eqb-true c.word 0 (and_r (within 1 8 c.ticks) _ e))
new_balanced c Resource q e = omega (arith, owned-none (new_hub c) (eqb-true c.word 0 (and_r (eqb c.ticks 1) _ e)))
new_balanced c Board q e = tt
new_balanced c Memory q e = λ b. rw q (omega (arith, all_zero-at (replicate c.ticks 0) b (all_zero-replicate c.ticks)))

account_add_hub : (s : State) (rs ms : List Request) (gone : List ℕ) (c : Call) → Account s rs ms gone → good_hub (kind_of c.target) c.ticks c.word ≡ true
    → Account (add_hub (new_hub c) s) (map (again (add_hub (new_hub c) s)) rs) (ms ++ turned Class.met (add_hub (new_hub c) s) rs) gone
account_add_hub s rs ms gone c a good = record {
  agree = agree_quiet s s' rs a.agree q;
  balanced = λ h. rw (same h 1, same h 2) (balanced h);
  beyond = λ h d l. same h d ∙ a.beyond h d (omega (arith, l, length-add_hub (new_hub c) s));
  unowned = λ h l. a.unowned h (omega (arith, l, length-add_hub (new_hub c) s));
  meetings = meetings_on s' rs ms a.meetings;
}
  where
    s' : State
    s' = add_hub (new_hub c) s

    q : Quiet s s'
    q = quiet_same s s' (λ j. unfold add_hub in refl)

    same : (h d : ℕ) → words_of h d (ms ++ turned Class.met s' rs) ≡ words_of h d ms
    same h d = same_words s s' rs ms gone a q h d

    balanced : (h : ℕ) → Balanced (kind_of (hub s' h).kind) (hub s' h) (removed_at h gone) (words_of h 1 ms) (words_of h 2 ms)
    balanced h =
        same_or h (length s.hubs)
        (λ e. rw (a.beyond h 1 (omega (arith, e)), a.beyond h 2 (omega (arith, e)), a.unowned h (omega (arith, e)), e, hub-added_same (new_hub c) s) (unfold new_hub in new_balanced c (kind_of c.target) refl good))
        (λ n. rw (hub-added_other (new_hub c) s h n) (a.balanced h))

-- ---- by service

account_other : (key : ℕ → ℕ) (w : Service) → Other w → (s : State) (rs ms : List Request) (gone : List ℕ) (c : Call) → Account s rs ms gone → Valid s → refusal_for w s c ≡ 0
    → Account (serve key w s c) (map (again (serve key w s c)) rs) (ms ++ turned Class.met (serve key w s c) rs) (gone ++ [])
account_other key w o s rs ms gone c a g e =
    rw (append-nil gone) (account_quiet s (serve key w s c) rs ms gone a (quiet_serve key w o s c (caller-ready s g.listed c w e)) (hubs-serve key w o s c))

account_serve_stop : (key : ℕ → ℕ) (s : State) (rs ms : List Request) (gone : List ℕ) (c : Call) → Account s rs ms gone → Valid s → refusal_for Stop s c ≡ 0
    → Account (serve key Stop s c) (map (again (serve key Stop s c)) rs) (ms ++ turned Class.met (serve key Stop s c) rs) (gone ++ removed_by Stop s (serve key Stop s c) c)
unfolding grant refusal_for removed_by serve
account_serve_stop key s rs ms gone c a g e = by (may_stop (task s c.target) c)
  where
    run : (task s c.caller).state ≡ 2
    run = (on_task_lem s g.listed c e).0

    u : c.target < length s.tasks
    u = (on_task_lem s g.listed c e).1

    told : (z : State) (n : ℕ) → length z.tasks ≡ length s.tasks → (task (answer c.caller n 0 z) c.caller).answer ≡ n
    told z n m = unfold answered in ap (λ (t : Task). t.answer) (answer_same z c.caller n 0 (rw m (in_use s c.caller 0 run)))

    by : (b : Bool) → Account (grant b (stop key c.target s) s c) (map (again (grant b (stop key c.target s) s c)) rs) (ms ++ turned Class.met (grant b (stop key c.target s) s c) rs)
        (gone ++ removed_by Stop s (grant b (stop key c.target s) s c) c)
    by true = rw (told (stop key c.target s) 1 (length-stop key c.target s)) (account_stop key s rs ms gone a g c run u)
    by false =
        rw (told s 2 refl, append-nil gone)
        (account_quiet s (answer c.caller 2 0 s) rs ms gone a (quiet_answer s s c.caller 2 0 (quiet_refl s) (λ q. omega (arith, run, q))) (hubs-answer c.caller 2 0 s))

pub account_serve : (key : ℕ → ℕ) (w : Service) (s : State) (rs ms : List Request) (gone : List ℕ) (c : Call) → Account s rs ms gone → Valid s → refusal_for w s c ≡ 0
    → Account (serve key w s c) (map (again (serve key w s c)) (opened (part_of w) s c rs)) (since_blank (part_of w) ms ++ turned Class.met (serve key w s c) (opened (part_of w) s c rs))
    (since_blank (part_of w) gone ++ removed_by w s (serve key w s c) c)
unfolding opened part_of removed_by since_blank
account_serve key Blank s rs ms gone c a g e = unfold serve those turned in account_blank
account_serve key HubRequest s rs ms gone c a g e = rw (append-nil gone) (unfold serve in account_request key s rs ms gone a g c (request_tests s g.listed c e))
account_serve key Start s rs ms gone c a g e = account_other key Start is_start s rs ms gone c a g e
account_serve key Stop s rs ms gone c a g e = account_serve_stop key s rs ms gone c a g e
account_serve key Suspend s rs ms gone c a g e = account_other key Suspend is_suspend s rs ms gone c a g e
account_serve key Resume s rs ms gone c a g e = account_other key Resume is_resume s rs ms gone c a g e
account_serve key Yield s rs ms gone c a g e = account_other key Yield is_yield s rs ms gone c a g e
account_serve key Sleep s rs ms gone c a g e = account_other key Sleep is_sleep s rs ms gone c a g e
account_serve key Tick s rs ms gone c a g e = account_other key Tick is_tick s rs ms gone c a g e
account_serve key AddTask s rs ms gone c a g e = account_other key AddTask is_add_task s rs ms gone c a g e
account_serve key AddHub s rs ms gone c a g e = rw (append-nil gone) (unfold serve in account_add_hub s rs ms gone c a (hub_tests s c e).0)
account_serve key Unknown s rs ms gone c a g e = account_other key Unknown is_unknown s rs ms gone c a g e

-- ---- behind the service: no record, count or store changes

removed-kept : (w : Service) (s z z' : State) (c : Call) → z'.tasks ≡ z.tasks → removed_by w s z' c ≡ removed_by w s z c
unfolding removed_by
removed-kept Blank s z z' c e = refl
removed-kept HubRequest s z z' c e = refl
removed-kept Start s z z' c e = refl
removed-kept Stop s z z' c e = rw e
removed-kept Suspend s z z' c e = refl
removed-kept Resume s z z' c e = refl
removed-kept Yield s z z' c e = refl
removed-kept Sleep s z z' c e = refl
removed-kept Tick s z z' c e = refl
removed-kept AddTask s z z' c e = refl
removed-kept AddHub s z z' c e = refl
removed-kept Unknown s z z' c e = refl

-- z: after the service; z': after the call
pub account_kept : (w : Service) (s z z' : State) (rs ms : List Request) (gone : List ℕ) (c : Call) → Kept z z'
    → Account z (map (again z) rs) (ms ++ turned Class.met z rs) (gone ++ removed_by w s z c)
    → Account z' (map (again z') rs) (ms ++ turned Class.met z' rs) (gone ++ removed_by w s z' c)
account_kept w s z z' rs ms gone c k a =
    rw (again_kept z z' k.tasks rs, turned-kept z z' k.tasks Class.met rs, removed-kept w s z z' c k.tasks) (record {
      agree = agree_kept z z' k.tasks _ a.agree;
      balanced = λ h. balanced_core (hub z h) (hub z' h) _ _ _ (k.hubs.each h) (a.balanced h);
      beyond = λ h d l. a.beyond h d (subst (λ (n : ℕ). n ≤ h) k.hubs.many l);
      unowned = λ h l. a.unowned h (subst (λ (n : ℕ). n ≤ h) k.hubs.many l);
      meetings = a.meetings;
    })
