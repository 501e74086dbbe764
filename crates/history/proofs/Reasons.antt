-- Why a request turned: met by the caller, as its partner or by a Stop of the owner, failed in its own call, timed out in a Tick,
-- withdrawn in a Stop of its task. By service, of a state; and that a hub request meets at most one request of each side.
use Prim.Native.Nat.{◌+◌, ◌<◌, ◌≤◌, ℕ}
use Rattle.history.proofs.Again.{Agree, Entry, each-turned, turned_none}
use Rattle.history.proofs.Asked.{class_of-met, class-settle, met_caller, met_in, met_waiter, those_off, turned-place, turned-settle, turned-update, updates, waiters-met}
use Rattle.history.proofs.Boards.{Boards, board_or, board-read, clash, read-row, update_word, wipe_row}
use Rattle.history.proofs.Classes.{class-met, class-stopped, class_timed, class-waiting}
use Rattle.history.proofs.Fates.{Fate, fate_serve, meets, rests, stops, times}
use Rattle.history.proofs.Opened.{opened_case}
use Rattle.history.proofs.Stopping.{stop-one, stop-owner, stop-turned}
use Rattle.history.proofs.Those.{each_append, each_imp, each_none, how_many_cons}
use Rattle.history.specs.History.{Class, Request, asked, at, board_word, called, class_of, failed, how_many, opened, part_of, reread, row_class, those, timed_out, turned, unread, waiting, withdrawn}
use Rattle.history.specs.Statements.{ByRow, Each, MetBy, Own, Stands, itself, partner, passed, updated}
use Rattle.lists.specs.Lists.{bit, occ}
use Rattle.rules.proofs.Accepted.{Asked, Sided, on_task_lem, request_tests}
use Rattle.rules.proofs.Cases.{and_l, and_r, cond_case, same_or}
use Rattle.rules.proofs.Changes.{in_use}
use Rattle.rules.proofs.Handed.{is_heir_lem, owned-kind, takes}
use Rattle.rules.proofs.Hubs.{core, hub-target}
use Rattle.rules.proofs.Passing.{length-stop}
use Rattle.rules.proofs.Quiet.{Quiet}
use Rattle.rules.proofs.Reordered.{Kept, kept-task}
use Rattle.rules.proofs.Settled.{Partners, answer_same, met-caller, partners, quiet_told}
use Rattle.rules.proofs.Standing.{listed-waits}
use Rattle.rules.proofs.Valid.{Listed, Valid}
use Rattle.rules.proofs.Verdicts.{Few, across, few, hub_after, meets-all, meets-first, meets_later, meets_never, meets-none, update-row, waiters_met}
use Rattle.rules.specs.Calls.{AddHub, AddTask, Blank, HubRequest, Resume, Service, Sleep, Start, Stop, Suspend, Tick, Unknown, Yield, grant, may_stop, serve, service_of, settle, stop}
use Rattle.rules.specs.HubTable.{Meeting, Verdict, fail, get_board, message, met, not_now, readers, verdict}
use Rattle.rules.specs.Lists.{answer, answered, first_waiting, holding, queued}
use Rattle.rules.specs.Refusals.{refusal_for}
use Rattle.rules.specs.Table.{Board, Fifo, Hub, Kind, State, Task, hub, is_resource, kind_of, owns, side_of, task}
use Rattle.rules.specs.declared.Call.{Call}
use borrow.Author.Tests.{ne_eqb}
use lib.Dec.{eqb}
use lib.ListN.{length}
use mathlib.Core.Bool.{Bool, ◌&&◌, and-false, false, false≢true, true}
use mathlib.Core.List.{List, [], ◌++◌, ◌∷◌}
use mathlib.Core.Logic.{◌≢◌, ◌⊎◌, inl, inr}
use mathlib.Core.Option.{Option, some}
use mathlib.Core.Path.{◌∙◌, ◌≡◌, ap, refl, subst, sym}
use native.Mathlib.Omega.{arith}

-- ---- a request that was waiting before the call: by its class after it

unfoldable Reason : Class → Service → Call → Request → Type 0
Reason waiting w c r = Unit {0}
Reason Class.met w c r = (w ≡ HubRequest) ⊎ (w ≡ Stop)
Reason failed w c r = ⊥
Reason timed_out w c r = w ≡ Tick
Reason withdrawn w c r = (w ≡ Stop) × (r.task ≡ c.target)
Reason unread w c r = ⊥

fate_reason : (w : Service) (c : Call) (r : Request) (t t' : Task) → Fate w c r.task t t' → Reason (class_of t') w c r
unfolding Reason
fate_reason w c r t t' (rests a l) = rw (class-waiting t' a) tt
fate_reason w c r t t' (meets e m) = rw (class-met t' m.0 m.1) e
fate_reason w c r t t' (stops e q a) = rw (class-stopped t' a) (e, q)
fate_reason w c r t t' (times e a b) = rw (class_timed t' a b) e

abbrev Turns : Class → State → (Request → Type 0) → Request → Type 0
Turns k s' P r = r.class ≡ waiting → class_of (task s' r.task) ≡ k → P (reread s' r)

-- a call's own request is met, failed or waiting, and nothing else
unfoldable OwnClass : Class → Type 0
OwnClass waiting = Unit {0}
OwnClass Class.met = Unit {0}
OwnClass failed = Unit {0}
OwnClass timed_out = ⊥
OwnClass withdrawn = ⊥
OwnClass unread = ⊥

own_row : (v : Verdict) (c : Call) → OwnClass (row_class v c)
unfolding OwnClass row_class
own_row (met n ws x ms) c = tt
own_row not_now c = cond_case OwnClass (eqb c.mode 2) failed waiting (λ _. tt) (λ _. tt)
own_row fail c = tt

pub class-own : (key : ℕ → ℕ) (s : State) (c : Call) → Valid s → refusal_for HubRequest s c ≡ 0 → class_of (task (serve key HubRequest s c) c.caller) ≡ row_class (verdict s c) c
unfolding serve
class-own key s c g ok =
    let t = request_tests s g.listed c ok in
    class-settle key s c t.run (verdict s c) (partners s g.listed c)

module _ (key : ℕ → ℕ) (w : Service) (s : State) (rs : List Request) (c : Call) (a : Agree s rs) (g : Valid s) (ok : refusal_for w s c ≡ 0) where
  -- P of each that turns into k: of the old ones by their reason, of the call's own by what may come of it
  turned_by : (k : Class) (P : Request → Type 0) → ((r : Request) → Reason k w c r → P (reread (serve key w s c) r))
      → (w ≡ HubRequest → OwnClass k → P (reread (serve key w s c) (asked s c)))
      → Each P (turned k (serve key w s c) (opened (part_of w) s c rs))
  turned_by k P f q = each-turned P k s' (opened (part_of w) s c rs) (opened_case (Each (Turns k s' P)) s c rs w (λ e. unfold Each in tt) request old)
    where
      s' : State
      s' = serve key w s c

      old : w ≢ Blank → Each (Turns k s' P) rs
      old n = each_imp (Entry s) _
          (λ r y z u. f r (subst (λ (k : Class). Reason k w c r) u (fate_reason w c r _ _ (fate_serve key w n s c g ok r.task (y.stands z).state))))
          rs a.entries

      own : w ≡ HubRequest → Turns k s' P (asked s c)
      own e z u = q e (subst OwnClass u (unfold asked in rw (e, class-own key s c g (rw e at ok)) (own_row (verdict s c) c)))

      request : w ≡ HubRequest → Each (Turns k s' P) (rs ++ asked s c ∷ [])
      request e = each_append (Turns k s' P) rs (asked s c ∷ []) (old (λ b. let z : ◌≡◌ {A = ℕ} 0 1 = cc in omega arith)) (unfold Each in (own e, tt))

  module _ (sv : service_of c.service ≡ w) where
    pub turned_failed : Each (Own c) (turned failed (serve key w s c) (opened (part_of w) s c rs))
    turned_failed =
        turned_by failed (Own c)
        (λ r e. absurd (unfold Reason in e))
        (λ e o. unfold asked reread in record { service = sv ∙ e; task = refl; hub = refl; side = refl })

    pub turned_timed : Each (λ r. service_of c.service ≡ Tick) (turned timed_out (serve key w s c) (opened (part_of w) s c rs))
    turned_timed = turned_by timed_out _ (λ r e. sv ∙ (unfold Reason in e)) (λ e o. absurd (unfold OwnClass in o))

    pub turned_withdrawn : Each (λ r. (service_of c.service ≡ Stop) × (r.task ≡ c.target)) (turned withdrawn (serve key w s c) (opened (part_of w) s c rs))
    unfolding OwnClass Reason reread
    turned_withdrawn = turned_by withdrawn _ (λ r e. (sv ∙ e.0, e.1)) (λ e o. absurd o)

-- ---- who turns met

own-caller : (s : State) (c : Call) (x : ℕ) → service_of c.service ≡ HubRequest → Own c (met_caller s c x)
own-caller s c x sv = record { service = sv; task = refl; hub = refl; side = refl }

-- one side is 1 and the other 2; nobody waits on the other side of a wipe, 3
sides : (n : ℕ) {k : Kind} → Sided k n → across (side_of n) + n ≡ 3
unfolding across side_of
sides n (inl e) = rw e refl
sides n (inr (inl e)) = rw e refl
sides n (inr (inr e)) = rw e.0 refl

-- a hub request: by the verdict's row
module _ (key : ℕ → ℕ) (s : State) (c : Call) (sv : service_of c.service ≡ HubRequest) (t : Asked s c) where
  by_row : (n : ℕ) (ws : List ℕ) (x : ℕ) (ms : List Meeting) → verdict s c ≡ met n ws x ms → Partners s c ms → ByRow s (settle key (met n ws x ms) s c) c (met_caller s c x)
  unfolding core holding hub_after queued
  by_row n ws x ms q p = record {
    count = n;
    held = ws;
    waiters = ms;
    own = own-caller s c x sv;
    row = q;
    counts = ap (λ (h : Hub). h.count) (hub-target key s c (met n ws x ms) t.named);
    holds = ap (λ (h : Hub). h.held) (hub-target key s c (met n ws x ms) t.named);
    others = waiters-met key s c t.run n ws x ms p;
  }

  met-row : (v : Verdict) {k : Kind} {l : List ℕ} → verdict s c ≡ v → Few k s l (across (side_of c.side)) (first_waiting s (across (side_of c.side)) (hub s c.target).waiters) v
      → (k ≡ Board → across (side_of c.side) ≡ 2 → ⊥) → Partners s c (waiters_met v) → Each (MetBy s (settle key v s c) c) (met_in s c v)
  unfolding Each met_in waiters_met
  met-row v {k = k} {l = l₀} q₀ few₀ nu₀ p₀ = go l₀ v q₀ few₀ nu₀ p₀
    where
      go : (l : List ℕ) (v : Verdict) → verdict s c ≡ v
          → Few k s l (across (side_of c.side)) (first_waiting s (across (side_of c.side)) (hub s c.target).waiters) v
          → (k ≡ Board → across (side_of c.side) ≡ 2 → ⊥) → Partners s c (waiters_met v) → Each (MetBy s (settle key v s c) c) (met_in s c v)
      go l v q (meets-none n ws x) nu p = (itself (by_row n ws x [] q p), tt)
      go l v q (meets-first n ws x w y e) nu p =
          let ms : List Meeting = record { waiter = w; word = y } ∷ [] in (
            partner (record {
              service = sv;
              place = refl;
              sides = sides c.side t.side;
              first = e;
              caller = class_of-met key s c t.run (settle key (met n ws x ms) s c) x (met-caller key s c t.run n ws x ms p);
            }),
            (itself (by_row n ws x ms q p), tt),
          )
      go l v q (meets-all y b e) nu p = absurd (nu b e)
      go l v q meets_later nu p = tt
      go l v q meets_never nu p = tt

  -- the update of a Board: its readers, and the caller
  met-update : (rs : List Request) → Agree s rs → Listed s → kind_of (hub s c.target).kind ≡ Board → c.side ≡ 1
      → Each (MetBy s (settle key (updates s c (message c)) s c) c) (turned Class.met (settle key (updates s c (message c)) s c) (rs ++ asked s c ∷ []))
  unfolding reread waiters_met
  met-update rs a l b d =
      turned-update key s c t.run rs a (message c) _ p
      (λ r k o e w. updated (record {
        service = sv;
        board = b;
        update = d;
        place = omega (arith, k.hub, (listed-waits s l c.target r.task o).1);
        side = sym k.side ∙ e;
        waited = o;
        word = w;
        caller = class_of-met key s c t.run (settle key (updates s c (message c)) s c) 0 (met-caller key s c t.run 1 (message c ∷ []) 0 (readers s (hub s c.target).waiters (message c)) p);
      }))
      (itself (by_row 1 (message c ∷ []) 0 (readers s (hub s c.target).waiters (message c)) (update-row s c b d) p))
    where
      p : Partners s c (readers s (hub s c.target).waiters (message c))
      p = subst (λ (v : Verdict). Partners s c (waiters_met v)) (update-row s c b d) (partners s l c)

-- and at most one of each side
one_side : (a b b' : Bool) → (b && b') ≡ false → bit (a && b) + bit (a && b') ≤ 1
one_side true true true e = absurd (false≢true (sym e))
one_side true true false e = omega arith
one_side true false true e = omega arith
one_side true false false e = omega arith
one_side false b b' e = omega arith

not_both : (i j d : ℕ) → i ≢ j → (eqb i d && eqb j d) ≡ false
not_both i j d n = same_or i d (λ e. rw (ne_eqb j d (λ q. n (e ∙ sym q)), and-false)) (λ m. rw (ne_eqb i d m))

apart : (n : ℕ) {k : Kind} → Sided k n → across (side_of n) ≢ n
apart n k e = omega (arith, sides n k, e)

none-at : (h d : ℕ) → how_many (at h d) [] ≡ 0
unfolding those
none-at h d = refl

one-row : (s : State) (c : Call) (h d : ℕ) {k : Kind} {l : List ℕ} → Sided k c.side → (o : ℕ) (f : Option ℕ) (v : Verdict) → Few k s l o f v → (k ≡ Board → o ≡ 2 → ⊥)
    → how_many (at h d) (met_in s c v) ≤ 1
unfolding met_in
one-row s c h d {k = k} {l = l₀} t o f v few₀ nu₀ = go l₀ v few₀ nu₀
  where
    go : (l : List ℕ) (v : Verdict) → Few k s l o f v → (k ≡ Board → o ≡ 2 → ⊥) → how_many (at h d) (met_in s c v) ≤ 1
    go l v (meets-none n ws x) nu = omega (arith, how_many_cons (at h d) (met_caller s c x) [], one_side true (at h d (met_caller s c x)) false (and-false (at h d (met_caller s c x))), none-at h d)
    go l v (meets-first n ws x w y e) nu =
        omega (
          arith,
          how_many_cons (at h d) (met_waiter s c (record { waiter = w; word = y })) (met_caller s c x ∷ []),
          how_many_cons (at h d) (met_caller s c x) [],
          one_side (eqb c.target h) (eqb (across (side_of c.side)) d) (eqb c.side d) (not_both (across (side_of c.side)) c.side d (apart c.side t)),
          none-at h d,
        )
    go l v (meets-all y b e) nu = absurd (nu b e)
    go l v meets_later nu = omega (arith, none-at h d)
    go l v meets_never nu = omega (arith, none-at h d)

-- a Stop: by what the target owned
by_stop : (key : ℕ → ℕ) (s : State) (rs : List Request) (c : Call) → Agree s rs → Valid s → (run : (task s c.caller).state ≡ 2) → (u : c.target < length s.tasks)
    → service_of c.service ≡ Stop → Each (MetBy s (answer c.caller 1 0 (stop key c.target s)) c) (turned Class.met (answer c.caller 1 0 (stop key c.target s)) rs)
unfolding answered takes
by_stop key s rs c a g run u sv =
    each_imp _ _ (λ r b. passed (record {
      service = sv;
      answer = ap (λ (t : Task). t.answer) (answer_same (stop key c.target s) c.caller 1 0 (rw (length-stop key c.target s) (in_use s c.caller 0 run)));
      owned = and_l _ _ b.0;
      side = b.1;
      first = is_heir_lem _ r.task (and_r (owns c.target (hub s r.hub)) _ b.0);
      owner = stop-owner key s c g run u rs a r.hub r.task b.0;
    })) _ (stop-turned key s c g run u rs a)

-- by service: nobody turns met but in a hub request or a Stop

data Meets : Service → Type 0 where
  asks : Meets HubRequest
  frees : Meets Stop
  never : (w : Service) → w ≢ HubRequest → w ≢ Stop → Meets w

meets_by : (w : Service) → Meets w
meets_by Blank = never Blank (λ e. clash (cc)) (λ e. clash (cc))
meets_by HubRequest = asks
meets_by Start = never Start (λ e. clash (cc)) (λ e. clash (cc))
meets_by Stop = frees
meets_by Suspend = never Suspend (λ e. clash (cc)) (λ e. clash (cc))
meets_by Resume = never Resume (λ e. clash (cc)) (λ e. clash (cc))
meets_by Yield = never Yield (λ e. clash (cc)) (λ e. clash (cc))
meets_by Sleep = never Sleep (λ e. clash (cc)) (λ e. clash (cc))
meets_by Tick = never Tick (λ e. clash (cc)) (λ e. clash (cc))
meets_by AddTask = never AddTask (λ e. clash (cc)) (λ e. clash (cc))
meets_by AddHub = never AddHub (λ e. clash (cc)) (λ e. clash (cc))
meets_by Unknown = never Unknown (λ e. clash (cc)) (λ e. clash (cc))

-- P of those that turn met, where it holds of those that a hub request meets and of those that a Stop that is granted meets
met_case : (P : State → List Request → Type 0) (key : ℕ → ℕ) (w : Service) (s : State) (rs : List Request) (c : Call) → Agree s rs → Valid s → refusal_for w s c ≡ 0
    → (w ≡ HubRequest → Asked s c → P (settle key (verdict s c) s c) (turned Class.met (settle key (verdict s c) s c) (rs ++ asked s c ∷ [])))
    → (w ≡ Stop → (task s c.caller).state ≡ 2 → c.target < length s.tasks → P (answer c.caller 1 0 (stop key c.target s)) (turned Class.met (answer c.caller 1 0 (stop key c.target s)) rs))
    → ((s' : State) → P s' [])
    → P (serve key w s c) (turned Class.met (serve key w s c) (opened (part_of w) s c rs))
met_case P key w s rs c a g ok f k z = by w (meets_by w) ok f k
  where
    nobody : (w : Service) → refusal_for w s c ≡ 0 → w ≢ HubRequest → w ≢ Stop → turned Class.met (serve key w s c) (opened (part_of w) s c rs) ≡ []
    nobody w ok n m =
        each_none _ (turned_by key w s rs c a g ok Class.met (λ r. ⊥) (λ r e. neither (unfold Reason in e)) (λ e o. n e))
      where
        neither : (w ≡ HubRequest) ⊎ (w ≡ Stop) → ⊥
        neither (inl e) = n e
        neither (inr e) = m e

    -- where it isn't granted nobody's record but the caller's changes
    granted : (b : Bool) → (task s c.caller).state ≡ 2
        → P (answer c.caller 1 0 (stop key c.target s)) (turned Class.met (answer c.caller 1 0 (stop key c.target s)) rs)
        → P (grant b (stop key c.target s) s c) (turned Class.met (grant b (stop key c.target s) s c) rs)
    granted true run p = unfold grant in p
    granted false run p =
        unfold grant in
        rw (turned_none s (answer c.caller 2 0 s) rs a.entries (λ j e. unfold Quiet in (quiet_told s c run 2 0 s refl j).old e)) (z (answer c.caller 2 0 s))

    by : (w : Service) → Meets w → refusal_for w s c ≡ 0 → (w ≡ HubRequest → Asked s c → P (settle key (verdict s c) s c) (turned Class.met (settle key (verdict s c) s c) (rs ++ asked s c ∷ [])))
        → (w ≡ Stop → (task s c.caller).state ≡ 2 → c.target < length s.tasks → P (answer c.caller 1 0 (stop key c.target s)) (turned Class.met (answer c.caller 1 0 (stop key c.target s)) rs))
        → P (serve key w s c) (turned Class.met (serve key w s c) (opened (part_of w) s c rs))
    by w asks ok f k = unfold opened part_of serve in f refl (request_tests s g.listed c ok)
    by w frees ok f k =
        let t = on_task_lem s g.listed c (unfold refusal_for in ok) in
        unfold opened part_of serve in granted (may_stop (task s c.target) c) t.0 (k refl t.0 t.1)
    by w (never v n m) ok f k = rw (nobody v ok n m) (z (serve key v s c))

-- a hub request's own list: an update of a Board, or by the hub table's row
request_case : (P : Verdict → List Request → Type 0) (key : ℕ → ℕ) (s : State) (rs : List Request) (c : Call) → Agree s rs → Valid s → (t : Asked s c)
    → (kind_of (hub s c.target).kind ≡ Board → c.side ≡ 1
    → P (updates s c (message c)) (turned Class.met (settle key (updates s c (message c)) s c) (rs ++ asked s c ∷ [])))
    → ((kind_of (hub s c.target).kind ≡ Board → across (side_of c.side) ≡ 2 → ⊥) → P (verdict s c) (met_in s c (verdict s c)))
    → P (verdict s c) (turned Class.met (settle key (verdict s c) s c) (rs ++ asked s c ∷ []))
request_case P key s rs c a g t up row = by (board_or (kind_of (hub s c.target).kind))
  where
    by_row : (kind_of (hub s c.target).kind ≡ Board → across (side_of c.side) ≡ 2 → ⊥) → P (verdict s c) (turned Class.met (settle key (verdict s c) s c) (rs ++ asked s c ∷ []))
    by_row nu = rw (turned-settle key s c t.run rs a (verdict s c) _ _ _ _ (few s c) nu (partners s g.listed c)) (row nu)

    side : Sided (kind_of (hub s c.target).kind) c.side → across (side_of c.side) ≡ 2 → c.side ≡ 1
    side d e = omega (arith, sides c.side d, e)

    by : (kind_of (hub s c.target).kind ≡ Board) ⊎ (kind_of (hub s c.target).kind ≢ Board) → P (verdict s c) (turned Class.met (settle key (verdict s c) s c) (rs ++ asked s c ∷ []))
    by (inr n) = by_row (λ b _. n b)
    by (inl b) =
        same_or (across (side_of c.side)) 2
        (λ e. let d : c.side ≡ 1 = side t.side e in
        subst (λ (v : Verdict). P v (turned Class.met (settle key v s c) (rs ++ asked s c ∷ []))) (sym (update-row s c b d)) (up b d))
        (λ n. by_row (λ _ e. n e))

pub turned-met : (key : ℕ → ℕ) (w : Service) (s : State) (rs : List Request) (c : Call) → Agree s rs → Valid s → refusal_for w s c ≡ 0 → service_of c.service ≡ w
    → Each (MetBy s (serve key w s c) c) (turned Class.met (serve key w s c) (opened (part_of w) s c rs))
turned-met key w s rs c a g ok sv =
    met_case (λ s' l. Each (MetBy s s' c) l) key w s rs c a g ok
    (λ e t. request_case (λ v l. Each (MetBy s (settle key v s c) c) l) key s rs c a g t
    (λ b d. met-update key s c (sv ∙ e) t rs a g.listed b d)
    (λ nu. met-row key s c (sv ∙ e) t (verdict s c) refl (few s c) nu (partners s g.listed c)))
    (λ e run u. by_stop key s rs c a g run u (sv ∙ e))
    (λ s'. unfold Each in tt)

-- and behind the service, where no record, count or store changes: z is the state after the service, z' the one after the call
module _ (s z z' : State) (c : Call) (k : Kept z z') where
  class-kept : (i : ℕ) → class_of (task z i) ≡ Class.met → class_of (task z' i) ≡ Class.met
  class-kept i e = rw (kept-task z z' k i) e

  owner-kept : (i h : ℕ) → owns i (hub z h) ≡ true → owns i (hub z' h) ≡ true
  unfolding core is_resource owns queued
  owner-kept i h e = ap (owns i) (k.hubs.each h) ∙ e

  row_kept : (r : Request) → ByRow s z c r → ByRow s z' c r
  unfolding core queued
  row_kept r b = record {
    count = b.count;
    held = b.held;
    waiters = b.waiters;
    own = b.own;
    row = b.row;
    counts = ap (λ (h : Hub). h.count) (k.hubs.each c.target) ∙ b.counts;
    holds = ap (λ (h : Hub). h.held) (k.hubs.each c.target) ∙ b.holds;
    others = each_imp _ _ (λ m e. class-kept m.waiter e) b.waiters b.others;
  }

  pub met-kept : (r : Request) → MetBy s z c r → MetBy s z' c r
  met-kept r (itself b) = itself (row_kept r b)
  met-kept r (partner b) = partner (record { service = b.service; place = b.place; sides = b.sides; first = b.first; caller = class-kept c.caller b.caller })
  met-kept r (passed b) = passed (record {
    service = b.service;
    answer = rw (kept-task z z' k c.caller) b.answer;
    owned = b.owned;
    side = b.side;
    first = b.first;
    owner = owner-kept r.task r.hub b.owner;
  })
  met-kept r (updated b) = updated (record {
    service = b.service;
    board = b.board;
    update = b.update;
    place = b.place;
    side = b.side;
    waited = b.waited;
    word = b.word;
    caller = class-kept c.caller b.caller;
  })

-- at a FIFO; an update's readers are all at its Board
pub one-met : (key : ℕ → ℕ) (w : Service) (s : State) (rs : List Request) (c : Call) → Agree s rs → Valid s → refusal_for w s c ≡ 0
    → (h d : ℕ) → kind_of (hub s h).kind ≡ Fifo → how_many (at h d) (turned Class.met (serve key w s c) (opened (part_of w) s c rs)) ≤ 1
one-met key w s rs c a g ok h d k =
    met_case (λ s' l. how_many (at h d) l ≤ 1) key w s rs c a g ok
    (λ e t. request_case (λ v l. how_many (at h d) l ≤ 1) key s rs c a g t
    (λ b e. let z = ap length (those_off c.target h d _ (λ q. clash (cc)) (turned-place key s c t.run rs a (updates s c (message c))
    (subst (λ (v : Verdict). Partners s c (waiters_met v)) (update-row s c b e) (partners s g.listed c)))) in omega (arith, z))
    (λ nu. one-row s c h d t.side _ _ (verdict s c) (few s c) nu))
    (λ e run u. stop-one key s c g run u rs a h d)
    (λ s'. omega (arith, none-at h d))

-- ---- what a read of a Board bears: cs are the calls before, cs' those with this one

abbrev Read : State → List Call → Request → Type 0
Read s cs' r = kind_of (hub s r.hub).kind ≡ Board → r.side ≡ 2 → board_word r.hub cs' ≡ some r.received

module _ (key : ℕ → ℕ) (s : State) (rs : List Request) (c : Call) (cs : List Call) (a : Agree s rs) (g : Valid s) (m : Boards s cs) (t : Asked s c) where
  -- an update: its readers bear its word
  read-update : kind_of (hub s c.target).kind ≡ Board → c.side ≡ 1
      → Each (Read s (cs ++ c ∷ [])) (turned Class.met (settle key (updates s c (message c)) s c) (rs ++ asked s c ∷ []))
  unfolding reread waiters_met
  read-update b d =
      turned-update key s c t.run rs a (message c) (Read s (cs ++ c ∷ [])) (subst (λ (v : Verdict). Partners s c (waiters_met v)) (update-row s c b d) (partners s g.listed c))
      (λ r k o e w _ _. rw (place r k o, w) (update_word s c b cs d))
      (λ _ e. absurd (omega (arith, d, e)))
    where
      place : (r : Request) → Stands s r → 1 ≤ occ r.task (hub s c.target).waiters → r.hub ≡ c.target
      place r k o = omega (arith, k.hub, (listed-waits s g.listed c.target r.task o).1)

  -- a read that finds a word, or a wipe
  found_row : kind_of (hub s c.target).kind ≡ Board → (kind_of (hub s c.target).kind ≡ Board → across (side_of c.side) ≡ 2 → ⊥) → {k : Kind} → Sided k c.side
      → Each (Read s (cs ++ c ∷ [])) (met_in s c (verdict s c))
  unfolding Each met_in
  found_row b nu (inl e) = absurd (nu b (unfold across side_of in rw e refl))
  found_row b nu (inr (inl e)) = rw (read-row s c b e) (found (hub s c.target).held refl)
    where
      found : (l : List ℕ) → (hub s c.target).held ≡ l → Each (Read s (cs ++ c ∷ [])) (met_in s c (get_board l (hub s c.target)))
      found [] q = unfold get_board in tt
      found (x ∷ xs) q =
          unfold get_board in
          (λ _ _. board-read s c b cs e (m.each c.target b) _ _ x (read-row s c b e ∙ ap (λ (l : List ℕ). get_board l (hub s c.target)) q), tt)
  found_row b nu (inr (inr e)) = rw (wipe_row s c b e.0) (λ _ d. absurd (omega (arith, d, e.0)), tt)

  reads_request : Each (Read s (cs ++ c ∷ [])) (turned Class.met (settle key (verdict s c) s c) (rs ++ asked s c ∷ []))
  reads_request = by (board_or (kind_of (hub s c.target).kind))
    where
      by : (kind_of (hub s c.target).kind ≡ Board) ⊎ (kind_of (hub s c.target).kind ≢ Board)
          → Each (Read s (cs ++ c ∷ [])) (turned Class.met (settle key (verdict s c) s c) (rs ++ asked s c ∷ []))
      by (inl b) = request_case (λ v l. Each (Read s (cs ++ c ∷ [])) l) key s rs c a g t (λ b d. read-update b d) (λ nu. found_row b nu t.side)
      by (inr n) = each_imp _ _ (λ r e b _. absurd (n (rw e at b))) _ (turned-place key s c t.run rs a (verdict s c) (partners s g.listed c))

pub turned-reads : (key : ℕ → ℕ) (w : Service) (s : State) (rs : List Request) (c : Call) (cs : List Call) → Agree s rs → Valid s → Boards s cs → refusal_for w s c ≡ 0
    → Each (Read s (called (part_of w) c cs)) (turned Class.met (serve key w s c) (opened (part_of w) s c rs))
unfolding takes
turned-reads key w s rs c cs a g m ok =
    met_case (λ s' l. Each (Read s (called (part_of w) c cs)) l) key w s rs c a g ok
    (λ e t. rw (asks e) (reads_request key s rs c cs a g m t))
    (λ e run u. each_imp _ _ (λ r b k _. absurd (clash (cc (owned-kind c.target (hub s r.hub) (and_l _ _ b.0))))) _ (stop-turned key s c g run u rs a))
    (λ s'. unfold Each in tt)
  where
    asks : w ≡ HubRequest → called (part_of w) c cs ≡ cs ++ c ∷ []
    asks e = unfold called part_of in rw e refl
