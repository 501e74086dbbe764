-- Demand 3, for every run: `demand3`, and its consequences `each-met`, `each_read`, `one_each` and `blocks` (the statements:
-- specs/Statements.antt).
-- A Blank on any words of either size begins a run (`blank_begins`).
use Prim.Native.Nat.{◌+◌, ◌<◌, ◌≤◌, suc, zero, ℕ}
use Rattle.history.proofs.Again.{Entry, turned-kept}
use Rattle.history.proofs.Balance.{Balanced}
use Rattle.history.proofs.Blocks.{else_met, goes_back, goes_kept, held_back, lowest_next, lowest_taken, mark_low, so_many_out}
use Rattle.history.proofs.Bound.{bound}
use Rattle.history.proofs.Following.{continues_history, moves_same, own-place}
use Rattle.history.proofs.Meetings.{met_in_lem}
use Rattle.history.proofs.Reasons.{class-own, met-kept, one-met, turned_failed, turned-met, turned-reads, turned_timed, turned_withdrawn}
use Rattle.history.proofs.Run.{Sound, accepted-service, done, refusal_other, shown-kept, shown-task, sound_run}
use Rattle.history.proofs.Those.{each_both, each_imp, occ-those}
use Rattle.history.specs.History.{Class, History, Request, Step, asked, at, begun, board_word, failed, history, how_many, is_owned, met_count, met_with, next, next_by, opened, part_of, passed, removed_at, reread, row_class, shown, those, timed_out, turned, turned_by, turned_to, withdrawn, words_of}
use Rattle.history.specs.Statements.{Asks, Bears, Begins, Blocks, Demand3, Each, EachMet, EachRead, Lowest, Met, MetBy, OneEach, Own, added_as, class_had, request_at}
use Rattle.lists.proofs.Laws.{bool_case}
use Rattle.lists.specs.Lists.{bit, occ}
use Rattle.rules.proofs.Accepted.{Asked, request_tests}
use Rattle.rules.proofs.After.{well_formed-not_2}
use Rattle.rules.proofs.Promise.{blank-accepted}
use Rattle.rules.proofs.Reordered.{Kept}
use Rattle.rules.proofs.Valid.{Range}
use Rattle.rules.specs.Calls.{HubRequest, Service, Stop, Tick, serve, service_of, settle}
use Rattle.rules.specs.Effective.{effective}
use Rattle.rules.specs.HubTable.{message, verdict}
use Rattle.rules.specs.Refusals.{refusal_for, refusal_of}
use Rattle.rules.specs.Reply.{table_after}
use Rattle.rules.specs.Table.{Board, Event, Fifo, Hub, Kind, Memory, NoKind, Port, Resource, Semaphore, State, edition_of, hub, kind_of, no_hub, size}
use Rattle.rules.specs.declared.Call.{Call}
use borrow.Author.Tests.{ltb-false, ltb-true}
use lib.Dec.{eqb, ltb}
use lib.ListN.{get_or-eq_default, get_or, length, length-map}
use mathlib.Core.Bool.{◌&&◌, false≢true}
use mathlib.Core.List.{List, []}
use mathlib.Core.Logic.{◌≢◌, ◌⊎◌, inl, inr}
use mathlib.Core.Option.{some}
use mathlib.Core.Path.{◌∙◌, ◌≡◌, ap, refl, subst, sym}
use native.Mathlib.Omega.{arith}

-- a Blank on any words of either size begins a run
pub blank_begins : (w : List ℕ) (b : Call) → length w ≡ size (edition_of w) → b.service ≡ 0 → Begins w b
unfolding service_of
blank_begins w b l z = record { blank = rw z; accepted = blank-accepted w b l z }

not_request : (c : Call) {v : Service} → service_of c.service ≡ v → (HubRequest ≡ v → ⊥) → c.service ≢ 1
unfolding service_of
not_request c e n z = n (sym (ap service_of z) ∙ e)

module _ (x : History) (g : Sound x) where
  abbrev s : State
  s = shown x.table

  -- ---- the balances

  balanced : (h : ℕ) (k : Kind) → kind_of (hub s h).kind ≡ k → Balanced k (hub s h) (removed_at h x.removed) (words_of h 1 x.met) (words_of h 2 x.met)
  balanced h k e = subst (λ (k : Kind). Balanced k (hub s h) (removed_at h x.removed) (words_of h 1 x.met) (words_of h 2 x.met)) e (g.account.balanced h)

  count : (h d : ℕ) → length (words_of h d x.met) ≡ met_count h d x.requests
  unfolding met_count words_of
  count h d = length-map (those (at h d) x.met) _ ∙ g.account.meetings (at h d)

  -- a hub of some kind is in use
  in_use : (h : ℕ) (k : Kind) → kind_of (hub s h).kind ≡ k → k ≢ NoKind → h < length s.hubs
  in_use h k e n =
      bool_case (ltb h (length s.hubs))
      (ltb-true h _)
      (λ b. absurd (n (sym e ∙ (unfold kind_of no_hub in ap (λ (y : Hub). kind_of y.kind) (get_or-eq_default s.hubs no_hub (ltb-false h _ b))))))

  semaphore : (h : ℕ) → kind_of (hub s h).kind ≡ Semaphore → (added_as x h).word + met_count h 1 x.requests ≡ (hub s h).count + met_count h 2 x.requests
  unfolding Balanced
  semaphore h e =
      let m = g.makes.each h (in_use h Semaphore e (λ q. let z : ◌≡◌ {A = ℕ} 0 1 = cc in omega arith)) in
      omega (arith, balanced h Semaphore e, count h 1, count h 2, m.start)

  event : (h : ℕ) → kind_of (hub s h).kind ≡ Event → met_count h 1 x.requests ≡ (hub s h).count + met_count h 2 x.requests
  unfolding Balanced Range
  event h e =
      let r : Range Event (length s.tasks) (hub s h) = rw e at (g.valid.ranges.range h (in_use h Event e (λ q. let z : ◌≡◌ {A = ℕ} 0 1 = cc in omega arith))) in
      omega (arith, balanced h Event e, count h 1, count h 2, r.2)

  resource : (h : ℕ) → kind_of (hub s h).kind ≡ Resource
      → met_count h 2 x.requests ≡ met_count h 1 x.requests + removed_at h x.removed + bit (is_owned (hub s h))
  unfolding Balanced
  resource h e = omega (arith, balanced h Resource e, count h 1, count h 2)

  -- the met requests that passed on a word
  with : (h d b : ℕ) → occ b (words_of h d x.met) ≡ met_with h d b x.requests
  unfolding met_with words_of
  with h d b = occ-those (at h d) passed b x.met ∙ g.account.meetings (λ r. at h d r && eqb (passed r) b)

  memory : (h : ℕ) → kind_of (hub s h).kind ≡ Memory → (b : ℕ) → met_with h 2 b x.requests ≡ met_with h 1 b x.requests + get_or (hub s h).held b 0
  unfolding Balanced
  memory h e b = omega (arith, balanced h Memory e b, with h 1 b, with h 2 b)

  -- ---- the next call

  -- the requests that the table after an accepted call is read for, and those of them that turn
  abbrev read_for : Call → List Request
  read_for c = opened (part_of (service_of c.service)) s c x.requests

  turned-shown : (k : Class) (c : Call) → refusal_of x.table c ≡ 0 → turned k (shown (table_after x.table c)) (read_for c) ≡ turned k (done s c) (read_for c)
  turned-shown k c e = turned-kept (done s c) (shown (table_after x.table c)) (shown-kept x c e).tasks k (read_for c)

  -- what holds of those that turn in an accepted call, by its service, holds in any call, where no order of lists matters to it
  turned-next : (k : Class) (Q : State → List Request → Type 0) → ((z z' : State) → Kept z z' → (l : List Request) → Q z l → Q z' l) → (c : Call)
      → (refusal_for (service_of c.service) s c ≡ 0 → Q (done s c) (turned k (done s c) (read_for c)))
      → ((s' : State) → Q s' []) → Q (shown (table_after x.table c)) (turned_to k x c)
  unfolding turned_to
  turned-next k Q kept c f z = by (refusal_of x.table c) refl
    where
      by : (n : ℕ) → refusal_of x.table c ≡ n → Q (shown (table_after x.table c)) (turned_by n k x.table c x.requests)
      by zero e = unfold turned_by in rw (turned-shown k c e) (kept (done s c) _ (shown-kept x c e) _ (f (accepted-service x c e)))
      by (suc n) e = unfold turned_by in z (shown (table_after x.table c))

  -- each of them
  each_next : (k : Class) (P : State → Request → Type 0) → ((z z' : State) → Kept z z' → (r : Request) → P z r → P z' r) → (c : Call)
      → (refusal_for (service_of c.service) s c ≡ 0 → Each (P (done s c)) (turned k (done s c) (read_for c)))
      → Each (P (shown (table_after x.table c))) (turned_to k x c)
  each_next k P kept c f = turned-next k (λ s' l. Each (P s') l) (λ z z' e l. each_imp (P z) (P z') (kept z z' e) l) c f (λ s'. unfold Each in tt)

  reads : (c : Call) → Each (Bears x c) (turned_to Class.met x c)
  unfolding next turned_to
  reads c = by (refusal_of x.table c) refl
    where
      by : (n : ℕ) → refusal_of x.table c ≡ n
          → Each (λ r. kind_of (hub s r.hub).kind ≡ Board → r.side ≡ 2 → board_word r.hub (next_by n x c).calls ≡ some r.received) (turned_by n Class.met x.table c x.requests)
      by zero e = unfold next_by turned_by in rw (turned-shown Class.met c e)
          (turned-reads (effective s) _ s x.requests c x.calls g.account.agree g.valid g.boards (accepted-service x c e))
      by (suc n) e = unfold Each turned_by in tt

  own : (c : Call) → service_of c.service ≡ HubRequest → refusal_of x.table c ≡ 0
      → (request_at (next x c) (length x.requests)).class ≡ row_class (verdict s c) c
  unfolding asked reread
  own c sv e =
      rw (own-place x c sv e, shown-task x c e c.caller, sv) (class-own (effective s) s c g.valid (rw sv at (accepted-service x c e)))

  sound_demand : Demand3 x
  sound_demand = record {
    read = each_imp (Entry s) _ (λ r e. e.known) x.requests g.account.agree.entries;
    waits = g.account.agree.one;
    stands = each_imp (Entry s) _ (λ r e. e.stands) x.requests g.account.agree.entries;
    meetings = g.account.meetings;
    settled = continues_history x;
    hubs = g.makes.each;
    semaphore = semaphore;
    event = event;
    fifo = λ h e. unfold Balanced in balanced h Fifo e;
    port = λ h e. unfold Balanced in balanced h Port e;
    resource = resource;
    board = g.boards.each;
    memory = memory;
    reads = reads;
    own = own;
    met_means_met = λ c. each_next Class.met (λ s'. MetBy s s' c) (λ z z' k. met-kept s z z' c k) c (λ o. turned-met (effective s) _ s x.requests c g.account.agree g.valid o refl);
    fails = λ c. each_next failed (λ s'. Own c) (λ z z' k r p. p) c (λ o. turned_failed (effective s) _ s x.requests c g.account.agree g.valid o refl);
    times_out = λ c. each_next timed_out (λ s' r. service_of c.service ≡ Tick) (λ z z' k r p. p) c (λ o. turned_timed (effective s) _ s x.requests c g.account.agree g.valid o refl);
    is_withdrawn = λ c. each_next withdrawn (λ s' r. (service_of c.service ≡ Stop) × (r.task ≡ c.target)) (λ z z' k r p. p) c
        (λ o. turned_withdrawn (effective s) _ s x.requests c g.account.agree g.valid o refl);
    bound = λ c ds sv e m b l. bound x g c sv e m ds b l;
    moves = moves_same x;
    formed = g.formed;
    never_two = λ c. well_formed-not_2 x.table c g.formed;
    blanks = λ c e. refusal_other x g c (not_request c e (λ q. false≢true cc)) ∙ (unfold refusal_for in rw e);
    ticks = λ c e. refusal_other x g c (not_request c e (λ q. false≢true cc)) ∙ (unfold refusal_for in rw e);
  }

  sound_one : OneEach x
  sound_one c h d e =
      turned-next Class.met (λ s' l. how_many (at h d) l ≤ 1) (λ z z' k l p. p) c
      (λ o. one-met (effective s) _ s x.requests c g.account.agree g.valid o h d e)
      (λ s'. unfold those in omega arith)

  -- ---- M-107, of a Memory hub

  module _ (h : ℕ) (e : kind_of (hub s h).kind ≡ Memory) where
    used : h < length s.hubs
    used = in_use h Memory e (λ q. let z : ◌≡◌ {A = ℕ} 0 1 = cc in omega arith)

    asked_of : (d : ℕ) (c : Call) → Asks x h d c → Asked s c
    asked_of d c a = request_tests s g.valid.listed c (rw a.service at (accepted-service x c a.accepted))

    class_had_lem : (d : ℕ) (c : Call) → Asks x h d c → class_had x c ≡ row_class (verdict s c) c
    class_had_lem d c a = own c a.service a.accepted

    next-kept : (d : ℕ) (c : Call) → Asks x h d c → Kept (settle (effective s) (verdict s c) s c) (shown (next x c).table)
    unfolding next next_by serve
    next-kept d c a = rw a.accepted (rw a.service at (shown-kept x c a.accepted))

    taken : (c : Call) → Asks x h 2 c → class_had x c ≡ Class.met → Lowest s h (request_at (next x c) (length x.requests)).received
    unfolding asked reread serve
    taken c a m =
        rw (own-place x c a.service a.accepted, shown-task x c a.accepted c.caller, a.service)
        (lowest_taken s g.valid h used e c a.target (effective s) (asked_of 2 c a) a.side (sym (class_had_lem 2 c a) ∙ m))

    sound_blocks : Blocks x h
    unfolding Balanced
    sound_blocks = record {
      out = omega (arith, so_many_out _ _ (hub s h).held (balanced h Memory e) (mark_low s g.valid h used e), count h 1, count h 2);
      once = λ b. omega (arith, memory h e b, mark_low s g.valid h used e b);
      held_back = λ c a. held_back s g.valid h used e c a.target a.side;
      only = λ c a n. class_had_lem 2 c a ∙ else_met s g.valid h used e c a.target a.side n;
      taken = taken;
      returned = λ c a m. goes_kept s _ _ (next-kept 1 c a) h (message c) (goes_back s g.valid h used e c a.target (effective s) (asked_of 1 c a) a.side (sym (class_had_lem 1 c a) ∙ m));
      used_again = λ c a. lowest_next s g.valid h used e c a.target a.side;
    }

-- ---- every run

pub demand3 : (w : List ℕ) (b : Call) → Begins w b → (ds : List Step) → Demand3 (history (begun (table_after w b)) ds)
demand3 w b g ds = sound_demand _ (sound_run w b g ds)

only : {A : Type 0} → ⊥ ⊎ A → A
only (inl z) = absurd z
only (inr a) = a

pub each-met : (w : List ℕ) (b : Call) → Begins w b → (ds : List Step) → EachMet (begun (table_after w b)) ds
each-met w b g ds =
    each_imp _ _ (λ r f e. only (f e)) _
    (met_in_lem Met (λ x k. (sound_demand x k).met_means_met) ds (begun (table_after w b)) (unfold history in sound_run w b g []) (λ r. ⊥) (unfold Each begun in tt))

pub each_read : (w : List ℕ) (b : Call) → Begins w b → (ds : List Step) → EachRead (begun (table_after w b)) ds
each_read w b g ds =
    each_imp _ _ (λ r f e. only (f e)) _
    (met_in_lem (λ x c r. Met x c r × Bears x c r) (λ x k c. each_both _ _ _ ((sound_demand x k).met_means_met c) ((sound_demand x k).reads c)) ds (begun (table_after w b))
    (unfold history in sound_run w b g []) (λ r. ⊥) (unfold Each begun in tt))

pub one_each : (w : List ℕ) (b : Call) → Begins w b → (ds : List Step) → OneEach (history (begun (table_after w b)) ds)
one_each w b g ds = sound_one _ (sound_run w b g ds)

pub blocks : (w : List ℕ) (b : Call) → Begins w b → (ds : List Step) → (h : ℕ)
    → kind_of (hub (shown (history (begun (table_after w b)) ds).table) h).kind ≡ Memory → Blocks (history (begun (table_after w b)) ds) h
blocks w b g ds h e = sound_blocks _ (sound_run w b g ds) h e
