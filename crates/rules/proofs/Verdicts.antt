-- The hub table's laws, a clause for each row. In order: a verdict meets at most one waiter, the first of the other side, or, a
-- Board's, every reader (`few`, a view); the hub after a verdict is in its kind's range and holds what it should; who is not met may go on
-- waiting; who is told "not now" may wait, and nobody waits on the other side. Each by kind, and then by side.
-- Not here: what a verdict does to the table (Settled.antt).
use Prim.Native.Nat.{◌<◌, ◌≤◌, pred, suc, zero, ℕ}
use Rattle.lists.proofs.Counting.{occ_tail}
use Rattle.lists.proofs.Laws.{bool_case}
use Rattle.lists.specs.Lists.{occ}
use Rattle.rules.proofs.Blocks.{back-free, mark_set, taken_free}
use Rattle.rules.proofs.Cases.{cond_case, same_or}
use Rattle.rules.proofs.Valid.{GetWaits, Held, MayWait, PutWaits, Range}
use Rattle.rules.specs.HubTable.{Meeting, Verdict, alone, fail, get_board, get_event, get_fifo, get_memory, get_port, get_resource, get_semaphore, give_back, is_out, lowest_free, message, met, not_now, on_get, on_put, on_side, on_wipe, pair, pass, put_board, put_event, put_fifo, put_memory, put_port, put_resource, put_semaphore, readers, verdict}
use Rattle.rules.specs.Lists.{first_waiting, holding}
use Rattle.rules.specs.Table.{Board, Event, Fifo, Get, Hub, Kind, Memory, NoKind, NoSide, Port, Put, Resource, Semaphore, Side, State, Wipe, hub, kind_of, side_of, stored, task}
use Rattle.rules.specs.declared.Call.{Call}
use borrow.Author.Tests.{eq-eqb, eqb-false, eqb-true, ltb-false, ltb-true}
use lib.Dec.{eqb, ltb}
use lib.ListN.{length, length-append, length-set}
use mathlib.Core.Bool.{false≢true, true}
use mathlib.Core.List.{List, [], ◌++◌, ◌∷◌}
use mathlib.Core.Logic.{◌≢◌, ◌⊎◌, inl, inr}
use mathlib.Core.Option.{Option, none, some}
use mathlib.Core.Path.{◌∙◌, ◌≡◌, ap, refl, sym}
use native.Mathlib.Omega.{arith}

-- ---- the waiters met

unfoldable pub waiters_met : Verdict → List Meeting
waiters_met (met n ws x ms) = ms
waiters_met not_now = []
waiters_met fail = []

-- P of each of them
unfoldable pub Each : (Meeting → Type 0) → List Meeting → Type 0
Each P [] = Unit {0}
Each P (m ∷ ms) = P m × Each P ms

pub each_map : (P Q : Meeting → Type 0) → ((m : Meeting) → P m → Q m) → (ms : List Meeting) → Each P ms → Each Q ms
unfolding Each
each_map P Q f [] a = tt
each_map P Q f (m ∷ ms) a = (f m a.0, each_map P Q f ms a.1)

-- j is none of them
abbrev pub Apart : List Meeting → ℕ → Type 0
Apart ms j = Each (λ m. j ≢ m.waiter) ms

-- where k is the kind, l the list, d the other side and f its first waiter: met by the hub alone, or with f, or (Board, put) with
-- every reader in l, or not now, or fail
pub data Few (k : Kind) (s : State) (l : List ℕ) (d : ℕ) (f : Option ℕ) : Verdict → Type 0 where
  meets-none : (n : ℕ) (ws : List ℕ) (x : ℕ) → Few k s l d f (alone n ws x)
  meets-first : (n : ℕ) (ws : List ℕ) (x w y : ℕ) → f ≡ some w → Few k s l d f (pair n ws x w y)
  meets-all : (y : ℕ) → k ≡ Board → d ≡ 2 → Few k s l d f (met 1 (y ∷ []) 0 (readers s l y))
  meets_later : Few k s l d f not_now
  meets_never : Few k s l d f fail

few_put : (k : Kind) (s : State) (f : Option ℕ) (h : Hub) (i x : ℕ) → Few k s h.waiters 2 f (on_put k s f h i x)
unfolding give_back on_put pass put_board put_event put_fifo put_memory put_port put_resource put_semaphore
few_put NoKind s f h i x = meets_never
few_put Event s (some w) h i x = meets-first _ _ _ w _ refl
few_put Event s none h i x = cond_case (Few Event s h.waiters 2 none) (eqb h.count 0) _ _ (λ _. meets-none _ _ _) (λ _. meets_later)
few_put Semaphore s (some w) h i x = meets-first _ _ _ w _ refl
few_put Semaphore s none h i x = cond_case (Few Semaphore s h.waiters 2 none) (ltb h.count h.limit) _ _ (λ _. meets-none _ _ _) (λ _. meets_later)
few_put Port s (some w) h i x = meets-first _ _ _ w _ refl
few_put Port s none h i x = meets_later
few_put Fifo s (some w) h i x = meets-first _ _ _ w _ refl
few_put Fifo s none h i x = cond_case (Few Fifo s h.waiters 2 none) (ltb h.count h.limit) _ _ (λ _. meets-none _ _ _) (λ _. meets_later)
few_put Resource s (some w) h i x =
    cond_case (Few Resource s h.waiters 2 (some w)) (eqb h.count (suc i)) (pass (some w) h) fail (λ _. meets-first _ _ _ w _ refl) (λ _. meets_never)
few_put Resource s none h i x = cond_case (Few Resource s h.waiters 2 none) (eqb h.count (suc i)) (pass none h) fail (λ _. meets-none _ _ _) (λ _. meets_never)
few_put Board s f h i x = meets-all x refl refl
few_put Memory s (some w) h i x =
    cond_case (Few Memory s h.waiters 2 (some w)) (is_out x h) (give_back (some w) h x) fail (λ _. meets-first _ _ _ w _ refl) (λ _. meets_never)
few_put Memory s none h i x = cond_case (Few Memory s h.waiters 2 none) (is_out x h) (give_back none h x) fail (λ _. meets-none _ _ _) (λ _. meets_never)

few_get : (k : Kind) (s : State) (f : Option ℕ) (h : Hub) (i : ℕ) → Few k s h.waiters 1 f (on_get k s f h i)
unfolding get_board get_event get_fifo get_memory get_port get_resource get_semaphore on_get
few_get NoKind s f h i = meets_never
few_get Event s (some w) h i = cond_case (Few Event s h.waiters 1 (some w)) (eqb h.count 1) _ _ (λ _. meets-first _ _ _ w _ refl) (λ _. meets_later)
few_get Event s none h i = cond_case (Few Event s h.waiters 1 none) (eqb h.count 1) _ _ (λ _. meets-none _ _ _) (λ _. meets_later)
few_get Semaphore s (some w) h i = cond_case (Few Semaphore s h.waiters 1 (some w)) (ltb 0 h.count) _ _ (λ _. meets-first _ _ _ w _ refl) (λ _. meets_later)
few_get Semaphore s none h i = cond_case (Few Semaphore s h.waiters 1 none) (ltb 0 h.count) _ _ (λ _. meets-none _ _ _) (λ _. meets_later)
few_get Port s (some w) h i = meets-first _ _ _ w _ refl
few_get Port s none h i = meets_later
few_get Fifo s f h i = fifo h.held f
  where
    fifo : (l : List ℕ) (f : Option ℕ) → Few Fifo s h.waiters 1 f (get_fifo s l f h)
    fifo [] f = meets_later
    fifo (x ∷ xs) (some w) = meets-first _ _ _ w _ refl
    fifo (x ∷ xs) none = meets-none _ _ _
few_get Resource s f h i =
    cond_case (Few Resource s h.waiters 1 f) (eqb h.count 0) _ _
    (λ _. meets-none _ _ _)
    (λ _. cond_case (Few Resource s h.waiters 1 f) (eqb h.count (suc i)) fail not_now (λ _. meets_never) (λ _. meets_later))
few_get Board s f h i = board h.held
  where
    board : (l : List ℕ) → Few Board s h.waiters 1 f (get_board l h)
    board [] = meets_later
    board (x ∷ xs) = meets-none _ _ _
few_get Memory s f h i = cond_case (Few Memory s h.waiters 1 f) (ltb 0 h.count) _ _ (λ _. meets-none _ _ _) (λ _. meets_later)

few_wipe : (k : Kind) (s : State) (l : List ℕ) (f : Option ℕ) → Few k s l 0 f (on_wipe k)
unfolding on_wipe
few_wipe NoKind s l f = meets_never
few_wipe Event s l f = meets_never
few_wipe Semaphore s l f = meets_never
few_wipe Port s l f = meets_never
few_wipe Fifo s l f = meets_never
few_wipe Resource s l f = meets_never
few_wipe Board s l f = meets-none _ _ _
few_wipe Memory s l f = meets_never

-- the other side's number
unfoldable pub across : Side → ℕ
across NoSide = 0
across Put = 2
across Get = 1
across Wipe = 0

few_side : (d : Side) (s : State) (h : Hub) (c : Call) → Few (kind_of h.kind) s h.waiters (across d) (first_waiting s (across d) h.waiters) (on_side d s h c)
unfolding across on_side
few_side NoSide s h c = meets_never
few_side Put s h c = few_put (kind_of h.kind) s _ h c.caller (message c)
few_side Get s h c = few_get (kind_of h.kind) s _ h c.caller
few_side Wipe s h c = few_wipe (kind_of h.kind) s h.waiters _

pub few : (s : State) (c : Call)
    → Few (kind_of (hub s c.target).kind) s (hub s c.target).waiters (across (side_of c.side)) (first_waiting s (across (side_of c.side)) (hub s c.target).waiters) (verdict s c)
unfolding verdict
few s c = few_side (side_of c.side) s (hub s c.target) c

-- a Board's update: it writes, and meets every reader
pub update-row : (s : State) (c : Call) → kind_of (hub s c.target).kind ≡ Board → c.side ≡ 1
    → verdict s c ≡ met 1 (message c ∷ []) 0 (readers s (hub s c.target).waiters (message c))
unfolding on_put on_side put_board side_of verdict
update-row s c b e = rw (e, b) refl

-- ---- the hub after a verdict: its kind's range, with i the caller, and whoever f names in use

unfoldable pub hub_after : Hub → Verdict → Hub
hub_after h (met n ws x ms) = holding n ws h
hub_after h not_now = h
hub_after h fail = h

pub after-kind : (h : Hub) (v : Verdict) → (hub_after h v).kind ≡ h.kind
unfolding holding hub_after
after-kind h (met n ws x ms) = refl
after-kind h not_now = refl
after-kind h fail = refl

abbrev RangeLaw : Kind → ℕ → Hub → Verdict → Type 0
RangeLaw k T h v = Range k T (hub_after h v)

range-put : (k : Kind) (T : ℕ) (s : State) (f : Option ℕ) (h : Hub) (i x : ℕ) → ((w : ℕ) → f ≡ some w → w < T) → Range k T h
    → RangeLaw k T h (on_put k s f h i x)
unfolding Range give_back holding hub_after on_put pass put_board put_event put_fifo put_memory put_port put_resource put_semaphore
range-put NoKind T s f h i x b r = r
range-put Event T s (some w) h i x b r = r
range-put Event T s none h i x b r = cond_case (RangeLaw Event T h) (eqb h.count 0) _ _ (λ q. (omega arith, r.1, r.2)) (λ q. r)
range-put Semaphore T s (some w) h i x b r = r
range-put Semaphore T s none h i x b r =
    cond_case (RangeLaw Semaphore T h) (ltb h.count h.limit) _ _ (λ q. (ltb-true _ _ q, r.1, r.2, r.3)) (λ q. r)
range-put Port T s (some w) h i x b r = r
range-put Port T s none h i x b r = r
range-put Fifo T s (some w) h i x b r = r
range-put Fifo T s none h i x b r =
    cond_case (RangeLaw Fifo T h) (ltb h.count h.limit) _ _ (λ q. (ltb-true _ _ q, r.1, r.2, r.3)) (λ q. r)
range-put Resource T s (some w) h i x b r =
    cond_case (RangeLaw Resource T h) (eqb h.count (suc i)) (pass (some w) h) fail (λ q. (b w refl, r.1, r.2)) (λ q. r)
range-put Resource T s none h i x b r =
    cond_case (RangeLaw Resource T h) (eqb h.count (suc i)) (pass none h) fail (λ q. (omega arith, r.1, r.2)) (λ q. r)
range-put Board T s f h i x b r = (omega arith, r.1, r.2)
range-put Memory T s (some w) h i x b r = cond_case (RangeLaw Memory T h) (is_out x h) (give_back (some w) h x) fail (λ q. r) (λ q. r)
range-put Memory T s none h i x b r =
    cond_case (RangeLaw Memory T h) (is_out x h) (give_back none h x) fail
    (λ q. (r.0, r.1, r.2, (λ j lt. mark_set h.held x 0 j (omega arith) (r.3 j lt)), back-free x h q r.4))
    (λ q. r)

range_get : (k : Kind) (T : ℕ) (s : State) (f : Option ℕ) (h : Hub) (i : ℕ) → i < T → Range k T h → RangeLaw k T h (on_get k s f h i)
unfolding Range get_board get_event get_fifo get_memory get_port get_resource get_semaphore holding hub_after on_get
range_get NoKind T s f h i a r = r
range_get Event T s (some w) h i a r = cond_case (RangeLaw Event T h) (eqb h.count 1) _ _ (λ q. r) (λ q. r)
range_get Event T s none h i a r = cond_case (RangeLaw Event T h) (eqb h.count 1) _ _ (λ q. (omega arith, r.1, r.2)) (λ q. r)
range_get Semaphore T s (some w) h i a r = cond_case (RangeLaw Semaphore T h) (ltb 0 h.count) _ _ (λ q. r) (λ q. r)
range_get Semaphore T s none h i a r =
    cond_case (RangeLaw Semaphore T h) (ltb 0 h.count) _ _
    (λ q. (let z : pred h.count ≤ h.limit = omega (arith, r.0) in z, r.1, r.2, r.3))
    (λ q. r)
range_get Port T s (some w) h i a r = r
range_get Port T s none h i a r = r
range_get Fifo T s f h i a r = fifo h.held f
  where
    fifo : (l : List ℕ) (f : Option ℕ) → RangeLaw Fifo T h (get_fifo s l f h)
    fifo [] f = r
    fifo (y ∷ ys) (some w) = r
    fifo (y ∷ ys) none = (let z : pred h.count ≤ h.limit = omega (arith, r.0) in z, r.1, r.2, r.3)
range_get Resource T s f h i a r =
    cond_case (RangeLaw Resource T h) (eqb h.count 0) _ _
    (λ q. (a, r.1, r.2))
    (λ q. cond_case (RangeLaw Resource T h) (eqb h.count (suc i)) fail not_now (λ _. r) (λ _. r))
range_get Board T s f h i a r = board h.held
  where
    board : (l : List ℕ) → RangeLaw Board T h (get_board l h)
    board [] = r
    board (y ∷ ys) = r
range_get Memory T s f h i a r =
    cond_case (RangeLaw Memory T h) (ltb 0 h.count) _ _
    (λ q. (r.0, r.1, r.2, (λ j lt. mark_set h.held (lowest_free h) 1 j (omega arith) (r.3 j lt)), taken_free h r.4 (ltb-true 0 _ q)))
    (λ q. r)

range_wipe : (k : Kind) (T : ℕ) (h : Hub) → Range k T h → RangeLaw k T h (on_wipe k)
unfolding Range holding hub_after on_wipe
range_wipe NoKind T h r = r
range_wipe Event T h r = r
range_wipe Semaphore T h r = r
range_wipe Port T h r = r
range_wipe Fifo T h r = r
range_wipe Resource T h r = r
range_wipe Board T h r = (omega arith, r.1, r.2)
range_wipe Memory T h r = r

pub range-side : (d : Side) (T : ℕ) (s : State) (h : Hub) (c : Call) → c.caller < T → ((w : ℕ) → first_waiting s 2 h.waiters ≡ some w → w < T)
    → Range (kind_of h.kind) T h → RangeLaw (kind_of h.kind) T h (on_side d s h c)
unfolding hub_after on_side
range-side NoSide T s h c a b r = r
range-side Put T s h c a b r = range-put (kind_of h.kind) T s _ h c.caller (message c) b r
range-side Get T s h c a b r = range_get (kind_of h.kind) T s _ h c.caller a r
range-side Wipe T s h c a b r = range_wipe (kind_of h.kind) T h r

-- ---- the words held

abbrev HeldLaw : Kind → Hub → Verdict → Type 0
HeldLaw k h v = Held k (hub_after h v)

held-put : (k : Kind) (s : State) (f : Option ℕ) (h : Hub) (i x : ℕ) → Held k h → HeldLaw k h (on_put k s f h i x)
unfolding Held give_back holding hub_after on_put pass put_board put_event put_fifo put_memory put_port put_resource put_semaphore stored
held-put NoKind s f h i x e = e
held-put Event s (some w) h i x e = e
held-put Event s none h i x e = cond_case (HeldLaw Event h) (eqb h.count 0) _ _ (λ q. e) (λ q. e)
held-put Semaphore s (some w) h i x e = e
held-put Semaphore s none h i x e = cond_case (HeldLaw Semaphore h) (ltb h.count h.limit) _ _ (λ q. e) (λ q. e)
held-put Port s (some w) h i x e = e
held-put Port s none h i x e = e
held-put Fifo s (some w) h i x e = e
held-put Fifo s none h i x e =
    cond_case (HeldLaw Fifo h) (ltb h.count h.limit) _ _
    (λ q. let z : suc h.count ≡ length (h.held ++ x ∷ []) = omega (arith, length-append h.held (x ∷ [])) in z)
    (λ q. e)
held-put Resource s (some w) h i x e = cond_case (HeldLaw Resource h) (eqb h.count (suc i)) (pass (some w) h) fail (λ q. e) (λ q. e)
held-put Resource s none h i x e = cond_case (HeldLaw Resource h) (eqb h.count (suc i)) (pass none h) fail (λ q. e) (λ q. e)
held-put Board s f h i x e = refl
held-put Memory s (some w) h i x e = cond_case (HeldLaw Memory h) (is_out x h) (give_back (some w) h x) fail (λ q. e) (λ q. e)
held-put Memory s none h i x e =
    cond_case (HeldLaw Memory h) (is_out x h) (give_back none h x) fail (λ q. e ∙ sym (length-set h.held x 0)) (λ q. e)

held_get : (k : Kind) (s : State) (f : Option ℕ) (h : Hub) (i : ℕ) → Held k h → HeldLaw k h (on_get k s f h i)
unfolding Held get_board get_event get_fifo get_memory get_port get_resource get_semaphore holding hub_after on_get stored
held_get NoKind s f h i e = e
held_get Event s (some w) h i e = cond_case (HeldLaw Event h) (eqb h.count 1) _ _ (λ q. e) (λ q. e)
held_get Event s none h i e = cond_case (HeldLaw Event h) (eqb h.count 1) _ _ (λ q. e) (λ q. e)
held_get Semaphore s (some w) h i e = cond_case (HeldLaw Semaphore h) (ltb 0 h.count) _ _ (λ q. e) (λ q. e)
held_get Semaphore s none h i e = cond_case (HeldLaw Semaphore h) (ltb 0 h.count) _ _ (λ q. e) (λ q. e)
held_get Port s (some w) h i e = e
held_get Port s none h i e = e
held_get Fifo s f h i e = fifo h.held refl f
  where
    fifo : (l : List ℕ) → h.held ≡ l → (f : Option ℕ) → HeldLaw Fifo h (get_fifo s l f h)
    fifo [] q f = e
    fifo (y ∷ ys) q (some w) =
        let z : h.count ≡ length (ys ++ (task s w).word ∷ []) = omega (arith, e ∙ ap length q, length-append ys ((task s w).word ∷ [])) in z
    fifo (y ∷ ys) q none = let z : pred h.count ≡ length ys = omega (arith, e ∙ ap length q) in z
held_get Resource s f h i e =
    cond_case (HeldLaw Resource h) (eqb h.count 0) _ _
    (λ q. e)
    (λ q. cond_case (HeldLaw Resource h) (eqb h.count (suc i)) fail not_now (λ _. e) (λ _. e))
held_get Board s f h i e = board h.held
  where
    board : (l : List ℕ) → HeldLaw Board h (get_board l h)
    board [] = e
    board (y ∷ ys) = e
held_get Memory s f h i e =
    cond_case (HeldLaw Memory h) (ltb 0 h.count) _ _ (λ q. e ∙ sym (length-set h.held (lowest_free h) 1)) (λ q. e)

held_wipe : (k : Kind) (h : Hub) → Held k h → HeldLaw k h (on_wipe k)
unfolding Held holding hub_after on_wipe stored
held_wipe NoKind h e = e
held_wipe Event h e = e
held_wipe Semaphore h e = e
held_wipe Port h e = e
held_wipe Fifo h e = e
held_wipe Resource h e = e
held_wipe Board h e = refl
held_wipe Memory h e = e

pub held-side : (d : Side) (s : State) (h : Hub) (c : Call) → Held (kind_of h.kind) h → HeldLaw (kind_of h.kind) h (on_side d s h c)
unfolding hub_after on_side
held-side NoSide s h c e = e
held-side Put s h c e = held-put (kind_of h.kind) s _ h c.caller (message c) e
held-side Get s h c e = held_get (kind_of h.kind) s _ h c.caller e
held-side Wipe s h c e = held_wipe (kind_of h.kind) h e

-- ---- a waiter j that the call does not meet may go on waiting

abbrev WaitLaw : Kind → Side → Hub → ℕ → Verdict → Type 0
WaitLaw k d h j v = MayWait d k (hub_after h v) j

-- whoever stands in the list as a reader is among the readers
pub in_readers : (s : State) (l : List ℕ) (x j : ℕ) → 1 ≤ occ j l → (task s j).side ≡ 2 → Apart (readers s l x) j → ⊥
unfolding Each occ readers
in_readers s [] x j o e a = omega arith
in_readers s (t ∷ ts) x j o e a =
    same_or t j
    (λ q. let b : eqb (task s t).side 2 ≡ true = eq-eqb (task s t).side 2 (rw q e) in
    let a' : Apart (record { waiter = t; word = x } ∷ readers s ts x) j = rw b at a in a'.0 (sym q))
    (λ n. bool_case (eqb (task s t).side 2)
    (λ b. let a' : Apart (record { waiter = t; word = x } ∷ readers s ts x) j = rw b at a in in_readers s ts x j (occ_tail j t ts n o) e a'.1)
    (λ b. in_readers s ts x j (occ_tail j t ts n o) e (rw b at a)))

-- a put: j a putter, or a getter where f is not none; of a Board a reader, and so met
wait-put : (k : Kind) (d : Side) (T : ℕ) (s : State) (f : Option ℕ) (h : Hub) (i x j : ℕ) → Range k T h → MayWait d k h j → (f ≡ none → d ≡ Get → ⊥)
    → (d ≡ Get → Apart (readers s h.waiters x) j → ⊥) → Apart (waiters_met (on_put k s f h i x)) j → WaitLaw k d h j (on_put k s f h i x)
unfolding Each GetWaits MayWait PutWaits Range give_back holding hub_after on_put pass put_board put_event put_fifo put_memory put_port put_resource put_semaphore waiters_met
wait-put NoKind d T s f h i x j r m a z n = absurd r
wait-put Event d T s (some w) h i x j r m a z n = m
wait-put Event NoSide T s none h i x j r m a z n = absurd m
wait-put Event Wipe T s none h i x j r m a z n = absurd m
wait-put Event Put T s none h i x j r m a z n =
    cond_case (WaitLaw Event Put h j) (eqb h.count 0) _ _ (λ q. absurd (omega (arith, r.1, eqb-true h.count 0 q))) (λ q. m)
wait-put Event Get T s none h i x j r m a z n = absurd (a refl refl)
wait-put Semaphore d T s (some w) h i x j r m a z n = m
wait-put Semaphore NoSide T s none h i x j r m a z n = absurd m
wait-put Semaphore Wipe T s none h i x j r m a z n = absurd m
wait-put Semaphore Put T s none h i x j r m a z n =
    cond_case (WaitLaw Semaphore Put h j) (ltb h.count h.limit) _ _ (λ q. absurd (omega (arith, ltb-true h.count h.limit q))) (λ q. m)
wait-put Semaphore Get T s none h i x j r m a z n = absurd (a refl refl)
wait-put Port d T s (some w) h i x j r m a z n = m
wait-put Port d T s none h i x j r m a z n = m
wait-put Fifo d T s (some w) h i x j r m a z n = m
wait-put Fifo NoSide T s none h i x j r m a z n = absurd m
wait-put Fifo Wipe T s none h i x j r m a z n = absurd m
wait-put Fifo Put T s none h i x j r m a z n =
    cond_case (WaitLaw Fifo Put h j) (ltb h.count h.limit) _ _ (λ q. absurd (omega (arith, ltb-true h.count h.limit q))) (λ q. m)
wait-put Fifo Get T s none h i x j r m a z n = absurd (a refl refl)
wait-put Resource NoSide T s f h i x j r m a z n = absurd m
wait-put Resource Wipe T s f h i x j r m a z n = absurd m
wait-put Resource Put T s f h i x j r m a z n = absurd m
wait-put Resource Get T s (some w) h i x j r m a z n =
    cond_case (λ v. Apart (waiters_met v) j → WaitLaw Resource Get h j v) (eqb h.count (suc i)) (pass (some w) h) fail
    (λ q p. (λ e. omega (arith, e), λ e. p.0 (omega (arith, e))))
    (λ q p. m)
    n
wait-put Resource Get T s none h i x j r m a z n = absurd (a refl refl)
wait-put Board NoSide T s f h i x j r m a z n = absurd m
wait-put Board Put T s f h i x j r m a z n = absurd m
wait-put Board Get T s f h i x j r m a z n = absurd (z refl n)
wait-put Board Wipe T s f h i x j r m a z n = absurd m
wait-put Memory NoSide T s f h i x j r m a z n = absurd m
wait-put Memory Put T s f h i x j r m a z n = absurd m
wait-put Memory Wipe T s f h i x j r m a z n = absurd m
wait-put Memory Get T s (some w) h i x j r m a z n = cond_case (WaitLaw Memory Get h j) (is_out x h) (give_back (some w) h x) fail (λ q. m) (λ q. m)
wait-put Memory Get T s none h i x j r m a z n = absurd (a refl refl)

-- a get: j a getter, or a putter where f is not none
wait_get : (k : Kind) (d : Side) (s : State) (f : Option ℕ) (h : Hub) (i j : ℕ) → Held k h → MayWait d k h j → (f ≡ none → d ≡ Put → ⊥)
    → WaitLaw k d h j (on_get k s f h i)
unfolding GetWaits Held MayWait PutWaits get_board get_event get_fifo get_memory get_port get_resource get_semaphore holding hub_after on_get stored
wait_get NoKind d s f h i j e m a = m
wait_get Event d s (some w) h i j e m a = cond_case (WaitLaw Event d h j) (eqb h.count 1) _ _ (λ q. m) (λ q. m)
wait_get Event NoSide s none h i j e m a = absurd m
wait_get Event Wipe s none h i j e m a = absurd m
wait_get Event Put s none h i j e m a = absurd (a refl refl)
wait_get Event Get s none h i j e m a = cond_case (WaitLaw Event Get h j) (eqb h.count 1) _ _ (λ q. refl) (λ q. m)
wait_get Semaphore d s (some w) h i j e m a = cond_case (WaitLaw Semaphore d h j) (ltb 0 h.count) _ _ (λ q. m) (λ q. m)
wait_get Semaphore NoSide s none h i j e m a = absurd m
wait_get Semaphore Wipe s none h i j e m a = absurd m
wait_get Semaphore Put s none h i j e m a = absurd (a refl refl)
wait_get Semaphore Get s none h i j e m a =
    cond_case (WaitLaw Semaphore Get h j) (ltb 0 h.count) _ _ (λ q. absurd (omega (arith, ltb-true 0 h.count q))) (λ q. m)
wait_get Port d s (some w) h i j e m a = m
wait_get Port d s none h i j e m a = m
wait_get Fifo NoSide s f h i j e m a = absurd m
wait_get Fifo Wipe s f h i j e m a = absurd m
wait_get Fifo Put s f h i j e m a = fifo h.held f a
  where
    fifo : (l : List ℕ) (f : Option ℕ) → (f ≡ none → Put ≡ Put → ⊥) → WaitLaw Fifo Put h j (get_fifo s l f h)
    fifo [] f a = m
    fifo (y ∷ ys) (some w) a = m
    fifo (y ∷ ys) none a = absurd (a refl refl)
wait_get Fifo Get s f h i j e m a = fifo h.held refl
  where
    fifo : (l : List ℕ) → h.held ≡ l → WaitLaw Fifo Get h j (get_fifo s l f h)
    fifo [] q = m
    fifo (y ∷ ys) q = absurd (omega (arith, e ∙ ap length q))
wait_get Resource NoSide s f h i j e m a = absurd m
wait_get Resource Wipe s f h i j e m a = absurd m
wait_get Resource Put s f h i j e m a = absurd m
wait_get Resource Get s f h i j e m a =
    cond_case (WaitLaw Resource Get h j) (eqb h.count 0) _ _
    (λ q. absurd (m.0 (eqb-true h.count 0 q)))
    (λ q. cond_case (WaitLaw Resource Get h j) (eqb h.count (suc i)) fail not_now (λ _. m) (λ _. m))
wait_get Board d s f h i j e m a = board h.held
  where
    board : (l : List ℕ) → WaitLaw Board d h j (get_board l h)
    board [] = m
    board (y ∷ ys) = m
wait_get Memory NoSide s f h i j e m a = absurd m
wait_get Memory Put s f h i j e m a = absurd m
wait_get Memory Wipe s f h i j e m a = absurd m
wait_get Memory Get s f h i j e m a =
    cond_case (WaitLaw Memory Get h j) (ltb 0 h.count) _ _ (λ q. absurd (omega (arith, ltb-true 0 h.count q))) (λ q. m)

-- a wipe: whoever waits goes on
wait_wipe : (k : Kind) (d : Side) (h : Hub) (j : ℕ) → MayWait d k h j → WaitLaw k d h j (on_wipe k)
unfolding GetWaits MayWait PutWaits holding hub_after on_wipe
wait_wipe NoKind d h j m = m
wait_wipe Event d h j m = m
wait_wipe Semaphore d h j m = m
wait_wipe Port d h j m = m
wait_wipe Fifo d h j m = m
wait_wipe Resource d h j m = m
wait_wipe Board NoSide h j m = absurd m
wait_wipe Board Put h j m = absurd m
wait_wipe Board Get h j m = refl
wait_wipe Board Wipe h j m = absurd m
wait_wipe Memory d h j m = m

side-put : (n : ℕ) → side_of n ≡ Put → n ≡ 1
unfolding side_of
side-put zero e = absurd (false≢true (cc))
side-put (suc zero) e = refl
side-put (suc (suc zero)) e = absurd (false≢true (cc))
side-put (suc (suc (suc zero))) e = absurd (false≢true (cc))
side-put (suc (suc (suc (suc n)))) e = absurd (false≢true (cc))

pub side_get : (n : ℕ) → side_of n ≡ Get → n ≡ 2
unfolding side_of
side_get zero e = absurd (false≢true (cc))
side_get (suc zero) e = absurd (false≢true (cc))
side_get (suc (suc zero)) e = refl
side_get (suc (suc (suc zero))) e = absurd (false≢true (cc))
side_get (suc (suc (suc (suc n)))) e = absurd (false≢true (cc))

-- n is the side that j, who stands in the list, waits on: where nobody waits on the other side, it is not that one
pub wait-side : (d : Side) (n T : ℕ) (s : State) (h : Hub) (c : Call) (j : ℕ) → Range (kind_of h.kind) T h → Held (kind_of h.kind) h
    → MayWait (side_of n) (kind_of h.kind) h j → 1 ≤ occ j h.waiters → (task s j).side ≡ n → (first_waiting s (across d) h.waiters ≡ none → n ≢ across d)
    → Apart (waiters_met (on_side d s h c)) j → WaitLaw (kind_of h.kind) (side_of n) h j (on_side d s h c)
unfolding across hub_after on_side
wait-side NoSide n T s h c j r e m o is a p = m
wait-side Put n T s h c j r e m o is a p =
    wait-put (kind_of h.kind) (side_of n) T s _ h c.caller (message c) j r m (λ f g. a f (side_get n g)) (λ g. in_readers s h.waiters (message c) j o (is ∙ side_get n g)) p
wait-side Get n T s h c j r e m o is a p = wait_get (kind_of h.kind) (side_of n) s _ h c.caller j e m (λ f g. a f (side-put n g))
wait-side Wipe n T s h c j r e m o is a p = wait_wipe (kind_of h.kind) (side_of n) h j m

-- ---- "not now": the caller may wait, and nobody waits on the other side

unfoldable pub JoinLaw : Kind → Side → Hub → ℕ → Option ℕ → Verdict → Type 0
JoinLaw k d h i f (met n ws x ms) = Unit {0}
JoinLaw k d h i f not_now = MayWait d k h i × (f ≡ none)
JoinLaw k d h i f fail = Unit {0}

join_put : (k : Kind) (T : ℕ) (s : State) (f : Option ℕ) (h : Hub) (i x : ℕ) → Range k T h → JoinLaw k Put h i f (on_put k s f h i x)
unfolding JoinLaw MayWait PutWaits Range give_back on_put pass put_board put_event put_fifo put_memory put_port put_resource put_semaphore
join_put NoKind T s f h i x r = absurd r
join_put Event T s (some w) h i x r = tt
join_put Event T s none h i x r =
    cond_case (JoinLaw Event Put h i none) (eqb h.count 0) _ _
    (λ q. tt)
    (λ q. (let n : h.count ≢ 0 = eqb-false h.count 0 q in omega (arith, r.0, r.1), refl))
join_put Semaphore T s (some w) h i x r = tt
join_put Semaphore T s none h i x r =
    cond_case (JoinLaw Semaphore Put h i none) (ltb h.count h.limit) _ _
    (λ q. tt)
    (λ q. (omega (arith, r.0, ltb-false h.count h.limit q), refl))
join_put Port T s (some w) h i x r = tt
join_put Port T s none h i x r = (tt, refl)
join_put Fifo T s (some w) h i x r = tt
join_put Fifo T s none h i x r =
    cond_case (JoinLaw Fifo Put h i none) (ltb h.count h.limit) _ _
    (λ q. tt)
    (λ q. (omega (arith, r.0, ltb-false h.count h.limit q), refl))
join_put Resource T s (some w) h i x r =
    cond_case (JoinLaw Resource Put h i (some w)) (eqb h.count (suc i)) (pass (some w) h) fail (λ q. tt) (λ q. tt)
join_put Resource T s none h i x r =
    cond_case (JoinLaw Resource Put h i none) (eqb h.count (suc i)) (pass none h) fail (λ q. tt) (λ q. tt)
join_put Board T s f h i x r = tt
join_put Memory T s (some w) h i x r = cond_case (JoinLaw Memory Put h i (some w)) (is_out x h) (give_back (some w) h x) fail (λ q. tt) (λ q. tt)
join_put Memory T s none h i x r = cond_case (JoinLaw Memory Put h i none) (is_out x h) (give_back none h x) fail (λ q. tt) (λ q. tt)

join_get : (k : Kind) (T : ℕ) (s : State) (f : Option ℕ) (h : Hub) (i : ℕ) → Range k T h → Held k h → ((w : ℕ) → f ≡ some w → MayWait Put k h w)
    → JoinLaw k Get h i f (on_get k s f h i)
unfolding GetWaits Held JoinLaw MayWait PutWaits Range get_board get_event get_fifo get_memory get_port get_resource get_semaphore on_get stored
join_get NoKind T s f h i r e m = absurd r
join_get Event T s (some w) h i r e m =
    cond_case (JoinLaw Event Get h i (some w)) (eqb h.count 1) _ _
    (λ q. tt)
    (λ q. absurd (eqb-false h.count 1 q (m w refl ∙ r.1)))
join_get Event T s none h i r e m =
    cond_case (JoinLaw Event Get h i none) (eqb h.count 1) _ _
    (λ q. tt)
    (λ q. (let n : h.count ≢ 1 = eqb-false h.count 1 q in omega (arith, r.0), refl))
join_get Semaphore T s (some w) h i r e m =
    cond_case (JoinLaw Semaphore Get h i (some w)) (ltb 0 h.count) _ _
    (λ q. tt)
    (λ q. absurd (omega (arith, r.1, m w refl, ltb-false 0 h.count q)))
join_get Semaphore T s none h i r e m =
    cond_case (JoinLaw Semaphore Get h i none) (ltb 0 h.count) _ _ (λ q. tt) (λ q. (omega (arith, ltb-false 0 h.count q), refl))
join_get Port T s (some w) h i r e m = tt
join_get Port T s none h i r e m = (tt, refl)
join_get Fifo T s f h i r e m = fifo h.held refl f m
  where
    fifo : (l : List ℕ) → h.held ≡ l → (f : Option ℕ) → ((w : ℕ) → f ≡ some w → MayWait Put Fifo h w) → JoinLaw Fifo Get h i f (get_fifo s l f h)
    fifo [] q (some w) m = absurd (omega (arith, r.1, m w refl, e ∙ ap length q))
    fifo [] q none m = (e ∙ ap length q, refl)
    fifo (y ∷ ys) q (some w) m = tt
    fifo (y ∷ ys) q none m = tt
join_get Resource T s (some w) h i r e m = absurd (m w refl)
join_get Resource T s none h i r e m =
    cond_case (JoinLaw Resource Get h i none) (eqb h.count 0) _ _
    (λ q. tt)
    (λ q. cond_case (JoinLaw Resource Get h i none) (eqb h.count (suc i)) fail not_now
    (λ _. tt)
    (λ p. ((eqb-false h.count 0 q, eqb-false h.count (suc i) p), refl)))
join_get Board T s (some w) h i r e m = absurd (m w refl)
join_get Board T s none h i r e m = board h.held refl
  where
    board : (l : List ℕ) → h.held ≡ l → JoinLaw Board Get h i none (get_board l h)
    board [] q = (e ∙ ap length q, refl)
    board (y ∷ ys) q = tt
join_get Memory T s (some w) h i r e m = absurd (m w refl)
join_get Memory T s none h i r e m =
    cond_case (JoinLaw Memory Get h i none) (ltb 0 h.count) _ _ (λ q. tt) (λ q. (omega (arith, ltb-false 0 h.count q), refl))

join_wipe : (k : Kind) (h : Hub) (i : ℕ) (f : Option ℕ) → JoinLaw k Wipe h i f (on_wipe k)
unfolding JoinLaw on_wipe
join_wipe NoKind h i f = tt
join_wipe Event h i f = tt
join_wipe Semaphore h i f = tt
join_wipe Port h i f = tt
join_wipe Fifo h i f = tt
join_wipe Resource h i f = tt
join_wipe Board h i f = tt
join_wipe Memory h i f = tt

pub join_side : (d : Side) (T : ℕ) (s : State) (h : Hub) (c : Call) → Range (kind_of h.kind) T h → Held (kind_of h.kind) h
    → ((w : ℕ) → first_waiting s 1 h.waiters ≡ some w → MayWait Put (kind_of h.kind) h w)
    → JoinLaw (kind_of h.kind) d h c.caller (first_waiting s (across d) h.waiters) (on_side d s h c)
unfolding JoinLaw across on_side
join_side NoSide T s h c r e m = tt
join_side Put T s h c r e m = join_put (kind_of h.kind) T s _ h c.caller (message c) r
join_side Get T s h c r e m = join_get (kind_of h.kind) T s _ h c.caller r e m
join_side Wipe T s h c r e m = join_wipe (kind_of h.kind) h c.caller _

-- ---- a Resource passes, where its owner is stopped: f waits first

pub pass-count : (f : Option ℕ) (x : Hub) (j : ℕ) → (hub_after x (pass f x)).count ≡ suc j → f ≡ some j
unfolding holding hub_after pass
pass-count (some w) x j e = let q : w ≡ j = omega (arith, e) in ap some q
pass-count none x j e = absurd (omega (arith, e))

pub pass-range : (T : ℕ) (f : Option ℕ) (x : Hub) → ((w : ℕ) → f ≡ some w → w < T) → Range Resource T x → Range Resource T (hub_after x (pass f x))
unfolding Range holding hub_after pass
pass-range T (some w) x b r = (b w refl, r.1, r.2)
pass-range T none x b r = (omega arith, r.1, r.2)

pub pass-held : (f : Option ℕ) (x : Hub) → Held Resource x → Held Resource (hub_after x (pass f x))
unfolding Held holding hub_after pass stored
pass-held (some w) x e = e
pass-held none x e = e

-- who is not first may go on waiting
pub pass-wait : (d : Side) (f : Option ℕ) (x : Hub) (j : ℕ) → MayWait d Resource x j → (f ≡ none → d ≡ Get → ⊥) → (f ≡ some j → ⊥)
    → MayWait d Resource (hub_after x (pass f x)) j
unfolding GetWaits MayWait PutWaits holding hub_after pass
pass-wait NoSide f x j m a n = absurd m
pass-wait Wipe f x j m a n = absurd m
pass-wait Put f x j m a n = absurd m
pass-wait Get (some w) x j m a n = (λ e. omega (arith, e), λ e. n (let q : w ≡ j = omega (arith, e) in ap some q))
pass-wait Get none x j m a n = absurd (a refl refl)

-- who owns a Resource after a put or a get: its owner, the caller, or the getter that waited first
pub owner-side : (d : Side) (s : State) (x : Hub) (c : Call) (j : ℕ) → kind_of x.kind ≡ Resource → (hub_after x (on_side d s x c)).count ≡ suc j
    → (x.count ≡ suc j) ⊎ ((j ≡ c.caller) ⊎ (first_waiting s 2 x.waiters ≡ some j))
unfolding get_resource holding hub_after on_get on_put on_side on_wipe put_resource
owner-side NoSide s x c j k e = inl e
owner-side Put s x c j k e =
    cond_case (λ (v : Verdict). (hub_after x v).count ≡ suc j → (x.count ≡ suc j) ⊎ ((j ≡ c.caller) ⊎ (first_waiting s 2 x.waiters ≡ some j)))
    (eqb x.count (suc c.caller)) (pass (first_waiting s 2 x.waiters) x) fail
    (λ _ q. inr (inr (pass-count (first_waiting s 2 x.waiters) x j q)))
    (λ _ q. inl q)
    (rw k at e)
owner-side Get s x c j k e =
    cond_case (λ (v : Verdict). (hub_after x v).count ≡ suc j → (x.count ≡ suc j) ⊎ ((j ≡ c.caller) ⊎ (first_waiting s 2 x.waiters ≡ some j)))
    (eqb x.count 0) _ _
    (λ _ q. inr (inl (omega (arith, q))))
    (λ _. cond_case (λ (v : Verdict). (hub_after x v).count ≡ suc j → (x.count ≡ suc j) ⊎ ((j ≡ c.caller) ⊎ (first_waiting s 2 x.waiters ≡ some j)))
    (eqb x.count (suc c.caller)) fail not_now (λ _ q. inl q) (λ _ q. inl q))
    (rw k at e)
owner-side Wipe s x c j k e = inl (rw k at e)

-- a wipe is never told "not now"
never_later : (k : Kind) → on_wipe k ≡ not_now → ⊥
unfolding on_wipe
never_later NoKind e = false≢true (cc)
never_later Event e = false≢true (cc)
never_later Semaphore e = false≢true (cc)
never_later Port e = false≢true (cc)
never_later Fifo e = false≢true (cc)
never_later Resource e = false≢true (cc)
never_later Board e = false≢true (cc)
never_later Memory e = false≢true (cc)

pub later_side : (s : State) (h : Hub) (c : Call) → c.side ≡ 3 → on_side (side_of c.side) s h c ≡ not_now → ⊥
unfolding on_side side_of
later_side s h c e q = never_later (kind_of h.kind) (rw e at q)
