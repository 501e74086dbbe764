-- The balances: what a hub's kind promises of the words of its met puts and gets, in order of meeting, and one call's share
-- in it; the hub table keeps each share, a clause for each row. About any list of waiters met.
-- Not here: that the words met in a call are those that the verdict says (Asked.antt).
use Prim.Native.Nat.{◌+◌, ◌<◌, pred, suc, ℕ}
use Rattle.history.specs.History.{is_owned}
use Rattle.lists.proofs.Counting.{occ_append}
use Rattle.lists.specs.Lists.{bit, occ}
use Rattle.rules.proofs.Accepted.{Sided}
use Rattle.rules.proofs.Blocks.{lowest_in, lowest_mark, out_in, out_mark}
use Rattle.rules.proofs.Cases.{cond_case, same_or}
use Rattle.rules.proofs.Hubs.{core}
use Rattle.rules.proofs.Verdicts.{hub_after}
use Rattle.rules.specs.Calls.{kept}
use Rattle.rules.specs.HubTable.{Meeting, Verdict, alone, fail, get_event, get_fifo, get_memory, get_port, get_resource, get_semaphore, give_back, is_out, lowest_free, message, met, not_now, on_get, on_put, on_side, pass, put_event, put_fifo, put_memory, put_port, put_resource, put_semaphore}
use Rattle.rules.specs.Lists.{first_waiting, holding, queued}
use Rattle.rules.specs.Table.{Board, Event, Fifo, Get, Hub, Kind, Memory, NoKind, NoSide, Port, Put, Resource, Semaphore, Side, State, Wipe, kind_of, side_of, task}
use Rattle.rules.specs.WellFormed.{bears_word}
use Rattle.rules.specs.declared.Call.{Call}
use borrow.Author.Tests.{eq-eqb, eqb-true, ltb-true, ne_eqb}
use lib.Dec.{eqb, ltb}
use lib.ListN.{get_or, length, length-append, set}
use lib.Seq.{get_or-set_other, get_or-set_same}
use mathlib.Core.Bool.{true}
use mathlib.Core.List.{List, [], ◌++◌, ◌∷◌, append_assoc, append-nil, map}
use mathlib.Core.Logic.{inl, inr}
use mathlib.Core.Option.{Option, none, some}
use mathlib.Core.Path.{◌∙◌, ◌≡◌, ap, refl, subst, sym}
use native.Mathlib.Omega.{arith}

-- ---- by kind

-- 1 when owned and 0 when free
abbrev pub owned_bit : Hub → ℕ
owned_bit h = bit (is_owned h)

pub owned-some : (h : Hub) (i : ℕ) → h.count ≡ suc i → owned_bit h ≡ 1
owned-some h i e = rw (ne_eqb h.count 0 (λ z. omega (arith, e, z)))

pub owned-none : (h : Hub) → h.count ≡ 0 → owned_bit h ≡ 0
owned-none h e = rw (eq-eqb h.count 0 e)

-- Event and Semaphore: start + puts = count + gets; FIFO: puts = gets, then the words held; Port: puts = gets; Resource: gets are
-- the puts, the n owners that Stops removed, and 1 when owned; Memory, of each block: gets = puts, and its mark. Nothing is counted
-- of a Board: its sentence is in Boards.antt
unfoldable pub Balanced : Kind → Hub → ℕ → List ℕ → List ℕ → Type 0
Balanced NoKind h n puts gets = Unit {0}
Balanced Event h n puts gets = h.start + length puts ≡ h.count + length gets
Balanced Semaphore h n puts gets = h.start + length puts ≡ h.count + length gets
Balanced Port h n puts gets = puts ≡ gets
Balanced Fifo h n puts gets = puts ≡ gets ++ h.held
Balanced Resource h n puts gets = length gets ≡ length puts + n + owned_bit h
Balanced Board h n puts gets = Unit {0}
Balanced Memory h n puts gets = (b : ℕ) → occ b gets ≡ occ b puts + get_or h.held b 0

-- one call's share: h before it, h' after it, n owners removed
abbrev Counts : Hub → Hub → List ℕ → List ℕ → Type 0
Counts h h' puts gets = (h'.start ≡ h.start) × (h.count + length puts ≡ h'.count + length gets)

unfoldable pub Share : Kind → Hub → Hub → ℕ → List ℕ → List ℕ → Type 0
Share NoKind h h' n puts gets = Unit {0}
Share Event h h' n puts gets = Counts h h' puts gets
Share Semaphore h h' n puts gets = Counts h h' puts gets
Share Port h h' n puts gets = puts ≡ gets
Share Fifo h h' n puts gets = h.held ++ puts ≡ gets ++ h'.held
Share Resource h h' n puts gets = owned_bit h + length gets ≡ owned_bit h' + length puts + n
Share Board h h' n puts gets = Unit {0}
Share Memory h h' n puts gets = (b : ℕ) → get_or h.held b 0 + occ b gets ≡ get_or h'.held b 0 + occ b puts

pub balance_step : (k : Kind) (h h' : Hub) (m n : ℕ) (ps gs puts gets : List ℕ) → Balanced k h m ps gs → Share k h h' n puts gets → Balanced k h' (m + n) (ps ++ puts) (gs ++ gets)
unfolding Balanced Share
balance_step NoKind h h' m n ps gs puts gets b l = tt
balance_step Event h h' m n ps gs puts gets b l = rw (length-append ps puts, length-append gs gets) (omega (arith, b, l.0, l.1))
balance_step Semaphore h h' m n ps gs puts gets b l = rw (length-append ps puts, length-append gs gets) (omega (arith, b, l.0, l.1))
balance_step Port h h' m n ps gs puts gets b l = rw (b, l)
balance_step Fifo h h' m n ps gs puts gets b l = rw (b, append_assoc gs h.held puts, l, append_assoc gs gets h'.held) refl
balance_step Resource h h' m n ps gs puts gets b l = rw (length-append ps puts, length-append gs gets) (omega (arith, b, l))
balance_step Board h h' m n ps gs puts gets b l = tt
balance_step Memory h h' m n ps gs puts gets b l = λ k. omega (arith, b k, l k, occ_append k ps puts, occ_append k gs gets)

-- a hub is as it was apart from its waiting list, and nothing is met there
counts_same : (h h' : Hub) → core h' ≡ core h → Counts h h' [] []
unfolding core queued
counts_same h h' e = (ap (λ (x : Hub). x.start) e, ap (λ (n : ℕ). n + 0) (sym (ap (λ (x : Hub). x.count) e)))

owned_same : (h h' : Hub) → core h' ≡ core h → owned_bit h' ≡ owned_bit h
unfolding core queued
owned_same h h' e = ap (λ (x : Hub). owned_bit x) e

pub share_same : (k : Kind) (h h' : Hub) → core h' ≡ core h → Share k h h' 0 [] []
unfolding Share core queued
share_same NoKind h h' e = tt
share_same Event h h' e = counts_same h h' e
share_same Semaphore h h' e = counts_same h h' e
share_same Port h h' e = refl
share_same Fifo h h' e = append-nil h.held ∙ sym (ap (λ (x : Hub). x.held) e)
share_same Resource h h' e = omega (arith, owned_same h h' e)
share_same Board h h' e = tt
share_same Memory h h' e = λ b. sym (ap (λ (x : Hub). get_or x.held b 0 + occ b []) e)

-- the share is the same for two hubs that differ in their waiting lists alone
counts_core : (h x x' : Hub) (puts gets : List ℕ) → core x' ≡ core x → Counts h x puts gets → Counts h x' puts gets
unfolding core queued
counts_core h x x' puts gets e l =
    (ap (λ (y : Hub). y.start) e ∙ l.0, l.1 ∙ ap (λ (n : ℕ). n + length gets) (sym (ap (λ (y : Hub). y.count) e)))

pub share_core : (k : Kind) (h x x' : Hub) (n : ℕ) (puts gets : List ℕ) → core x' ≡ core x → Share k h x n puts gets → Share k h x' n puts gets
unfolding Share core queued
share_core NoKind h x x' n puts gets e l = tt
share_core Event h x x' n puts gets e l = counts_core h x x' puts gets e l
share_core Semaphore h x x' n puts gets e l = counts_core h x x' puts gets e l
share_core Port h x x' n puts gets e l = l
share_core Fifo h x x' n puts gets e l = l ∙ ap (λ (y : List ℕ). gets ++ y) (sym (ap (λ (y : Hub). y.held) e))
share_core Resource h x x' n puts gets e l = omega (arith, l, owned_same x x' e)
share_core Board h x x' n puts gets e l = tt
share_core Memory h x x' n puts gets e l = λ b. l b ∙ sym (ap (λ (y : Hub). get_or y.held b 0 + occ b puts) e)

-- ---- what a verdict meets: x is the word that the caller puts

abbrev words_put : State → List Meeting → List ℕ
words_put s ms = map (λ (m : Meeting). (task s m.waiter).word) ms

abbrev words_got : List Meeting → List ℕ
words_got ms = map (λ (m : Meeting). m.word) ms

unfoldable pub puts_by : Side → State → ℕ → Verdict → List ℕ
puts_by NoSide s x v = []
puts_by Put s x (met n ws y ms) = x ∷ []
puts_by Put s x not_now = []
puts_by Put s x fail = []
puts_by Get s x (met n ws y ms) = words_put s ms
puts_by Get s x not_now = []
puts_by Get s x fail = []
puts_by Wipe s x v = []

unfoldable pub gets_by : Side → Verdict → List ℕ
gets_by NoSide v = []
gets_by Put (met n ws y ms) = words_got ms
gets_by Put not_now = []
gets_by Put fail = []
gets_by Get (met n ws y ms) = y ∷ []
gets_by Get not_now = []
gets_by Get fail = []
gets_by Wipe v = []

-- ---- the hub table's law

abbrev Law : Kind → Side → State → Hub → ℕ → Verdict → Type 0
Law k d s h x v = Share k h (hub_after h v) 0 (puts_by d s x v) (gets_by d v)

law_not : (k : Kind) (d : Side) (s : State) (h : Hub) (x : ℕ) → Law k d s h x not_now
unfolding gets_by hub_after puts_by
law_not k NoSide s h x = share_same k h h refl
law_not k Put s h x = share_same k h h refl
law_not k Get s h x = share_same k h h refl
law_not k Wipe s h x = share_same k h h refl

-- a block given back: its mark goes from 1 to 0
block_back : (b : ℕ) (h : Hub) → is_out b h ≡ true → (j : ℕ) → get_or h.held j 0 + occ j [] ≡ get_or (set h.held b 0) j 0 + occ j (b ∷ [])
unfolding occ
block_back b h o j =
    same_or j b
    (λ e. rw (e, out_mark b h o, get_or-set_same h.held b 0 0 (out_in b h o), eq-eqb b b refl))
    (λ n. rw (get_or-set_other h.held b j 0 0 n, ne_eqb b j (λ e. n (sym e))))

-- a block taken: its mark goes from 0 to 1
block_taken : (h : Hub) → h.count ≡ occ 0 h.held → 0 < h.count → (j : ℕ)
    → get_or h.held j 0 + occ j (lowest_free h ∷ []) ≡ get_or (set h.held (lowest_free h) 1) j 0 + occ j []
unfolding occ
block_taken h e free j =
    same_or j (lowest_free h)
    (λ q. rw (q, lowest_mark h e free, get_or-set_same h.held (lowest_free h) 1 0 (lowest_in h e free), eq-eqb (lowest_free h) (lowest_free h) refl))
    (λ n. rw (get_or-set_other h.held (lowest_free h) j 1 0 n, ne_eqb (lowest_free h) j (λ q. n (sym q))))

-- x₀ is the word of the call, x the word kept: the same at a Port or FIFO, and at a Memory hub
law_put : (k : Kind) (s : State) (f : Option ℕ) (h : Hub) (i x₀ x : ℕ) → (bears_word k ≡ true → x₀ ≡ x) → ((w : ℕ) → f ≡ some w → k ≡ Fifo → h.held ≡ [])
    → Law k Put s h x (on_put k s f h i x₀)
unfolding Share bears_word gets_by give_back holding hub_after on_put pass put_event put_fifo put_memory put_port put_resource put_semaphore puts_by
law_put NoKind s f h i x₀ x q e = tt
law_put Event s (some w) h i x₀ x q e = (refl, refl)
law_put Event s none h i x₀ x q e =
    cond_case (Law Event Put s h x) (eqb h.count 0) _ _
    (λ b. (refl, let z : h.count + 1 ≡ 1 + 0 = omega (arith, eqb-true h.count 0 b) in z))
    (λ b. law_not Event Put s h x)
law_put Semaphore s (some w) h i x₀ x q e = (refl, refl)
law_put Semaphore s none h i x₀ x q e =
    cond_case (Law Semaphore Put s h x) (ltb h.count h.limit) _ _ (λ b. (refl, omega arith)) (λ b. law_not Semaphore Put s h x)
law_put Port s (some w) h i x₀ x q e = rw (q refl)
law_put Port s none h i x₀ x q e = law_not Port Put s h x
law_put Fifo s (some w) h i x₀ x q e = rw (e w refl refl, q refl)
law_put Fifo s none h i x₀ x q e =
    rw (q refl) (cond_case (Law Fifo Put s h x) (ltb h.count h.limit) _ _ (λ b. refl) (λ b. law_not Fifo Put s h x))
law_put Resource s f h i x₀ x q e =
    cond_case (Law Resource Put s h x) (eqb h.count (suc i)) (pass f h) fail (λ b. passes f (eqb-true h.count (suc i) b)) (λ b. law_not Resource Put s h x)
  where
    passes : (f : Option ℕ) → h.count ≡ suc i → Law Resource Put s h x (pass f h)
    passes (some w) e = omega (arith, owned-some h i e, owned-some (hub_after h (pass (some w) h)) w refl)
    passes none e = omega (arith, owned-some h i e, owned-none (hub_after h (pass none h)) refl)
law_put Board s f h i x₀ x q e = tt
law_put Memory s (some w) h i x₀ x q e =
    rw (q refl) (cond_case (Law Memory Put s h x) (is_out x h) (give_back (some w) h x) fail (λ o b. refl) (λ o. law_not Memory Put s h x))
law_put Memory s none h i x₀ x q e =
    rw (q refl) (cond_case (Law Memory Put s h x) (is_out x h) (give_back none h x) fail (λ o. block_back x h o) (λ o. law_not Memory Put s h x))

law_get : (k : Kind) (s : State) (f : Option ℕ) (h : Hub) (i x : ℕ) → (k ≡ Memory → h.count ≡ occ 0 h.held) → Law k Get s h x (on_get k s f h i)
unfolding Share get_event get_fifo get_memory get_port get_resource get_semaphore gets_by holding hub_after on_get puts_by
law_get NoKind s f h i x q = tt
law_get Event s (some w) h i x q = cond_case (Law Event Get s h x) (eqb h.count 1) _ _ (λ b. (refl, refl)) (λ b. law_not Event Get s h x)
law_get Event s none h i x q =
    cond_case (Law Event Get s h x) (eqb h.count 1) _ _
    (λ b. (refl, let z : h.count + 0 ≡ 0 + 1 = omega (arith, eqb-true h.count 1 b) in z))
    (λ b. law_not Event Get s h x)
law_get Semaphore s (some w) h i x q = cond_case (Law Semaphore Get s h x) (ltb 0 h.count) _ _ (λ b. (refl, refl)) (λ b. law_not Semaphore Get s h x)
law_get Semaphore s none h i x q =
    cond_case (Law Semaphore Get s h x) (ltb 0 h.count) _ _
    (λ b. (refl, let z : h.count + 0 ≡ pred h.count + 1 = omega (arith, ltb-true 0 h.count b) in z))
    (λ b. law_not Semaphore Get s h x)
law_get Port s (some w) h i x q = refl
law_get Port s none h i x q = law_not Port Get s h x
law_get Fifo s f h i x q = fifo h.held refl f
  where
    fifo : (l : List ℕ) → h.held ≡ l → (f : Option ℕ) → Law Fifo Get s h x (get_fifo s l f h)
    fifo [] e f = law_not Fifo Get s h x
    fifo (y ∷ ys) e (some w) = rw e
    fifo (y ∷ ys) e none = rw e (append-nil (y ∷ ys))
law_get Resource s f h i x q =
    cond_case (Law Resource Get s h x) (eqb h.count 0) _ _
    (λ b. omega (arith, owned-none h (eqb-true h.count 0 b), owned-some (hub_after h (alone (suc i) h.held 0)) i refl))
    (λ b. cond_case (Law Resource Get s h x) (eqb h.count (suc i)) fail not_now (λ _. law_not Resource Get s h x) (λ _. law_not Resource Get s h x))
law_get Board s f h i x q = tt
law_get Memory s f h i x q =
    cond_case (Law Memory Get s h x) (ltb 0 h.count) _ _ (λ b. block_taken h (q refl) (ltb-true 0 _ b)) (λ b. law_not Memory Get s h x)

kept_word : (h : Hub) (c : Call) → c.side ≡ 1 → bears_word (kind_of h.kind) ≡ true → message c ≡ kept h c
unfolding kept
kept_word h c e f = rw (e, f)

-- by side, with the word kept
pub law_side : (s : State) (h : Hub) (c : Call) → Sided (kind_of h.kind) c.side
    → ((w : ℕ) → first_waiting s 2 h.waiters ≡ some w → kind_of h.kind ≡ Fifo → h.held ≡ []) → (kind_of h.kind ≡ Memory → h.count ≡ occ 0 h.held)
    → Law (kind_of h.kind) (side_of c.side) s h (kept h c) (on_side (side_of c.side) s h c)
unfolding Share on_side side_of
law_side s h c (inl e) f m =
    subst (λ (d : Side). Law (kind_of h.kind) d s h (kept h c) (on_side d s h c)) (ap side_of (sym e))
    (law_put (kind_of h.kind) s (first_waiting s 2 h.waiters) h c.caller (message c) (kept h c) (kept_word h c e) f)
law_side s h c (inr (inl e)) f m =
    subst (λ (d : Side). Law (kind_of h.kind) d s h (kept h c) (on_side d s h c)) (ap side_of (sym e))
    (law_get (kind_of h.kind) s _ h c.caller (kept h c) m)
law_side s h c (inr (inr e)) f m = rw e.1 tt
