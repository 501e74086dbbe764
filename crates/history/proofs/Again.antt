-- Requests read again from the table after a call. In order: where the requests and a table agree (`Agree`), and that they do
-- again when waiting tasks go on, are stopped, time out or are met; how many are met, and which, when none is and when one is;
-- states of the same records, which are read alike.
-- Not here: what each service does to the records (rules' Quiet, Settled), the words (Balance.antt).
use Prim.Native.Nat.{◌+◌, ℕ}
use Rattle.history.proofs.Classes.{class-met, class-stopped, class_timed, class-waiting, class-waits, is_class_lem, turns-true}
use Rattle.history.proofs.Those.{each_all, each_imp, each_map, each-those, how_many_and, how_many_cons, those_append, those-map, those-none, those-one, those_same}
use Rattle.history.specs.History.{Class, Request, again, class_of, how_many, is_class, is_met, is_waiting, met, reread, those, turned, turns, unread, waiting, waits_by}
use Rattle.history.specs.Statements.{Each, Stands}
use Rattle.lists.proofs.Laws.{bool_case}
use Rattle.lists.specs.Lists.{bit}
use Rattle.rules.proofs.Cases.{and_l, and_r, same_or}
use Rattle.rules.proofs.Quiet.{Moved, Quiet, stays, stopped, timed}
use Rattle.rules.specs.Table.{State, Task, task}
use borrow.Author.Tests.{eq-eqb, eqb-true, ne_eqb}
use lib.Dec.{eqb}
use lib.ListN.{length, length-map}
use mathlib.Core.Bool.{Bool, ◌&&◌, and-false, cond, false, false≢true, true}
use mathlib.Core.List.{List, [], ◌++◌, ◌∷◌, map, map-append}
use mathlib.Core.Logic.{◌≢◌, ◌⊎◌, inl, inr}
use mathlib.Core.Path.{◌∙◌, ◌≡◌, ap, refl, sym}
use native.Mathlib.Omega.{arith}

-- ---- the requests and the table agree

pub record Entry (s : State) (r : Request) : Type 0 where
  pub known : r.class ≢ unread
  pub stands : r.class ≡ waiting → Stands s r

-- each request is known, and each waiting task has one waiting request, with what its record says
pub record Agree (s : State) (rs : List Request) : Type 0 where
  pub entries : Each (Entry s) rs
  pub one : (i : ℕ) → how_many (waits_by i) rs ≡ bit (eqb (task s i).state 3)

abbrev pub Meets : Task → Type 0
Meets t' = (t'.state ≡ 2) × (t'.answer ≡ 1)

-- a waiting task goes on, is stopped, times out or is met
abbrev pub MovedOrMet : State → State → Type 0
MovedOrMet s s' = (j : ℕ) → (task s j).state ≡ 3 → Moved (task s j) (task s' j) ⊎ Meets (task s' j)

-- ---- read again

pub again-waiting : (s : State) (r : Request) → r.class ≡ waiting → again s r ≡ reread s r
unfolding again
again-waiting s r e = rw e

again_same : (s : State) (r : Request) → is_waiting r ≡ false → again s r ≡ r
unfolding again
again_same s r e = rw e

entry_moved : (s s' : State) (r : Request) → Stands s r → Moved (task s r.task) (task s' r.task) ⊎ Meets (task s' r.task) → Entry s' (reread s' r)
unfolding reread
entry_moved s s' r k (inl (stays a b c d)) = record {
  known = λ e. let z : ◌≡◌ {A = ℕ} 0 1 = cc (class-waiting (task s' r.task) a) in omega arith;
  stands = λ e. record { state = a; hub = b ∙ k.hub; side = c ∙ k.side; word = d ∙ k.word };
}
entry_moved s s' r k (inl (stopped a)) = record {
  known = λ e. let z : ◌≡◌ {A = ℕ} 0 1 = cc (class-stopped (task s' r.task) a) in omega arith;
  stands = λ e. absurd (let z : ◌≡◌ {A = ℕ} 0 1 = cc (class-stopped (task s' r.task) a) in omega arith);
}
entry_moved s s' r k (inl (timed a b)) = record {
  known = λ e. let z : ◌≡◌ {A = ℕ} 0 1 = cc (class_timed (task s' r.task) a b) in omega arith;
  stands = λ e. absurd (let z : ◌≡◌ {A = ℕ} 0 1 = cc (class_timed (task s' r.task) a b) in omega arith);
}
entry_moved s s' r k (inr m) = record {
  known = λ e. let z : ◌≡◌ {A = ℕ} 0 1 = cc (class-met (task s' r.task) m.0 m.1) in omega arith;
  stands = λ e. absurd (let z : ◌≡◌ {A = ℕ} 0 1 = cc (class-met (task s' r.task) m.0 m.1) in omega arith);
}

entry_again : (s s' : State) → MovedOrMet s s' → (r : Request) → Entry s r → Entry s' (again s' r)
entry_again s s' m r k =
    bool_case (is_waiting r)
    (λ b. let e = is_class_lem waiting r.class b in
    rw (again-waiting s' r e) (entry_moved s s' r (k.stands e) (m r.task (k.stands e).state)))
    (λ b. rw (again_same s' r b) (record { known = k.known; stands = λ e. absurd (false≢true (sym b ∙ ap (is_class waiting) e)) }))

pub entries-again : (s s' : State) → MovedOrMet s s' → (rs : List Request) → Each (Entry s) rs → Each (Entry s') (map (again s') rs)
entries-again s s' m rs k = each_map (Entry s') (again s') rs (each_imp (Entry s) _ (entry_again s s' m) rs k)

-- a waiting request is one again just where its task still waits
waits-again : (s : State) (i : ℕ) (r : Request) → waits_by i (again s r) ≡ (waits_by i r && eqb (task s i).state 3)
unfolding again reread
waits-again s i r =
    bool_case (is_waiting r)
    (λ b. rw b (same_or r.task i
    (λ q. rw (eq-eqb r.task i q, class-waits (task s r.task), q) (bool_case (eqb (task s i).state 3) (λ e. rw e) (λ e. rw e)))
    (λ q. rw (ne_eqb r.task i q, and-false))))
    (λ b. rw (b, b))

pub waiting-again : (s : State) (i : ℕ) (rs : List Request) → how_many (waits_by i) (map (again s) rs) ≡ cond (eqb (task s i).state 3) (how_many (waits_by i) rs) 0
waiting-again s i rs =
    ap length (those-map (waits_by i) (again s) rs)
    ∙ (length-map (those (λ r. waits_by i (again s r)) rs) (again s)
    ∙ (ap length (those_same (λ r. waits_by i (again s r)) (λ r. waits_by i r && eqb (task s i).state 3) rs (each_all _ (waits-again s i) rs))
    ∙ how_many_and (waits_by i) (eqb (task s i).state 3) rs))

-- who waits now waited before: one request for each still
still_one : (b b' : Bool) → (b' ≡ true → b ≡ true) → cond b' (bit b) 0 ≡ bit b'
still_one true true f = refl
still_one true false f = refl
still_one false true f = absurd (false≢true (f refl))
still_one false false f = refl

pub agree_moved : (s s' : State) (rs : List Request) → Agree s rs → MovedOrMet s s' → ((j : ℕ) → (task s' j).state ≡ 3 → (task s j).state ≡ 3)
    → Agree s' (map (again s') rs)
agree_moved s s' rs k m new = record {
  entries = entries-again s s' m rs k.entries;
  one = λ i. rw (waiting-again s' i rs, k.one i) (still_one (eqb (task s i).state 3) (eqb (task s' i).state 3) (λ e. eq-eqb _ 3 (new i (eqb-true _ 3 e))));
}

pub agree_quiet : (s s' : State) (rs : List Request) → Agree s rs → Quiet s s' → Agree s' (map (again s') rs)
unfolding Quiet
agree_quiet s s' rs k q = agree_moved s s' rs k (λ j e. inl ((q j).old e)) (λ j. (q j).new)

-- ---- those that turn

pub turned_append : (k : Class) (s : State) (rs qs : List Request) → turned k s (rs ++ qs) ≡ turned k s rs ++ turned k s qs
unfolding turned
turned_append k s rs qs = ap (map (reread s)) (those_append (turns k s) rs qs) ∙ map-append (reread s) (those (turns k s) rs) (those (turns k s) qs)

-- what holds of each that turns
pub each-turned : (P : Request → Type 0) (k : Class) (s : State) (rs : List Request)
    → Each (λ r. r.class ≡ waiting → class_of (task s r.task) ≡ k → P (reread s r)) rs → Each P (turned k s rs)
unfolding turned
each-turned P k s rs a =
    each_map P (reread s) (those (turns k s) rs)
    (each_imp _ _ (λ r q. let e = turns-true k s r q.1 in q.0 e.0 e.1) _ (each-those _ (turns k s) rs a))

-- the met are as many as they were, and those that turn met
turned_cons : (p : Request → Bool) (k : Class) (s : State) (r : Request) (rs : List Request)
    → how_many p (turned k s (r ∷ rs)) ≡ bit (turns k s r && p (reread s r)) + how_many p (turned k s rs)
unfolding those turned
turned_cons p k s r rs = bool_case (turns k s r) (λ b. rw b (how_many_cons p (reread s r) (map (reread s) (those (turns k s) rs)))) (λ b. rw b (omega arith))

met-one : (p : Request → Bool) (s : State) (r : Request) → bit (p (again s r) && is_met (again s r)) ≡ bit (p r && is_met r) + bit (turns met s r && p (reread s r))
unfolding reread
met-one p s r =
    bool_case (is_waiting r)
    (λ b. let e = is_class_lem waiting r.class b in
    let m : is_met r ≡ false = ap (is_class met) e in
    rw (again-waiting s r e, b, m, and-false) (and_bit (p (reread s r)) (is_class met (class_of (task s r.task)))))
    (λ b. rw (again_same s r b, b) (omega arith))
  where
    and_bit : (a b : Bool) → bit (a && b) ≡ 0 + bit (b && a)
    and_bit true true = refl
    and_bit true false = refl
    and_bit false true = refl
    and_bit false false = refl

pub met-again : (p : Request → Bool) (s : State) (rs : List Request)
    → how_many (λ r. p r && is_met r) (map (again s) rs) ≡ how_many (λ r. p r && is_met r) rs + how_many p (turned met s rs)
met-again p s [] = unfold those turned in refl
met-again p s (r ∷ rs) =
    omega (
      arith,
      how_many_cons (λ r. p r && is_met r) (again s r) (map (again s) rs),
      how_many_cons (λ r. p r && is_met r) r rs,
      turned_cons p met s r rs,
      met-one p s r,
      met-again p s rs,
    )

-- none turns met where each waiting task goes on, is stopped or times out
moved_unmet : (t t' : Task) → Moved t t' → is_class met (class_of t') ≡ false
moved_unmet t t' (stays a b c d) = rw (class-waiting t' a)
moved_unmet t t' (stopped a) = rw (class-stopped t' a)
moved_unmet t t' (timed a b) = rw (class_timed t' a b)

unmet : (s s' : State) (r : Request) → Entry s r → (r.class ≡ waiting → Moved (task s r.task) (task s' r.task)) → turns met s' r ≡ false
unmet s s' r k m =
    bool_case (is_waiting r)
    (λ b. rw (b, moved_unmet (task s r.task) (task s' r.task) (m (is_class_lem waiting r.class b))))
    (λ b. rw b)

pub turned_none : (s s' : State) (rs : List Request) → Each (Entry s) rs → ((j : ℕ) → (task s j).state ≡ 3 → Moved (task s j) (task s' j)) → turned met s' rs ≡ []
unfolding turned
turned_none s s' rs k m = rw (those-none (turns met s') rs (each_imp (Entry s) _ (λ r e. unmet s s' r e (λ w. m r.task (e.stands w).state)) rs k))

-- just one waiting task is met: its one request turns
pub turned-one : (s s' : State) (w : ℕ) (rs : List Request) → Agree s rs → (task s w).state ≡ 3 → Meets (task s' w)
    → ((j : ℕ) → j ≢ w → (task s j).state ≡ 3 → Moved (task s j) (task s' j))
    → (r : Request) × (turned met s' rs ≡ reread s' r ∷ []) × (r.task ≡ w) × Stands s r
unfolding turned
turned-one s s' w rs a st m others =
    let f = those-one (Entry s) (waits_by w) rs a.entries (a.one w ∙ ap bit (eq-eqb (task s w).state 3 st)) in
    let r : Request = f.0 in
    (r, ap (map (reread s')) (same ∙ f.1), eqb-true r.task w (and_r (is_waiting r) _ f.2), f.3.stands (is_class_lem waiting r.class (and_l _ _ f.2)))
  where
    just : (r : Request) → Entry s r → turns met s' r ≡ waits_by w r
    just r e =
        same_or r.task w
        (λ q. rw (q, class-met (task s' w) m.0 m.1, eq-eqb w w refl))
        (λ q. rw (ne_eqb r.task w q, and-false) (unmet s s' r e (λ x. others r.task q (e.stands x).state)))

    same : those (turns met s') rs ≡ those (waits_by w) rs
    same = those_same _ _ rs (each_imp (Entry s) _ just rs a.entries)

-- ---- states of the same records

module _ (s s' : State) (e : s'.tasks ≡ s.tasks) where
  abbrev with : List Task → State
  with ts = record { tasks = ts; hubs = s.hubs; ready = s.ready }

  pub again_kept : (rs : List Request) → map (again s') rs ≡ map (again s) rs
  unfolding again reread
  again_kept rs = ap (λ (ts : List Task). map (again (with ts)) rs) e

  pub turned-kept : (k : Class) (rs : List Request) → turned k s' rs ≡ turned k s rs
  unfolding reread turned
  turned-kept k rs = ap (λ (ts : List Task). turned k (with ts) rs) e

  stands-kept : (r : Request) → Stands s r → Stands s' r
  stands-kept r k = record {
    state = rw e k.state;
    hub = rw e k.hub;
    side = rw e k.side;
    word = rw e k.word;
  }

  pub agree_kept : (rs : List Request) → Agree s rs → Agree s' rs
  agree_kept rs a = record {
    entries = each_imp (Entry s) _ (λ r k. record { known = k.known; stands = λ w. stands-kept r (k.stands w) }) rs a.entries;
    one = λ i. rw e (a.one i);
  }
