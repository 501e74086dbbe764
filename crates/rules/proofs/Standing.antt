-- Who stands in a list that is exact: the running task, the first that waits on a side, and what their records say.
use Prim.Native.Nat.{◌<◌, ◌≤◌, suc, ℕ}
use Rattle.lists.proofs.Counting.{occ_tail}
use Rattle.lists.proofs.Laws.{bool_case}
use Rattle.lists.specs.Lists.{bit, occ}
use Rattle.rules.proofs.Cases.{and_l, and_r, bit_pos, same_or}
use Rattle.rules.proofs.Valid.{Listed}
use Rattle.rules.specs.Lists.{first_free, first_waiting, next}
use Rattle.rules.specs.Table.{Hub, State, hub, is_suspended, no_hub, task}
use Rattle.rules.specs.WellFormed.{is_ready, waits_for}
use borrow.Author.Tests.{eq-eqb, eqb-false, eqb-true, ltb-false, ltb-true}
use lib.Dec.{eqb, ltb}
use lib.ListN.{get_or-eq_default, length}
use mathlib.Core.Bool.{false≢true, true}
use mathlib.Core.List.{List, [], ◌∷◌}
use mathlib.Core.Logic.{◌≢◌}
use mathlib.Core.Option.{none, some}
use mathlib.Core.Path.{◌∙◌, ◌≡◌, ap}
use native.Mathlib.Omega.{arith}

-- ---- lists, whatever they hold

first-listed : (s : State) (l : List ℕ) (i : ℕ) → first_free s l ≡ suc i → 1 ≤ occ i l
unfolding first_free occ
first-listed s [] i e = absurd (omega (arith, e))
first-listed s (t ∷ ts) i e =
    bool_case (is_suspended (task s t))
    (λ b. let h : 1 ≤ occ i ts = first-listed s ts i (rw b at e) in omega arith)
    (λ b. let q : suc t ≡ suc i = rw b at e in rw (eq-eqb t i (omega arith)) (omega arith))

-- the first waiter of a side stands in the list, on that side
pub first-waits : (s : State) (d : ℕ) (l : List ℕ) (w : ℕ) → first_waiting s d l ≡ some w → (1 ≤ occ w l) × ((task s w).side ≡ d)
unfolding first_waiting occ
first-waits s d [] w e = absurd (false≢true (cc))
first-waits s d (t ∷ ts) w e =
    bool_case (eqb (task s t).side d)
    (λ b. let q : some t ≡ some w = rw b at e in
    let r : t ≡ w = cc in
    (rw (eq-eqb t w r) (omega arith), rw r at (eqb-true (task s t).side d b)))
    (λ b. let h : (1 ≤ occ w ts) × ((task s w).side ≡ d) = first-waits s d ts w (rw b at e) in (omega (arith, h.0), h.1))

-- no waiter of a side: nobody in the list is on it
pub none-waits : (s : State) (d : ℕ) (l : List ℕ) → first_waiting s d l ≡ none → (i : ℕ) → 1 ≤ occ i l → (task s i).side ≢ d
unfolding first_waiting occ
none-waits s d [] e i h = absurd (omega arith)
none-waits s d (t ∷ ts) e i h =
    bool_case (eqb (task s t).side d)
    (λ b. absurd (let q : some t ≡ none = rw b at e in false≢true (cc)))
    (λ b. same_or t i
    (λ q. rw q at (eqb-false (task s t).side d b))
    (λ q. none-waits s d ts (rw b at e) i (occ_tail i t ts q h)))

-- ---- where the lists are exact

module _ (s : State) (l : Listed s) where
  pub listed-ready : (i : ℕ) → 1 ≤ occ i s.ready → (task s i).state ≡ 2
  listed-ready i h = eqb-true _ 2 (bit_pos (is_ready s i) (omega (arith, l.ready i)))

  pub running_ready : (i : ℕ) → next s ≡ suc i → (task s i).state ≡ 2
  unfolding next
  running_ready i e = listed-ready i (first-listed s s.ready i e)

  pub listed-waiting : (h i : ℕ) → 1 ≤ occ i (hub s h).waiters → waits_for s h i ≡ true
  listed-waiting h i k = bit_pos (waits_for s h i) (omega (arith, l.waiters h i))

  pub listed-waits : (h i : ℕ) → 1 ≤ occ i (hub s h).waiters → ((task s i).state ≡ 3) × ((task s i).hub ≡ suc h)
  listed-waits h i k =
      let b : waits_for s h i ≡ true = listed-waiting h i k in
      (eqb-true _ 3 (and_l _ _ b), eqb-true _ (suc h) (and_r (eqb (task s i).state 3) _ b))

  pub waiting-listed : (h i : ℕ) → waits_for s h i ≡ true → 1 ≤ occ i (hub s h).waiters
  waiting-listed h i w = omega (arith, l.waiters h i ∙ ap bit w)

  -- nobody waits at a hub that is not in use
  pub waiting-used : (h i : ℕ) → waits_for s h i ≡ true → h < length s.hubs
  unfolding no_hub occ
  waiting-used h i w =
      bool_case (ltb h (length s.hubs))
      (ltb-true _ _)
      (λ b. absurd (omega (
        arith,
        waiting-listed h i w,
        ap (λ (x : Hub). occ i x.waiters) (get_or-eq_default s.hubs no_hub (ltb-false h (length s.hubs) b)),
      )))
