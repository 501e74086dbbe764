-- From one hub that a task is asked at to the next: what lies between adds nothing to what it finds. In order: a hub that it is
-- asked at, and one that it is not; the first of a row (`AskedAt`); who is asked at none.
-- Not here: the words (Turns.antt, Linking.antt). Assumes nothing.
use Prim.Native.Nat.{◌<◌, ◌≤◌, min, suc, ℕ}
use Rattle.inherit.specs.Asked.{asked_from, asked_owner, is_asked, nobody_asked}
use Rattle.lists.proofs.Laws.{bool_case}
use Rattle.rules.proofs.Cases.{and_l, cond_case}
use Rattle.rules.proofs.Tests.{t_below_all}
use Rattle.rules.specs.Effective.{effective, over_owned, over_task, over_waiters}
use Rattle.rules.specs.Table.{Hub, State, hub, is_resource, kind_of, no_hub, owns, task}
use borrow.Author.Tests.{eq-eqb, eqb-true, ne_eqb, not-true}
use lib.Dec.{eqb, eqb-suc-zero}
use lib.ListN.{drop, drop_of_length-le, get_or, length, length-drop}
use lib.Seq.{drop-cons}
use mathlib.Core.Bool.{Bool, ◌&&◌, cond, false, false≢true, not, true}
use mathlib.Core.List.{List, [], ◌∷◌}
use mathlib.Core.Path.{◌∙◌, ◌≡◌, ap, refl, sym}
use native.Mathlib.Omega.{arith}

-- ---- one hub

-- where task i is asked, it is the owner
asked-owns : (i : ℕ) (x : Hub) → asked_owner x ≡ suc i → owns i x ≡ true
unfolding asked_owner is_asked owns
asked-owns i x a =
    bool_case (is_resource (kind_of x.kind) && not (eqb (length x.waiters) 0))
    (λ r. rw (and_l (is_resource (kind_of x.kind)) _ r) (eq-eqb x.count (suc i) (rw r at a)))
    (λ r. absurd (omega (arith, rw r at a)))

-- a Resource that it owns and is not asked at has no waiter
owned_empty : (ask : ℕ → ℕ → ℕ) (i : ℕ) (x : Hub) (p : ℕ) (l : List ℕ) → x.waiters ≡ l → eqb (asked_owner x) (suc i) ≡ false → owns i x ≡ true → over_waiters ask l p ≡ p
unfolding asked_owner is_asked over_waiters owns
owned_empty ask i x p [] is a o = refl
owned_empty ask i x p (j ∷ js) is a o =
    bool_case (is_resource (kind_of x.kind))
    (λ r. absurd (false≢true (sym (rw (r, is, eqb-suc-zero (length js)) at a) ∙ (rw r at o))))
    (λ r. absurd (false≢true (rw r at o)))

module _ (ask : ℕ → ℕ → ℕ) (i p : ℕ) (x : Hub) (xs : List Hub) where
  pub owned_mine : asked_owner x ≡ suc i → over_owned ask i (x ∷ xs) p ≡ over_owned ask i xs (over_waiters ask x.waiters p)
  unfolding over_owned
  owned_mine a = ap (λ (b : Bool). over_owned ask i xs (cond b (over_waiters ask x.waiters p) p)) (asked-owns i x a)

  owned_other : eqb (asked_owner x) (suc i) ≡ false → over_owned ask i (x ∷ xs) p ≡ over_owned ask i xs p
  unfolding over_owned
  owned_other a =
      ap (over_owned ask i xs) (cond_case (λ (q : ℕ). q ≡ p) (owns i x) _ _ (λ o. owned_empty ask i x p x.waiters refl a o) (λ o. refl))

-- ---- the first of a row: the hubs `all`, from hub k on

-- hub h of these is one that task i is asked at
pub record AskedAt (i : ℕ) (all : List Hub) (h : ℕ) : Type 0 where
  pub inside : h < length all
  pub asked : asked_owner (get_or all h no_hub) ≡ suc i

module _ (all : List Hub) (k : ℕ) (x : Hub) (xs : List Hub) (e : drop k all ≡ x ∷ xs) where
  row_inside : k < length all
  row_inside = omega (arith, length-drop k all, ap length e)

  row_here : get_or all k no_hub ≡ x
  row_here = let d = drop-cons all k no_hub row_inside in cc

  row-behind : drop (suc k) all ≡ xs
  row-behind = let d = drop-cons all k no_hub row_inside in cc

module _ (i : ℕ) (all : List Hub) where
  pub first-asked : (xs : List Hub) (k : ℕ) → drop k all ≡ xs → asked_from i xs k < 16 → AskedAt i all (asked_from i xs k)
  unfolding asked_from
  first-asked [] k e = λ l. absurd (omega arith)
  first-asked (x ∷ xs) k e =
      cond_case (λ (h : ℕ). h < 16 → AskedAt i all h) (eqb (asked_owner x) (suc i)) _ _
      (λ a l. record { inside = row_inside all k x xs e; asked = ap asked_owner (row_here all k x xs e) ∙ eqb-true (asked_owner x) (suc i) a })
      (λ a. first-asked xs (suc k) (row-behind all k x xs e))

  module _ (few : length all ≤ 16) (ask : ℕ → ℕ → ℕ) (p : ℕ) where
    pub passed : (xs : List Hub) (k : ℕ) → drop k all ≡ xs → over_owned ask i xs p ≡ over_owned ask i (drop (asked_from i xs k) all) p
    unfolding asked_from
    passed [] k e = ap (λ (l : List Hub). over_owned ask i l p) (sym (drop_of_length-le all {i = 16} few))
    passed (x ∷ xs) k e =
        cond_case (λ (h : ℕ). over_owned ask i (x ∷ xs) p ≡ over_owned ask i (drop h all) p) (eqb (asked_owner x) (suc i)) _ _
        (λ a. ap (λ (l : List Hub). over_owned ask i l p) (sym e))
        (λ a. owned_other ask i p x xs a ∙ passed xs (suc k) (row-behind all k x xs e))

    -- past the last there is nobody to ask
    pub past_all : (h : ℕ) → 16 ≤ h → over_owned ask i (drop h all) p ≡ p
    unfolding over_owned
    past_all h l = ap (λ (z : List Hub). over_owned ask i z p) (drop_of_length-le all {i = h} (omega arith))

-- ---- who is asked at none has its own priority

pub own_alone : (s : State) (i : ℕ) → length s.hubs ≤ 16 → 16 ≤ asked_from i s.hubs 0 → effective s i ≡ (task s i).priority
unfolding effective over_task
own_alone s i few l =
    let q = min (task s i).priority (task s i).priority in
    passed i s.hubs few (over_task 15 s) q s.hubs 0 refl ∙ (past_all i s.hubs few (over_task 15 s) q (asked_from i s.hubs 0) l ∙ omega arith)

-- where nobody is asked, each task is asked at none
none_from : (i : ℕ) (xs : List Hub) (k : ℕ) → ((h : ℕ) → h < length xs → is_asked (get_or xs h no_hub) ≡ false) → asked_from i xs k ≡ 16
unfolding asked_from asked_owner
none_from i [] k none = refl
none_from i (x ∷ xs) k none = rw (none 0 (omega arith), ne_eqb 0 (suc i) (λ e. omega arith)) (none_from i xs (suc k) (λ h l. none (suc h) (omega arith)))

pub nobody_alone : (s : State) → length s.hubs ≤ 16 → nobody_asked s ≡ true → (i : ℕ) → effective s i ≡ (task s i).priority
unfolding nobody_asked
nobody_alone s few e i =
    let none = none_from i s.hubs 0 (λ h l. not-true _ ((t_below_all (λ g. not (is_asked (hub s g))) (length s.hubs)).yes e h l)) in
    own_alone s i few (omega (arith, none))
