-- What the walk of a list says, both ways: of any list (`Queue`), and of a hub's list, whose first entry's side may wait
-- (`Line`). Not here: that each task stands in the list that its record says (Marks.antt). Assumes nothing.
use Prim.Native.Nat.{◌<◌, ◌≤◌, pred, suc, zero, ℕ}
use Rattle.bodies.specs.Bodies.{owner_of}
use Rattle.lists.proofs.Counting.{occ_here, occ_tail}
use Rattle.lists.proofs.Laws.{bool_case}
use Rattle.lists.proofs.Padding.{zeros-packed}
use Rattle.lists.specs.Lists.{numbers, occ, packed}
use Rattle.rules.proofs.Cases.{and_l, and_r, same_or}
use Rattle.rules.proofs.Tests.{Tests, t_and, t_eq, t_le, t_not}
use Rattle.rules.proofs.Valid.{Range}
use Rattle.rules.specs.Table.{Hub, State, kind_of, side_of, task}
use Rattle.rules.specs.WellFormed.{may_wait}
use Rattle.wellformed.specs.Walks.{may, meets, queue_right, walks}
use borrow.Author.Tests.{eq-eqb, eqb-false, eqb-true, le-leb, ne_eqb}
use lib.Dec.{eqb, eqb-suc-zero, leb}
use lib.ListN.{get_or, length}
use mathlib.Core.Bool.{◌&&◌, and-true, false, not, or-false, true}
use mathlib.Core.List.{List, [], ◌∷◌}
use mathlib.Core.Path.{◌∙◌, ◌≡◌, refl, subst, sym}
use native.Mathlib.Omega.{arith}

-- ---- a list

-- what each of its entries is
pub record Entry (s : State) (a d owner i : ℕ) : Type 0 where
  pub used : i < length s.tasks
  pub hub : (task s i).hub ≡ a
  pub side : (task s i).side ≡ d
  pub other : suc i ≡ owner → ⊥

pub record Queue (s : State) (a d owner : ℕ) (l : List ℕ) : Type 0 where
  pub full : packed l ≡ true
  pub each : (i : ℕ) → 1 ≤ occ i (numbers l) → Entry s a d owner i

module _ (s : State) (a d owner : ℕ) where
  t_meets : (x : ℕ) → Tests (meets s a d owner x) ((x ≤ length s.tasks) × (((task s (pred x)).hub ≡ a) × (((task s (pred x)).side ≡ d) × (x ≡ owner → ⊥))))
  unfolding meets
  t_meets x = t_and _ _ (t_le _ _) (t_and _ _ (t_eq _ _) (t_and _ _ (t_eq _ _) (t_not _ (t_eq _ _))))

  pub walks-says : (l : List ℕ) → walks s a d owner l ≡ true → Queue s a d owner l
  unfolding numbers occ packed walks
  walks-says [] e = record { full = refl; each = λ i o. absurd (omega arith) }
  walks-says (x ∷ xs) e =
      bool_case (eqb x 0)
      (λ b. record { full = rw b (rw b at e); each = λ i o. absurd (omega (arith, rw b at o)) })
      (λ b. more b (rw b at e) (walks-says xs (and_r (meets s a d owner x) _ (rw b at e))))
    where
      more : eqb x 0 ≡ false → (meets s a d owner x && walks s a d owner xs) ≡ true → Queue s a d owner xs → Queue s a d owner (x ∷ xs)
      more b e q =
          let n = eqb-false x 0 b in
          let m = (t_meets x).yes (and_l _ _ e) in
          let here : Entry s a d owner (pred x) = record { used = omega (arith, n, m.0); hub = m.1.0; side = m.1.1.0; other = λ z. m.1.1.1 (omega arith) } in
          record {
            full = rw b q.full;
            each = λ i o. same_or (pred x) i (λ z. subst (Entry s a d owner) z here) (λ z. q.each i (occ_tail i (pred x) (numbers xs) z (rw b at o)));
          }

  pub walks-holds : (l : List ℕ) → Queue s a d owner l → walks s a d owner l ≡ true
  unfolding numbers occ packed walks
  walks-holds [] q = refl
  walks-holds (x ∷ xs) q =
      bool_case (eqb x 0)
      (λ b. rw b (rw b at q.full))
      (λ b. rw b (more b (rw b at q.full) (rw b at q.each) (walks-holds xs)))
    where
      more : eqb x 0 ≡ false → packed xs ≡ true → ((i : ℕ) → 1 ≤ occ i (pred x ∷ numbers xs) → Entry s a d owner i) → (Queue s a d owner xs → walks s a d owner xs ≡ true) → (meets s a d owner x && walks s a d owner xs) ≡ true
      more b f g rest =
          let n = eqb-false x 0 b in
          let h = g (pred x) (occ_here (pred x) (numbers xs)) in
          rw (
            (t_meets x).conv (omega (arith, h.used), (h.hub, (h.side, λ z. h.other (omega arith)))),
            rest (record { full = f; each = λ i k. g i (omega arith) }),
          )

-- ---- who may wait, where the hub's ranges are right: by the numbers of side and kind, and the owner apart

eqb_swap : (m n : ℕ) → eqb m n ≡ eqb n m
eqb_swap m n = bool_case (eqb n m) (λ b. rw (b, eq-eqb m n (sym (eqb-true n m b)))) (λ b. rw (b, ne_eqb m n (λ e. eqb-false n m b (sym e))))

pub may-wait : (d k T i : ℕ) (h : Hub) → Range (kind_of k) T h → may_wait (side_of d) (kind_of k) h i ≡ (may d k h.count h.limit && not (eqb (suc i) (owner_of k h.count)))
unfolding Range kind_of may_wait side_of
may-wait zero k T i h r = refl
may-wait (suc (suc (suc zero))) k T i h r = refl
may-wait (suc (suc (suc (suc d)))) k T i h r = rw (ne_eqb (suc (suc (suc (suc d)))) 1 (λ e. omega arith), ne_eqb (suc (suc (suc (suc d)))) 2 (λ e. omega arith))
may-wait (suc zero) zero T i h r = absurd r
may-wait (suc zero) (suc zero) T i h r = simp (eqb-suc-zero, or-false, and-true)
may-wait (suc zero) (suc (suc zero)) T i h r = simp (eqb-suc-zero, or-false, and-true)
may-wait (suc zero) (suc (suc (suc zero))) T i h r = rw (r.0, r.1, eqb-suc-zero)
may-wait (suc zero) (suc (suc (suc (suc zero)))) T i h r = simp (eqb-suc-zero, or-false, and-true)
may-wait (suc zero) (suc (suc (suc (suc (suc zero))))) T i h r = refl
may-wait (suc zero) (suc (suc (suc (suc (suc (suc zero)))))) T i h r = refl
may-wait (suc zero) (suc (suc (suc (suc (suc (suc (suc zero))))))) T i h r = refl
may-wait (suc zero) (suc (suc (suc (suc (suc (suc (suc (suc k)))))))) T i h r = absurd r
may-wait (suc (suc zero)) zero T i h r = absurd r
may-wait (suc (suc zero)) (suc zero) T i h r = simp (eqb-suc-zero, and-true)
may-wait (suc (suc zero)) (suc (suc zero)) T i h r = simp (eqb-suc-zero, and-true)
may-wait (suc (suc zero)) (suc (suc (suc zero))) T i h r = rw (r.0, eqb-suc-zero)
may-wait (suc (suc zero)) (suc (suc (suc (suc zero)))) T i h r = simp (eqb-suc-zero, and-true)
may-wait (suc (suc zero)) (suc (suc (suc (suc (suc zero))))) T i h r = rw (eqb_swap (suc i) h.count, or-false)
may-wait (suc (suc zero)) (suc (suc (suc (suc (suc (suc zero)))))) T i h r = simp (eqb-suc-zero, and-true)
may-wait (suc (suc zero)) (suc (suc (suc (suc (suc (suc (suc zero))))))) T i h r = simp (eqb-suc-zero, and-true)
may-wait (suc (suc zero)) (suc (suc (suc (suc (suc (suc (suc (suc k)))))))) T i h r = absurd r

-- ---- a hub's list

pub record Line (s : State) (h : ℕ) (x : Hub) (l : List ℕ) : Type 0 where
  pub side : ℕ
  pub queue : Queue s (suc h) side (owner_of x.kind x.count) l
  pub allowed : (i : ℕ) → 1 ≤ occ i (numbers l) → may side x.kind x.count x.limit ≡ true

-- the first entry, if it is one
pub first_in : (l : List ℕ) → (get_or l 0 0 ≡ 0 → ⊥) → 1 ≤ occ (pred (get_or l 0 0)) (numbers l)
unfolding numbers
first_in [] n = absurd (n refl)
first_in (x ∷ xs) n = rw (ne_eqb x 0 n) (occ_here (pred x) (numbers xs))

pub first-none : (l : List ℕ) → get_or l 0 0 ≡ 0 → (i : ℕ) → 1 ≤ occ i (numbers l) → ⊥
unfolding numbers occ
first-none [] e i o = omega arith
first-none (x ∷ xs) e i o = omega (arith, rw (eq-eqb x 0 e) at o)

-- a list with nobody in it
empty_queue : (s : State) (a d owner : ℕ) (l : List ℕ) → get_or l 0 0 ≡ 0 → packed l ≡ true → Queue s a d owner l
empty_queue s a d owner l e f = record { full = f; each = λ i o. absurd (first-none l e i o) }

module _ (s : State) (h : ℕ) (x : Hub) (l : List ℕ) where
  pub queue_says : queue_right s h x l ≡ true → Line s h x l
  unfolding queue_right
  queue_says e =
      bool_case (eqb (get_or l 0 0) 0)
      (λ b. let z = eqb-true (get_or l 0 0) 0 b in record {
        side = 0;
        queue = empty_queue s (suc h) 0 _ l z (zeros-packed l z ∙ rw b at e);
        allowed = λ i o. absurd (first-none l z i o);
      })
      (λ b. let q = and_r (leb (get_or l 0 0) (length s.tasks)) _ (rw b at e) in record {
        side = (task s (pred (get_or l 0 0))).side;
        queue = walks-says s (suc h) _ _ l (and_r (may (task s (pred (get_or l 0 0))).side x.kind x.count x.limit) _ q);
        allowed = λ i o. and_l _ _ q;
      })

  pub queue_holds : Line s h x l → queue_right s h x l ≡ true
  unfolding queue_right
  queue_holds w =
      bool_case (eqb (get_or l 0 0) 0)
      (λ b. rw b (sym (zeros-packed l (eqb-true (get_or l 0 0) 0 b)) ∙ w.queue.full))
      (λ b. rw b (let n = eqb-false (get_or l 0 0) 0 b in
      let o = first_in l n in
      let g = w.queue.each (pred (get_or l 0 0)) o in
      rw (
        le-leb (get_or l 0 0) (length s.tasks) (omega (arith, g.used)),
        g.side,
        w.allowed (pred (get_or l 0 0)) o,
      )
      (walks-holds s (suc h) w.side _ l w.queue)))
