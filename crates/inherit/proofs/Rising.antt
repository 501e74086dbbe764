-- The test of order. In order: a list by rising key from a number on (`rising_from`), entry by entry; a turn of the walk of a list
-- of words (`Walking`); the lists of the table, lent; the whole.
-- Not here: sorted lists as such (rules, Order.antt); a test of all hubs in use (rules, Tests.antt). Assumes nothing.
use Prim.Native.Nat.{◌*◌, ◌+◌, ◌-◌, ◌<◌, ◌≤◌, pred, suc, zero-le, ℕ}
use Rattle.inherit.proofs.Turns.{entry_word}
use Rattle.lists.proofs.Laws.{bool_case, entries_none, numbers-entries}
use Rattle.lists.specs.Lists.{entries, numbers}
use Rattle.records.specs.Records.{ready_at, waits_at}
use Rattle.rules.proofs.Cases.{and_l, and_r}
use Rattle.rules.proofs.Layouts.{Laid, sized}
use Rattle.rules.proofs.Places.{ready-part, wait-part}
use Rattle.rules.proofs.Room.{ready-room, waiters-room}
use Rattle.rules.proofs.Valid.{Sound}
use Rattle.rules.specs.Table.{Layout, State, hub, part, wait_part, words}
use Rattle.rules.specs.WellFormed.{every, for_all, in_order_by, rising}
use borrow.Author.Tests.{eq-eqb, le-leb, leb-true, lt-leb, ne_eqb}
use lib.Dec.{leb, leb-zero}
use lib.ListN.{drop, drop_of_length-le, get_or, length, take}
use lib.Seq.{drop-cons}
use mathlib.Core.Bool.{Bool, ◌&&◌, and-false, false, true}
use mathlib.Core.List.{List, [], ◌∷◌}
use mathlib.Core.Path.{◌∙◌, ◌≡◌, ap, refl, sym}
use native.Mathlib.Numerals.{add-one}
use native.Mathlib.Omega.{arith}

-- ---- by rising key, from n on

module _ (key : ℕ → ℕ) where
  abbrev rising_from : ℕ → List ℕ → Bool
  rising_from n l = every (λ y. leb n (key y)) l && rising key l

  every-zero : (l : List ℕ) → every (λ y. leb 0 (key y)) l ≡ true
  unfolding every
  every-zero [] = refl
  every-zero (x ∷ xs) = rw (leb-zero (key x), every-zero xs)

  from_zero : (l : List ℕ) → rising key l ≡ rising_from 0 l
  from_zero l = rw (every-zero l)

  every_less : (n m : ℕ) → n ≤ m → (l : List ℕ) → every (λ y. leb m (key y)) l ≡ true → every (λ y. leb n (key y)) l ≡ true
  unfolding every
  every_less n m h [] e = refl
  every_less n m h (x ∷ xs) e =
      let g : m ≤ key x = leb-true m (key x) (and_l _ _ e) in
      rw (le-leb n (key x) (omega arith), every_less n m h xs (and_r (leb m (key x)) _ e))

  from_cons : (n x : ℕ) (xs : List ℕ) → rising_from n (x ∷ xs) ≡ (leb n (key x) && rising_from (key x) xs)
  unfolding every rising
  from_cons n x xs =
      bool_case (leb n (key x))
      (λ b. rw b (bool_case (every (λ y. leb (key x) (key y)) xs)
      (λ d. rw (d, every_less n (key x) (leb-true n (key x) b) xs d))
      (λ d. rw (d, and-false))))
      (λ b. rw b)

  -- one entry, or none
  short_rising : (l : List ℕ) → drop 1 l ≡ [] → rising key l ≡ true
  unfolding every rising
  short_rising [] e = refl
  short_rising (x ∷ xs) e = rw e

-- ---- a list of words, from place k on

pub record Walking (list ks : List ℕ) (last k : ℕ) : Type 0 where
  pub inside : k ≤ length list
  pub rest : rising (λ j. get_or ks j 0) (numbers list) ≡ rising_from (λ j. get_or ks j 0) last (numbers (drop k list))

module _ (list ks : List ℕ) where
  abbrev key : ℕ → ℕ
  key j = get_or ks j 0

  pub walking_begin : Walking list ks 0 0
  walking_begin = record { inside = zero-le; rest = from_zero key (numbers list) }

  module _ (last k : ℕ) (w : Walking list ks last k) where
    pub walking_full : length list ≤ k → true ≡ rising key (numbers list)
    unfolding every numbers rising
    walking_full l = let z : drop k list ≡ [] = drop_of_length-le list {i = k} l in sym (w.rest ∙ rw z)

    module _ (l : k < length list) where
      pub walking_end : get_or list k 0 ≡ 0 → true ≡ rising key (numbers list)
      unfolding every numbers rising
      walking_end e = sym (w.rest ∙ rw (drop-cons list k 0 l, eq-eqb (get_or list k 0) 0 e))

      module _ (n : get_or list k 0 ≡ 0 → ⊥) where
        some : numbers (drop k list) ≡ (get_or list k 0 - 1) ∷ numbers (drop (suc k) list)
        unfolding numbers
        some =
            let p : pred (get_or list k 0) ≡ get_or list k 0 - 1 = omega arith in
            rw (drop-cons list k 0 l, ne_eqb (get_or list k 0) 0 n, p)

        turned : rising key (numbers list) ≡ (leb last (get_or ks (get_or list k 0 - 1) 0) && rising_from key (get_or ks (get_or list k 0 - 1) 0) (numbers (drop (suc k) list)))
        turned =
            w.rest ∙ (ap (rising_from key last) some ∙ from_cons key last (get_or list k 0 - 1) (numbers (drop (suc k) list)))

        pub walking_miss : (q : ℕ) → q ≡ get_or ks (get_or list k 0 - 1) 0 → q < last → false ≡ rising key (numbers list)
        walking_miss q e h = sym (turned ∙ rw (sym e, lt-leb last q h))

        pub walking_step : (q : ℕ) → q ≡ get_or ks (get_or list k 0 - 1) 0 → last ≤ q → Walking list ks q (k + 1)
        walking_step q e h = record {
          inside = omega arith;
          rest = rw add-one (turned ∙ rw (sym e, le-leb last q h));
        }

-- ---- the lists of the table, lent: n words from word a on

module _ {ts : ℕ} (L : Layout) (s : State) (y : Laid ts L) (x : Sound s) (t : List ℕ) (w : t ≡ words L s) where
  pub ready-lent : (ks : List ℕ) (a n : ℕ) → a ≡ ready_at ts → n ≡ 16 → rising (λ j. get_or ks j 0) (numbers (take n (drop a t))) ≡ rising (λ j. get_or ks j 0) s.ready
  ready-lent ks a n place many =
      let list : take 16 (drop (ready_at ts) t) ≡ part (ready_at ts) 16 (words L s) = rw w in
      let ready : part (ready_at ts) 16 (words L s) ≡ entries 16 s.ready = rw y.size (ready-part L (sized y) s) in
      rw (place, many, list, ready, numbers-entries 16 s.ready (omega (arith, x.tasks, ready-room s x.listed)))

  module _ (h : ℕ) (u : h < length s.hubs) (ks : List ℕ) (a : ℕ) (place : a ≡ waits_at ts + h * 16) where
    pub hub-lent : (n : ℕ) → n ≡ 16 → rising (λ j. get_or ks j 0) (numbers (take n (drop a t))) ≡ rising (λ j. get_or ks j 0) (hub s h).waiters
    hub-lent n many =
        let list : take 16 (drop (waits_at ts + h * 16) t) ≡ wait_part L (words L s) h = rw (w, y.size) in
        rw (place, many, list, wait-part L (sized y) s h (omega (arith, x.hubs)) u, numbers-entries 16 (hub s h).waiters (omega (arith, x.tasks, waiters-room s x.listed h)))

    -- its second word is 0
    pub hub_short : get_or t (a + 1) 0 ≡ 0 → true ≡ rising (λ j. get_or ks j 0) (hub s h).waiters
    hub_short e =
        sym (short_rising (λ j. get_or ks j 0) (hub s h).waiters
        (entries_none 16 (hub s h).waiters 1 (omega arith) (sym (entry_word L s y x h u 1 (omega arith)) ∙ (rw (place, w) at e))))

-- ---- the whole: the ready list's answer r, then the hubs' answer q

module _ (key : ℕ → ℕ) (s : State) (r : Bool) (is : r ≡ rising key s.ready) where
  pub order_no : r ≡ false → false ≡ in_order_by key s
  unfolding in_order_by
  order_no e = rw (sym is ∙ e)

  pub order_yes : r ≡ true → (q : Bool) → q ≡ for_all (length s.hubs) (λ h. rising key (hub s h).waiters) → q ≡ in_order_by key s
  unfolding in_order_by
  order_yes e q hubs = rw (sym is ∙ e) hubs
