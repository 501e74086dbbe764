-- The links of a table. In order: a Resource with a waiter, by the words, and its owner; whether nobody is asked (`Unasked`); the
-- links of the hubs from one on, and of one more (`Linking`).
-- Not here: what following them finds (Passing.antt, Turns.antt). Assumes nothing.
use Prim.Native.Nat.{◌*◌, ◌+◌, ◌-◌, ◌<◌, ◌≤◌, min, suc, zero-le, ℕ}
use Rattle.inherit.proofs.Turns.{Every, all-used, count_word, entry_word, kind-word, used}
use Rattle.inherit.specs.Asked.{asked_from, asked_owner, is_asked, nobody_asked}
use Rattle.inherit.specs.Linked.{Linked}
use Rattle.lists.specs.Lists.{entries}
use Rattle.records.specs.Records.{hubs_at, waits_at}
use Rattle.rules.proofs.Cases.{and_l, and_r, same_or}
use Rattle.rules.proofs.Layouts.{Laid}
use Rattle.rules.proofs.Numbers.{resource-number}
use Rattle.rules.proofs.Places.{hubs-word}
use Rattle.rules.proofs.Valid.{Sound}
use Rattle.rules.specs.Table.{Hub, Layout, State, hub, no_hub, words}
use Rattle.rules.specs.WellFormed.{for_all}
use borrow.Author.Tests.{eq-eqb, le-leb, leb-true, ne_eqb}
use lib.Dec.{eqb, eqb-suc-zero, leb}
use lib.ListN.{drop, drop_of_length-le, get_or, get_or-replicate, length, length-set, replicate, set}
use lib.Seq.{drop-cons, get_or-set_other, get_or-set_same}
use mathlib.Core.Bool.{Bool, ◌&&◌, cond, false, false≢true, not, true}
use mathlib.Core.List.{List, [], ◌∷◌}
use mathlib.Core.Path.{◌∙◌, ◌≡◌, ap, refl, sym}
use native.Mathlib.Nat.{add-zero}
use native.Mathlib.Numerals.{add-one}
use native.Mathlib.Omega.{arith}

-- ---- a Resource with a waiter, and its owner

-- the first entry of a list is 0 just where the list is empty
first_word : (l : List ℕ) → eqb (get_or (entries 16 l) 0 0) 0 ≡ eqb (length l) 0
unfolding entries
first_word [] = refl
first_word (x ∷ xs) = eqb-suc-zero x ∙ sym (eqb-suc-zero (length xs))

module _ {ts : ℕ} (L : Layout) (s : State) (y : Laid ts L) (x : Sound s) (h : ℕ) (u : h < length s.hubs) (t : List ℕ) (w : t ≡ words L s) where
  -- the two words that the code reads
  pub asked-words : is_asked (hub s h) ≡ (eqb (get_or t (hubs_at ts + h * 4) 0) 5 && not (eqb (get_or t (waits_at ts + h * 16) 0) 0))
  unfolding is_asked
  asked-words =
      let first : get_or (words L s) (waits_at ts + h * 16) 0 ≡ get_or (entries 16 (hub s h).waiters) 0 0 = rw add-zero at (entry_word L s y x h u 0 (omega arith)) in
      rw (w, kind-word L s y x h u, first, first_word, resource-number)

  module _ (r : Bool) (is : r ≡ is_asked (hub s h)) where
    pub owner-none : r ≡ false → 0 ≡ asked_owner (hub s h)
    unfolding asked_owner
    owner-none e = rw (sym is ∙ e)

    pub owner-asked : r ≡ true → (a : ℕ) → a ≡ hubs_at ts → get_or t (a + h * 4 + 1) 0 ≡ asked_owner (hub s h)
    unfolding asked_owner
    owner-asked e a at = rw (sym is ∙ e, at, w) (count_word L s y x h u)

-- ---- nobody is asked at any of the hubs below h

pub record Unasked (ts : ℕ) (t : List ℕ) (m : ℕ) (nobody : Bool) (h : ℕ) : Type 0 where
  pub inside : h ≤ m
  pub each : Every ts t (λ s. nobody ≡ for_all h (λ g. not (is_asked (hub s g))))

module _ (ts : ℕ) (t : List ℕ) (m : ℕ) where
  pub unasked_begin : Unasked ts t m true 0
  unfolding for_all
  unasked_begin = record { inside = zero-le; each = λ L s y x w. refl }

  module _ (many : m ≡ min (get_or t 2 0) 16) (nobody : Bool) (h : ℕ) (o : Unasked ts t m nobody h) where
    pub unasked_step : h < m → (r : Bool) → Every ts t (λ s. h < length s.hubs → r ≡ is_asked (hub s h)) → Unasked ts t m (not r && nobody) (h + 1)
    unfolding for_all
    unasked_step l r is = record {
      inside = omega arith;
      each = λ L s y x w. rw (add-one, is L s y x w (used t m many L s w h l), o.each L s y x w);
    }

    pub unasked_end : m ≤ h → Every ts t (λ s. nobody ≡ nobody_asked s)
    unfolding nobody_asked
    unasked_end l L s y x w =
        let all : h ≡ length s.hubs = omega (arith, o.inside, x.hubs, ap (λ (r : List ℕ). get_or r 2 0) w, hubs-word L s) in
        rw (sym all) (o.each L s y x w)

-- ---- the links, of the hubs from h on

-- one of the sixteen, plus 1
pub among : (o : ℕ) → (leb 1 o && leb o 16) ≡ true → (1 ≤ o) × (o ≤ 16)
among o e = (leb-true 1 o (and_l _ _ e), leb-true o 16 (and_r (leb 1 o) _ e))

pub record Linking (ts : ℕ) (t ks : List ℕ) (h : ℕ) : Type 0 where
  pub inside : h ≤ min (get_or t 2 0) 16
  pub long : length ks ≡ 32
  pub later : (i : ℕ) → i < 16 → h ≤ get_or ks i 0
  pub rises : (g : ℕ) → g < 16 → g < get_or ks (16 + g) 0
  pub first : Every ts t (λ s. (i : ℕ) → i < 16 → get_or ks i 0 ≡ asked_from i (drop h s.hubs) h)
  pub next : Every ts t (λ s. (g i : ℕ) → h ≤ g → g < length s.hubs → i < 16 → asked_owner (hub s g) ≡ suc i
      → get_or ks (16 + g) 0 ≡ asked_from i (drop (suc g) s.hubs) (suc g))

pub linking_begin : (ts : ℕ) (t : List ℕ) (h : ℕ) → h ≡ min (get_or t 2 0) 16 → Linking ts t (replicate 32 16) h
unfolding asked_from
linking_begin ts t h e =
    let clean : (i : ℕ) → i < 32 → get_or {A = ℕ} (replicate 32 16) i 0 ≡ 16 = λ i l. get_or-replicate {A = ℕ} 32 i 16 0 l in
    record {
      inside = omega arith;
      long = refl;
      later = λ i l. rw (clean i (omega arith)) (omega arith);
      rises = λ g l. rw (clean (16 + g) (omega arith)) (omega arith);
      first = λ L s y x w i l.
          let none : drop h s.hubs ≡ [] = drop_of_length-le s.hubs {i = h} (all-used t h e L s w x h (omega arith)) in
          clean i (omega arith) ∙ ap (λ (xs : List Hub). asked_from i xs h) (sym none);
      next = λ L s y x w g i l v. absurd (omega (arith, all-used t h e L s w x h (omega arith)));
    }

pub linking_end : (ts : ℕ) (t ks : List ℕ) (h : ℕ) → Linking ts t ks h → h ≤ 0 → Linked ts t ks
linking_end ts t ks h o z =
    let e : h ≡ 0 = omega arith in
    record {
      long = o.long;
      rises = o.rises;
      each = λ L s y x w. record {
        first = λ i l. o.first L s y x w i l ∙ ap (λ (k : ℕ). asked_from i (drop k s.hubs) k) e;
        next = λ g i v l a. o.next L s y x w g i (omega arith) v l a;
      };
    }

asked_cons : (i : ℕ) (xs : List Hub) (h : ℕ) → h < length xs → asked_from i (drop h xs) h ≡ cond (eqb (asked_owner (get_or xs h no_hub)) (suc i)) h (asked_from i (drop (suc h) xs) (suc h))
unfolding asked_from
asked_cons i xs h l = rw (drop-cons xs h no_hub l)

module _ (ts : ℕ) (t ks : List ℕ) (h g : ℕ) (o : Linking ts t ks h) (e : h ≡ suc g) (w : ℕ) (is : Every ts t (λ s. g < length s.hubs → w ≡ asked_owner (hub s g))) where
  there : (L : Layout) (s : State) → t ≡ words L s → g < length s.hubs
  there L s v = used t (min (get_or t 2 0) 16) refl L s v g (omega arith)

  -- who is not this hub's owner is asked first where it was before
  other : Every ts t (λ s. (i : ℕ) → i < 16 → (w ≡ suc i → ⊥) → get_or ks i 0 ≡ asked_from i (drop g s.hubs) g)
  other L s y x v i l n =
      let u = there L s v in
      o.first L s y x v i l
      ∙ (ap (λ (k : ℕ). asked_from i (drop k s.hubs) k) e
      ∙ sym (asked_cons i s.hubs g u ∙ rw (sym (is L s y x v u), ne_eqb w (suc i) n)))

  -- its owner is asked first here
  mine : Every ts t (λ s. (i : ℕ) → w ≡ suc i → g ≡ asked_from i (drop g s.hubs) g)
  mine L s y x v i a =
      let u = there L s v in
      sym (asked_cons i s.hubs g u ∙ rw (sym (is L s y x v u), eq-eqb w (suc i) a))

  pub linking_none : (leb 1 w && leb w 16) ≡ false → Linking ts t ks g
  linking_none n =
      let nobody : (i : ℕ) → i < 16 → w ≡ suc i → ⊥ = λ i l z. false≢true (sym (rw (le-leb 1 w (omega arith), le-leb w 16 (omega arith)) at n)) in
      record {
        inside = omega (arith, o.inside);
        long = o.long;
        later = λ i l. omega (arith, o.later i l);
        rises = o.rises;
        first = λ L s y x v i l. other L s y x v i l (nobody i l);
        next = λ L s y x v k i m u l a. same_or g k
            (λ z. absurd (nobody i l (is L s y x v (there L s v) ∙ (ap (λ (j : ℕ). asked_owner (hub s j)) z ∙ a))))
            (λ z. o.next L s y x v k i (omega (arith, z)) u l a);
      }

  module _ (lo : 1 ≤ w) (hi : w ≤ 16) where
    abbrev next-written : List ℕ
    next-written = set ks (16 + g) (get_or ks (w - 1) 0)

    abbrev written : List ℕ
    written = set next-written (w - 1) g

    low : g < 16
    low = omega (arith, o.inside)

    first_mine : get_or written (w - 1) 0 ≡ g
    first_mine = get_or-set_same next-written (w - 1) g 0 (omega (arith, o.long, length-set ks (16 + g) (get_or ks (w - 1) 0)))

    first_other : (i : ℕ) → i < 16 → (w - 1 ≡ i → ⊥) → get_or written i 0 ≡ get_or ks i 0
    first_other i l n = get_or-set_other next-written (w - 1) i g 0 (λ z. n (sym z)) ∙ get_or-set_other ks (16 + g) i (get_or ks (w - 1) 0) 0 (λ z. omega arith)

    next_here : get_or written (16 + g) 0 ≡ get_or ks (w - 1) 0
    next_here = get_or-set_other next-written (w - 1) (16 + g) g 0 (λ z. omega arith) ∙ get_or-set_same ks (16 + g) (get_or ks (w - 1) 0) 0 (omega (arith, o.long, low))

    next_other : (k : ℕ) → (g ≡ k → ⊥) → get_or written (16 + k) 0 ≡ get_or ks (16 + k) 0
    next_other k n = get_or-set_other next-written (w - 1) (16 + k) g 0 (λ z. omega arith) ∙ get_or-set_other ks (16 + g) (16 + k) (get_or ks (w - 1) 0) 0 (λ z. n (omega arith))

    pub linking_asked : Linking ts t written g
    linking_asked = record {
      inside = omega (arith, o.inside);
      long = length-set next-written (w - 1) g ∙ (length-set ks (16 + g) (get_or ks (w - 1) 0) ∙ o.long);
      later = λ i l. same_or (w - 1) i
          (λ z. omega (arith, ap (λ (j : ℕ). get_or written j 0) (sym z) ∙ first_mine))
          (λ n. omega (arith, first_other i l n, o.later i l));
      rises = λ k l. same_or g k
          (λ z. omega (arith, ap (λ (j : ℕ). get_or written (16 + j) 0) (sym z) ∙ next_here, o.later (w - 1) (omega arith)))
          (λ n. omega (arith, next_other k n, o.rises k l));
      first = λ L s y x v i l. same_or (w - 1) i
          (λ z. ap (λ (j : ℕ). get_or written j 0) (sym z) ∙ (first_mine ∙ mine L s y x v i (omega arith)))
          (λ n. first_other i l n ∙ other L s y x v i l (λ z. n (omega arith)));
      next = λ L s y x v k i m u l a. same_or g k
          (λ z. let owner : w ≡ suc i = is L s y x v (there L s v) ∙ (ap (λ (j : ℕ). asked_owner (hub s j)) z ∙ a) in
          let number : w - 1 ≡ i = omega arith in
          ap (λ (j : ℕ). get_or written (16 + j) 0) (sym z)
          ∙ (next_here ∙ (ap (λ (j : ℕ). get_or ks j 0) number
          ∙ (o.first L s y x v i l ∙ ap (λ (j : ℕ). asked_from i (drop j s.hubs) j) (e ∙ ap suc z)))))
          (λ n. next_other k n ∙ o.next L s y x v k i (omega (arith, n)) u l a);
    }
