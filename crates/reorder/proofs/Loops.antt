-- A turn of each loop of the reordering, and its end. In order: those below i taken out, and one more (`leave-out`); what a task
-- that is still in rests on; keys that are the same; the loops (`Taking`, `Putting`); the whole (`reorder_none`, `reorder_all`).
-- Not here: one task put back (Back.antt), what the reordering comes to (rules, Reordered.antt). Assumes nothing.
use Prim.Native.Nat.{◌+◌, ◌<◌, ◌≤◌, suc, zero-le, ℕ}
use Rattle.lists.proofs.Laws.{bool_case}
use Rattle.lists.proofs.Only.{length-only, occ-only, only_next}
use Rattle.lists.specs.Lists.{left_out, occ}
use Rattle.moves.specs.Moves.{key_of}
use Rattle.reorder.specs.Changed.{HubsUsed, differs}
use Rattle.rules.proofs.Cases.{same_or}
use Rattle.rules.proofs.Layouts.{Laid}
use Rattle.rules.proofs.Reordered.{Kept, kept_back, kept-task, out_none, out-ready, out-waiters}
use Rattle.rules.proofs.Room.{ready-room, waiters-room}
use Rattle.rules.proofs.Standing.{waiting-used}
use Rattle.rules.proofs.Still.{nobody_still}
use Rattle.rules.proofs.Valid.{Sound, Stands}
use Rattle.rules.specs.Effective.{effective}
use Rattle.rules.specs.Lists.{leave, queued, unqueue}
use Rattle.rules.specs.Reorder.{changed, put_back, rejoin, reordered, taken_out, thinned}
use Rattle.rules.specs.Table.{Hub, Layout, State, hub, words}
use borrow.Author.Tests.{eq-eqb, le-ltb, lt-ltb, ltb-false, ltb-true, ne_eqb}
use lib.Dec.{eqb, ltb}
use lib.ListN.{get_or, length, length-map, take}
use lib.Seq.{get_or-take}
use mathlib.Core.Bool.{Bool, ◌&&◌, and-false, false, not, true}
use mathlib.Core.List.{List, [], ◌∷◌, map}
use mathlib.Core.Path.{◌∙◌, ◌≡◌, ap, refl, sym}
use native.Mathlib.Numerals.{add-one}
use native.Mathlib.Omega.{arith}

-- ---- taking out one more

leave-out : (q r : ℕ → Bool) (n : ℕ) (s : State) → ((j : ℕ) → (not (q j) && not (eqb j n)) ≡ not (r j)) → leave n (taken_out q s) ≡ taken_out r s
unfolding leave taken_out
leave-out q r n s e = rw (only_next (λ i. not (q i)) (λ i. not (r i)) n e s.ready, all s.hubs) refl
  where
    all : (xs : List Hub) → map (unqueue n) (map (thinned q) xs) ≡ map (thinned r) xs
    all [] = refl
    all (x ∷ xs) =
        let same : unqueue n (thinned q x) ≡ thinned r x = unfold queued thinned unqueue in ap (λ (l : List ℕ). queued l x) (only_next (λ i. not (q i)) (λ i. not (r i)) n e x.waiters) in
        rw (same, all xs)

out_same : (q r : ℕ → Bool) (s : State) → ((j : ℕ) → q j ≡ r j) → taken_out q s ≡ taken_out r s
out_same q r s e = let f : q ≡ r = λ k j. e j k in ap (λ (p : ℕ → Bool). taken_out p s) f

-- those below i that pass
abbrev up_to : (ℕ → Bool) → ℕ → ℕ → Bool
up_to p i j = ltb j i && p j

up_to_out : (p : ℕ → Bool) (i : ℕ) → p i ≡ false → (j : ℕ) → up_to p i j ≡ up_to p (suc i) j
up_to_out p i e j =
    same_or i j
    (λ d. rw (sym d, e) (and-false (ltb i i) ∙ sym (and-false (ltb i (suc i)))))
    (λ d. bool_case (ltb j i)
    (λ b. rw (b, lt-ltb j (suc i) (omega (arith, ltb-true j i b))))
    (λ b. let g : i ≤ j = ltb-false j i b in rw (b, le-ltb j (suc i) (omega arith))))

up_to_next : (p : ℕ → Bool) (i : ℕ) → p i ≡ true → (j : ℕ) → (not (up_to p i j) && not (eqb j i)) ≡ not (up_to p (suc i) j)
up_to_next p i e j =
    same_or j i
    (λ d. rw (eq-eqb j i d, and-false, lt-ltb j (suc i) (omega (arith, d)), ap p d ∙ e) refl)
    (λ d. rw (ne_eqb j i d) (bool_case (ltb j i)
    (λ b. rw (b, lt-ltb j (suc i) (omega (arith, ltb-true j i b))) (bool_case (p j) (λ c. rw c) (λ c. rw c)))
    (λ b. let g : i ≤ j = ltb-false j i b in rw (b, le-ltb j (suc i) (omega arith)))))

-- ---- a task that is still in

stands-out : (q : ℕ → Bool) (i : ℕ) (s : State) → Sound s → q i ≡ false → Stands i (taken_out q s)
stands-out q i s x e = record {
  tasks = unfold taken_out in x.tasks;
  hubs = unfold taken_out in omega (arith, x.hubs, length-map s.hubs (thinned q));
  ready = rw (out-ready q s) (omega (arith, length-only (λ j. not (q j)) s.ready, ready-room s x.listed, x.tasks));
  waiters = λ h. rw (out-waiters q s h) (omega (arith, length-only (λ j. not (q j)) (hub s h).waiters, waiters-room s x.listed h, x.tasks));
  in_ready = rw (out-ready q s) (stood s.ready ∙ (x.listed.ready i ∙ unfold taken_out in refl));
  at_hub = λ h. rw (out-waiters q s h) (stood (hub s h).waiters ∙ (x.listed.waiters h i ∙ unfold taken_out in refl));
}
  where
    stood : (l : List ℕ) → occ i (left_out q l) ≡ occ i l
    stood l = occ-only (λ j. not (q j)) i l ∙ rw e

used-out : (q : ℕ → Bool) (s : State) → Sound s → HubsUsed (taken_out q s)
unfolding taken_out
used-out q s x = record {
  tasks = x.tasks;
  hubs = omega (arith, x.hubs, length-map s.hubs (thinned q));
  used = λ h i w. omega (arith, waiting-used s x.listed h i w, length-map s.hubs (thinned q));
}

used-kept : (s s' : State) → Kept s s' → HubsUsed s → HubsUsed s'
used-kept s s' k u = record {
  tasks = omega (arith, u.tasks, ap length k.tasks);
  hubs = omega (arith, u.hubs, k.hubs.many);
  used = λ h i w. omega (arith, k.hubs.many, u.used h i (rw (kept-task s s' k i) at w));
}

-- ---- the loops, at task i

-- those below i are out
pub record Taking (ts : ℕ) (t₀ t ks ls : List ℕ) (n i : ℕ) : Type 0 where
  pub inside : i ≤ n
  pub long : length t ≡ length t₀
  pub rest : (L : Layout) (s : State) → Laid ts L → Sound s → n ≤ length s.tasks → t₀ ≡ words L s
      → t ≡ words L (taken_out (up_to (differs n ks ls) i) s)

-- those below i are back
pub record Putting (ts : ℕ) (t₀ t ks ls : List ℕ) (n i : ℕ) : Type 0 where
  pub inside : i ≤ n
  pub long : length t ≡ length t₀
  pub rest : (L : Layout) (s : State) → Laid ts L → HubsUsed s → n ≤ length s.tasks → t₀ ≡ words L s
      → t ≡ words L (put_back (key_of ls) (differs n ks ls) i s)

-- the first n keys are the same, so nobody differs
pub same_keys : (ks ls : List ℕ) (n : ℕ) → take n ks ≡ take n ls → (j : ℕ) → differs n ks ls j ≡ false
same_keys ks ls n e j =
    bool_case (ltb j n)
    (λ b.
    let l : j < n = ltb-true j n b in
    let same : get_or ks j 0 ≡ get_or ls j 0 = sym (get_or-take n ks j 0 l) ∙ ap (λ (xs : List ℕ). get_or xs j 0) e ∙ get_or-take n ls j 0 l in
    rw (b, eq-eqb (get_or ks j 0) (get_or ls j 0) same))
    (λ b. rw b)

module _ (ts : ℕ) (t₀ ks ls : List ℕ) (n : ℕ) where
  pub taking_begin : Taking ts t₀ t₀ ks ls n 0
  taking_begin = record {
    inside = zero-le;
    long = refl;
    rest = λ L s y x m w. w ∙ ap (words L) (sym (out_none (up_to (differs n ks ls) 0) s (λ j. rw (le-ltb j 0 (omega arith)))));
  }

  pub putting_begin : Putting ts t₀ t₀ ks ls n 0
  unfolding put_back
  putting_begin = record { inside = zero-le; long = refl; rest = λ L s y x m w. w }

  module _ (t : List ℕ) (i : ℕ) where
    pub taking_end : Taking ts t₀ t ks ls n i → n ≤ i → (L : Layout) (s : State) → Laid ts L → Sound s → n ≤ length s.tasks → t₀ ≡ words L s
        → t ≡ words L (taken_out (differs n ks ls) s)
    taking_end k l L s y x m w =
        let e : i ≡ n = omega (arith, k.inside) in
        k.rest L s y x m w ∙ ap (words L) (out_same _ (differs n ks ls) s (λ j. rw e (bool_case (ltb j n) (λ b. rw b) (λ b. rw b))))

    pub putting_end : Putting ts t₀ t ks ls n i → n ≤ i → (L : Layout) (s : State) → Laid ts L → HubsUsed s → n ≤ length s.tasks → t₀ ≡ words L s
        → t ≡ words L (put_back (key_of ls) (differs n ks ls) n s)
    putting_end k l L s y x m w = let e : i ≡ n = omega (arith, k.inside) in rw e at (k.rest L s y x m w)

    module _ (l : i < n) (b : Bool) (is : b ≡ not (eqb (get_or ks i 0) (get_or ls i 0))) where
      test : (c : Bool) → b ≡ c → differs n ks ls i ≡ c
      test c e = rw (lt-ltb i n l) (sym is ∙ e)

      pub taking_hit : Taking ts t₀ t ks ls n i → b ≡ true → (t' : List ℕ) → length t' ≡ length t
          → ((L : Layout) (s : State) → Laid ts L → Stands i s → i < length s.tasks → t ≡ words L s → t' ≡ words L (leave i s))
          → Taking ts t₀ t' ks ls n (i + 1)
      taking_hit k e t' f out = record {
        inside = omega arith;
        long = f ∙ k.long;
        rest = λ L s y x m w. rw add-one
            (out L (taken_out (up_to (differs n ks ls) i) s) y (stands-out _ i s x (rw (le-ltb i i (omega arith)))) (unfold taken_out in omega arith) (k.rest L s y x m w)
            ∙ ap (words L) (leave-out (up_to (differs n ks ls) i) (up_to (differs n ks ls) (suc i)) i s (up_to_next (differs n ks ls) i (test true e))));
      }

      pub taking_miss : Taking ts t₀ t ks ls n i → b ≡ false → Taking ts t₀ t ks ls n (i + 1)
      taking_miss k e = record {
        inside = omega arith;
        long = k.long;
        rest = λ L s y x m w. rw add-one
            (k.rest L s y x m w ∙ ap (words L) (out_same _ (up_to (differs n ks ls) (suc i)) s (up_to_out (differs n ks ls) i (test false e))));
      }

      pub putting_hit : Putting ts t₀ t ks ls n i → b ≡ true → (t' : List ℕ) → length t' ≡ length t
          → ((L : Layout) (s : State) → Laid ts L → HubsUsed s → i < length s.tasks → t ≡ words L s → t' ≡ words L (rejoin (key_of ls) i s))
          → Putting ts t₀ t' ks ls n (i + 1)
      unfolding put_back
      putting_hit k e t' f back = record {
        inside = omega arith;
        long = f ∙ k.long;
        rest = λ L s y x m w.
            let s₁ : State = put_back (key_of ls) (differs n ks ls) i s in
            let kept : Kept s s₁ = kept_back (key_of ls) (differs n ks ls) i s in
            rw (add-one, test true e)
            (back L s₁ y (used-kept s s₁ kept x) (omega (arith, ap length kept.tasks)) (k.rest L s y x m w));
      }

      pub putting_miss : Putting ts t₀ t ks ls n i → b ≡ false → Putting ts t₀ t ks ls n (i + 1)
      unfolding put_back
      putting_miss k e = record {
        inside = omega arith;
        long = k.long;
        rest = λ L s y x m w. rw (add-one, test false e) (k.rest L s y x m w);
      }

-- ---- the whole, where the lists hold the keys

module _ (ks ls : List ℕ) (n : ℕ) (s s' : State) (many : n ≡ length s.tasks)
    (before : (j : ℕ) → get_or ks j 0 ≡ effective s j) (after : (j : ℕ) → get_or ls j 0 ≡ effective s' j) where
  differs-changed : differs n ks ls ≡ changed s s'
  differs-changed k j = ltb j (many k) && not (eqb (before j k) (after j k))

  pub reorder_none : ((j : ℕ) → differs n ks ls j ≡ false) → reordered s s' ≡ s'
  reorder_none e = nobody_still s s' (λ j. sym (λ k. differs-changed k j) ∙ e j)

  pub reorder_all : (t₀ t₁ t₂ : List ℕ) (ts : ℕ)
      → ((L : Layout) (s : State) → Laid ts L → Sound s → n ≤ length s.tasks → t₀ ≡ words L s → t₁ ≡ words L (taken_out (differs n ks ls) s))
      → ((L : Layout) (s : State) → Laid ts L → HubsUsed s → n ≤ length s.tasks → t₁ ≡ words L s → t₂ ≡ words L (put_back (key_of ls) (differs n ks ls) n s))
      → (L : Layout) → Laid ts L → Sound s' → n ≤ length s'.tasks → t₀ ≡ words L s' → t₂ ≡ words L (reordered s s')
  unfolding reordered
  reorder_all t₀ t₁ t₂ ts out back L y x few w =
      let key : key_of ls ≡ effective s' = λ k j. after j k in
      back L (taken_out (differs n ks ls) s') y (used-out _ s' x) (unfold taken_out in few) (out L s' y x few w)
      ∙ λ k. words L (put_back (key k) (differs-changed k) (many k) (taken_out (differs-changed k) s'))
