-- A hub's list by its words; the lists of the hubs below h, with the marks so far; and all hubs.
-- Not here: the walk of a list (Turns.antt), a hub's record, store and owner (crate bodies). Assumes nothing.
use Prim.Native.Nat.{◌*◌, ◌+◌, ◌-◌, ◌<◌, ◌≤◌, suc, zero, zero-le, ℕ}
use Rattle.bodies.proofs.Entries.{entry_side}
use Rattle.bodies.proofs.Hubs.{hub_here}
use Rattle.bodies.proofs.Parts.{so_many}
use Rattle.bodies.proofs.Turns.{for_all_both, for_all-fail, for_all-none, for_all-step}
use Rattle.bodies.specs.Bodies.{Used, body_test, owner_of}
use Rattle.lists.proofs.Counting.{occ_most}
use Rattle.lists.proofs.Laws.{length-numbers}
use Rattle.lists.specs.Lists.{all_zero, numbers, occ}
use Rattle.rules.proofs.Layouts.{Laid}
use Rattle.rules.proofs.Reading.{read-hub, read-tasks}
use Rattle.rules.specs.Table.{Hub, Layout, hub, hub_at, hubs_at, read, wait_part, waits_at}
use Rattle.rules.specs.WellFormed.{for_all}
use Rattle.wellformed.proofs.Turns.{numbers_end}
use Rattle.wellformed.specs.Walks.{Marked, Marks, hub_right, may, met_at, queue_right, queue_test, waits_of, walks}
use borrow.Author.Tests.{eq-eqb, le-leb, lt-leb, ne_eqb}
use lib.ListN.{drop, get_or, length, length-take, take}
use mathlib.Core.Bool.{Bool, ◌&&◌, false, false≢true, true}
use mathlib.Core.List.{List}
use mathlib.Core.Path.{◌∙◌, ◌≡◌, ap, refl, sym}
use native.Mathlib.Nat.{add-zero}
use native.Mathlib.Numerals.{add-one}
use native.Mathlib.Omega.{arith}

-- ---- what a marking test gives back

module _ {test : Bool} {met : ℕ → ℕ} {m : List ℕ} where
  -- a test that failed
  marked_no : test ≡ false → Marked false test met m m
  marked_no e = record { right = sym e; long = refl; marks = λ f. absurd (false≢true f) }

  -- a test that met nobody
  marked-none : (r : Bool) → r ≡ test → ((j : ℕ) → met j ≡ 0) → Marked r test met m m
  marked-none r e z = record { right = e; long = refl; marks = λ f j. sym (add-zero (get_or m j 0)) ∙ rw (z j) }

  -- the same test, said otherwise
  marked_as : {other : Bool} {with : ℕ → ℕ} {r : Bool} {n : List ℕ} → other ≡ test → ((j : ℕ) → with j ≡ met j) → Marked r other with m n → Marked r test met m n
  marked_as e q w = record { right = w.right ∙ e; long = w.long; marks = λ f j. rw (q j) at (w.marks f j) }

module _ (L : Layout) (t : List ℕ) (h : ℕ) (u : h < get_or t 2 0) where
  pub wait-words : (hub (read L t) h).waiters ≡ numbers (wait_part L t h)
  unfolding hub_at
  wait-words = ap (λ (x : Hub). x.waiters) (read-hub L t h u)

  -- ---- its list, by the first word

  abbrev queue : List ℕ → Bool
  queue l = queue_right (read L t) h (hub (read L t) h) l

  module _ (l m : List ℕ) where
    abbrev first : ℕ
    first = get_or l 0 0

    pub queue_none : 0 < length l → first ≡ 0 → (r : Bool) → r ≡ all_zero l → Marked r (queue l) (λ j. occ j (numbers l)) m m
    unfolding occ queue_right
    queue_none n e r q = marked-none r (q ∙ rw (eq-eqb first 0 e)) (λ j. rw (numbers_end l 0 n e))

    module _ (some : first ≡ 0 → ⊥) where
      pub queue_far : get_or t 1 0 < first → Marked false (queue l) (λ j. occ j (numbers l)) m m
      unfolding queue_right
      queue_far f = marked_no (rw (ne_eqb first 0 some, read-tasks L t, lt-leb first (get_or t 1 0) f))

      -- the first entry's task has its record at word p
      module _ {ts : ℕ} (y : Laid ts L) (p : ℕ) (stands : p ≡ 8 + (first - 1) * ts) (b : ℕ) (at : b ≡ hubs_at L + h * 4) (near : first ≤ get_or t 1 0) where
        abbrev may_do : Bool
        may_do = may (get_or t (p + 5) 0) (get_or t b 0) (get_or t (b + 1) 0) (get_or t (b + 2) 0)

        queue_is : queue l ≡ (may_do && walks (read L t) (suc h) (get_or t (p + 5) 0) (owner_of (get_or t b 0) (get_or t (b + 1) 0)) l)
        unfolding queue_right
        queue_is =
            rw (
              ne_eqb first 0 some,
              read-tasks L t,
              le-leb first (get_or t 1 0) near,
              entry_side L y t first p some near stands,
              hub_here L t h u b at,
            )

        pub queue_barred : may_do ≡ false → Marked false (queue l) (λ j. occ j (numbers l)) m m
        queue_barred e = marked_no (queue_is ∙ rw e)

        pub queue_walked : may_do ≡ true → (owner : ℕ) → owner ≡ owner_of (get_or t b 0) (get_or t (b + 1) 0) → {r : Bool} {n : List ℕ} → Marked r (walks (read L t) (h + 1) (get_or t (p + 5) 0) owner l) (λ j. occ j (numbers l)) m n → Marked r (queue l) (λ j. occ j (numbers l)) m n
        queue_walked e owner q w = marked_as (rw (add-one, q) (sym (queue_is ∙ rw e))) (λ j. refl) w

  -- the list as the code lends it, from word a on, is the hub's
  pub queue_as : (a : ℕ) → a ≡ waits_at L + h * 16 → {m n : List ℕ} {r : Bool} → Marked r (queue (take (a + 16 - a) (drop a t))) (λ j. occ j (numbers (take (a + 16 - a) (drop a t)))) m n → Marked r (queue_test L t h) (waits_of L t h) m n
  unfolding queue_test
  queue_as a at w = marked_as (rw (so_many a 16 t, at)) (λ j. rw (so_many a 16 t, at, wait-words)) w

-- ---- the lists of the hubs below h, with the marks so far

pub record Passing (L : Layout) (t m₀ m : List ℕ) (h : ℕ) : Type 0 where
  pub inside : h ≤ get_or t 2 0
  pub long : length m ≡ length m₀
  pub right : for_all h (queue_test L t) ≡ true
  pub marks : (j : ℕ) → get_or m j 0 ≡ get_or m₀ j 0 + met_at (read L t) h j

module _ (L : Layout) (t m₀ : List ℕ) where
  abbrev queues : Bool
  queues = for_all (get_or t 2 0) (queue_test L t)

  abbrev met : ℕ → ℕ
  met = met_at (read L t) (get_or t 2 0)

  met_le : (h : ℕ) → h ≤ get_or t 2 0 → (j : ℕ) → met_at (read L t) h j ≤ h * 16
  unfolding met_at
  met_le zero u j = zero-le
  met_le (suc h) u j =
      let a : occ j (hub (read L t) h).waiters ≤ 16 = rw (wait-words L t h u) (omega (arith, occ_most j (numbers (wait_part L t h)), length-numbers (wait_part L t h), length-take 16 (drop (waits_at L + h * 16) t))) in
      omega (arith, met_le h (omega arith) j)

  pub passing_begin : Passing L t m₀ m₀ 0
  unfolding met_at
  passing_begin = record { inside = zero-le; long = refl; right = for_all-none (queue_test L t); marks = λ j. sym (add-zero (get_or m₀ j 0)) }

  module _ (m : List ℕ) (h : ℕ) (w : Passing L t m₀ m h) where
    pub passing_low : {ts : ℕ} → Used ts t → Marks 16 m₀ → h < get_or t 2 0 → Marks 256 m
    passing_low o ok u = record {
      long = w.long ∙ ok.long;
      low = λ j. omega (arith, w.marks j, ok.low j, met_le h w.inside j, o.hubs);
    }

    pub passing_end : get_or t 2 0 ≤ h → Marked true queues met m₀ m
    passing_end u =
        let q : h ≡ get_or t 2 0 = omega (arith, w.inside) in
        record {
          right = sym (rw q at w.right);
          long = w.long;
          marks = λ f j. rw q at (w.marks j);
        }

    module _ (u : h < get_or t 2 0) (r : Bool) (n : List ℕ) (g : Marked r (queue_test L t h) (λ j. occ j (hub (read L t) h).waiters) m n) where
      pub passing_no : r ≡ false → Marked false queues met m₀ n
      passing_no e = record {
        right = sym (for_all-fail (queue_test L t) (get_or t 2 0) h u (sym g.right ∙ e));
        long = g.long ∙ w.long;
        marks = λ f. absurd (false≢true f);
      }

      pub passing_step : r ≡ true → Passing L t m₀ n (h + 1)
      unfolding met_at
      passing_step e = record {
        inside = omega arith;
        long = g.long ∙ w.long;
        right = for_all-step (queue_test L t) h w.right (sym g.right ∙ e);
        marks = λ j. rw add-one (omega (arith, g.marks e j, w.marks j));
      }

-- ---- all hubs: what stands in their records and stores, and their lists

hubs_parts : (L : Layout) (t : List ℕ) → for_all (get_or t 2 0) (hub_right L t) ≡ (for_all (get_or t 2 0) (body_test L t) && for_all (get_or t 2 0) (queue_test L t))
unfolding hub_right
hubs_parts L t = for_all_both (body_test L t) (queue_test L t) (hub_right L t) (λ h. refl) (get_or t 2 0)

module _ (L : Layout) (t : List ℕ) {met : ℕ → ℕ} {m : List ℕ} where
  pub hubs_no : for_all (get_or t 2 0) (body_test L t) ≡ false → Marked false (for_all (get_or t 2 0) (hub_right L t)) met m m
  hubs_no e = marked_no (hubs_parts L t ∙ rw e)

  pub hubs_yes : for_all (get_or t 2 0) (body_test L t) ≡ true → {r : Bool} {n : List ℕ} → Marked r (for_all (get_or t 2 0) (queue_test L t)) met m n → Marked r (for_all (get_or t 2 0) (hub_right L t)) met m n
  hubs_yes e w = marked_as (sym (hubs_parts L t ∙ rw e)) (λ j. refl) w
