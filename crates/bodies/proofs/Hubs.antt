-- A hub by its words: its record, its store and its owner, one after the other.
-- Not here: the marks of a Memory hub's blocks one by one (Blocks.antt), a hub's list (crate wellformed). Assumes nothing.
use Prim.Native.Nat.{◌*◌, ◌+◌, ◌-◌, ◌<◌, ◌≤◌, pred, suc, zero, ℕ}
use Rattle.bodies.proofs.Entries.{entry_state}
use Rattle.bodies.proofs.Parts.{so_many}
use Rattle.bodies.specs.Bodies.{kind_test, marks_of, marks_test, owner_of, owner_test, store_test}
use Rattle.lists.proofs.Laws.{bool_case}
use Rattle.lists.specs.Lists.{all_zero}
use Rattle.rules.proofs.Layouts.{Laid}
use Rattle.rules.proofs.Numbers.{resource-number}
use Rattle.rules.proofs.Reading.{read-hub, read-tasks}
use Rattle.rules.proofs.Room.{stored_le}
use Rattle.rules.proofs.Tests.{t_kind}
use Rattle.rules.specs.Table.{Hub, Kind, Layout, held_in, hub, hub_at, hubs_at, inactive, kind_of, read, store_part, store_size, stored, stores_at, task}
use Rattle.rules.specs.WellFormed.{kind_right, owner_right, store_right, within}
use borrow.Author.Tests.{ne_eqb}
use lib.Dec.{eqb, eqb-suc-zero}
use lib.ListN.{get_or-eq_default, drop, get_or, length, take}
use mathlib.Core.Bool.{◌&&◌, false, false≢true, not, true}
use mathlib.Core.List.{List, [], ◌∷◌}
use mathlib.Core.Path.{◌∙◌, ◌≡◌, refl, sym}
use native.Mathlib.Nat.{add-zero}
use native.Mathlib.Omega.{arith}

-- ---- a blank store is right at every kind

zero-drop : (k : ℕ) (l : List ℕ) → all_zero l ≡ true → all_zero (drop k l) ≡ true
unfolding all_zero
zero-drop zero l e = e
zero-drop (suc k) [] e = refl
zero-drop (suc k) (zero ∷ xs) e = zero-drop k xs e
zero-drop (suc k) (suc x ∷ xs) e = absurd (false≢true (rw (eqb-suc-zero x) at e))

pub store_part_lem : (L : Layout) (t : List ℕ) (h a n : ℕ) → a ≡ stores_at L + h * store_size L → n ≡ store_size L → all_zero (take (a + n - a) (drop a t)) ≡ all_zero (store_part L t h)
store_part_lem L t h a n place long = rw (so_many a n t, place, long)

pub store_none : (L : Layout) (t : List ℕ) (h : ℕ) → all_zero (store_part L t h) ≡ true → store_test L t h ≡ true
unfolding store_right store_test
store_none L t h e = let x = hub (read L t) h in zero-drop (stored (kind_of x.kind) x.count x.limit * L.width) (store_part L t h) e

-- ---- a hub by the words of its record, which starts at word b

module _ (L : Layout) (t : List ℕ) (h : ℕ) (u : h < get_or t 2 0) where
  module _ (b : ℕ) (at : b ≡ hubs_at L + h * 4) where
    -- what is read from these words, and the hub's list and store
    abbrev here : Hub
    here = record {
      kind = get_or t b 0;
      count = get_or t (b + 1) 0;
      limit = get_or t (b + 2) 0;
      start = get_or t (b + 3) 0;
      waiters = (hub_at L t h).waiters;
      held = (hub_at L t h).held;
    }

    pub hub_here : hub (read L t) h ≡ here
    unfolding hub_at
    hub_here = read-hub L t h u ∙ rw (at, add-zero)

    pub kind_arm : (n : ℕ) → get_or t b 0 ≡ n → kind_test L t h ≡ kind_right (kind_of n) (get_or t 1 0) here
    unfolding kind_test
    kind_arm n q = rw (hub_here, q)

    -- where it names kind k
    pub kind_as : (k : Kind) → k ≡ kind_of (get_or t b 0) → kind_test L t h ≡ kind_right k (get_or t 1 0) here
    kind_as k e = kind_arm (get_or t b 0) refl ∙ rw e

    -- ---- its store, which starts at word a

    -- how many messages it holds
    abbrev holds : ℕ
    holds = stored (kind_of (get_or t b 0)) (get_or t (b + 1) 0) (get_or t (b + 2) 0)

    pub held_fits : kind_test L t h ≡ true → holds ≤ 8
    held_fits a = stored_le (kind_of (get_or t b 0)) (get_or t 1 0) here ((t_kind (kind_of (get_or t b 0)) (get_or t 1 0) here).yes (sym (kind_arm (get_or t b 0) refl) ∙ a))

    pub store_as : (a n : ℕ) → a ≡ stores_at L + h * store_size L → n ≡ store_size L
        → store_test L t h ≡ all_zero (drop (holds * L.width) (take (a + n - a) (drop a t)))
    unfolding store_right store_test
    store_as a n place long = rw (so_many a n t, place, long, hub_here)

    -- ---- the marks of a Memory hub's blocks

    pub memory_arm : get_or t b 0 ≡ 7
        → kind_test L t h ≡ (within 1 8 (get_or t (b + 2) 0) && (eqb (get_or t (b + 3) 0) (get_or t (b + 2) 0) && marks_test L t h (get_or t (b + 1) 0) (get_or t (b + 2) 0)))
    unfolding held_in hub_at kind_of kind_right marks_test stored
    memory_arm q =
        let held : (hub_at L t h).held ≡ marks_of L t h (get_or t (b + 2) 0) = rw (← at) (rw (add-zero b, q) refl) in
        kind_arm 7 q ∙ rw held refl

    -- ---- its owner, plus 1, or 0: a Resource's count

    abbrev owner : ℕ
    owner = owner_of (get_or t b 0) (get_or t (b + 1) 0)

    pub owner-none : owner ≡ 0 → owner_test L t h ≡ true
    unfolding owner_right owner_test
    owner-none z =
        rw (hub_here, resource-number (get_or t b 0))
        (bool_case (eqb (get_or t b 0) 5) (λ e. let q : get_or t (b + 1) 0 ≡ 0 = rw e at z in rw (e, q)) (λ e. rw e))

    module _ (some : owner ≡ 0 → ⊥) where
      owner_is : (eqb (get_or t b 0) 5 ≡ true) × (owner ≡ get_or t (b + 1) 0)
      owner_is = bool_case (eqb (get_or t b 0) 5) (λ e. (e, rw e)) (λ e. absurd (some (rw e)))

      owner_as : owner_test L t h ≡ not (eqb (task (read L t) (pred owner)).state 1)
      unfolding owner_right owner_test
      owner_as =
          let q = owner_is in
          rw (hub_here, resource-number (get_or t b 0), q.0, ne_eqb (get_or t (b + 1) 0) 0 (λ z. some (q.1 ∙ z))) refl

      pub owner_far : get_or t 1 0 < owner → owner_test L t h ≡ false
      unfolding inactive
      owner_far f =
          let far : length (read L t).tasks ≤ pred owner = rw (read-tasks L t) (omega arith) in
          owner_as ∙ rw (get_or-eq_default (read L t).tasks (inactive 0) far)

      pub owner-reads : {ts : ℕ} → Laid ts L → (p : ℕ) → p ≡ 8 + (owner - 1) * ts → owner ≤ get_or t 1 0 → owner_test L t h ≡ not (eqb (get_or t (p + 0) 0) 1)
      owner-reads y p stands near = owner_as ∙ rw (entry_state L y t owner p some near stands, add-zero)
