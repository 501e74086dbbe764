-- The sixteen keys. In order: own priorities up to one number, and one more (`Reading`); of these the ones below one number
-- replaced by effective priorities, and one more (`Filling`).
-- Not here: what an effective priority means (rules, Meaning.antt). Assumes nothing.
use Prim.Native.Nat.{◌+◌, ◌<◌, ◌≤◌, zero-le, ℕ}
use Rattle.inherit.proofs.Passing.{nobody_alone, own_alone}
use Rattle.inherit.proofs.Turns.{Every}
use Rattle.inherit.specs.Asked.{nobody_asked}
use Rattle.inherit.specs.Keyed.{Keyed, Owned}
use Rattle.inherit.specs.Linked.{Linked}
use Rattle.lists.proofs.Laws.{bool_case}
use Rattle.rules.proofs.Least.{none_urgent}
use Rattle.rules.specs.Effective.{effective, over_task}
use Rattle.rules.specs.Table.{task}
use Rattle.std.proofs.lemmas.List.{set-get_or}
use borrow.Author.Count.{below_more, below_none}
use borrow.Author.Tests.{ltb-false, ltb-true}
use lib.Dec.{ltb}
use lib.ListN.{get_or-eq_default, get_or, length, length-set, set}
use lib.Seq.{get_or-set_other, get_or-set_same}
use mathlib.Core.List.{List}
use mathlib.Core.Bool.{true}
use mathlib.Core.Path.{◌∙◌, ◌≡◌, ap, sym}
use native.Mathlib.Omega.{arith}

-- ---- own priorities, of the numbers below i

pub record Reading (ts : ℕ) (t ks : List ℕ) (i : ℕ) : Type 0 where
  pub inside : i ≤ 16
  pub long : length ks ≡ 16
  pub each : Every ts t (λ s. (j : ℕ) → j < i → get_or ks j 0 ≡ (task s j).priority)

module _ (ts : ℕ) (t ks : List ℕ) where
  pub reading_begin : length ks ≡ 16 → Reading ts t ks 0
  reading_begin n = record { inside = zero-le; long = n; each = λ L s y x w. below_none _ }

  module _ (i : ℕ) (f : Reading ts t ks i) where
    pub reading_step : i < 16 → (k : ℕ) → Every ts t (λ s. i < 16 → k ≡ (task s i).priority) → Reading ts t (set ks i k) (i + 1)
    reading_step l k found = record {
      inside = omega arith;
      long = length-set ks i k ∙ f.long;
      each = λ L s y x w. below_more (λ (j : ℕ). get_or (set ks i k) j 0 ≡ (task s j).priority) i
          (λ j h. get_or-set_other ks i j k 0 (λ e. omega arith) ∙ f.each L s y x w j h)
          (get_or-set_same ks i k 0 (omega (arith, f.long)) ∙ found L s y x w l);
    }

    pub reading_end : 16 ≤ i → Owned ts t ks
    reading_end l = record { long = f.long; each = λ L s y x w j h. f.each L s y x w j (omega arith) }

-- ---- effective priorities, of the numbers below i; the others have their own still

pub record Filling (ts : ℕ) (t ks : List ℕ) (i : ℕ) : Type 0 where
  pub inside : i ≤ 16
  pub long : length ks ≡ 16
  pub each : Every ts t (λ s. (j : ℕ) → j < i → get_or ks j 0 ≡ effective s j)
  pub rest : Every ts t (λ s. (j : ℕ) → i ≤ j → j < 16 → get_or ks j 0 ≡ (task s j).priority)

module _ (ts : ℕ) (t ks : List ℕ) where
  pub filling_begin : Owned ts t ks → Filling ts t ks 0
  filling_begin o = record { inside = zero-le; long = o.long; each = λ L s y x w. below_none _; rest = λ L s y x w j g h. o.each L s y x w j h }

  module _ (i : ℕ) (f : Filling ts t ks i) where
    pub filling_asked : i < 16 → (k : ℕ) → Every ts t (λ s. i < 16 → k ≡ over_task 16 s i (get_or ks i 0)) → Filling ts t (set ks i k) (i + 1)
    unfolding effective
    filling_asked l k found = record {
      inside = omega arith;
      long = length-set ks i k ∙ f.long;
      each = λ L s y x w. below_more (λ (j : ℕ). get_or (set ks i k) j 0 ≡ effective s j) i
          (λ j h. get_or-set_other ks i j k 0 (λ e. omega arith) ∙ f.each L s y x w j h)
          (get_or-set_same ks i k 0 (omega (arith, f.long)) ∙ found L s y x w l ∙ ap (over_task 16 s i) (f.rest L s y x w i (omega arith) l));
      rest = λ L s y x w j g h. get_or-set_other ks i j k 0 (λ e. omega arith) ∙ f.rest L s y x w j (omega arith) h;
    }

    -- who is asked nowhere keeps its own: its key is written back
    pub filling_none : i < 16 → (ls : List ℕ) → Linked ts t ls → 16 ≤ get_or ls i 0 → Filling ts t (set ks i (get_or ks i 0)) (i + 1)
    filling_none l ls k none = rw set-get_or record {
      inside = omega arith;
      long = f.long;
      each = λ L s y x w. below_more (λ (j : ℕ). get_or ks j 0 ≡ effective s j) i (f.each L s y x w)
          (f.rest L s y x w i (omega arith) l ∙ sym (own_alone s i x.hubs (rw ((k.each L s y x w).first i l) at none)));
      rest = λ L s y x w j g h. f.rest L s y x w j (omega arith) h;
    }

    -- a number above 15 is no task, and has 0
    pub filling_end : 16 ≤ i → Keyed ts t ks
    filling_end l = record {
      long = f.long;
      each = λ L s y x w j. bool_case (ltb j 16)
          (λ e. f.each L s y x w j (omega (arith, ltb-true j 16 e)))
          (λ e. let g = ltb-false j 16 e in get_or-eq_default ks 0 (omega (arith, f.long)) ∙ sym (none_urgent s j (omega (arith, x.tasks))));
    }

-- where nobody is asked, the own priorities are the keys
pub keyed_own : (ts : ℕ) (t ks : List ℕ) → Owned ts t ks → Every ts t (λ s. nobody_asked s ≡ true) → Keyed ts t ks
keyed_own ts t ks o nobody =
    let all : Filling ts t ks 16 = record {
      inside = omega arith;
      long = o.long;
      each = λ L s y x w j l. o.each L s y x w j l ∙ sym (nobody_alone s x.hubs (nobody L s y x w) j);
      rest = λ L s y x w j g l. absurd (omega arith);
    } in
    filling_end ts t ks 16 all (omega arith)
