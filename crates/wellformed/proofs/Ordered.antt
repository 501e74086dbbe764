-- What is exact, and the order of its lists: all clauses of `well_formed_in` but one (`exact_in`), and that one (`in_order`).
-- What is exact is sound, so the keys that are asked for are effective priorities, and the order by them is that of the rules.
-- Not here: that the tests of the code are `exact_in` (Whole.antt). Assumes nothing.
use Prim.Native.Nat.{◌<◌, ◌≤◌, ℕ}
use Rattle.lists.proofs.Laws.{bool_case}
use Rattle.rules.proofs.Cases.{and_l, and_r}
use Rattle.rules.proofs.Layouts.{Laid, in_some}
use Rattle.rules.proofs.Tests.{t_hubs, t_lists, t_owners, t_records, t_waits}
use Rattle.rules.proofs.Valid.{Listed, Owners, Range, Records, Sound, Waits}
use Rattle.rules.proofs.Written.{read_fits, words-read, written-says}
use Rattle.rules.specs.Effective.{effective}
use Rattle.rules.specs.Table.{Layout, State, hub, kind_of, read, size, words}
use Rattle.rules.specs.WellFormed.{hubs_right, in_order, in_order_by, lists_exact, tasks_right, valid, waiters_right, well_formed_in, written}
use Rattle.wellformed.specs.Walks.{ExactTable, Formed, exact_in}
use lib.ListN.{get_or, length}
use mathlib.Core.Bool.{Bool, ◌&&◌, and-false, and-true, false, false≢true, true}
use mathlib.Core.List.{List}
use mathlib.Core.Path.{◌∙◌, ◌≡◌, sym}
use native.Mathlib.Omega.{arith}

-- ---- what the clauses of `exact_in` say

pub record Exact (L : Layout) (t : List ℕ) : Type 0 where
  pub wrote : written L t ≡ true
  pub records : Records (read L t)
  pub listed : Listed (read L t)
  pub waits : Waits (read L t)
  pub ranges : (h : ℕ) → h < length (read L t).hubs → Range (kind_of (hub (read L t) h).kind) (length (read L t).tasks) (hub (read L t) h)
  pub owners : Owners (read L t)

pub exact_says : (L : Layout) (t : List ℕ) → exact_in L t ≡ true → Exact L t
unfolding exact_in
exact_says L t e =
    let s = read L t in
    let e₁ = and_r (written L t) _ e in
    let e₂ = and_r (hubs_right s) _ e₁ in
    let e₃ = and_r (lists_exact s) _ e₂ in
    let e₄ = and_r (tasks_right s) _ e₃ in
    let r : Records s = (t_records s).yes (and_l _ _ e₃) in
    let l : Listed s = (t_lists s r).yes (and_l _ _ e₂) in
    record {
      wrote = and_l _ _ e;
      records = r;
      listed = l;
      waits = (t_waits s l).yes (and_l _ _ e₄);
      ranges = (t_hubs s).yes (and_l _ _ e₁);
      owners = (t_owners s).yes (and_r (waiters_right s) _ e₄);
    }

-- ---- so it is sound, and its words are those of its state

module _ (L : Layout) (t : List ℕ) (e : exact_in L t ≡ true) where
  pub exact_long : length t ≡ size L
  exact_long = (written-says L t (exact_says L t e).wrote).long

  pub exact_sound : Sound (read L t)
  exact_sound =
      let f = read_fits L t (exact_says L t e).wrote in
      record { tasks = f.tasks; hubs = f.hubs; listed = (exact_says L t e).listed }

  pub exact_words : {ts : ℕ} → Laid ts L → ((k : ℕ) → get_or t k 0 < 4294967296) → t ≡ words L (read L t)
  exact_words y low = words-read y t low (exact_says L t e).wrote

-- of a table that is exact, its length
pub exact_all : (ts : ℕ) (t : List ℕ) → 8 ≤ ts → ts ≤ 9 → ((L : Layout) → Laid ts L → exact_in L t ≡ true) → ExactTable ts t
exact_all ts t low high e = record {
  fits = in_some ts low high (λ L y. record { low = low; high = high; long = let n = exact_long L t (e L y) in omega arith });
  each = e;
}

-- ---- the order apart

parted : (L : Layout) (t : List ℕ) → well_formed_in L t ≡ (exact_in L t && in_order (read L t))
unfolding exact_in valid well_formed_in
parted L t =
    bool_case (in_order (read L t))
    (λ b. rw (b, and-true))
    (λ b. simp (b, and-false))

-- the same key of every number gives the same order
order_same : (s : State) (f g : ℕ → ℕ) → ((j : ℕ) → f j ≡ g j) → in_order_by f s ≡ in_order_by g s
order_same s f g e = λ i. in_order_by (λ j. e j i) s

pub formed_no : (L : Layout) (t : List ℕ) {ks : List ℕ} → exact_in L t ≡ false → Formed L t false ks
formed_no L t e = record { right = sym (parted L t ∙ rw e); long = λ f. absurd (false≢true f); keys = λ f. absurd (false≢true f) }

pub formed_by : (L : Layout) (t ks : List ℕ) (r : Bool) → exact_in L t ≡ true → length ks ≡ 16 → ((j : ℕ) → get_or ks j 0 ≡ effective (read L t) j) → r ≡ in_order_by (λ j. get_or ks j 0) (read L t) → Formed L t r ks
formed_by L t ks r e n k o = record {
  right = o ∙ order_same (read L t) (λ j. get_or ks j 0) (effective (read L t)) k ∙ sym (parted L t ∙ rw e);
  long = λ f. n;
  keys = λ f. k;
}
