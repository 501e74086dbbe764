-- A Memory hub's marks (M-107): a block that is out, the lowest free block, and how many are free once one is taken or given back.
-- Not here: the hub table's laws (Verdicts.antt), and what a run says of blocks (crate history). Assumes nothing.
use Prim.Native.Nat.{◌<◌, ◌≤◌, pred, suc, ℕ}
use Rattle.lists.proofs.Counting.{first_in, first_is, occ_most, occ-set}
use Rattle.lists.proofs.Laws.{bool_case}
use Rattle.lists.specs.Lists.{bit, occ}
use Rattle.rules.proofs.Cases.{same_or}
use Rattle.rules.proofs.Valid.{Held, Range}
use Rattle.rules.specs.HubTable.{is_out, lowest_free}
use Rattle.rules.specs.Table.{Hub, Memory, stored}
use borrow.Author.Tests.{eqb-true, ltb-false, ltb-true}
use lib.Dec.{eqb, ltb}
use lib.ListN.{get_or-eq_default, get_or, length, length-set, set}
use lib.Seq.{get_or-set_other, get_or-set_same, set_out}
use mathlib.Core.Bool.{false, true}
use mathlib.Core.List.{List}
use mathlib.Core.Path.{◌≡◌, ap}
use native.Mathlib.Omega.{arith}

-- ---- a mark written

-- where every mark was 0 or 1, and the new one is, every mark is
pub mark_set : (l : List ℕ) (b m j : ℕ) → m ≤ 1 → get_or l j 0 ≤ 1 → get_or (set l b m) j 0 ≤ 1
mark_set l b m j low h =
    same_or j b
    (λ e. bool_case (ltb b (length l))
    (λ q. rw (e, get_or-set_same l b m 0 (ltb-true b _ q)) low)
    (λ q. rw (set_out l b m (ltb-false b _ q)) h))
    (λ n. rw (get_or-set_other l b j m 0 n) h)

-- ---- a block that is out

module _ (b : ℕ) (h : Hub) (o : is_out b h ≡ true) where
  pub out_mark : get_or h.held b 0 ≡ 1
  unfolding is_out
  out_mark = eqb-true _ 1 o

  pub out_in : b < length h.held
  out_in =
      bool_case (ltb b (length h.held)) (ltb-true b _)
      (λ q. absurd (omega (arith, out_mark, get_or-eq_default h.held 0 (ltb-false b (length h.held) q))))

  -- given back, one more is free
  pub back-free : h.count ≡ occ 0 h.held → suc h.count ≡ occ 0 (set h.held b 0)
  back-free e =
      let was : bit (eqb (get_or h.held b 0) 0) ≡ 0 = ap (λ (m : ℕ). bit (eqb m 0)) out_mark in
      omega (arith, e, was, occ-set 0 0 h.held b out_in)

-- where every block is free none is out
pub all-free : (h : Hub) (T b : ℕ) → Range Memory T h → Held Memory h → h.limit ≤ h.count → is_out b h ≡ false
unfolding Held Range stored
all-free h T b r e full =
    bool_case (is_out b h)
    (λ o. absurd (omega (arith, e, full, back-free b h o r.4, occ_most 0 (set h.held b 0), length-set h.held b 0)))
    (λ o. o)

-- ---- the lowest free block, where one is free

module _ (h : Hub) (e : h.count ≡ occ 0 h.held) (some-free : 0 < h.count) where
  pub lowest_in : lowest_free h < length h.held
  lowest_in = first_in 0 h.held (omega (arith, e))

  pub lowest_mark : get_or h.held (lowest_free h) 0 ≡ 0
  lowest_mark = first_is 0 h.held (omega (arith, e))

  -- taken, one less is free
  pub taken_free : pred h.count ≡ occ 0 (set h.held (lowest_free h) 1)
  taken_free =
      let was : bit (eqb (get_or h.held (lowest_free h) 0) 0) ≡ 1 = ap (λ (m : ℕ). bit (eqb m 0)) lowest_mark in
      omega (arith, e, was, occ-set 0 1 h.held (lowest_free h) lowest_in)
