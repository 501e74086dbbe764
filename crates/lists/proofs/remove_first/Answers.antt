-- `lists::remove_first` meets its contract: `copy_within` moves the words up, and `fill` writes the zeros. Assumes nothing.
use Prim.Native.Nat.{◌+◌, ◌-◌, ◌≤◌, ℕ}
use Rattle.lists.proofs.Laws.{remove_first-is}
use Rattle.std.proofs.lemmas.List.{length-take-le, take_at, take_rest}
use borrow.Rule.Slice.PartMut.{put_mid}
use lib.ListN.{drop, drop_of_length-le, length, length-drop, length-take, replicate, take}
use lib.Seq.{paste}
use mathlib.Core.List.{List, [], ◌++◌, append-nil}
use mathlib.Core.Path.{◌∙◌, ◌≡◌, sym}
use native.Mathlib.Omega.{arith}
use Rattle.lists.proofs.remove_first.Goals as goal

-- the words that stay, and then the zeros; nothing stands behind them
written : (l xs ys : List ℕ) (k n : ℕ) → k ≤ length l → xs ≡ paste l 0 (drop k l) (length l - k) → ys ≡ replicate n 0 → n ≡ k → length xs ≡ length l
    → put_mid (length l - k) (length xs - (length l - k)) xs ys ≡ drop k l ++ replicate k 0
written l xs ys k n h e z nk same =
    let m = length l - k in
    let stay : take m xs ≡ drop k l = rw e (take_at (take m (drop k l)) (drop (0 + m) l) m (length-take-le m (drop k l) (omega (arith, length-drop k l))) ∙ take_rest l k) in
    let none : drop (length xs - m) (drop m xs) ≡ [] = drop_of_length-le (drop m xs) {i = length xs - m} (omega (arith, length-drop m xs)) in
    rw (none, stay, z, nk, append-nil)

pub returns : goal.returns
returns c =
    let l = c.args.list.now in
    let k = c.min-n.result in
    let xs = c.copy_within.new.self in
    let n : length (take (length xs - (length l - k)) (drop (length l - k) xs)) ≡ k = simp (length-take, length-drop) (omega (arith, c.min-n.ensures, c.copy_within.ensures.len)) in
    written l xs c.fill.new.self k _ (omega (arith, c.min-n.ensures)) c.copy_within.ensures.after (c.fill.ensures.after (λ y e. e)) n c.copy_within.ensures.len
    ∙ sym (remove_first-is c.args.n k l c.min-n.ensures)
