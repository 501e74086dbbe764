-- `lists::insert_at` meets its contract: `copy_within` moves the words, and past the end nothing changes. Assumes nothing.
use Prim.Native.Nat.{◌+◌, ◌-◌, suc}
use Rattle.lists.proofs.Laws.{insert_at-moved, insert_at-out}
use lib.ListN.{drop, drop_of_length-le, length, set, take}
use mathlib.Core.List.{[], ◌++◌, append-nil}
use mathlib.Core.Path.{◌∙◌, ◌≡◌, ap, sym}
use native.Mathlib.Numerals.{add-one}
use native.Mathlib.Omega.{arith}
use Rattle.lists.proofs.insert_at.Goals as goal

pub returns-then-at-n : goal.returns-then-at-n
returns-then-at-n c =
    let l = c.args.list.now in
    let at = c.args.at in
    let m = length l - 1 - at in
    let none : drop (at + 1 + m) l ≡ [] = drop_of_length-le l (omega (arith, c.if-at-n.true)) in
    let moved : c.copy_within.new.self ≡ take (suc at) l ++ take m (drop at l) =
    c.copy_within.ensures.after ∙ rw (none, add-one) (append-nil _)
    in
    ap (λ x. set x at c.args.v) moved ∙ insert_at-moved l at m c.args.v (omega (arith, c.if-at-n.true))

pub returns-else-at-n : goal.returns-else-at-n
returns-else-at-n c = sym (insert_at-out _ _ _ c.if-at-n.false)
