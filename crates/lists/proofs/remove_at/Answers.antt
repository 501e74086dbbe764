-- `lists::remove_at` meets its contract: `copy_within` moves the words up, and past the end nothing changes. Assumes nothing.
use Prim.Native.Nat.{◌+◌, ◌-◌, ◌<◌, suc, ℕ}
use Rattle.lists.proofs.Laws.{remove_at-moved, remove_at-out}
use Rattle.lists.specs.Lists.{remove_at}
use Rattle.std.proofs.lemmas.List.{drop_more, set_at, take_rest}
use Rattle.std.specs.List.{copy_within}
use lib.ListN.{drop, drop_of_length-le, get_or, length, length-append, length-drop, length-take, set, take}
use mathlib.Core.List.{List, [], ◌++◌, ◌∷◌}
use mathlib.Core.Path.{◌∙◌, ◌≡◌, ap, sym}
use native.Mathlib.Numerals.{add-one}
use native.Mathlib.Omega.{arith}
use Rattle.lists.proofs.remove_at.Goals as goal

moved : (l xs : List ℕ) (at : ℕ) → at < length l → xs ≡ take at l ++ take (length l - suc at) (drop (suc at) l) ++ drop (at + (length l - suc at)) l
    → set xs (length l - 1) 0 ≡ remove_at at l
moved l xs at h e =
    let last : at + (length l - suc at) ≡ length l - 1 = omega arith in
    let rest : take (length l - suc at) (drop (suc at) l) ≡ drop (suc at) l = take_rest l (suc at) in
    let end : drop (length l - 1) l ≡ get_or l (length l - 1) 0 ∷ [] =
    drop_more l (length l - 1) 0 (omega arith) ∙ ap {B = List ℕ} (λ r. get_or l (length l - 1) 0 ∷ r) (drop_of_length-le l (omega arith))
    in
    let n : length (take at l ++ drop (suc at) l) ≡ length l - 1 = simp (length-append, length-take, length-drop) (omega arith) in
    ap (λ x. set x (length l - 1) 0) (e ∙ rw (last, rest, end))
    ∙ set_at (take at l ++ drop (suc at) l) (get_or l (length l - 1) 0) [] 0 (length l - 1) n
    ∙ sym (remove_at-moved l at h)

pub returns-then-at-n : goal.returns-then-at-n
returns-then-at-n c =
    let l = c.args.list.now in
    let up : c.copy_within.new.self ≡ copy_within l (c.args.at + 1) (length l) c.args.at = c.copy_within.ensures.after in
    moved l c.copy_within.new.self c.args.at c.if-at-n.true (rw add-one at up)

pub returns-else-at-n : goal.returns-else-at-n
returns-else-at-n c = sym (remove_at-out _ _ c.if-at-n.false)
