-- `sidebyside::show_in` meets its contract: the text has no room, or is copied. Assumes nothing.
use Prim.Native.Nat.{ℕ}
use Rattle.sidebyside.proofs.Ways.{held, refused_8, shown-all}
use lib.ListN.{length-replicate}
use mathlib.Core.Path.{refl}
use native.Mathlib.Omega.{arith}
use Rattle.sidebyside.proofs.show_in.Goals as goal

pub returns-then-text-end : goal.returns-then-text-end
returns-then-text-end c =
    let h = held c.rows_into-end.ensures (length-replicate {A = ℕ} 65536 0) c.requires in
    refused_8 _ _ _ _ _ refl refl (omega (arith, h.all, c.if-text-end.true))

pub returns : goal.returns
returns c =
    let h = held c.rows_into-end.ensures (length-replicate {A = ℕ} 65536 0) c.requires in
    rw (← c.count_marked.ensures, c.copy_from_slice.ensures.after, h.text) (shown-all _ _ c.args.text.now _ _ h.all (omega (arith, h.all, c.if-text-end.false)) refl)
