-- `lists::leave` meets its contract: `find` gives the first place of the entry, or that there is none to remove. Assumes nothing.
use Prim.Native.Nat.{◌+◌}
use Rattle.lists.proofs.Laws.{found_here, found_nowhere, remove_at-out}
use mathlib.Core.Path.{sym}
use native.Mathlib.Numerals.{add-one}
use Rattle.lists.proofs.leave.Goals as goal

pub returns-in-Some : goal.returns-in-Some
returns-in-Some c =
    let here = found_here (c.args.i + 1) c.args.list.now c.in-Some.k c.in-Some.ensures in
    rw (here, add-one) at c.remove_at.ensures

pub returns-in_default : goal.returns-in_default
returns-in_default c =
    let none = found_nowhere (c.args.i + 1) c.args.list.now c.in_default.ensures in
    sym (remove_at-out _ _ (rw add-one at none))
