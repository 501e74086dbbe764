-- `setup::blank` meets its contract: zeros, and the contents. Assumes nothing.
use Rattle.setup.proofs.Zeros.{blank-words}
use lib.ListN.{length-set}
use native.Mathlib.Omega.{arith}
use Rattle.setup.proofs.blank.Goals as goal

pub bounds-t-3 : goal.bounds-t-3
bounds-t-3 c = simp length-set (omega arith)

pub bounds-t-4 : goal.bounds-t-4
bounds-t-4 c = simp length-set (omega arith)

pub bounds-t-5 : goal.bounds-t-5
bounds-t-5 c = simp length-set (omega arith)

pub bounds-t-6 : goal.bounds-t-6
bounds-t-6 c = simp length-set (omega arith)

pub bounds-t-7 : goal.bounds-t-7
bounds-t-7 c = simp length-set (omega arith)

pub returns : goal.returns
returns c =
    λ L y.
    blank-words y c.args.t.now _ c.requires (c.fill.ensures.after (λ y e. e)) _ _ _ _ _
    c.width_of.ensures c.hubs_at.ensures c.ready_at.ensures c.waits_at.ensures c.stores_at.ensures
