-- `inherit::list_rising` meets its contract. The loop has `Walking` for its invariant: the whole is rising if what is left is, from
-- the last key on. Assumes nothing.
use Rattle.inherit.proofs.Rising.{Walking}
use Rattle.inherit.proofs.list_rising.Given as goal

abbrev pub invariant-loop-e : goal.invariant-loop-e
invariant-loop-e l = Walking l.list l.keys l.last l.e-index
