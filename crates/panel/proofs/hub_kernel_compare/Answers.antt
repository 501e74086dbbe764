-- The words of both tables, of either edition or none, are what is compared. Assumes nothing.
use Rattle.panel.proofs.Laws.{compared}
use lib.Seq.{length-take-le}
use mathlib.Core.Path.{sym}
use Rattle.panel.proofs.hub_kernel_compare.Goals as goal

pub slice_bounds-compare-end : goal.slice_bounds-compare-end
slice_bounds-compare-end c = sym (length-take-le _ _ c.table_words-n.ensures.room)

pub slice_bounds-compare-end-2 : goal.slice_bounds-compare-end-2
slice_bounds-compare-end-2 c = sym (length-take-le _ _ c.table_words-m.ensures.room)

pub returns : goal.returns
returns c = compared _ _ _ c.table_words-n.ensures c.table_words-m.ensures c.compare.ensures c.from.ensures
