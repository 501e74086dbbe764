-- The words of both tables, of either edition or none, are what is shown. Assumes nothing.
use Rattle.pairs.proofs.Laws.{rows-shown}
use lib.Seq.{length-take-le}
use mathlib.Core.Path.{sym}
use Rattle.pairs.proofs.hub_kernel_rows.Goals as goal

pub slice_bounds-show-end : goal.slice_bounds-show-end
slice_bounds-show-end c = sym (length-take-le _ _ c.table_words-n.ensures.room)

pub slice_bounds-show-end-2 : goal.slice_bounds-show-end-2
slice_bounds-show-end-2 c = sym (length-take-le _ _ c.table_words-m.ensures.room)

pub returns : goal.returns
returns c = rows-shown _ _ _ c.table_words-n.ensures c.table_words-m.ensures c.show.ensures c.from.ensures
