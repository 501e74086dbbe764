-- `comparer::put_entry` meets its contract: four texts, one behind the other. Assumes nothing.
use Rattle.comparer.proofs.Laws.{entry_line}
use Rattle.texts.proofs.Putting.{wrote_append, wrote_as}
use Rattle.comparer.proofs.put_entry.Goals as goal

pub returns : goal.returns
returns c = wrote_as (wrote_append (wrote_append (wrote_append c.number.ensures c.between.ensures) c.number-2.ensures) c.byte.ensures) (entry_line c.args.place c.args.old c.args.new)
