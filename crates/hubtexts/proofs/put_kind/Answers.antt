-- `hubtexts::put_kind` meets its contract where two texts stand one behind the other. Assumes nothing.
use Rattle.hubtexts.specs.Cells.{kind_text}
use Rattle.std.proofs.Common.{rules}
use Rattle.texts.proofs.Putting.{wrote_append, wrote_as}
use Rattle.hubtexts.proofs.put_kind.Goals as goal

pub returns-in-2 : goal.returns-in-2
unfolding kind_text
returns-in-2 c = wrote_as (wrote_append c.between.ensures c.number.ensures) (search rules)

pub returns-in_default : goal.returns-in_default
unfolding kind_text
returns-in_default c = wrote_as c.labelled-in_default.ensures (search rules)
