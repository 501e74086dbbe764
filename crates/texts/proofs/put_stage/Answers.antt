-- `texts::put_stage` meets its contract where two texts stand one behind the other. Assumes nothing.
use Rattle.std.proofs.Common.{rules}
use Rattle.texts.proofs.Putting.{wrote_append, wrote_as}
use Rattle.texts.specs.Cells.{stage_text}
use Rattle.texts.proofs.put_stage.Goals as goal

pub returns-in-3 : goal.returns-in-3
unfolding stage_text
returns-in-3 c = wrote_as (wrote_append c.put_waits.ensures c.put_ticks.ensures) (search rules)

pub returns-in_default : goal.returns-in_default
unfolding stage_text
returns-in_default c = wrote_as (wrote_append c.bytes-in_default.ensures c.put_ticks-in_default.ensures) (search rules)
