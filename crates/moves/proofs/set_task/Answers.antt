-- `moves::set_task` meets its contract. Assumes nothing.
use Rattle.moves.proofs.Laws.{record_written}
use mathlib.Core.Path.{◌∙◌}
use Rattle.moves.proofs.set_task.Goals as goal

pub returns : goal.returns
returns c =
    λ L s y fits used e.
    let p = c.requires in
    c.set_task.ensures ∙ rw e (record_written L s y fits _ used p.table.high p.table.low _ p.word_bound)
