-- `moves::task_at` meets its contract. Assumes nothing.
use Rattle.moves.proofs.Laws.{record_read}
use Rattle.moves.specs.Moves.{task_of}
use mathlib.Core.Path.{◌∙◌, ap}
use Rattle.moves.proofs.task_at.Goals as goal

pub returns : goal.returns
returns c =
    let q = c.requires.table in
    record {
      low = c.task.ensures.low;
      value = λ L s y fits used e. ap task_of c.task.ensures.value ∙ rw e (record_read L s y fits _ used q.high q.low);
    }
