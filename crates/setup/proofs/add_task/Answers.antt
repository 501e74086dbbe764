-- `setup::add_task` meets its contract: one more record behind those in use, and their number. Assumes nothing.
use Prim.Native.Nat.{ℕ}
use Rattle.records.specs.Records.{task_words}
use Rattle.rules.proofs.Layouts.{message-written, sized}
use Rattle.rules.proofs.Places.{add_task_lem, tasks-word}
use Rattle.rules.specs.Table.{inactive}
use lib.ListN.{get_or}
use mathlib.Core.List.{List}
use mathlib.Core.Path.{◌∙◌, ap}
use native.Mathlib.Numerals.{add-one}
use native.Mathlib.Omega.{arith}
use Rattle.setup.proofs.add_task.Goals as goal

pub returns : goal.returns
unfolding inactive task_words
returns c L s y h e =
    let p = c.requires.table in
    let number = ap (λ (l : List ℕ). get_or l 1 0) e ∙ tasks-word L s in
    rw (c.set_task.ensures, number, e, add-one, message-written y p.low p.high 0 (omega arith), y.size) (add_task_lem L (sized y) s _ h)
