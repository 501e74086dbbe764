-- `editions::set_tasks` meets its contract: the records so far are one run of stores. Assumes nothing.
use Rattle.editions.specs.Editions.{joined}
use Rattle.records.specs.Records.{task_at, task_words}
use lib.Seq.{sets}
use mathlib.Core.Path.{◌≡◌}
use Rattle.editions.proofs.set_tasks.Given as goal

abbrev pub invariant-loop-i : goal.invariant-loop-i
invariant-loop-i l = l.to ≡ sets l.initial.to 8 (joined l.i (λ j. task_words l.ts.words (task_at l.fs.words l.from j)))
