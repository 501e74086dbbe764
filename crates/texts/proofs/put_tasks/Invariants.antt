-- `texts::put_tasks` meets its contract: the entries so far, and what is left of the list. Assumes nothing.
use Rattle.texts.proofs.Lists.{tasks_all, tasks_left}
use Rattle.texts.proofs.Putting.{Joining}
use Rattle.texts.proofs.put_tasks.Given as goal

abbrev pub invariant-loop-k : goal.invariant-loop-k
invariant-loop-k l = Joining l.initial.out l.out (tasks_left l.t l.from l.runs l.k) (tasks_all l.t l.from l.runs)
