-- The words that people read about a table, cell by cell. In order: a task (its state, its priority, its answer); a list of tasks; the
-- contents. The records are the table's (records/specs, `task_at`); the texts are for every number that may stand there, also those of
-- no well-formed table.
-- Not here: a hub's (crate hubtexts); which cells there are, and where their words stand (crate sidebyside).
use Rattle.std.specs.Prelude.{◌%◌, ◌/◌, pred, suc, ℕ, eqb, get_or, cond, List, [], ◌++◌, ◌∷◌}
use Rattle.lines.specs.Lines.{decimal}
use Rattle.records.specs.declared.TaskRecord.{TaskRecord}
use Rattle.texts.specs.Texts.{bytes}

-- ---- the state of a task

unfoldable pub ticks_text : ℕ → List ℕ
ticks_text n =
    cond (eqb n 0) (bytes ", no limit")
    (cond (eqb n 1) (bytes ", 1 tick left")
    (bytes ", " ++ decimal n ++ bytes " ticks left"))

-- a task's hub word is the hub's number plus 1; side 1 is put
unfoldable pub waits_text : ℕ → ℕ → List ℕ
waits_text hub side =
    cond (eqb side 1) (bytes "waits at hub " ++ decimal (pred hub) ++ bytes " to put")
    (bytes "waits at hub " ++ decimal (pred hub) ++ bytes " to get")

-- 1 inactive, 2 ready, 3 waiting at a hub, else sleeping
unfoldable pub stage_text : TaskRecord → List ℕ
stage_text x =
    cond (eqb x.state 1) (bytes "inactive")
    (cond (eqb x.state 2) (bytes "ready")
    (cond (eqb x.state 3) (waits_text x.hub x.side ++ ticks_text x.ticks)
    (bytes "sleeps" ++ ticks_text x.ticks)))

unfoldable pub state_text : TaskRecord → List ℕ
state_text x = stage_text x ++ cond (eqb x.suspended 0) [] (bytes ", suspended")

-- ---- the priority of a task: its own, and its effective priority (M-108) where that is another

unfoldable pub priority_text : ℕ → ℕ → List ℕ
priority_text own eff = decimal own ++ cond (eqb own eff) [] (bytes ", effective " ++ decimal eff)

-- ---- the answer of a task

-- a message by its low word, and its high word where that isn't 0
unfoldable pub message_text : ℕ → List ℕ
message_text m =
    cond (eqb (m / 4294967296) 0) (decimal (m % 4294967296))
    (decimal (m % 4294967296) ++ bytes " high " ++ decimal (m / 4294967296))

-- 0 none, 2 failed, 3 timed out, 1 met: with no word that is an OK
unfoldable pub outcome_text : ℕ → ℕ → List ℕ
outcome_text answer m =
    cond (eqb answer 0) (bytes "none")
    (cond (eqb answer 2) (bytes "failed")
    (cond (eqb answer 3) (bytes "timed out")
    (cond (eqb m 0) (bytes "OK") (bytes "met"))))

unfoldable pub answer_text : TaskRecord → List ℕ
answer_text x = outcome_text x.answer x.word ++ cond (eqb x.word 0) [] (bytes ", word " ++ message_text x.word)

-- ---- a list of tasks; `runs` is the running task plus 1, or 0

unfoldable pub task_text : ℕ → ℕ → List ℕ
task_text k i = cond (eqb k 0) (bytes "task " ++ decimal i) (bytes ", task " ++ decimal i)

-- entry k, from 0, and those from k on
unfoldable pub entry_text : ℕ → ℕ → ℕ → List ℕ
entry_text k runs i = task_text k i ++ cond (eqb (suc i) runs) (bytes " (runs)") []

unfoldable pub entries_from : ℕ → ℕ → List ℕ → List ℕ
entries_from k runs [] = []
entries_from k runs (i ∷ is) = entry_text k runs i ++ entries_from (suc k) runs is

unfoldable pub tasks_text : ℕ → List ℕ → List ℕ
tasks_text runs [] = bytes "nobody"
tasks_text runs (i ∷ is) = entries_from 0 runs (i ∷ is)

-- ---- the contents: the edition, T and H

unfoldable pub contents_text : List ℕ → List ℕ
contents_text t =
    bytes "edition " ++ decimal (get_or t 0 0) ++ bytes ", tasks: " ++ (decimal (get_or t 1 0) ++ bytes ", hubs: ") ++ decimal (get_or t 2 0)
