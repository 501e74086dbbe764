-- What a row of two tables side by side says. In order: its cell of a table; its title; its mark.
-- Not here: which rows there are, and which are marked (crate rows); the line (crate sidebyside).
-- `ts` is how many words a task record has, `runs` the running task plus 1, or 0.
use Rattle.std.specs.Prelude.{◌*◌, ◌+◌, ℕ, Bool, cond, List, ◌++◌}
use Rattle.hubtexts.specs.Cells.{holds_text, kind_text}
use Rattle.lines.specs.Lines.{decimal}
use Rattle.lists.specs.Lists.{numbers}
use Rattle.records.specs.Records.{hub_at, hubs_at, ready_at, store_size, stores_at, task_at, waits_at, width}
use Rattle.rows.specs.Rows.{used}
use Rattle.rows.specs.declared.Row.TheVariants.{Answer, Contents, Holds, Kind, Priority, ReadyList, State, Waiting}
use Rattle.rows.specs.declared.Row.{Row}
use Rattle.rules.specs.Effective.{effective}
use Rattle.rules.specs.Table.{part, state_of}
use Rattle.texts.specs.Cells.{answer_text, contents_text, priority_text, state_text, tasks_text}
use Rattle.texts.specs.Texts.{bytes}

-- ---- a cell

unfoldable pub used_text : ℕ → List ℕ → ℕ → Row → List ℕ
used_text ts t runs Contents = contents_text t
used_text ts t runs ReadyList = tasks_text runs (numbers (part (ready_at ts) 16 t))
used_text ts t runs (State i) = state_text (task_at ts t i)
used_text ts t runs (Priority i) = priority_text (task_at ts t i).priority (effective (state_of t) i)
used_text ts t runs (Answer i) = answer_text (task_at ts t i)
used_text ts t runs (Kind h) = kind_text (hub_at (hubs_at ts) t h)
used_text ts t runs (Holds h) = holds_text (width ts) t (stores_at ts + h * store_size ts) (hub_at (hubs_at ts) t h)
used_text ts t runs (Waiting h) = tasks_text 0 (numbers (part (waits_at ts + h * 16) 16 t))

unfoldable pub cell : ℕ → List ℕ → ℕ → Row → List ℕ
cell ts t runs r = cond (used t r) (used_text ts t runs r) (bytes "not in use")

-- ---- the title, a line's subject and what; and the mark

unfoldable pub title : Row → List ℕ
title Contents = bytes "table\tcontents\t"
title ReadyList = bytes "table\tready list\t"
title (State i) = bytes "task " ++ decimal i ++ bytes "\tstate\t"
title (Priority i) = bytes "task " ++ decimal i ++ bytes "\tpriority\t"
title (Answer i) = bytes "task " ++ decimal i ++ bytes "\tanswer\t"
title (Kind h) = bytes "hub " ++ decimal h ++ bytes "\tkind\t"
title (Holds h) = bytes "hub " ++ decimal h ++ bytes "\tholds\t"
title (Waiting h) = bytes "hub " ++ decimal h ++ bytes "\twaiting\t"

unfoldable pub mark_text : Bool → List ℕ
mark_text m = cond m (bytes "!\t") (bytes "=\t")
