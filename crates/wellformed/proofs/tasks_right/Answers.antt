-- `wellformed::tasks_right` meets its contract: a test of all tasks in use. Assumes nothing.
use Prim.Native.Nat.{◌<◌, ℕ}
use Rattle.rules.proofs.Tests.{every_number}
use Rattle.rules.specs.Table.{Layout, read}
use Rattle.std.proofs.Common.{rules}
use Rattle.std.proofs.lemmas.Iterator.{YieldsList-from_range, cases_from_all}
use Rattle.wellformed.proofs.Turns.{record_task}
use Rattle.wellformed.specs.Walks.{task_right}
use borrow.Author.Tests.{tests}
use lib.ListN.{get_or}
use mathlib.Core.Bool.{Bool, false, true}
use mathlib.Core.List.{List}
use mathlib.Core.Path.{◌≡◌}
use native.Mathlib.Omega.{arith}
use Rattle.wellformed.proofs.tasks_right.Goals as goal

abbrev passes : Layout → List ℕ → List ℕ → ℕ → Bool
passes L t marks i = task_right (read L t) i (get_or marks i 0)

pub returns : goal.returns
returns c L y =
    let n = get_or c.args.t.now.words.now 1 0 in
    every_number (passes L c.args.t.now.words.now c.args.marks.now) n c.all.result
    (cases_from_all _ _ _ (λ i. i < n → passes L c.args.t.now.words.now c.args.marks.now i ≡ true) (λ i. i < n → passes L c.args.t.now.words.now c.args.marks.now i ≡ false) c.all.ensures.ran
    (YieldsList-from_range 0 n n (cc) (omega arith)) (λ i q k. search (rules, tests, record_task L y c.args.t.now.words.now i)) (λ i q k. search (rules, tests, record_task L y c.args.t.now.words.now i)))
