-- The number of words that the code takes a task record to have, by the table's length, is that of the edition which fits the length.
-- For whoever tests a table of either edition. Assumes nothing.
use Prim.Native.Nat.{ℕ}
use Rattle.lists.proofs.Laws.{bool_case}
use Rattle.records.specs.Records.{task_size_of}
use Rattle.rules.proofs.Layouts.{Laid, one_laid, two_laid}
use Rattle.rules.specs.Table.{edition_of, size, two}
use lib.Dec.{eqb}
use lib.ListN.{length}
use mathlib.Core.List.{List}
use mathlib.Core.Path.{◌≡◌}

pub edition_laid_of : (t : List ℕ) (ts : ℕ) → ts ≡ task_size_of (length t) → Laid ts (edition_of t)
unfolding edition_of
edition_laid_of t ts e = rw e (bool_case (eqb (length t) (size two)) (λ b. rw b two_laid) (λ b. rw b one_laid))
