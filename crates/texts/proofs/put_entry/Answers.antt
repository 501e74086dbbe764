-- `texts::put_entry` meets its contract: the one that runs, and any other. Assumes nothing.
use Prim.Native.Nat.{pred, suc}
use Rattle.texts.proofs.Putting.{wrote_append}
use Rattle.texts.specs.Cells.{entry_text}
use borrow.Author.Tests.{eq-eqb, ne_eqb}
use mathlib.Core.List.{append-nil}
use mathlib.Core.Path.{◌≡◌}
use native.Mathlib.Omega.{arith}
use Rattle.texts.proofs.put_entry.Goals as goal

pub returns-then-entry-runs : goal.returns-then-entry-runs
unfolding entry_text
returns-then-entry-runs c = let e : suc (pred c.args.entry) ≡ c.args.runs = omega arith in rw (eq-eqb _ _ e, ← c.named.ensures) (wrote_append c.put_task.ensures c.bytes.ensures)

pub returns-else-entry-runs : goal.returns-else-entry-runs
unfolding entry_text
returns-else-entry-runs c = let d : suc (pred c.args.entry) ≡ c.args.runs → ⊥ = λ e. c.if-entry-runs.false (omega arith) in rw (ne_eqb _ _ d, ← c.named.ensures, append-nil) c.put_task.ensures
