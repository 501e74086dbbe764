-- `records::entry` meets its contract: none, or the task one below. Assumes nothing.
use Prim.Native.Nat.{◌-◌, pred}
use Rattle.records.proofs.Laws.{first-none, first_some}
use mathlib.Core.Option.{some}
use mathlib.Core.Path.{◌∙◌, ◌≡◌, ap, sym}
use native.Mathlib.Omega.{arith}
use Rattle.records.proofs.entries.entry.Goals as goal

pub returns-then-word-eq0-clause-value : goal.returns-then-word-eq0-clause-value
returns-then-word-eq0-clause-value c = sym (first-none c.args.word c.if-word-eq0.true)

pub returns-else-word-eq0-clause-value : goal.returns-else-word-eq0-clause-value
returns-else-word-eq0-clause-value c =
    let one_less : c.args.word - 1 ≡ pred c.args.word = omega arith in
    ap some one_less ∙ sym (first_some c.args.word c.if-word-eq0.false)
