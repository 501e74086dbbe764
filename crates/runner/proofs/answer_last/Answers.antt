-- `runner::answer_last` meets its contract: no line where no byte of it is read.
use Rattle.runner.proofs.Runs.{last_none}
use mathlib.Core.Path.{◌∙◌, sym}
use native.Mathlib.Omega.{arith}
use Rattle.runner.proofs.answer_last.Goals as goal

pub returns-then-fresh : goal.returns-then-fresh
returns-then-fresh c = last_none c.args.t.now c.args.out.now c.args.at c.args.scan (omega (arith, c.requires)) (sym c.fresh.ensures ∙ c.if-fresh.true)
