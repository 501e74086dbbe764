-- `texts::put_tasks` meets its contract: the entries so far, and what is left of the list. Assumes nothing.
use Rattle.texts.proofs.Lists.{tasks_begin, tasks_end, tasks_nobody, tasks-stop, tasks_turn}
use Rattle.texts.proofs.Putting.{joining_begin, joining_end, joining_turn, wrote_as}
use mathlib.Core.Path.{◌∙◌, refl, sym}
use Rattle.texts.proofs.put_tasks.Goals as goal

pub returns-then-word-eq0 : goal.returns-then-word-eq0
returns-then-word-eq0 c = wrote_as c.bytes.ensures (tasks_nobody c.args.t.now c.args.from c.args.runs (sym c.word.ensures ∙ c.if-word-eq0.true))

pub loop-k-init : goal.loop-k-init
loop-k-init c = rw (tasks_begin c.args.t.now c.args.from c.args.runs (λ e. c.if-word-eq0.false (c.word.ensures ∙ e))) (joining_begin _ _)

pub returns-then-entry-eq0 : goal.returns-then-entry-eq0
returns-then-entry-eq0 c = joining_end c.loop-k.invariant (tasks-stop c.args.t.now c.args.from c.args.runs c.loop-k.k (sym c.word-entry.ensures ∙ c.if-entry-eq0.true))

pub loop-k-preserved : goal.loop-k-preserved
loop-k-preserved c = joining_turn c.loop-k.invariant c.put_entry.ensures (tasks_turn c.args.t.now c.args.from c.args.runs c.loop-k.k c.loop-k-test.true (λ e. c.if-entry-eq0.false (c.word-entry.ensures ∙ e)) ∙ rw (← c.word-entry.ensures) refl)

pub returns : goal.returns
returns c = joining_end c.loop-k.invariant (tasks_end c.args.t.now c.args.from c.args.runs c.loop-k.k c.loop-k-test.false)
