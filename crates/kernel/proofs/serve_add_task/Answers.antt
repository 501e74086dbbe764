-- `kernel::serve_add_task` meets its contract. Assumes nothing.
use Rattle.rules.specs.Calls.{serve}
use borrow.Author.Tests.{eq-eqb, ne_eqb}
use mathlib.Core.Path.{◌∙◌, refl}
use Rattle.kernel.proofs.serve_add_task.Goals as goal

pub returns-then-c-eq1 : goal.returns-then-c-eq1
unfolding serve
returns-then-c-eq1 c =
    λ L s y room e.
    c.add_started.ensures L s y room e ∙ rw (eq-eqb _ 1 c.if-c-eq1.true) refl

pub returns-else-c-eq1 : goal.returns-else-c-eq1
unfolding serve
returns-else-c-eq1 c =
    λ L s y room e.
    c.add_task.ensures L s y room e ∙ rw (ne_eqb _ 1 c.if-c-eq1.false) refl
