-- `bodies::memory_right` meets its contract. Assumes nothing.
use Rattle.rules.proofs.Cases.{and_r}
use borrow.Author.Tests.{eq-eqb, leb-true, ne_eqb}
use lib.Dec.{leb}
use mathlib.Core.Bool.{and-false}
use mathlib.Core.Path.{◌∙◌}
use Rattle.bodies.proofs.memory_right.Goals as goal

pub marks_right-requires : goal.marks_right-requires
marks_right-requires c =
    let p = c.requires in
    let a = c.args in record { h_bound = p.h_bound; limit_bound = leb-true a.limit 8 (and_r (leb 1 a.limit) _ c.if-limit.true) }

pub returns-then-start-limit : goal.returns-then-start-limit
returns-then-start-limit c L y =
    let a = c.args in
    c.marks_right.ensures L y ∙ rw (c.if-limit.true, eq-eqb a.start a.limit c.if-start-limit.true)

pub returns-else-start-limit : goal.returns-else-start-limit
returns-else-start-limit c L y =
    let a = c.args in
    rw (ne_eqb a.start a.limit c.if-start-limit.false, and-false)

pub returns-else-limit : goal.returns-else-limit
returns-else-limit c L y = rw c.if-limit.false
