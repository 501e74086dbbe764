-- `hubtable::get_resource` meets its contract, each return by a row's tests. Assumes nothing.
use Rattle.hubtable.specs.Says.{Below, StoreBelow, says, store_after}
use Rattle.rules.specs.HubTable.{get_resource}
use borrow.Author.Tests.{ne_eqb}
use mathlib.Core.Path.{◌∙◌}
use native.Mathlib.Numerals.{add-one}
use Rattle.hubtable.proofs.get_resource.Goals as goal

pub returns-then-h-eq0 : goal.returns-then-h-eq0
unfolding StoreBelow get_resource store_after
returns-then-h-eq0 c = record { result_value = (λ x e. c.alone.ensures.by_index x.held ∙ rw (← e.count, c.if-h-eq0.true, add-one)); by_index = λ b z. c.alone.ensures.by_index_2 b tt z }

pub returns-then-owns : goal.returns-then-owns
unfolding Below get_resource says
returns-then-owns c = record { result_value = (λ x e. rw (← e.count, ne_eqb _ _ c.if-h-eq0.false, ← c.owns.ensures, c.if-owns.true)); by_index = λ b z. tt }

pub returns-else-owns : goal.returns-else-owns
unfolding Below get_resource says
returns-else-owns c = record { result_value = (λ x e. rw (← e.count, ne_eqb _ _ c.if-h-eq0.false, ← c.owns.ensures, c.if-owns.false)); by_index = λ b z. tt }
