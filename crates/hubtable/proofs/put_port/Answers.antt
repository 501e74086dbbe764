-- `hubtable::put_port` meets its contract, each return by a row's tests. Assumes nothing.
use Rattle.hubtable.specs.Says.{Below, StoreBelow, met_with, says, store_after}
use Rattle.rules.specs.HubTable.{put_port}
use mathlib.Core.Path.{◌∙◌}
use Rattle.hubtable.proofs.put_port.Goals as goal

pub returns-in-Some : goal.returns-in-Some
unfolding StoreBelow met_with put_port store_after
returns-in-Some c = record { result_value = (λ x e. c.pair.ensures.by_index x.held ∙ rw (c.in-Some.is, e.count)); by_index = λ b z w. c.pair.ensures.by_index_2 b tt z w }

pub returns-in-None : goal.returns-in-None
unfolding Below put_port says
returns-in-None c = record { result_value = (λ x e. rw c.in-None.is); by_index = λ b z w. tt }
