-- `hubtable::get_port` meets its contract, each return by a row's tests. Assumes nothing.
use Rattle.hubtable.specs.Says.{Below, StoreBelow, met_with, says, store_after}
use Rattle.records.specs.Entries.{numbered}
use Rattle.rules.specs.HubTable.{get_port}
use mathlib.Core.Path.{◌∙◌, ap}
use Rattle.hubtable.proofs.get_port.Goals as goal

pub returns-in-Some : goal.returns-in-Some
unfolding StoreBelow get_port met_with store_after
returns-in-Some c =
    record {
      result_value = (λ x s e its. c.pair.ensures.by_index x.held ∙ rw (c.in-Some.is, e.count, its _ (ap numbered c.in-Some.is)));
      by_index = λ b z its. c.pair.ensures.by_index_2 b tt its z;
    }

pub returns-in-None : goal.returns-in-None
unfolding Below get_port says
returns-in-None c = record { result_value = (λ x s e its. rw c.in-None.is); by_index = λ b z its. tt }
