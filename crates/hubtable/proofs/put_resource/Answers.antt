-- `hubtable::put_resource` meets its contract, each return by a row's tests. Assumes nothing.
use Rattle.hubtable.specs.Says.{Below, StoreBelow, met_with, says, store_after}
use Rattle.rules.specs.HubTable.{pass, put_resource}
use mathlib.Core.Path.{◌∙◌}
use Rattle.hubtable.proofs.put_resource.Goals as goal

pub returns-in-Some : goal.returns-in-Some
unfolding StoreBelow met_with pass put_resource store_after
returns-in-Some c =
    record {
      result_value = (λ x e low.
          c.pair.ensures.by_index x.held
          ∙ rw (← e.count, ← c.owns.ensures, c.if-owns.true, c.in-Some.is, c.entry_of.ensures (rw c.in-Some.is at low)));
      by_index = λ b z. c.pair.ensures.by_index_2 b tt z z;
    }

pub returns-then-owns : goal.returns-then-owns
unfolding StoreBelow pass put_resource store_after
returns-then-owns c =
    record {
      result_value = (λ x e low.
          c.alone.ensures.by_index x.held
          ∙ rw (← e.count, ← c.owns.ensures, c.if-owns.true, c.in_default.is));
      by_index = λ b z. c.alone.ensures.by_index_2 b tt z;
    }

pub returns : goal.returns
unfolding Below put_resource says
returns c = record { result_value = (λ x e low. rw (← e.count, ← c.owns.ensures, c.if-owns.false)); by_index = λ b z. tt }
