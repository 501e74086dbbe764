-- `hubtable::on_put` meets its contract, kind by kind. Assumes nothing.
use Rattle.hubtable.proofs.Rows.{event-put}
use Rattle.hubtable.specs.Says.{Below, says}
use Rattle.rules.proofs.KindNumbers.{number_of}
use Rattle.rules.proofs.Valid.{Range}
use Rattle.rules.specs.HubTable.{on_put}
use Rattle.rules.specs.Table.{Board, Memory, kind_of}
use mathlib.Core.Logic.{inl, inr}
use mathlib.Core.Path.{◌∙◌, ap, refl, sym}
use Rattle.hubtable.proofs.on_put.Goals as goal

pub returns-in_default : goal.returns-in_default
unfolding Below on_put says
returns-in_default c = record { result_value = (λ x s T e r b m low. rw (← ap kind_of e.kind, ← c.in_default.ensures) refl); by_index = λ b z w. tt }

pub returns-in-Event : goal.returns-in-Event
unfolding Range on_put
returns-in-Event c =
    record {
      result_value = (λ x s T e r b m low.
          elim c.in-Event.is [
            | inl k ↦ (let is = ap kind_of (sym e.kind) ∙ sym (rw k at c.in-Some.ensures) in rw is (c.put_counted.ensures.result_value x e ∙ event-put _ x (rw is at r).0 (rw is at r).1))
            | inr k ↦ (let is = ap kind_of (sym e.kind) ∙ sym (rw k at c.in-Some.ensures) in rw is (c.put_counted.ensures.result_value x e))
          ]);
      by_index = λ b z w. c.put_counted.ensures.by_index b z;
    }

pub returns-in-Port : goal.returns-in-Port
unfolding on_put
returns-in-Port c = record { result_value = (λ x s T e r b m low. rw (← ap kind_of e.kind, ← c.in-Some.ensures, c.in-Port.is) (c.put_port.ensures.result_value x e)); by_index = c.put_port.ensures.by_index }

pub returns-in-Fifo : goal.returns-in-Fifo
unfolding on_put
returns-in-Fifo c = record { result_value = (λ x s T e r b m low. rw (← ap kind_of e.kind, ← c.in-Some.ensures, c.in-Fifo.is) (c.put_fifo.ensures.result_value x e)); by_index = c.put_fifo.ensures.by_index }

pub returns-in-Resource : goal.returns-in-Resource
unfolding on_put
returns-in-Resource c = record { result_value = (λ x s T e r b m low. rw (← ap kind_of e.kind, ← c.in-Some.ensures, c.in-Resource.is) (c.put_resource.ensures.result_value x e low)); by_index = λ b z w. c.put_resource.ensures.by_index b z }

pub returns-in-Board : goal.returns-in-Board
unfolding Below says
returns-in-Board c =
    record {
      result_value = (λ x s T e r b m low.
          elim c.in-Board.is [
            | inl k ↦ absurd (b (sym e.kind ∙ number_of Board c.args.h.kind (rw k at c.in-Some.ensures) (λ z. cc)))
            | inr k ↦ absurd (m (sym e.kind ∙ number_of Memory c.args.h.kind (rw k at c.in-Some.ensures) (λ z. cc)))
          ]);
      by_index = λ b z w. tt;
    }
