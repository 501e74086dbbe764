-- `hubtable::on_get` meets its contract, kind by kind. Assumes nothing.
use Rattle.hubtable.proofs.Rows.{event_get}
use Rattle.hubtable.specs.Says.{Below, says}
use Rattle.rules.proofs.KindNumbers.{number_of}
use Rattle.rules.proofs.Valid.{Held, Range}
use Rattle.rules.specs.HubTable.{on_get}
use Rattle.rules.specs.Table.{Memory, kind_of, stored}
use mathlib.Core.Logic.{inl, inr}
use mathlib.Core.Path.{◌∙◌, ap, refl, sym}
use Rattle.hubtable.proofs.on_get.Goals as goal

pub returns-in_default : goal.returns-in_default
unfolding Below on_get says
returns-in_default c = record { result_value = (λ x s T e r held m its oldest. rw (← ap kind_of e.kind, ← c.in_default.ensures) refl); by_index = λ b z its oldest. tt }

pub returns-in-Event : goal.returns-in-Event
unfolding Range on_get
returns-in-Event c =
    record {
      result_value = (λ x s T e r held m its oldest.
          elim c.in-Event.is [
            | inl k ↦ (let is = ap kind_of (sym e.kind) ∙ sym (rw k at c.in-Some.ensures) in rw is (c.get_counted.ensures.result_value x e ∙ event_get _ x (rw is at r).0))
            | inr k ↦ (let is = ap kind_of (sym e.kind) ∙ sym (rw k at c.in-Some.ensures) in rw is (c.get_counted.ensures.result_value x e))
          ]);
      by_index = λ b z its oldest. c.get_counted.ensures.by_index b z;
    }

pub returns-in-Port : goal.returns-in-Port
unfolding on_get
returns-in-Port c = record { result_value = (λ x s T e r held m its oldest. rw (← ap kind_of e.kind, ← c.in-Some.ensures, c.in-Port.is) (c.get_port.ensures.result_value x s e its)); by_index = λ b z its oldest. c.get_port.ensures.by_index b z its }

pub returns-in-Fifo : goal.returns-in-Fifo
unfolding Held on_get stored
returns-in-Fifo c =
    record {
      result_value = (λ x s T e r held m its oldest.
          let is = ap kind_of (sym e.kind) ∙ sym (rw c.in-Fifo.is at c.in-Some.ensures) in
          rw is (c.get_fifo.ensures.result_value x s e (rw is at held) its oldest));
      by_index = c.get_fifo.ensures.by_index;
    }

pub returns-in-Resource : goal.returns-in-Resource
unfolding on_get
returns-in-Resource c = record { result_value = (λ x s T e r held m its oldest. rw (← ap kind_of e.kind, ← c.in-Some.ensures, c.in-Resource.is) (c.get_resource.ensures.result_value x e)); by_index = λ b z its oldest. c.get_resource.ensures.by_index b z }

pub returns-in-Board : goal.returns-in-Board
unfolding Held on_get stored
returns-in-Board c =
    record {
      result_value = (λ x s T e r held m its oldest.
          let is = ap kind_of (sym e.kind) ∙ sym (rw c.in-Board.is at c.in-Some.ensures) in
          rw is (c.get_board.ensures.result_value x e (rw is at held) oldest));
      by_index = λ b z its oldest. c.get_board.ensures.by_index b oldest;
    }

pub returns-in-Memory : goal.returns-in-Memory
unfolding Below says
returns-in-Memory c =
    record {
      result_value = (λ x s T e r held m its oldest. absurd (m (sym e.kind ∙ number_of Memory c.args.h.kind (rw c.in-Memory.is at c.in-Some.ensures) (λ z. cc))));
      by_index = λ b z its oldest. tt;
    }
