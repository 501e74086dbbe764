-- `hubtable::put_memory` meets its contract, each return by a row's tests. Assumes nothing.
use Rattle.hubtable.specs.Says.{Below, StoreBelow, met_with, says, store_after}
use Rattle.rules.proofs.Blocks.{all-free}
use Rattle.rules.specs.HubTable.{give_back, put_memory}
use mathlib.Core.Bool.{false≢true}
use mathlib.Core.Path.{◌∙◌, sym}
use native.Mathlib.Numerals.{add-one}
use native.Mathlib.Omega.{arith}
use Rattle.hubtable.proofs.put_memory.Goals as goal

pub returns-in-Some : goal.returns-in-Some
unfolding StoreBelow give_back met_with put_memory store_after
returns-in-Some c =
    record {
      result_value = (λ x T e r f o. c.pair.ensures.by_index x.held ∙ rw (sym o, c.if-out.true, c.in-Some.is, e.count));
      by_index = λ b z w. c.pair.ensures.by_index_2 b tt z w;
    }

pub returns-then-h : goal.returns-then-h
unfolding StoreBelow give_back put_memory store_after
returns-then-h c =
    record {
      result_value = (λ x T e r f o. c.alone.ensures.by_index x.held ∙ rw (sym o, c.if-out.true, c.in_default.is, e.count, add-one));
      by_index = λ b z w. c.alone.ensures.by_index_2 b tt z;
    }

-- where a block is out, not all are free
pub returns-else-h : goal.returns-else-h
unfolding Below says
returns-else-h c =
    record {
      result_value = (λ x T e r f o. absurd (false≢true (sym (all-free x T _ r f (omega (arith, e.count, e.limit, c.if-h.false))) ∙ (sym o ∙ c.if-out.true))));
      by_index = λ b z w. tt;
    }

pub returns-else-out : goal.returns-else-out
unfolding Below put_memory says
returns-else-out c = record { result_value = (λ x T e r f o. rw (sym o, c.if-out.false)); by_index = λ b z w. tt }
