-- `hubtable::put_fifo` meets its contract, each return by a row's tests. Assumes nothing.
use Rattle.hubtable.specs.Says.{Below, StoreBelow, met_with, says, store_after}
use Rattle.rules.specs.HubTable.{put_fifo}
use borrow.Author.Tests.{le-ltb, lt-ltb}
use mathlib.Core.Path.{◌∙◌}
use native.Mathlib.Numerals.{add-one}
use Rattle.hubtable.proofs.put_fifo.Goals as goal

pub returns-in-Some : goal.returns-in-Some
unfolding StoreBelow met_with put_fifo store_after
returns-in-Some c = record { result_value = (λ x e. c.pair.ensures.by_index x.held ∙ rw (c.in-Some.is, e.count)); by_index = λ b z w. c.pair.ensures.by_index_2 b tt z w }

pub returns-then-h : goal.returns-then-h
unfolding Below put_fifo says
returns-then-h c =
    record {
      result_value = (λ x e.
          rw (c.in_default.is, ← e.count, ← e.limit, le-ltb _ _ c.if-h.true));
      by_index = λ b z w. tt;
    }

pub returns : goal.returns
unfolding StoreBelow put_fifo store_after
returns c =
    record {
      result_value = (λ x e.
          c.alone.ensures.by_index x.held
          ∙ rw (
            c.in_default.is,
            ← e.count,
            ← e.limit,
            lt-ltb _ _ c.if-h.false,
            add-one,
          ));
      by_index = λ b z w. c.alone.ensures.by_index_2 b w z;
    }
