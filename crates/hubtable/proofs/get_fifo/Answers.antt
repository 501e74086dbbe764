-- `hubtable::get_fifo` meets its contract: not now where nothing is held, else as the words held and the waiter say. Assumes nothing.
use Rattle.hubtable.proofs.Rows.{fifo-alone, fifo_empty, fifo-pair}
use Rattle.hubtable.specs.Says.{Below, StoreBelow, says, store_after}
use Rattle.records.specs.Entries.{numbered}
use mathlib.Core.Path.{◌∙◌, ap}
use native.Mathlib.Numerals.{sub-one}
use native.Mathlib.Omega.{arith}
use Rattle.hubtable.proofs.get_fifo.Goals as goal

pub returns-then-h-eq0 : goal.returns-then-h-eq0
unfolding Below says
returns-then-h-eq0 c = record { result_value = (λ x s e full its oldest. fifo_empty s x.held _ x (omega arith)); by_index = λ b z its oldest. tt }

pub returns-in-Some : goal.returns-in-Some
unfolding StoreBelow store_after
returns-in-Some c =
    record {
      result_value = (λ x s e full its oldest.
          c.pair.ensures.by_index x.held
          ∙ rw
          (c.in-Some.is, e.count, its _ (ap numbered c.in-Some.is), oldest)
          (fifo-pair s x.held _ x (λ z. omega arith)));
      by_index = λ b z its oldest. c.pair.ensures.by_index_2 b its oldest z;
    }

pub returns : goal.returns
unfolding StoreBelow store_after
returns c =
    record {
      result_value = (λ x s e full its oldest.
          c.alone.ensures.by_index x.held
          ∙ rw
          (c.in_default.is, e.count, oldest, sub-one)
          (fifo-alone s x.held x (λ z. omega arith)));
      by_index = λ b z its oldest. c.alone.ensures.by_index_2 b tt oldest;
    }
