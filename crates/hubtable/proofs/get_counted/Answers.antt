-- `hubtable::get_counted` meets its contract, each return by a row's tests. Assumes nothing.
use Prim.Native.Nat.{◌<◌}
use Rattle.hubtable.proofs.Rows.{counted_empty}
use Rattle.hubtable.specs.Says.{Below, StoreBelow, met_with, says, store_after}
use Rattle.rules.specs.HubTable.{get_semaphore}
use borrow.Author.Tests.{lt-ltb}
use mathlib.Core.Path.{◌∙◌}
use native.Mathlib.Numerals.{sub-one}
use native.Mathlib.Omega.{arith}
use Rattle.hubtable.proofs.get_counted.Goals as goal

pub returns-then-h-eq0 : goal.returns-then-h-eq0
unfolding Below says
returns-then-h-eq0 c = record { result_value = (λ x e. counted_empty _ x (omega arith)); by_index = λ b z. tt }

pub returns-in-Some : goal.returns-in-Some
unfolding StoreBelow get_semaphore met_with store_after
returns-in-Some c =
    record {
      result_value = (λ x e.
          let above : 0 < x.count = omega arith in
          c.pair.ensures.by_index x.held ∙ rw (c.in-Some.is, lt-ltb 0 x.count above, e.count));
      by_index = λ b z. c.pair.ensures.by_index_2 b tt z z;
    }

pub returns : goal.returns
unfolding StoreBelow get_semaphore store_after
returns c =
    record {
      result_value = (λ x e.
          let above : 0 < x.count = omega arith in
          c.alone.ensures.by_index x.held ∙ rw (c.in_default.is, lt-ltb 0 x.count above, e.count, sub-one));
      by_index = λ b z. c.alone.ensures.by_index_2 b tt z;
    }
