-- `hubtable::get_memory` meets its contract, each return by a row's tests. Assumes nothing.
use Prim.Native.Nat.{◌<◌}
use Rattle.hubtable.specs.Says.{Below, StoreBelow, says, store_after}
use Rattle.rules.specs.HubTable.{get_memory}
use borrow.Author.Tests.{lt-ltb}
use mathlib.Core.Path.{◌∙◌, sym}
use native.Mathlib.Numerals.{sub-one}
use native.Mathlib.Omega.{arith}
use Rattle.hubtable.proofs.get_memory.Goals as goal

pub returns-then-h-eq0 : goal.returns-then-h-eq0
unfolding Below get_memory says
returns-then-h-eq0 c = record { result_value = (λ x e w. rw (sym e.count ∙ c.if-h-eq0.true)); by_index = λ b w. tt }

pub returns : goal.returns
unfolding StoreBelow get_memory store_after
returns c =
    record {
      result_value = (λ x e w.
          let above : 0 < x.count = omega arith in
          c.alone.ensures.by_index x.held ∙ rw (lt-ltb 0 x.count above, e.count, w, sub-one));
      by_index = λ b w. c.alone.ensures.by_index_2 b tt w;
    }
