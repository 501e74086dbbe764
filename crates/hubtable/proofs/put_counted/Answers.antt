-- `hubtable::put_counted` meets its contract, each return by a row's tests. Assumes nothing.
use Rattle.hubtable.specs.Says.{Below, StoreBelow, met_with, says, store_after}
use Rattle.rules.specs.HubTable.{put_semaphore}
use borrow.Author.Tests.{le-ltb, lt-ltb}
use mathlib.Core.Path.{◌∙◌}
use native.Mathlib.Numerals.{add-one}
use Rattle.hubtable.proofs.put_counted.Goals as goal

pub returns-in-Some : goal.returns-in-Some
unfolding StoreBelow met_with put_semaphore store_after
returns-in-Some c = record { result_value = (λ x e. c.pair.ensures.by_index x.held ∙ rw (c.in-Some.is, e.count)); by_index = λ b z. c.pair.ensures.by_index_2 b tt z z }

pub returns-then-h : goal.returns-then-h
unfolding StoreBelow put_semaphore store_after
returns-then-h c =
    record {
      result_value = (λ x e.
          c.alone.ensures.by_index x.held
          ∙ rw (
            c.in_default.is,
            ← e.count,
            ← e.limit,
            lt-ltb _ _ c.if-h.true,
            add-one,
          ));
      by_index = λ b z. c.alone.ensures.by_index_2 b tt z;
    }

pub returns : goal.returns
unfolding Below put_semaphore says
returns c =
    record {
      result_value = (λ x e.
          rw (c.in_default.is, ← e.count, ← e.limit, le-ltb _ _ c.if-h.false));
      by_index = λ b z. tt;
    }
