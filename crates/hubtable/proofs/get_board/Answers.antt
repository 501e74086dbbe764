-- `hubtable::get_board` meets its contract, each return by a row's tests. Assumes nothing.
use Rattle.hubtable.proofs.Rows.{board_empty, board-written}
use Rattle.hubtable.specs.Says.{Below, StoreBelow, says, store_after}
use mathlib.Core.Path.{◌∙◌}
use native.Mathlib.Omega.{arith}
use Rattle.hubtable.proofs.get_board.Goals as goal

pub returns-then-h-eq0 : goal.returns-then-h-eq0
unfolding Below says
returns-then-h-eq0 c = record { result_value = (λ x e full w. board_empty x.held x (omega (arith, full, e.count, c.if-h-eq0.true))); by_index = λ b w. tt }

pub returns : goal.returns
unfolding StoreBelow store_after
returns c =
    record {
      result_value = (λ x e full w. c.alone.ensures.by_index x.held ∙ rw (e.count, w) (board-written x.held x (λ z. omega (arith, z, full, e.count, c.if-h-eq0.false))));
      by_index = λ b w. c.alone.ensures.by_index_2 b tt w;
    }
