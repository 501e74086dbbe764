-- Four ways out: a source of another length, a destination of another length, a move that is refused, and one that is done. Assumes
-- nothing.
use Rattle.panel.proofs.Laws.{moved_done, moved_refused, moved-room, moved_source}
use Rattle.rules.proofs.Coded.{code-some}
use Rattle.rules.specs.Editions.{moved_down, down_refusal}
use Rattle.rules.specs.Table.{one, size, two}
use mathlib.Core.Path.{refl}
use Rattle.panel.proofs.hub_kernel_move_down.Goals as goal

pub returns-then-from-ne-BYTES_TWO : goal.returns-then-from-ne-BYTES_TWO
returns-then-from-ne-BYTES_TWO c = rw c.number.ensures (moved_source two one (λ w. down_refusal w (size one)) moved_down _ _ c.if-from-ne-BYTES_TWO.true)

pub returns-then-to-ne-BYTES : goal.returns-then-to-ne-BYTES
returns-then-to-ne-BYTES c = rw c.number-then-to-ne-BYTES.ensures (moved-room two one (λ w. down_refusal w (size one)) moved_down _ _ c.if-to-ne-BYTES.true)

pub returns-in-Err : goal.returns-in-Err
returns-in-Err c =
    rw c.number-in-Err.ensures
    (moved_refused two one (λ w. down_refusal w (size one)) moved_down _ _ c.if-from-ne-BYTES_TWO.false c.if-to-ne-BYTES.false c.unpack.ensures c.in-Err.ensures
    (code-some _))

pub returns : goal.returns
returns c =
    moved_done two one (λ w. down_refusal w (size one)) moved_down _ _ c.if-from-ne-BYTES_TWO.false c.if-to-ne-BYTES.false c.unpack.ensures c.in_default.ensures
    refl c.pack.ensures
