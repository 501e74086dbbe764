-- Four ways out: a source of another length, a destination of another length, a move that is refused, and one that is done. Assumes
-- nothing.
use Rattle.panel.proofs.Laws.{moved_done, moved_refused, moved-room, moved_source}
use Rattle.rules.proofs.Coded.{code-some}
use Rattle.rules.specs.Editions.{moved_up, up_refusal}
use Rattle.rules.specs.Table.{one, size, two}
use mathlib.Core.Path.{refl}
use Rattle.panel.proofs.hub_kernel_move_up.Goals as goal

pub returns-then-from-ne-BYTES : goal.returns-then-from-ne-BYTES
returns-then-from-ne-BYTES c = rw c.number.ensures (moved_source one two (λ w. up_refusal w (size two)) moved_up _ _ c.if-from-ne-BYTES.true)

pub returns-then-to-ne-BYTES_TWO : goal.returns-then-to-ne-BYTES_TWO
returns-then-to-ne-BYTES_TWO c = rw c.number-then-to-ne-BYTES_TWO.ensures (moved-room one two (λ w. up_refusal w (size two)) moved_up _ _ c.if-to-ne-BYTES_TWO.true)

pub returns-in-Err : goal.returns-in-Err
returns-in-Err c =
    rw c.number-in-Err.ensures
    (moved_refused one two (λ w. up_refusal w (size two)) moved_up _ _ c.if-from-ne-BYTES.false c.if-to-ne-BYTES_TWO.false c.unpack.ensures c.in-Err.ensures
    (code-some _))

pub returns : goal.returns
returns c =
    moved_done one two (λ w. up_refusal w (size two)) moved_up _ _ c.if-from-ne-BYTES.false c.if-to-ne-BYTES_TWO.false c.unpack.ensures c.in_default.ensures
    refl c.pack.ensures
