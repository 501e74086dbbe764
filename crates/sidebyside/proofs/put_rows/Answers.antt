-- `sidebyside::put_rows` meets its contract: the rows so far, and what is left of them. Assumes nothing.
use Rattle.rows.proofs.Turns.{row_low}
use Rattle.sidebyside.proofs.Turns.{text_begin, text_end, text_turn}
use Rattle.texts.proofs.Putting.{joining_begin, joining_end, joining_turn}
use native.Mathlib.Omega.{arith}
use Rattle.sidebyside.proofs.put_rows.Goals as goal

pub loop-k-init : goal.loop-k-init
loop-k-init c = let p = c.args.tables.now in rw (text_begin p.left.ts.words p.left.words.now p.right.words.now p.left.runs p.right.runs) (joining_begin _ _)

pub put_row-requires : goal.put_row-requires
put_row-requires c = rw c.row_at.ensures (row_low c.loop-k.k (omega (arith, c.loop-k-test.true)))

pub loop-k-preserved : goal.loop-k-preserved
loop-k-preserved c = let p = c.args.tables.now in joining_turn c.loop-k.invariant c.put_row.ensures (rw c.row_at.ensures (text_turn p.left.ts.words p.left.words.now p.right.words.now p.left.runs p.right.runs c.loop-k.k (omega (arith, c.loop-k-test.true))))

pub returns : goal.returns
returns c = let p = c.args.tables.now in joining_end c.loop-k.invariant (text_end p.left.ts.words p.left.words.now p.right.words.now p.left.runs p.right.runs c.loop-k.k (omega (arith, c.loop-k-test.false)))
