-- `sidebyside::put_line` meets its contract: six texts, one behind the other. Assumes nothing.
use Prim.Native.Nat.{ℕ}
use Rattle.rowtexts.specs.RowTexts.{cell}
use Rattle.sidebyside.specs.RowLines.{line_text}
use Rattle.texts.proofs.Putting.{wrote_append, wrote_as}
use mathlib.Core.Path.{ap, sym}
use Rattle.sidebyside.proofs.put_line.Goals as goal

pub returns : goal.returns
unfolding line_text
returns c =
    let p = c.args.tables.now in
    let right = wrote_as c.put_cell-2.ensures (ap (λ (ts : ℕ). cell ts p.right.words.now p.right.runs c.args.row) (sym p.one_edition)) in
    rw (← c.marked.ensures) (wrote_append (wrote_append (wrote_append (wrote_append (wrote_append c.put_mark.ensures c.put_title.ensures) c.put_cell.ensures) c.byte.ensures) right) c.byte-2.ensures)
