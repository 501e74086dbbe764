-- `sidebyside::put_rows` meets its contract: the rows so far, and what is left of them. Assumes nothing.
use Rattle.sidebyside.proofs.Turns.{text_all, text_left}
use Rattle.texts.proofs.Putting.{Joining}
use Rattle.sidebyside.proofs.put_rows.Given as goal

abbrev pub invariant-loop-k : goal.invariant-loop-k
invariant-loop-k l =
    let p = l.tables in
    Joining l.initial.out l.out (text_left p.left.ts.words p.left.words.now p.right.words.now p.left.runs p.right.runs l.k) (text_all p.left.ts.words p.left.words.now p.right.words.now p.left.runs p.right.runs)
