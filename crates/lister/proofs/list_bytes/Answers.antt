-- The words in front of the array are those of the bytes.
use Rattle.lister.proofs.Laws.{bytes-listed}
use Rattle.lister.proofs.list_bytes.Goals as goal

pub returns : goal.returns
returns c =
    let l = c.list in
    bytes-listed c.args.bytes.now c.args.text.now l.result l.new.text
    (rw c.table_words-n.ensures.front at l.ensures)
