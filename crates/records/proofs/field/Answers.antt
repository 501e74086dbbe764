-- `records::field` meets its contract: the record's place by `record_at`, the word by `lists::word`. Assumes nothing.
use Rattle.records.proofs.field.Goals as goal

pub returns : goal.returns
returns c = rw c.record_at.ensures.place at c.word.ensures
