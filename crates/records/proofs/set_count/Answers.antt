-- `records::set_count` meets its contract: the record's place by `record_at`, the store by `set_word`. Assumes nothing.
use Rattle.records.proofs.set_count.Goals as goal

pub returns : goal.returns
returns c = rw c.record_at-p.ensures.place at c.set_word.ensures
