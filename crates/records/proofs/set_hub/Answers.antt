-- `records::set_hub` meets its contract: the record's place by `record_at`, its words by `set_words`. Assumes nothing.
use Rattle.records.specs.Records.{hub_words}
use Rattle.records.proofs.set_hub.Goals as goal

pub returns : goal.returns
unfolding hub_words
returns c = rw c.record_at-p.ensures.place at c.set_words.ensures
