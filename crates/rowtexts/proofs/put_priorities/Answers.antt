-- `rowtexts::put_priorities` meets its contract: the word of the record, and the key. Assumes nothing.
use Rattle.records.specs.Records.{task_at}
use Rattle.rowtexts.specs.RowTexts.{used_text}
use mathlib.Core.Path.{◌∙◌}
use Rattle.rowtexts.proofs.put_priorities.Goals as goal

pub returns : goal.returns
unfolding task_at used_text
returns c = rw (c.field-own.ensures, c.word-key.ensures ∙ c.args.table.now.keys_of.key _) at c.put_priority.ensures
