-- A task that may be there, as the code has it, and by its number.
-- Not here: the entry that names it (Records.antt, `first`).
use Rattle.std.specs.Prelude.{◌<◌, ℕ, None, Option, Some}
use Rattle.records.specs.declared.TaskNo.{TaskNo}
use Rattle.std.proofs.Math.Option.{Option as Numbered, none, some}

abbrev pub numbered : Option TaskNo → Numbered ℕ
numbered None = none
numbered (Some i) = some i.0

-- its number plus 1 is a word
abbrev pub Low : Option TaskNo → Type 0
Low None = Unit {0}
Low (Some i) = i.0 < 4294967295
