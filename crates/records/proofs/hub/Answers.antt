-- `records::hub` meets its contract: each word by `field`; the first stands at the record's place itself. Assumes nothing.
use Rattle.records.specs.Records.{hub_at}
use native.Mathlib.Nat.{add-zero}
use Rattle.records.proofs.hub.Goals as goal

pub returns : goal.returns
unfolding hub_at
returns c =
    rw (
      c.field.ensures,
      c.field-2.ensures,
      c.field-3.ensures,
      c.field-4.ensures,
      add-zero,
    )
