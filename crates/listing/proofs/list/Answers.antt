-- `listing::list` meets its contract: `list_in`, in the edition that fits the length. Assumes nothing.
use Rattle.rules.specs.Table.{edition_of}
use Rattle.wellformed.proofs.Editions.{edition_laid_of}
use Rattle.listing.proofs.list.Goals as goal

pub returns : goal.returns
returns c =
    let r = c.list_in.ensures (edition_of _) (edition_laid_of _ _ c.task_size-ts.ensures) in
    record { reply = r.reply; bytes = r.bytes }
