-- `records::store_at` meets its contract. Assumes nothing.
use Rattle.records.proofs.store_at.Goals as goal

pub returns : goal.returns
returns c =
    let at = c.record_at.ensures in
    record {
      place = rw (c.store_size.ensures, c.stores_at.ensures) at at.place;
      inside = rw (c.store_size.ensures, c.stores_at.ensures) at (at.inside c.requires.h_bound);
    }
