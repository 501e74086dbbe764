-- `lists::join` meets its contract: `word` gives the key, `place` the place of that key, and `insert_at` the list. Assumes nothing.
use native.Mathlib.Numerals.{add-one}
use Rattle.lists.proofs.join.Goals as goal

pub returns : goal.returns
returns c =
    let place = rw c.word-key.ensures at c.place-k.ensures in
    record { place = place; list = rw (place, add-one) at c.insert_at.ensures }
