-- `reorder::reorder` meets its contract: the keys now, and the reordering by them. Assumes nothing.
use Rattle.reorder.proofs.reorder.Goals as goal

pub returns : goal.returns
returns c =
    λ L s s' y x many few before w.
    c.reorder_by.ensures L s s' y x many few before (c.find_keys.ensures.each L s' y x w) w
