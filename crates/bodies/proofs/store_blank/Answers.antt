-- `bodies::store_blank` meets its contract: the store as the code lends it is the hub's. Assumes nothing.
use Rattle.bodies.proofs.Hubs.{store_part_lem}
use Rattle.rules.proofs.Layouts.{store_place}
use mathlib.Core.Path.{◌∙◌}
use native.Mathlib.Omega.{arith}
use Rattle.bodies.proofs.store_blank.Goals as goal

pub returns : goal.returns
returns c L y =
    let s = c.store_at-at in
    let n = c.store_size in
    c.zeros.ensures
    ∙ store_part_lem L c.args.t.now.words.now c.args.h s.result n.result (s.ensures.place ∙ store_place y c.args.h) (omega arith)
