-- `bodies::contents_right` meets its contract: the test is written as the definition is, and the layout's places are the
-- code's. Assumes nothing.
use Rattle.rules.specs.Table.{hubs_at, ready_at, stores_at, waits_at}
use Rattle.rules.specs.WellFormed.{contents_right}
use mathlib.Core.Path.{◌≡◌}
use native.Mathlib.Omega.{arith}
use Rattle.bodies.proofs.contents_right.Goals as goal

pub returns : goal.returns
unfolding contents_right
returns c L y =
    let edition : c.width_of.result ≡ L.edition = omega arith in
    let hubs : c.hubs_at.result ≡ hubs_at L = omega arith in
    let ready : c.ready_at.result ≡ ready_at L = omega arith in
    let waits : c.waits_at.result ≡ waits_at L = omega arith in
    let stores : c.stores_at.result ≡ stores_at L = omega arith in
    rw (edition, hubs, ready, waits, stores)
