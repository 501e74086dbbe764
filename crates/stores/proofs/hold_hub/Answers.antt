-- `stores::hold_hub` meets its contract. Assumes nothing.
use Rattle.hubtable.specs.Says.{store_after}
use Rattle.rules.proofs.Layouts.{sized}
use Rattle.rules.proofs.Places.{set-count}
use Rattle.rules.proofs.Valid.{Held}
use Rattle.rules.specs.Calls.{hold}
use Rattle.rules.specs.Table.{hub}
use lib.ListN.{length}
use mathlib.Core.Path.{◌∙◌, ◌≡◌}
use Rattle.stores.proofs.hold_hub.Goals as goal

pub returns : goal.returns
unfolding hold
returns c =
    λ L s y many used held fits e.
    let a = c.args in
    let h = a.h.0 in
    let r = c.hub_at-x.ensures L s y many used e in
    let n : c.stored-n.result ≡ length (hub s h).held = c.stored-n.ensures ∙ rw (r.kind, r.count, r.limit) (unfold Held in held) in
    let stored = c.change_store.ensures L s y used n fits e in
    c.set_count.ensures
    ∙ rw (c.hubs_at.ensures, y.size, stored) (set-count L (sized y) s h c.requires.h_bound used (hub s h).count a.m.count (store_after a.m.store (hub s h).held) (hub s h))
