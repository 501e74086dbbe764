-- `stores::hub_at` meets its contract. Assumes nothing.
use Rattle.stores.proofs.Laws.{hub-read}
use Rattle.stores.proofs.hub_at.Goals as goal

pub returns : goal.returns
returns c = λ L s y fits used e. rw (c.hub.ensures, c.hubs_at.ensures, e) (hub-read L s y fits _ used)
