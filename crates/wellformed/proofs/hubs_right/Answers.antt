-- `wellformed::hubs_right` meets its contract: a hub is right if it is but for its list, and its list is. Assumes nothing.
use Rattle.wellformed.proofs.Hubs.{hubs_no, hubs_yes}
use mathlib.Core.Path.{◌∙◌, sym}
use Rattle.wellformed.proofs.hubs_right.Goals as goal

pub returns-then-not-bodies_right : goal.returns-then-not-bodies_right
returns-then-not-bodies_right c L y = hubs_no L c.args.t.now.words.now (sym (c.bodies_right.ensures L y) ∙ c.if-not-bodies_right.true)

pub returns : goal.returns
returns c L y = hubs_yes L c.args.t.now.words.now (sym (c.bodies_right.ensures L y) ∙ c.if-not-bodies_right.false) (c.queues_right.ensures L y)
