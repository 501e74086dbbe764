-- `bodies::store_sound` meets its contract: a blank store is right at every kind. Assumes nothing.
use Rattle.bodies.proofs.Hubs.{store_none}
use mathlib.Core.Path.{◌∙◌, sym}
use Rattle.bodies.proofs.store_sound.Goals as goal

pub returns-then-store_blank : goal.returns-then-store_blank
returns-then-store_blank c L y = sym (store_none L c.args.t.now.words.now c.args.h (sym (c.store_blank.ensures L y) ∙ c.if-store_blank.true))

pub returns : goal.returns
returns c L y = c.store_right.ensures L y
