-- `bodies::body_right` meets its contract: record, store and owner, one after the other. Assumes nothing.
use Rattle.bodies.specs.Bodies.{body_test}
use mathlib.Core.Bool.{and-false}
use mathlib.Core.Path.{◌∙◌, sym}
use Rattle.bodies.proofs.body_right.Goals as goal

pub returns-then-not-kind_right : goal.returns-then-not-kind_right
unfolding body_test
returns-then-not-kind_right c L y = rw (sym (c.kind_right.ensures L y) ∙ c.if-not-kind_right.true)

pub store_sound-requires : goal.store_sound-requires
store_sound-requires c = record { h_bound = c.requires.h_bound; h_value = λ L y. sym (c.kind_right.ensures L y) ∙ c.if-not-kind_right.false }

pub returns-then-not-store_sound : goal.returns-then-not-store_sound
unfolding body_test
returns-then-not-store_sound c L y = rw (sym (c.store_sound.ensures L y) ∙ c.if-not-store_sound.true, and-false)

pub returns : goal.returns
unfolding body_test
returns c L y =
    rw
    (sym (c.kind_right.ensures L y) ∙ c.if-not-kind_right.false, sym (c.store_sound.ensures L y) ∙ c.if-not-store_sound.false)
    (c.owner_right.ensures L y)
