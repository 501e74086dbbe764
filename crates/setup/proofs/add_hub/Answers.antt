-- `setup::add_hub` meets its contract: one more record behind those in use, and their number. Assumes nothing.
use Prim.Native.Nat.{ℕ}
use Rattle.records.specs.Records.{hub_words}
use Rattle.rules.proofs.Layouts.{sized, store_zero}
use Rattle.rules.proofs.Places.{add_hub_lem, hubs-word}
use Rattle.rules.specs.Table.{kind_of, stored}
use lib.ListN.{get_or}
use mathlib.Core.List.{List}
use mathlib.Core.Path.{◌∙◌, ap, refl}
use native.Mathlib.Numerals.{add-one}
use Rattle.setup.proofs.add_hub.Goals as goal

pub returns : goal.returns
unfolding hub_words
returns c L s y h e =
    let a = c.args in
    let number = ap (λ (l : List ℕ). get_or l 2 0) e ∙ hubs-word L s in
    rw
    (c.set_hub.ensures, c.hubs_at.ensures, number, e, add-one, y.size)
    (add_hub_lem L (sized y) s _ refl (store_zero L y (stored (kind_of a.kind) a.start a.limit)) h)
