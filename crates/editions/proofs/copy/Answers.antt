-- `editions::copy` meets its contract: each body is one run of stores behind the one before it. Assumes nothing.
use Prim.Native.Nat.{◌-◌}
use Rattle.editions.proofs.Bodies.{words-moved}
use Rattle.rules.proofs.Layouts.{store_place}
use mathlib.Core.Path.{◌∙◌, ◌≡◌, refl}
use native.Mathlib.Omega.{arith}
use Rattle.editions.proofs.copy.Goals as goal

pub returns : goal.returns
returns c =
    λ L M s y z b e.
    let table = c.requires.table_2 in
    let n : c.stores_at-b.result - c.hubs_at-a.result ≡ 336 = omega arith in
    words-moved L M y z s table.low table.high b c.args.from.now c.args.to.now _ _ _ _ _ _ _ _ e (table.long ∙ store_place z 16)
    c.set_contents.ensures
    c.set_tasks.ensures
    c.hubs_at-a.ensures
    n
    refl
    c.hubs_at.ensures
    c.set_words.ensures
    c.set_stores.ensures
