-- `editions::set_contents` meets its contract. Assumes nothing.
use Prim.Native.Nat.{ℕ}
use Rattle.editions.proofs.Bodies.{contents_are}
use lib.Seq.{sets}
use mathlib.Core.List.{List}
use mathlib.Core.Path.{◌∙◌, ap}
use native.Mathlib.Omega.{arith}
use Rattle.editions.proofs.set_contents.Goals as goal

pub returns : goal.returns
returns c =
    let a = c.args in
    c.set_words.ensures
    ∙ ap (λ (l : List ℕ). sets a.to.now 0 l)
    (contents_are a.ts.words a.from.now
    c.width_of.ensures
    c.word.ensures
    c.word-2.ensures
    c.hubs_at.ensures
    c.ready_at.ensures
    (omega (arith, c.waits_at.ensures))
    c.stores_at.ensures)
