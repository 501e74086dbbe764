-- `lists::place` meets its contract: `position` finds the first word that is no entry or whose key is less urgent. Assumes nothing.
use Prim.Native.Nat.{◌-◌, ℕ}
use Rattle.lists.proofs.Laws.{place_in-position}
use Rattle.std.proofs.lemmas.Iterator.Search.{position_from_yields_List}
use Rattle.std.proofs.lemmas.Iterator.{YieldsList-from_slice}
use Rattle.std.specs.List.{position}
use borrow.Author.Rules.{rules}
use borrow.Author.Tests.{tests}
use lib.Dec.{eqb, ltb}
use lib.ListN.{get_or}
use mathlib.Core.Bool.{Bool, ◌||◌}
use mathlib.Core.Path.{◌∙◌, ◌≡◌}
use Rattle.lists.proofs.place.Goals as goal

pub returns : goal.returns
returns c =
    let a = c.args in
    let test : ℕ → Bool = λ e. eqb e 0 || ltb a.key (get_or a.keys.now (e - 1) 0) in
    let first = position_from_yields_List test _ _ c.position.result c.position.ensures.ran (YieldsList-from_slice a.list.now cc) (λ x b q k. search (rules, tests)) in
    let found : c.position.result ≡ position test a.list.now = first in
    c.unwrap_or.ensures ∙ rw found (place_in-position a.keys.now a.key a.list.now)
