-- `inherit::hubs_rising` meets its contract: a test of all hubs that the contents count, which are those in use. Assumes nothing.
use Prim.Native.Nat.{◌<◌, ℕ}
use Rattle.inherit.proofs.Turns.{many-used, used}
use Rattle.rules.proofs.Tests.{every_number}
use Rattle.rules.specs.Table.{State, hub}
use Rattle.rules.specs.WellFormed.{for_all, rising}
use Rattle.std.proofs.Common.{rules}
use Rattle.std.proofs.lemmas.Iterator.{YieldsList-from_range, cases_from_all}
use borrow.Author.Tests.{tests}
use lib.ListN.{get_or}
use mathlib.Core.Bool.{Bool, false, true}
use mathlib.Core.List.{List}
use mathlib.Core.Path.{◌∙◌, ◌≡◌, ap}
use native.Mathlib.Omega.{arith}
use Rattle.inherit.proofs.hubs_rising.Goals as goal

abbrev ordered : List ℕ → State → ℕ → Bool
ordered ks s h = rising (λ j. get_or ks j 0) (hub s h).waiters

pub returns : goal.returns
returns c L s y x w =
    let m = c.hubs_in.result in
    let ks = c.args.keys.now in
    let here = used c.args.t.now.words.now m c.hubs_in.ensures L s w in
    every_number (ordered ks s) m c.all.result
    (cases_from_all _ _ _ (λ h. h < m → ordered ks s h ≡ true) (λ h. h < m → ordered ks s h ≡ false) c.all.ensures.ran
    (YieldsList-from_range 0 m m (cc) (omega arith)) (λ h q k. search (rules, tests, here h)) (λ h q k. search (rules, tests, here h)))
    ∙ ap (λ (n : ℕ). for_all n (ordered ks s)) (many-used c.args.t.now.words.now m c.hubs_in.ensures L s w x)
