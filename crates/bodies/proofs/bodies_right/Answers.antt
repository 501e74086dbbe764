-- `bodies::bodies_right` meets its contract: a test of all hubs in use. Assumes nothing.
use Prim.Native.Nat.{◌<◌}
use Rattle.bodies.specs.Bodies.{body_test}
use Rattle.rules.proofs.Tests.{every_number}
use Rattle.std.proofs.Common.{rules}
use Rattle.std.proofs.lemmas.Iterator.{YieldsList-from_range, cases_from_all}
use borrow.Author.Tests.{tests}
use lib.ListN.{get_or}
use mathlib.Core.Bool.{false, true}
use mathlib.Core.Path.{◌≡◌}
use native.Mathlib.Omega.{arith}
use Rattle.bodies.proofs.bodies_right.Goals as goal

pub returns : goal.returns
returns c L y =
    let m = get_or c.args.t.now.words.now 2 0 in
    every_number (body_test L c.args.t.now.words.now) m c.all.result
    (cases_from_all _ _ _ (λ h. h < m → body_test L c.args.t.now.words.now h ≡ true) (λ h. h < m → body_test L c.args.t.now.words.now h ≡ false) c.all.ensures.ran
    (YieldsList-from_range 0 m m (cc) (omega arith)) (λ h q k. search (rules, tests)) (λ h q k. search (rules, tests)))
