-- `inherit::hub_rising` meets its contract: a list without a second word, or one that is walked. Assumes nothing.
use Prim.Native.Nat.{◌+◌, ◌-◌}
use Rattle.inherit.proofs.Rising.{hub-lent, hub_short}
use mathlib.Core.Path.{◌∙◌}
use native.Mathlib.Omega.{arith}
use Rattle.inherit.proofs.hub_rising.Goals as goal

pub returns-then-t-a-eq0 : goal.returns-then-t-a-eq0
returns-then-t-a-eq0 c L s y x w u =
    let a = c.args in
    let p = c.waits_at-a in
    hub_short L s y x a.t.now.words.now w a.h u a.keys.now p.result p.ensures c.if-t-a-eq0.true

pub returns : goal.returns
returns c L s y x w u =
    let a = c.args in
    let p = c.waits_at-a in
    c.list_rising.ensures
    ∙ hub-lent L s y x a.t.now.words.now w a.h u a.keys.now p.result p.ensures (p.result + 16 - p.result) (omega arith)
