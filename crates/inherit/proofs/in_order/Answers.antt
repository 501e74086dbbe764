-- `inherit::in_order` meets its contract: the ready list, then the lists of the hubs. Assumes nothing.
use Prim.Native.Nat.{◌+◌, ◌-◌}
use Rattle.inherit.proofs.Rising.{order_no, order_yes, ready-lent}
use mathlib.Core.Path.{◌∙◌}
use native.Mathlib.Omega.{arith}
use Rattle.inherit.proofs.in_order.Goals as goal

pub returns-then-not-list_rising : goal.returns-then-not-list_rising
returns-then-not-list_rising c L s y x w =
    let a = c.args in
    let p = c.ready_at-a in
    let r = c.list_rising in
    let is = r.ensures ∙ ready-lent L s y x a.t.now.words.now w a.keys.now p.result (p.result + 16 - p.result) p.ensures (omega arith) in
    order_no _ s r.result is c.if-not-list_rising.true

pub returns : goal.returns
returns c L s y x w =
    let a = c.args in
    let p = c.ready_at-a in
    let r = c.list_rising in
    let is = r.ensures ∙ ready-lent L s y x a.t.now.words.now w a.keys.now p.result (p.result + 16 - p.result) p.ensures (omega arith) in
    order_yes _ s r.result is c.if-not-list_rising.false c.hubs_rising.result (c.hubs_rising.ensures L s y x w)
