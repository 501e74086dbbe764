-- `wellformed::waiting_right` meets its contract: the hub that a waiting task names is in use before its kind is read.
-- Assumes nothing.
use Prim.Native.Nat.{◌*◌, ◌+◌, ◌-◌}
use Rattle.rules.proofs.Reading.{read-hubs}
use Rattle.rules.specs.WellFormed.{stage_right}
use Rattle.wellformed.proofs.Turns.{hub-kind}
use borrow.Author.Tests.{le-leb, lt-leb}
use lib.ListN.{get_or}
use mathlib.Core.Bool.{and-false}
use native.Mathlib.Omega.{arith}
use Rattle.wellformed.proofs.waiting_right.Goals as goal

pub returns-then-hub-eq0 : goal.returns-then-hub-eq0
unfolding stage_right
returns-then-hub-eq0 c L x y eh es ew ea = rw (eh, c.if-hub-eq0.true)

pub returns-then-hub-t : goal.returns-then-hub-t
unfolding stage_right
returns-then-hub-t c L x y eh es ew ea =
    let a = c.args in
    rw (eh, read-hubs L a.t.now.words.now, lt-leb a.hub (get_or a.t.now.words.now 2 0) c.if-hub-t.true, and-false)

pub returns : goal.returns
unfolding stage_right
returns c L x y eh es ew ea =
    let a = c.args in
    let t = a.t.now.words.now in
    let n = c.if-hub-eq0.false in
    let u = c.if-hub-t.false in
    let p = c.hubs_at in
    rw (
      eh,
      es,
      ew,
      ea,
      read-hubs L t,
      le-leb 1 a.hub (omega arith),
      le-leb a.hub (get_or t 2 0) u,
      hub-kind L t a.hub (p.result - 4 + a.hub * 4) n u (omega arith),
      c.bears_word.ensures,
    )
