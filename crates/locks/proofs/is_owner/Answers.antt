-- `locks::is_owner` meets its contract. Assumes nothing.
use Prim.Native.Nat.{◌+◌}
use Rattle.locks.proofs.Laws.{owner-read}
use Rattle.rules.specs.Table.{hub, owns}
use borrow.Author.Tests.{eq-eqb, ne_eqb}
use lib.Dec.{eqb}
use mathlib.Core.Bool.{◌&&◌}
use mathlib.Core.Path.{◌≡◌}
use Rattle.locks.proofs.is_owner.Goals as goal

pub returns-then-is_lock : goal.returns-then-is_lock
returns-then-is_lock c =
    λ L s y fits used e.
    let x = c.hub-x.result in
    let i = c.args.i.0 in
    let owned : (eqb x.kind 5 && eqb x.count (i + 1)) ≡ owns i (hub s c.args.h.0) =
    rw (c.hub-x.ensures, c.hubs_at.ensures, e) (owner-read L s y fits i _ used)
    in
    rw (eq-eqb x.kind 5 c.if-is_lock.true) at owned

pub returns-else-is_lock : goal.returns-else-is_lock
returns-else-is_lock c =
    λ L s y fits used e.
    let x = c.hub-x.result in
    let i = c.args.i.0 in
    let owned : (eqb x.kind 5 && eqb x.count (i + 1)) ≡ owns i (hub s c.args.h.0) =
    rw (c.hub-x.ensures, c.hubs_at.ensures, e) (owner-read L s y fits i _ used)
    in
    let no = ne_eqb x.kind 5 c.if-is_lock.false in
    rw no (rw no at owned)
