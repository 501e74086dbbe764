-- `lines::put_decimal`, which calls itself, meets its contract. The measure is the number.
use Prim.Native.Nat.{◌/◌, ◌+◌, ◌<◌}
use Rattle.lines.proofs.Putting.{more_end, more_room, put_more, put_small, small_room}
use Rattle.lines.specs.Lines.{decimal}
use lib.ListN.{length}
use native.Mathlib.Omega.{arith}
use Rattle.lines.proofs.+put_decimal.Goals as goal

pub bounds-out-at : goal.bounds-out-at
bounds-out-at t c = small_room c.args.out.now c.args.at c.args.n c.requires c.if-n-lt10.true

pub returns-then-n-lt10 : goal.returns-then-n-lt10
returns-then-n-lt10 t c = put_small c.args.out.now c.args.at c.args.n c.requires c.if-n-lt10.true

pub put_decimal-end-requires : goal.put_decimal-end-requires
put_decimal-end-requires t c =
    let s = c.args in
    let r : s.at + length (decimal (s.n / 10)) < length s.out.now = more_room s.out.now s.at s.n c.requires c.if-n-lt10.false in
    (omega (arith, c.decreases), omega arith)

pub bounds-out-end : goal.bounds-out-end
bounds-out-end t c =
    let s = c.args in
    let p = c.put_decimal-end in
    let r : p.result < length s.out.now =
    more_end s.out.now s.at s.n c.requires c.if-n-lt10.false p.result p.new.out p.ensures in
    omega (arith, p.auto.out)

pub returns : goal.returns
returns t c =
    let s = c.args in
    let p = c.put_decimal-end in
    put_more s.out.now s.at s.n c.requires c.if-n-lt10.false p.result p.new.out p.ensures
