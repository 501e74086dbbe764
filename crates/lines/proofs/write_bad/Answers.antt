-- The number between five bytes and five.
use Rattle.lines.proofs.Putting.{long, put_bad}
use native.Mathlib.Omega.{arith}
use Rattle.lines.proofs.write_bad.Goals as goal

pub put_decimal-b-requires : goal.put_decimal-b-requires
put_decimal-b-requires c =
    let p = c.put_bytes-a in
    omega (arith, c.requires, long c.args.line c.ranges.line.fits, p.ensures.place, p.auto.out)

pub put_bytes-requires : goal.put_bytes-requires
put_bytes-requires c =
    let q = c.put_decimal-b in
    let p = c.put_bytes-a in
    omega (arith, c.requires, long c.args.line c.ranges.line.fits, p.ensures.place, p.auto.out, q.ensures.place, q.auto.out)

pub returns : goal.returns
returns c =
    let r = c.put_bytes in
    let q = c.put_decimal-b in
    let p = c.put_bytes-a in
    put_bad c.args.out.now c.args.at c.requires p.result p.new.out q.result q.new.out r.result r.new.out c.args.line
    c.ranges.line.fits p.ensures q.ensures r.ensures
