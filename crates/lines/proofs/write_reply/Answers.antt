-- Four numbers of at most ten digits have room.
use Rattle.lines.proofs.Putting.{length-four}
use native.Mathlib.Omega.{arith}
use Rattle.lines.proofs.write_reply.Goals as goal

pub write_numbers-requires-clause-ns_in_bounds : goal.write_numbers-requires-clause-ns_in_bounds
write_numbers-requires-clause-ns_in_bounds c =
    let a = c.args in
    let r = c.ranges in
    omega (arith, c.requires, length-four a.refusal a.answer a.next a.ahead r.refusal.fits r.answer.fits r.next.fits r.ahead.fits)
