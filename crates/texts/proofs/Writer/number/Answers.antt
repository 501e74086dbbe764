-- `texts::Writer::number` meets its contract: a line of one number, without its newline. Assumes nothing.
use Rattle.texts.proofs.Putting.{number-room, number-taken, wrote_as}
use lib.Seq.{length-take-le}
use mathlib.Core.Path.{sym}
use native.Mathlib.Omega.{arith}
use Rattle.texts.proofs.Writer.number.Goals as goal

pub write_numbers-end-requires : goal.write_numbers-end-requires
write_numbers-end-requires c = record { in_bounds = omega arith; ns_in_bounds = number-room c.args.n (omega arith) }

pub slice_bounds-line-count : goal.slice_bounds-line-count
slice_bounds-line-count c = omega (arith, (number-taken c.write_numbers-end.ensures).low)

pub slice_bounds-line-end : goal.slice_bounds-line-end
slice_bounds-line-end c = omega (arith, (number-taken c.write_numbers-end.ensures).high)

pub slice_bounds-bytes-length : goal.slice_bounds-bytes-length
slice_bounds-bytes-length c = sym (length-take-le _ _ (omega (arith, (number-taken c.write_numbers-end.ensures).high)))

pub returns : goal.returns
returns c = wrote_as c.bytes.ensures (number-taken c.write_numbers-end.ensures).text
