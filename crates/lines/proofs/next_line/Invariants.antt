-- What is left to read from here comes to the same as the whole.
use Rattle.lines.specs.Scan.{progress_of}
use lib.ListN.{drop}
use mathlib.Core.Path.{◌≡◌}
use Rattle.lines.proofs.next_line.Given as goal

abbrev pub invariant-loop-i : goal.invariant-loop-i
invariant-loop-i l = progress_of l.i l.s (drop l.i l.buf) ≡ progress_of l.from l.initial.s (drop l.from l.buf)
