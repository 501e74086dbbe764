-- `editions::zeros_at` meets its contract: the words so far are 0. Assumes nothing.
use Rattle.rules.specs.Editions.{zeros_at}
use mathlib.Core.Bool.{true}
use mathlib.Core.Path.{◌≡◌}
use Rattle.editions.proofs.zeros_at.Given as goal

abbrev pub invariant-loop-i : goal.invariant-loop-i
invariant-loop-i l = zeros_at l.at l.size l.i l.f l.t ≡ true
