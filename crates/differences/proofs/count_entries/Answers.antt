-- `differences::count_entries` meets its contract: the count so far is that of the places so far. Assumes nothing.
use Rattle.differences.proofs.Passes.{counted_begin, counted-differ, counted_equal, up_to_all}
use lib.ListN.{length}
use Rattle.differences.proofs.count_entries.Goals.{else-first-place, then-first-place}
use mathlib.Core.Path.{◌∙◌, ap}
use native.Mathlib.Omega.{arith}
use Rattle.differences.proofs.count_entries.Goals as goal

pub loop-place-init : goal.loop-place-init
loop-place-init c = counted_begin c.args.first.now c.args.second.now c.requires

pub loop-place-preserved : goal.loop-place-preserved
loop-place-preserved c =
    let a = c.args in
    let l = c.loop-place in
    elim c.if-first-place.branch [
      | then-first-place w ↦ rw w.count-is (counted-differ a.first.now a.second.now c.requires l.count l.place l.invariant (omega arith) w.if-first-place.true)
      | else-first-place w ↦ rw w.count-is (counted_equal a.first.now a.second.now c.requires l.count l.place l.invariant (omega arith) w.if-first-place.false)
    ]

pub returns : goal.returns
returns c =
    let l = c.loop-place in
    record {
      value = l.invariant.all ∙ ap length (up_to_all c.args.first.now c.args.second.now l.place (omega arith) (omega (arith, c.requires)));
      upper_bound = omega (arith, l.invariant.few, l.invariant.inside);
    }
