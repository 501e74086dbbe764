-- `comparer::put_entries` meets its contract: the lines so far, and those that are left. Assumes nothing.
use Rattle.comparer.proofs.Laws.{lines_begin, lines_end, lines_turn}
use Rattle.texts.proofs.Putting.{joining_begin, joining_end, joining_turn}
use mathlib.Core.Path.{◌∙◌, refl}
use Rattle.comparer.proofs.put_entries.Goals as goal

pub loop-k-init : goal.loop-k-init
loop-k-init c = rw (lines_begin c.args.places.now c.args.count) (joining_begin _ _)

pub loop-k-preserved : goal.loop-k-preserved
loop-k-preserved c =
    let next = lines_turn c.args.places.now c.args.count c.loop-k.k c.loop-k-test.true in
    joining_turn c.loop-k.invariant c.put_entry.ensures (next ∙ rw (← c.word-place.ensures, ← c.word-old.ensures, ← c.word-new.ensures) refl)

pub returns : goal.returns
returns c = joining_end c.loop-k.invariant (lines_end c.args.places.now c.args.count c.loop-k.k c.loop-k-test.false)
