-- `rows::Pair::count_marked` meets its contract: the marked rows so far, and those that are left. Assumes nothing.
use Rattle.lists.specs.Lists.{bit}
use Rattle.rows.proofs.Turns.{bit_low, byte_bit, marked_begin, marked_end, marked_turn}
use mathlib.Core.Path.{◌∙◌, ◌≡◌, ap}
use native.Mathlib.Omega.{arith}
use Rattle.rows.proofs.Pair.count_marked.Goals as goal

pub loop-k-init : goal.loop-k-init
loop-k-init c = let p = c.args.self.now in (omega arith, omega (arith, marked_begin p.left.ts.words p.left.words.now p.right.words.now p.left.runs p.right.runs))

pub loop-k-preserved : goal.loop-k-preserved
loop-k-preserved c =
    let p = c.args.self.now in
    let m : c.from-count.result ≡ bit c.marked.result = c.from-count.ensures ∙ byte_bit c.marked.result in
    (omega (arith, m, bit_low c.marked.result), omega (arith, m ∙ ap bit (rw c.row_at.ensures at c.marked.ensures), marked_turn p.left.ts.words p.left.words.now p.right.words.now p.left.runs p.right.runs c.loop-k.k c.loop-k-test.true))

pub returns : goal.returns
returns c = let p = c.args.self.now in omega (arith, marked_end p.left.ts.words p.left.words.now p.right.words.now p.left.runs p.right.runs c.loop-k.k (omega (arith, c.loop-k-test.false)))
