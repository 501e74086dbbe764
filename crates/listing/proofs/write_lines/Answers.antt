-- `listing::write_lines` meets its contract: the text so far and what is left is the whole. Assumes nothing.
use Prim.Native.Nat.{◌+◌}
use Rattle.listing.proofs.Passes.{filling_begin, filling_end, filling_room, filling_turn}
use Rattle.listing.specs.Listing.{line_at}
use borrow.Author.Rules.{rules}
use native.Mathlib.Omega.{arith}
use Rattle.listing.proofs.write_lines.Goals as goal

pub loop-done-init : goal.loop-done-init
loop-done-init c = filling_begin (line_at c.args.ts.words c.args.t.now c.args.n) (1 + c.args.n + c.args.m) c.args.text.now c.requires.m_in_bounds

pub write_numbers-at-requires : goal.write_numbers-at-requires
write_numbers-at-requires c = let l = c.loop-done in record { in_bounds = search rules; ns_in_bounds = rw c.line_at-line.ensures (filling_room (line_at c.args.ts.words c.args.t.now c.args.n) (1 + c.args.n + c.args.m) c.args.text.now c.requires.m_in_bounds l.text l.at l.done l.invariant (omega arith)) }

pub loop-done-preserved : goal.loop-done-preserved
loop-done-preserved c =
    let l = c.loop-done in
    filling_turn (line_at c.args.ts.words c.args.t.now c.args.n) (1 + c.args.n + c.args.m) c.args.text.now c.requires.m_in_bounds l.text l.at l.done l.invariant (omega arith) _ _ (rw c.line_at-line.ensures at c.write_numbers-at.ensures)

pub shape_of-text : goal.shape_of-text
shape_of-text c = c.loop-done.invariant.long

pub returns : goal.returns
returns c =
    let l = c.loop-done in
    filling_end (line_at c.args.ts.words c.args.t.now c.args.n) (1 + c.args.n + c.args.m) c.args.text.now c.requires.m_in_bounds l.text l.at l.done l.invariant (omega arith)
