-- `rows::Pair::differ` meets its contract: what the words from here on say is what all say. Assumes nothing.
use Prim.Native.Nat.{◌*◌, ◌+◌}
use Rattle.rows.proofs.Marks.{differ_begin, differ_end, differ_found, differ_same}
use mathlib.Core.Path.{◌∙◌, sym}
use native.Mathlib.Omega.{arith}
use Rattle.rows.proofs.Pair.differ.Goals as goal

pub loop-j-init : goal.loop-j-init
loop-j-init c = let s = c.args.self.now in differ_begin s.left.words.now s.right.words.now (c.args.at + c.args.i * c.args.size + c.args.f) c.args.n

pub returns-then-old-new : goal.returns-then-old-new
returns-then-old-new c = let s = c.args.self.now in sym (differ_found s.left.words.now s.right.words.now (c.args.at + c.args.i * c.args.size + c.args.f) c.args.n c.loop-j.j c.loop-j-test.true _ _ _ (omega arith) c.field-old.ensures c.field-new.ensures c.if-old-new.true) ∙ c.loop-j.invariant

pub loop-j-preserved : goal.loop-j-preserved
loop-j-preserved c = let s = c.args.self.now in sym (differ_same s.left.words.now s.right.words.now (c.args.at + c.args.i * c.args.size + c.args.f) c.args.n c.loop-j.j c.loop-j-test.true _ _ _ (omega arith) c.field-old.ensures c.field-new.ensures c.if-old-new.false) ∙ c.loop-j.invariant

pub returns : goal.returns
returns c = let s = c.args.self.now in sym (differ_end s.left.words.now s.right.words.now (c.args.at + c.args.i * c.args.size + c.args.f) c.args.n c.loop-j.j c.loop-j-test.false) ∙ c.loop-j.invariant
