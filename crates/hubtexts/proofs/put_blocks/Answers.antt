-- `hubtexts::put_blocks` meets its contract: the blocks so far, and what is left of them. Assumes nothing.
use Rattle.hubtexts.proofs.Lists.{blocks_begin, blocks_end, blocks_in, blocks_out}
use Rattle.texts.proofs.Putting.{joining_begin, joining_end, joining_same, joining_turn}
use mathlib.Core.Path.{◌∙◌, refl, sym}
use native.Mathlib.Omega.{arith}
use Rattle.hubtexts.proofs.put_blocks.Goals as goal
use Rattle.hubtexts.proofs.put_blocks.Goals.{then-message-ne0, else-message-ne0}

pub loop-b-init : goal.loop-b-init
loop-b-init c = let s = c.args.store.now in (omega arith, rw (blocks_begin s.w s.words.now s.from) (joining_begin _ _))

pub overflow_add-k : goal.overflow_add-k
overflow_add-k c = let l = c.loop-b in omega (arith, l.invariant.0)

pub loop-b-preserved : goal.loop-b-preserved
loop-b-preserved c =
    let s = c.args.store.now in
    let l = c.loop-b in
    let less = c.loop-b-test.true in
    let m = c.message.ensures in
    elim c.if-message-ne0.branch [
      | then-message-ne0 w ↦ rw (w.out-is, w.k-is) (omega (arith, l.invariant.0), joining_turn l.invariant.1 w.put_block.ensures (blocks_out s.w s.words.now s.from l.k l.b less (λ z. w.if-message-ne0.true (m ∙ z))))
      | else-message-ne0 w ↦ rw (w.out-is, w.k-is) (omega (arith, l.invariant.0), joining_same l.invariant.1 (blocks_in s.w s.words.now s.from l.k l.b less (sym m ∙ w.if-message-ne0.false)))
    ]

pub returns : goal.returns
returns c =
    let s = c.args.store.now in
    let l = c.loop-b in
    joining_end (joining_turn l.invariant.1 c.put_none.ensures (blocks_end s.w s.words.now s.from l.k l.b c.loop-b-test.false)) refl
