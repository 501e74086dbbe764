-- `hubtexts::put_words` meets its contract: the words so far, and what is left of them. Assumes nothing.
use Rattle.hubtexts.proofs.Lists.{words_begin, words_empty, words_end, words_turn}
use Rattle.texts.proofs.Putting.{joining_begin, joining_end, joining_turn, wrote_as}
use mathlib.Core.Path.{◌∙◌, refl}
use Rattle.hubtexts.proofs.put_words.Goals as goal

pub returns-then-count-eq0 : goal.returns-then-count-eq0
returns-then-count-eq0 c = let s = c.args.store.now in wrote_as c.bytes.ensures (words_empty s.w s.words.now s.from c.args.count c.if-count-eq0.true)

pub loop-k-init : goal.loop-k-init
loop-k-init c = let s = c.args.store.now in rw (words_begin s.w s.words.now s.from c.args.count c.if-count-eq0.false) (joining_begin _ _)

pub loop-k-preserved : goal.loop-k-preserved
loop-k-preserved c = let s = c.args.store.now in joining_turn c.loop-k.invariant c.put_word.ensures (words_turn s.w s.words.now s.from c.args.count c.loop-k.k c.loop-k-test.true ∙ rw (← c.message.ensures) refl)

pub returns : goal.returns
returns c = let s = c.args.store.now in joining_end c.loop-k.invariant (words_end s.w s.words.now s.from c.args.count c.loop-k.k c.loop-k-test.false)
