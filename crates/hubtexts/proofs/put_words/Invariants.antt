-- `hubtexts::put_words` meets its contract: the words so far, and what is left of them. Assumes nothing.
use Rattle.hubtexts.proofs.Lists.{words_all, words_left}
use Rattle.texts.proofs.Putting.{Joining}
use Rattle.hubtexts.proofs.put_words.Given as goal

abbrev pub invariant-loop-k : goal.invariant-loop-k
invariant-loop-k l = let s = l.store in Joining l.initial.out l.out (words_left s.w s.words.now s.from l.count l.k) (words_all s.w s.words.now s.from l.count)
