-- `hubtexts::put_blocks` meets its contract: the blocks so far, and what is left of them. Assumes nothing.
use Prim.Native.Nat.{◌≤◌}
use Rattle.hubtexts.proofs.Lists.{blocks_left}
use Rattle.hubtexts.specs.Cells.{blocks_text}
use Rattle.texts.proofs.Putting.{Joining}
use Rattle.hubtexts.proofs.put_blocks.Given as goal

abbrev pub invariant-loop-b : goal.invariant-loop-b
invariant-loop-b l = let s = l.store in (l.k ≤ l.b) × Joining l.initial.out l.out (blocks_left s.w s.words.now s.from l.k l.b) (blocks_text s.w s.words.now s.from)
