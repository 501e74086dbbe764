-- `messages::message` meets its contract. Assumes nothing.
use Rattle.messages.proofs.Laws.{at-two, at_one}
use native.Mathlib.Omega.{arith}
use Rattle.messages.proofs.message.Goals as goal

pub returns-then-w-gt1 : goal.returns-then-w-gt1
returns-then-w-gt1 c =
    let a = c.args in
    record {
      value = rw (at-two a.w c.if-w-gt1.true, ← c.word-low.ensures, ← c.word.ensures) c.joined.ensures;
      low = omega arith;
    }

pub returns-else-w-gt1 : goal.returns-else-w-gt1
returns-else-w-gt1 c =
    let a = c.args in
    record { value = rw (at_one a.w c.if-w-gt1.false, ← c.word-low.ensures) c.from.ensures; low = omega arith }
