-- `messages::set_message` meets its contract: one store, or two. Assumes nothing.
use Rattle.messages.proofs.Laws.{words-one, words-two}
use native.Mathlib.Numerals.{add-one}
use Rattle.messages.proofs.set_message.Goals as goal

pub returns-then-w-gt1 : goal.returns-then-w-gt1
returns-then-w-gt1 c =
    let a = c.args in
    rw (
      c.set_word-then-w-gt1.ensures,
      c.set_word.ensures,
      words-two a.w c.if-w-gt1.true a.m,
      add-one,
    )

pub returns-else-w-gt1 : goal.returns-else-w-gt1
returns-else-w-gt1 c =
    let a = c.args in
    rw (c.set_word.ensures, words-one a.w c.if-w-gt1.false a.m)
