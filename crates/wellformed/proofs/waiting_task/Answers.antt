-- `wellformed::waiting_task` meets its contract: the ticks, then one that bears a word, and one that does not. Assumes nothing.
use Prim.Native.Nat.{ℕ}
use Rattle.messages.specs.Messages.{message_at}
use Rattle.rules.proofs.Layouts.{wide}
use Rattle.rules.proofs.Reading.{read-hubs}
use Rattle.rules.specs.Table.{read}
use Rattle.wellformed.proofs.Turns.{answer_last, waiting_as, waiting_bare, waiting-long}
use Rattle.wellformed.specs.Walks.{record_of}
use mathlib.Core.Path.{◌∙◌, ap, refl, sym}
use Rattle.wellformed.proofs.waiting_task.Goals as goal

pub returns-then-x-gt-MOST_TICKS : goal.returns-then-x-gt-MOST_TICKS
returns-then-x-gt-MOST_TICKS c L y = sym (waiting-long _ (record_of L c.args.x.now) c.if-x-gt-MOST_TICKS.true)

pub returns-then-not-wordless : goal.returns-then-not-wordless
returns-then-not-wordless c L y =
    let l = c.args.x.now in
    let wide_is = c.width_of.ensures ∙ wide y in
    let word = c.message-word.ensures.value ∙ ap (λ (w : ℕ). message_at w l 6) wide_is ∙ sym (y.reads l 6) in
    c.waiting_right.ensures L (record_of L l) y refl refl (sym word) (sym (answer_last L y l))
    ∙ sym (waiting_as (read L c.args.t.now.words.now) (record_of L l) c.if-x-gt-MOST_TICKS.false)

pub returns : goal.returns
returns c L y =
    let l = c.args.x.now in
    let none = sym (c.wordless.ensures L y) ∙ c.if-not-wordless.false in
    rw
    (answer_last L y l)
    (sym (rw (read-hubs L c.args.t.now.words.now) at (waiting_bare (read L c.args.t.now.words.now) (record_of L l) c.if-x-gt-MOST_TICKS.false none)))
