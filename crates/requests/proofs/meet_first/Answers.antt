-- `requests::meet_first` meets its contract. Assumes nothing.
use Rattle.moves.proofs.Laws.{entry_read, waiter_in}
use Rattle.records.specs.Entries.{numbered}
use Rattle.records.specs.Records.{first}
use Rattle.requests.proofs.Boards.{first-met, first_stands, none-met}
use Rattle.rules.specs.Table.{hub, words}
use mathlib.Core.Path.{◌∙◌, ap, sym}
use native.Mathlib.Omega.{arith}
use Rattle.requests.proofs.meet_first.Goals as goal

pub returns-then-first-lt16 : goal.returns-then-first-lt16
returns-then-first-lt16 c =
    λ L s y sound used e.
    let h = c.args.h.0 in
    let read = rw (e, c.waits_at.ensures) at c.word.ensures ∙ entry_read L s y sound.hubs h used in
    let is = sym (ap numbered c.in-Some.is) ∙ c.entry-first.ensures.value ∙ ap first read in
    c.wake_task.ensures L s y sound (waiter_in s sound.listed h _ (first_stands (hub s h).waiters _ is)) e
    ∙ ap (words L) (first-met _ _ s (hub s h).waiters _ is)

pub returns-else-first-lt16 : goal.returns-else-first-lt16
returns-else-first-lt16 c =
    λ L s y sound used e.
    let h = c.args.h.0 in
    let read = rw (e, c.waits_at.ensures) at c.word.ensures ∙ entry_read L s y sound.hubs h used in
    let is = sym (ap numbered c.in-Some.is) ∙ c.entry-first.ensures.value ∙ ap first read in
    absurd (omega (arith, waiter_in s sound.listed h _ (first_stands (hub s h).waiters _ is), sound.tasks, c.if-first-lt16.false))

pub returns-in_default : goal.returns-in_default
returns-in_default c =
    λ L s y sound used e.
    let h = c.args.h.0 in
    let read = rw (e, c.waits_at.ensures) at c.word.ensures ∙ entry_read L s y sound.hubs h used in
    e ∙ ap (words L) (none-met _ _ s (hub s h).waiters (sym (ap numbered c.in_default.is) ∙ c.entry-first.ensures.value ∙ ap first read))
