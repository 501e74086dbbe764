-- `kernel::outcome_of` meets its contract. Assumes nothing.
use Rattle.kernel.proofs.Laws.{outcome-none, outcome_other, outcome-word}
use Rattle.rules.specs.Calls.{service_of}
use Rattle.rules.specs.Reply.{bears_answer, outcome_of}
use Rattle.rules.specs.Table.{Task}
use mathlib.Core.Bool.{false, true}
use mathlib.Core.Path.{◌∙◌, ◌≡◌, ap, sym}
use Rattle.kernel.proofs.outcome_of.Goals as goal

pub returns-then-not-bears_answer : goal.returns-then-not-bears_answer
returns-then-not-bears_answer c =
    λ L s y fits used e.
    let none : bears_answer (service_of c.args.c.service) ≡ false = ap bears_answer (sym c.requires.named) ∙ sym c.bears_answer.ensures ∙ c.if-not-bears_answer.true in
    outcome-none s c.args.c none

pub returns-in-1 : goal.returns-in-1
unfolding outcome_of
returns-in-1 c =
    λ L s y fits used e.
    let bears : bears_answer (service_of c.args.c.service) ≡ true = ap bears_answer (sym c.requires.named) ∙ sym c.bears_answer.ensures ∙ c.if-not-bears_answer.false in
    let x = c.task_at-x.ensures.value L s y fits (used bears) e in
    rw (sym (ap (λ (r : Task). r.answer) x) ∙ c.in-1.is) at (outcome-word s c.args.c bears)

pub returns-in-2 : goal.returns-in-2
unfolding outcome_of
returns-in-2 c =
    λ L s y fits used e.
    let bears : bears_answer (service_of c.args.c.service) ≡ true = ap bears_answer (sym c.requires.named) ∙ sym c.bears_answer.ensures ∙ c.if-not-bears_answer.false in
    let x = c.task_at-x.ensures.value L s y fits (used bears) e in
    rw (sym (ap (λ (r : Task). r.answer) x) ∙ c.in-2.is) at (outcome-word s c.args.c bears)

pub returns-in_default : goal.returns-in_default
returns-in_default c =
    λ L s y fits used e.
    let bears : bears_answer (service_of c.args.c.service) ≡ true = ap bears_answer (sym c.requires.named) ∙ sym c.bears_answer.ensures ∙ c.if-not-bears_answer.false in
    let x = c.task_at-x.ensures.value L s y fits (used bears) e in
    let answer = ap (λ (r : Task). r.answer) x in
    outcome_other _ (λ z. c.in_default.in_default-own.rest.0.1 (answer ∙ z)) (λ z. c.in_default.in_default-own.rest.1 (answer ∙ z)) ∙ outcome-word s c.args.c bears
