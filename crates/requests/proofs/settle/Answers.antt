-- `requests::settle` meets its contract. Assumes nothing.
use Rattle.hubtable.specs.Says.{Below, says}
use Rattle.requests.proofs.Laws.{failed_ahead, failed_state, met-ahead, refused_ahead, refused_state, waiting-state}
use Rattle.verdicts.proofs.Laws.{asked, caller-used}
use Rattle.rules.proofs.ModeNumbers.{same_nw}
use Rattle.rules.proofs.Valid.{Sound}
use Rattle.rules.specs.Calls.{HubRequest}
use Rattle.rules.specs.Reply.{ahead_for}
use Rattle.rules.specs.Table.{State, hub, words}
use borrow.Author.Rules.{rules}
use borrow.Author.Tests.{eqb-false, eqb-true}
use mathlib.Core.Path.{◌∙◌, ap, subst, sym}
use Rattle.requests.proofs.settle.Goals as goal

pub meet-requires : goal.meet-requires
meet-requires c = record { table = search rules; caller_bound = search rules; target_bound = search rules; below = subst (Below _) c.in-Met.is c.judge-v.ensures.below }

pub returns-in-Met : goal.returns-in-Met
returns-in-Met c =
    λ L s y g a n e.
    let j = c.judge-v.ensures.result_value L s y g a n e in
    let said = ap (says _) (sym c.in-Met.is) ∙ j in
    record { table = c.meet.ensures L s y g a said e; ahead = met-ahead _ s g _ a _ said }

pub returns-in-Fail : goal.returns-in-Fail
unfolding says
returns-in-Fail c =
    λ L s y g a n e.
    let k = c.args.c in
    let j = c.judge-v.ensures.result_value L s y g a n e in
    let said = ap (says (hub s k.target).held) (sym c.in-Fail.is) ∙ j in
    record {
      table = c.fail.ensures L s y g.tasks (caller-used s g k a) e ∙ ap (words L) (failed_state _ s k said);
      ahead = failed_ahead _ s g k a said;
    }

pub returns-then-eq : goal.returns-then-eq
unfolding says
returns-then-eq c =
    λ L s y g a n e.
    let k = c.args.c in
    let j = c.judge-v.ensures.result_value L s y g a n e in
    let said = ap (says (hub s k.target).held) (sym c.in-NotNow.is) ∙ j in
    let nw = eqb-true k.mode 2 (sym (c.eq.ensures ∙ same_nw c.of.result _ c.of.ensures) ∙ c.if-eq.true) in
    record {
      table = c.fail-then-eq.ensures L s y g.tasks (caller-used s g k a) e ∙ ap (words L) (refused_state _ s k said nw);
      ahead = refused_ahead _ s g k a nw;
    }

pub returns-else-eq : goal.returns-else-eq
unfolding says
returns-else-eq c =
    λ L s y g a n e.
    let k = c.args.c in
    let j = c.judge-v.ensures.result_value L s y g a n e in
    let sound : Sound s = record { tasks = g.tasks; hubs = g.hubs; listed = g.listed } in
    let said = ap (says (hub s k.target).held) (sym c.in-NotNow.is) ∙ j in
    let left = c.wait_there.ensures L s y sound (caller-used s g k a) (asked s g k a).named e in
    let other = eqb-false k.mode 2 (sym (c.eq.ensures ∙ same_nw c.of.result _ c.of.ensures) ∙ c.if-eq.false) in
    let same = waiting-state _ s k said other in
    record { table = left.table ∙ ap (words L) same; ahead = left.ahead ∙ ap (λ (z : State). ahead_for HubRequest z k) same }
