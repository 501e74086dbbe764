-- `requests::request` meets its contract. Assumes nothing.
use Rattle.requests.proofs.Laws.{board-put, not-update, update-ahead}
use Rattle.rules.proofs.KindNumbers.{same_kind}
use Rattle.rules.specs.declared.kinds.Kind.TheVariants.{Board}
use Rattle.verdicts.proofs.Laws.{asked}
use mathlib.Core.Path.{◌∙◌, sym}
use Rattle.requests.proofs.request.Goals as goal

pub returns-then-eq-c : goal.returns-then-eq-c
returns-then-eq-c c =
    λ L s y g a e.
    let k = c.args.c in
    let r = c.hub_at-x.ensures L s y g.hubs (asked s g k a).named e in
    let both = board-put c.hub_at-x.result.kind k.side (rw (c.eq.ensures ∙ same_kind c.of.result Board _ c.of.ensures) at c.if-eq-c.true) in
    let board = sym r.kind ∙ both.0 in
    record { table = c.update.ensures L s y g a board both.1 e; ahead = update-ahead _ s g k a board both.1 }

pub returns-else-eq-c : goal.returns-else-eq-c
returns-else-eq-c c =
    λ L s y g a e.
    let k = c.args.c in
    let r = c.hub_at-x.ensures L s y g.hubs (asked s g k a).named e in
    let other = rw (c.eq.ensures ∙ same_kind c.of.result Board _ c.of.ensures) at c.if-eq-c.false in
    c.settle-ahead.ensures L s y g a (λ b. not-update _ _ other (r.kind ∙ b)) e
