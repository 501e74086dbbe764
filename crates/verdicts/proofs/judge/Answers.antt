-- `verdicts::judge` meets its contract. Assumes nothing.
use Rattle.moves.proofs.Laws.{valid_sound}
use Rattle.verdicts.proofs.Laws.{asked, first-used}
use Rattle.rules.proofs.KindNumbers.{same_kind}
use Rattle.rules.specs.HubTable.{on_side, verdict}
use Rattle.rules.specs.Table.{hub, side_of}
use Rattle.rules.specs.declared.kinds.Kind.TheVariants.{Memory}
use borrow.Author.Tests.{eqb-false, eqb-true}
use lib.ListN.{length}
use mathlib.Core.Logic.{⊎_elim}
use mathlib.Core.Path.{◌∙◌, ◌≡◌, refl, sym}
use native.Mathlib.Omega.{arith}
use Rattle.verdicts.proofs.judge.Goals as goal

pub returns-then-c-eq-WIPE : goal.returns-then-c-eq-WIPE
unfolding on_side side_of verdict
returns-then-c-eq-WIPE c =
    record {
      below = c.on_wipe.ensures.by_index _ (omega arith);
      result_value = λ L s y g a n e.
          let k = c.args.c in
          let q = asked s g k a in
          let r = c.hub_at-x.ensures L s y g.hubs q.named e in
          c.on_wipe.ensures.result_value (hub s k.target) (length s.tasks) r (g.ranges.range k.target q.named) (g.ranges.held k.target q.named)
          ∙ rw c.if-c-eq-WIPE.true refl;
    }

pub returns-then-eq : goal.returns-then-eq
returns-then-eq c =
    record {
      below = c.judge_block.ensures.below;
      result_value = λ L s y g a n e.
          let k = c.args.c in
          let r = c.hub_at-x.ensures L s y g.hubs (asked s g k a).named e in
          c.judge_block.ensures.result_value L s y g a r (sym r.kind ∙ eqb-true _ 7 (sym (c.eq.ensures ∙ same_kind c.of.result Memory _ c.of.ensures) ∙ c.if-eq.true)) e;
    }

pub returns-then-c-eq-PUT : goal.returns-then-c-eq-PUT
unfolding on_side side_of verdict
returns-then-c-eq-PUT c =
    record {
      below = c.on_put.ensures.by_index _ (omega arith) (omega arith);
      result_value = λ L s y g a n e.
          let k = c.args.c in
          let q = asked s g k a in
          let x = hub s k.target in
          let r = c.hub_at-x.ensures L s y g.hubs q.named e in
          let w = c.first_waiter-waiter.ensures.value L s y (valid_sound s g) g.waits q.named e in
          let put = c.if-c-eq-PUT.true in
          c.on_put.ensures.result_value x s (length s.tasks) r (g.ranges.range k.target q.named) (λ b. n b put) (λ m. eqb-false _ 7 (sym (c.eq.ensures ∙ same_kind c.of.result Memory _ c.of.ensures) ∙ c.if-eq.false) (r.kind ∙ m)) c.first_waiter-waiter.ensures.low
          ∙ rw (w, put, c.joined.ensures) refl;
    }

pub returns : goal.returns
unfolding on_side side_of verdict
returns c =
    record {
      below = c.on_get.ensures.by_index _ (omega arith) c.word_of-its.ensures.upper_bound c.held_at-oldest.ensures.upper_bound;
      result_value = λ L s y g a n e.
          let k = c.args.c in
          let q = asked s g k a in
          let x = hub s k.target in
          let r = c.hub_at-x.ensures L s y g.hubs q.named e in
          let w = c.first_waiter-waiter-2.ensures.value L s y (valid_sound s g) g.waits q.named e in
          let get : k.side ≡ 2 = ⊎_elim (λ p. absurd (c.if-c-eq-PUT.false p)) (λ z. ⊎_elim (λ p. p) (λ p. absurd (c.if-c-eq-WIPE.false p.0)) z) q.side in
          c.on_get.ensures.result_value x s (length s.tasks) r (g.ranges.range k.target q.named) (g.ranges.held k.target q.named) (λ m. eqb-false _ 7 (sym (c.eq.ensures ∙ same_kind c.of.result Memory _ c.of.ensures) ∙ c.if-eq.false) (r.kind ∙ m))
          (λ i p. c.word_of-its.ensures.value L s i y g.tasks e p (first-used s g k a 1 i (sym w ∙ p))) (c.held_at-oldest.ensures.value L s y q.named e)
          ∙ rw (w, get) refl;
    }
