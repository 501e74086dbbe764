-- `verdicts::judge_block` meets its contract. Assumes nothing.
use Rattle.moves.proofs.Laws.{valid_sound}
use Rattle.verdicts.proofs.Laws.{asked, held, held_few, range}
use Rattle.rules.specs.HubTable.{on_get, on_put, on_side, verdict}
use Rattle.rules.specs.Table.{Memory, hub, kind_of, side_of}
use lib.ListN.{length}
use mathlib.Core.Bool.{false≢true}
use mathlib.Core.Logic.{⊎_elim}
use mathlib.Core.Path.{◌∙◌, ◌≡◌, ap, refl}
use native.Mathlib.Omega.{arith}
use Rattle.verdicts.proofs.judge_block.Goals as goal

pub returns-then-c-eq-PUT : goal.returns-then-c-eq-PUT
unfolding kind_of on_put on_side side_of verdict
returns-then-c-eq-PUT c =
    record {
      below = c.put_memory.ensures.by_index _ (omega arith) (omega (arith, c.joined-block.ensures));
      result_value = λ L s y g a r k e.
          let d = c.args.c in
          let q = asked s g d a in
          let x = hub s d.target in
          let memory : kind_of x.kind ≡ Memory = ap kind_of k in
          let w = c.first_waiter-waiter.ensures.value L s y (valid_sound s g) g.waits q.named e in
          let out = c.is_out-out.ensures L s y q.named (held_few s g d a) e in
          c.put_memory.ensures.result_value x (length s.tasks) r (rw memory at (range s g d a)) (rw memory at (held s g d a)) out
          ∙ rw (w, c.if-c-eq-PUT.true, c.joined-block.ensures, memory) refl;
    }

pub returns : goal.returns
unfolding kind_of on_get on_side side_of verdict
returns c =
    record {
      below = c.get_memory.ensures.by_index _ (omega (arith, c.lowest_free.ensures.upper_bound));
      result_value = λ L s y g a r k e.
          let d = c.args.c in
          let q = asked s g d a in
          let x = hub s d.target in
          let memory : kind_of x.kind ≡ Memory = ap kind_of k in
          let get : d.side ≡ 2 = ⊎_elim (λ p. absurd (c.if-c-eq-PUT.false p)) (λ z. ⊎_elim (λ p. p) (λ p. absurd (let b = p.1 in false≢true cc)) z) q.side in
          c.get_memory.ensures.result_value x r (c.lowest_free.ensures.value L s y q.named (held_few s g d a) e)
          ∙ rw (get, memory) refl;
    }
