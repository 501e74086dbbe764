-- `hubtable::on_wipe` meets its contract: a Board, or any other kind. Assumes nothing.
use Prim.Native.Nat.{ℕ}
use Rattle.hubtable.proofs.Rows.{at_most_none, board-one, no_wipe}
use Rattle.hubtable.specs.Says.{Below, StoreBelow, says, store_after}
use Rattle.rules.proofs.KindNumbers.{same_kind}
use Rattle.rules.specs.HubTable.{met, on_wipe}
use Rattle.rules.specs.Table.{kind_of}
use Rattle.rules.specs.declared.kinds.Kind.TheVariants.{Board}
use borrow.Author.Tests.{eqb-false, eqb-true}
use mathlib.Core.List.{List, []}
use mathlib.Core.Path.{◌∙◌, ap, sym}
use Rattle.hubtable.proofs.on_wipe.Goals as goal

pub returns-then-eq : goal.returns-then-eq
unfolding StoreBelow kind_of on_wipe store_after
returns-then-eq c =
    record {
      result_value = (λ x T e r f.
          let is = eqb-true c.args.h.kind 6 (sym (c.eq.ensures ∙ same_kind c.of.result Board c.args.h.kind c.of.ensures) ∙ c.if-eq.true) in
          let board = ap kind_of (sym e.kind ∙ is) in
          c.alone.ensures.by_index x.held ∙ rw board (ap (λ (l : List ℕ). met 0 l 0 []) (at_most_none x.held (board-one x T (rw board at r) (rw board at f)))));
      by_index = λ b z. c.alone.ensures.by_index_2 b tt z;
    }

pub returns : goal.returns
unfolding Below says
returns c =
    record {
      result_value = (λ x T e r f.
          let not_board = eqb-false c.args.h.kind 6 (sym (c.eq.ensures ∙ same_kind c.of.result Board c.args.h.kind c.of.ensures) ∙ c.if-eq.false) in
          no_wipe x.kind (λ k. not_board (e.kind ∙ k)));
      by_index = λ b z. tt;
    }
