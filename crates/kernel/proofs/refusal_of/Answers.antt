-- `kernel::refusal_of` meets its contract. Assumes nothing.
use borrow.Author.Rules.{rules}
use Rattle.kernel.proofs.Laws.{blank_0, judged_no, refused_1, refused_2, refused_3, refused_by_service, unnamed}
use Rattle.rules.proofs.After.{valid_in, words_in}
use Rattle.rules.proofs.Coded.{code-some, fails, handed_on, passes}
use Rattle.rules.proofs.Layouts.{store_place}
use Rattle.rules.proofs.Room.{valid-room}
use Rattle.rules.proofs.ServiceNumbers.{same_service}
use Rattle.rules.specs.Table.{read}
use Rattle.rules.specs.declared.services.Service.TheVariants.{Blank}
use borrow.Author.Tests.{eqb-false, eqb-true}
use mathlib.Core.Path.{◌∙◌, sym}
use native.Mathlib.Omega.{arith}
use Rattle.kernel.proofs.refusal_of.Goals as goal

pub returns-in_err-need-clause-judged : goal.returns-in_err-need-clause-judged
returns-in_err-need-clause-judged c =
    λ L y.
    let no = fails _ _ 1 c.in_err-need.ensures in
    let told = handed_on _ _ c.from_residual.ensures.1 in
    judged_no L _ _ _ (told ∙ no.1 ∙ refused_1 L _ _ (λ e. eqb-false _ _ no.0 (e ∙ sym (c.table_size.ensures ∙ store_place y 16)))) (λ z. code-some _ (sym told ∙ z))

pub returns-then-eq-clause-judged : goal.returns-then-eq-clause-judged
returns-then-eq-clause-judged c =
    λ L y.
    let none = eqb-true c.args.c.service 0 (sym (c.eq.ensures ∙ same_service c.of-service.result Blank _ c.of-service.ensures) ∙ c.if-eq.true) in
    record {
      refusal = blank_0 L _ _ (eqb-true _ _ (passes _ 0 c.in_ok-need.ensures) ∙ (c.table_size.ensures ∙ store_place y 16)) none;
      long = λ z. search rules;
      keys = λ z n. absurd (n none);
    }

pub returns-in_err-need-2-clause-judged : goal.returns-in_err-need-2-clause-judged
returns-in_err-need-2-clause-judged c =
    λ L y.
    let some = eqb-false c.args.c.service 0 (sym (c.eq.ensures ∙ same_service c.of-service.result Blank _ c.of-service.ensures) ∙ c.if-eq.false) in
    let no = fails _ _ 2 c.in_err-need-2.ensures in
    let told = handed_on _ _ c.from_residual-in_err-need-2.ensures.1 in
    judged_no L _ _ _
    (told ∙ no.1 ∙ refused_2 L _ _ (eqb-true _ _ (passes _ 0 c.in_ok-need.ensures) ∙ (c.table_size.ensures ∙ store_place y 16)) some (sym (c.well_formed_keys.ensures L y).right ∙ no.0))
    (λ z. code-some _ (sym told ∙ z))

pub returns-in_err-service-clause-judged : goal.returns-in_err-service-clause-judged
returns-in_err-service-clause-judged c =
    λ L y.
    let some = eqb-false c.args.c.service 0 (sym (c.eq.ensures ∙ same_service c.of-service.result Blank _ c.of-service.ensures) ∙ c.if-eq.false) in
    let told = handed_on _ _ c.from_residual-in_err-service.ensures.1 in
    let no = unnamed c.of-service.result _ c.in_err-service.ensures.value in
    judged_no L _ _ _
    (told ∙ no.1 ∙ refused_3 L _ _ (eqb-true _ _ (passes _ 0 c.in_ok-need.ensures) ∙ (c.table_size.ensures ∙ store_place y 16)) some (sym (c.well_formed_keys.ensures L y).right ∙ passes _ 1 c.in_ok-need-2.ensures) (sym c.of-service.ensures ∙ no.0))
    (λ z. code-some _ (sym told ∙ z))

pub returns-in_err-for_service-clause-judged : goal.returns-in_err-for_service-clause-judged
returns-in_err-for_service-clause-judged c =
    λ L y.
    let some = eqb-false c.args.c.service 0 (sym (c.eq.ensures ∙ same_service c.of-service.result Blank _ c.of-service.ensures) ∙ c.if-eq.false) in
    let told = handed_on _ _ c.from_residual-in_err-for_service.ensures.1 in
    let t = c.args.t.now in
    let w = sym (c.well_formed_keys.ensures L y).right ∙ passes _ 1 c.in_ok-need-2.ensures in
    let g = valid_in L t w in
    judged_no L _ _ _
    (told ∙ c.in_err-for_service.ensures L (read L t) y g (valid-room (read L t) g) (words_in L t w y (λ k. omega (arith, c.type_inv.t k)))
    ∙ refused_by_service L _ _ (eqb-true _ _ (passes _ 0 c.in_ok-need.ensures) ∙ (c.table_size.ensures ∙ store_place y 16)) some w)
    (λ z. code-some _ (sym told ∙ z))

pub returns-clause-judged : goal.returns-clause-judged
returns-clause-judged c =
    λ L y.
    let some = eqb-false c.args.c.service 0 (sym (c.eq.ensures ∙ same_service c.of-service.result Blank _ c.of-service.ensures) ∙ c.if-eq.false) in
    let t = c.args.t.now in
    let f = c.well_formed_keys.ensures L y in
    let yes = passes _ 1 c.in_ok-need-2.ensures in
    let w = sym f.right ∙ yes in
    let g = valid_in L t w in
    record {
      refusal =
          c.in_ok-for_service.ensures L (read L t) y g (valid-room (read L t) g) (words_in L t w y (λ k. omega (arith, c.type_inv.t k)))
          ∙ refused_by_service L _ _ (eqb-true _ _ (passes _ 0 c.in_ok-need.ensures) ∙ (c.table_size.ensures ∙ store_place y 16)) some w;
      long = λ z. f.long yes;
      keys = λ z n. f.keys yes;
    }
