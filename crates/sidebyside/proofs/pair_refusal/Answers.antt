-- `sidebyside::pair_refusal` meets its contract: each way out by its tests. Assumes nothing.
use Rattle.differences.proofs.Ways.{table-formed}
use Rattle.rules.proofs.Coded.{code-some, handed_on}
use Rattle.sidebyside.proofs.Ways.{pair-first, pair_last, pair_second}
use mathlib.Core.Path.{◌∙◌, sym}
use Rattle.sidebyside.proofs.pair_refusal.Goals as goal

pub returns-in_err-refusal_of : goal.returns-in_err-refusal_of
returns-in_err-refusal_of c = handed_on _ _ c.from_residual.ensures.1 ∙ pair-first c.args.a.now c.args.b.now _ c.in_err-refusal_of.ensures (code-some _)

pub returns-in_err-refusal_of-2 : goal.returns-in_err-refusal_of-2
returns-in_err-refusal_of-2 c =
    let f = table-formed c.args.a.now (sym c.in_ok-refusal_of.ensures) in
    handed_on _ _ c.from_residual-in_err-refusal_of-2.ensures.1 ∙ pair_second c.args.a.now c.args.b.now f _ c.in_err-refusal_of-2.ensures (code-some _)

pub returns : goal.returns
returns c =
    let f = table-formed c.args.a.now (sym c.in_ok-refusal_of.ensures) in
    let g = table-formed c.args.b.now (sym c.in_ok-refusal_of-2.ensures) in
    pair_last c.args.a.now c.args.b.now f g _ c.need.ensures
