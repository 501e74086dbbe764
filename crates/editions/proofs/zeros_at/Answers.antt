-- `editions::zeros_at` meets its contract: the words so far are 0. Assumes nothing.
use Rattle.rules.proofs.HighWords.{zeros_more, zeros-none, zeros-not}
use mathlib.Core.Path.{◌∙◌, ◌≡◌, sym}
use native.Mathlib.Omega.{arith}
use Rattle.editions.proofs.zeros_at.Goals as goal

pub loop-i-init : goal.loop-i-init
loop-i-init c = zeros-none c.args.at c.args.size c.args.f c.args.t.now

pub returns-then-field-ne0 : goal.returns-then-field-ne0
returns-then-field-ne0 c = let a = c.args in sym (zeros-not a.at a.size a.f a.t.now a.n c.loop-i.i (omega arith) (λ z. c.if-field-ne0.true (c.field.ensures ∙ z)))

pub loop-i-preserved : goal.loop-i-preserved
loop-i-preserved c = let a = c.args in zeros_more a.at a.size a.f a.t.now c.loop-i.i c.loop-i.invariant (sym c.field.ensures ∙ c.if-field-ne0.false)

pub returns : goal.returns
returns c = let e : c.loop-i.i ≡ c.args.n = omega arith in rw (← e) (sym c.loop-i.invariant)
