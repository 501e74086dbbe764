-- `stores::lowest_free` meets its contract. The loop's invariant is `Looking`, in every layout and state: no mark below b is 0.
-- Assumes nothing.
use Rattle.stores.proofs.Blocks.{looking_begin, looking_end, looking_found, looking_turn}
use mathlib.Core.Path.{◌∙◌, ◌≡◌, sym}
use native.Mathlib.Omega.{arith}
use Rattle.stores.proofs.lowest_free.Goals as goal

pub loop-b-init : goal.loop-b-init
loop-b-init c = (omega arith, λ L s y used few e. looking_begin _)

pub returns-then-held_at-eq0 : goal.returns-then-held_at-eq0
returns-then-held_at-eq0 c = let l = c.loop-b in record { upper_bound = omega arith; value = λ L s y used few e. looking_found _ l.b (l.invariant.1 L s y used few e) (sym (c.held_at.ensures.value L s y used e) ∙ c.if-held_at-eq0.true) }

pub loop-b-preserved : goal.loop-b-preserved
loop-b-preserved c =
    let l = c.loop-b in
    (omega arith, λ L s y used few e. looking_turn _ l.b (l.invariant.1 L s y used few e) (λ z. c.if-held_at-eq0.false (c.held_at.ensures.value L s y used e ∙ z)))

pub returns : goal.returns
returns c =
    let l = c.loop-b in
    let all : 8 ≡ l.b = omega (arith, c.loop-b-test.false, l.invariant.0) in
    record { upper_bound = omega arith; value = λ L s y used few e. all ∙ looking_end _ l.b (l.invariant.1 L s y used few e) (omega (arith, all)) }
