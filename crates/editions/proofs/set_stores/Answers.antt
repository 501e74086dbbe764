-- `editions::set_stores` meets its contract: the messages so far are one run of stores. Assumes nothing.
use Prim.Native.Nat.{◌*◌, ◌+◌, ◌≤◌}
use Rattle.editions.proofs.Joined.{joined_turn}
use Rattle.editions.specs.Editions.{joined}
use Rattle.messages.proofs.Laws.{length-message}
use Rattle.messages.specs.Messages.{message_at, message_words}
use lib.Seq.{length-sets}
use mathlib.Core.Path.{◌∙◌, ◌≡◌, ap, refl}
use native.Mathlib.Nat.{mul-le-mul_left}
use native.Mathlib.Omega.{arith}
use Rattle.editions.proofs.set_stores.Goals as goal

pub loop-k-init : goal.loop-k-init
loop-k-init c = unfold joined in refl

pub overflow_mul-k : goal.overflow_mul-k
overflow_mul-k c = let few : c.width_of-v.result ≤ 2 = omega arith in omega (arith, mul-le-mul_left c.loop-k.k few)

pub overflow_add-a : goal.overflow_add-a
overflow_add-a c = let few : c.width_of-v.result ≤ 2 = omega arith in omega (arith, mul-le-mul_left c.loop-k.k few)

pub message-m-requires : goal.message-m-requires
message-m-requires c = let few : c.width_of-v.result ≤ 2 = omega arith in omega (arith, mul-le-mul_left c.loop-k.k few)

pub overflow_mul-k-in-loop-k : goal.overflow_mul-k-in-loop-k
overflow_mul-k-in-loop-k c = let few : c.width_of-w.result ≤ 2 = omega arith in omega (arith, mul-le-mul_left c.loop-k.k few)

pub overflow_add-b : goal.overflow_add-b
overflow_add-b c = let few : c.width_of-w.result ≤ 2 = omega arith in omega (arith, mul-le-mul_left c.loop-k.k few)

pub set_message-requires : goal.set_message-requires
set_message-requires c = let few : c.width_of-w.result ≤ 2 = omega arith in omega (arith, mul-le-mul_left c.loop-k.k few)

pub loop-k-preserved : goal.loop-k-preserved
loop-k-preserved c =
    let a = c.args in
    let l = c.loop-k in
    let w = c.width_of-w.result in
    let b = c.stores_at-b.result in
    let v = c.width_of-v.result in
    let from = c.stores_at-a.result in
    let some : 1 ≤ w = omega arith in
    let few : w ≤ 2 = omega arith in
    (c.set_message.ensures ∙ joined_turn w (λ j. message_words w (message_at v a.from.now (from + j * v))) (λ j. length-message w (message_at v a.from.now (from + j * v)) some few) a.to.now l.to _ b l.k l.invariant (ap (message_words w) c.message-m.ensures.value))

pub shape_of-to : goal.shape_of-to
shape_of-to c = rw c.loop-k.invariant (simp length-sets)

pub returns : goal.returns
returns c =
    let e : c.loop-k.k ≡ 128 = omega arith in
    rw (e, c.width_of-w.ensures, c.stores_at-b.ensures, c.width_of-v.ensures, c.stores_at-a.ensures) at c.loop-k.invariant
