-- `summaries::mask_of` meets its contract. The loop's invariant: the mask so far and the bits of what is left make the
-- mask of the whole list, and what is left is entries, then zeros; so from an empty entry on nothing is left. Assumes nothing.
use Prim.Native.Nat.{◌+◌}
use Rattle.lists.specs.Lists.{numbers}
use Rattle.summaries.proofs.Masks.{mask_ended, next_turn}
use Rattle.summaries.specs.Mask.{mask_of}
use lib.ListN.{drop, drop_of_length-le}
use mathlib.Core.List.{[]}
use mathlib.Core.Path.{◌≡◌}
use native.Mathlib.Numerals.{add-one}
use native.Mathlib.Omega.{arith}
use Rattle.summaries.proofs.mask_of.Goals as goal

pub loop-entry-init : goal.loop-entry-init
loop-entry-init c = (c.requires.list_value, omega arith)

pub bit_of-mask-requires : goal.bit_of-mask-requires
bit_of-mask-requires c = (next_turn _ c.loop-entry.entry-index c.loop-entry.mask c.requires.list_bound (omega arith) c.loop-entry.invariant.0 c.loop-entry.invariant.1).entry

pub overflow_add-mask : goal.overflow_add-mask
overflow_add-mask c = omega (arith, c.bit_of-mask.ensures, (next_turn _ c.loop-entry.entry-index c.loop-entry.mask c.requires.list_bound (omega arith) c.loop-entry.invariant.0 c.loop-entry.invariant.1).fits)

pub loop-entry-preserved : goal.loop-entry-preserved
loop-entry-preserved c =
    let t = next_turn _ c.loop-entry.entry-index c.loop-entry.mask c.requires.list_bound (omega arith) c.loop-entry.invariant.0 c.loop-entry.invariant.1 in
    rw (add-one, c.bit_of-mask.ensures) (t.packed, t.mask)

pub returns-then-entry-eq0 : goal.returns-then-entry-eq0
returns-then-entry-eq0 c =
    let l = c.loop-entry in
    let none = mask_ended c.args.list.now l.entry-index (omega arith) c.if-entry-eq0.true in
    omega (arith, none, l.invariant.1)

pub returns : goal.returns
unfolding mask_of numbers
returns c =
    let l = c.args.list.now in
    let none : drop c.loop-entry.entry-index l ≡ [] = drop_of_length-le l (omega arith) in
    let done : c.loop-entry.mask + mask_of (numbers []) ≡ mask_of (numbers l) = rw none at c.loop-entry.invariant.1 in
    omega arith
