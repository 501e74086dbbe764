-- `differences::write_entries` meets its contract: the words so far are those of the places so far. Assumes nothing.
use Rattle.differences.proofs.Passes.{room_left, three_set, up_to_all, written_begin, written-differ, written_equal}
use lib.ListN.{length-set}
use lib.Seq.{length-sets}
use mathlib.Core.Path.{refl}
use Rattle.differences.proofs.write_entries.Goals.{else-old-new, then-old-new}
use native.Mathlib.Omega.{arith}
use Rattle.differences.proofs.write_entries.Goals as goal

pub loop-place-init : goal.loop-place-init
loop-place-init c = written_begin c.args.first.now c.args.second.now c.requires.first_len c.args.places.now

pub bounds-places-at : goal.bounds-places-at
bounds-places-at c =
    let a = c.args in
    let l = c.loop-place in
    omega (arith, room_left a.first.now a.second.now c.requires.first_len a.places.now l.places l.at l.place l.invariant (omega arith) c.if-old-new.true c.requires.room)

pub bounds-places-at-then-old-new : goal.bounds-places-at-then-old-new
bounds-places-at-then-old-new c =
    let a = c.args in
    let l = c.loop-place in
    let r = room_left a.first.now a.second.now c.requires.first_len a.places.now l.places l.at l.place l.invariant (omega arith) c.if-old-new.true c.requires.room in
    simp length-set (omega (arith, r))

pub bounds-places-at-then-old-new-2 : goal.bounds-places-at-then-old-new-2
bounds-places-at-then-old-new-2 c =
    let a = c.args in
    let l = c.loop-place in
    let r = room_left a.first.now a.second.now c.requires.first_len a.places.now l.places l.at l.place l.invariant (omega arith) c.if-old-new.true c.requires.room in
    simp length-set (omega (arith, r))

pub loop-place-preserved : goal.loop-place-preserved
loop-place-preserved c =
    let a = c.args in
    let l = c.loop-place in
    elim c.if-old-new.branch [
      | then-old-new w ↦ rw (w.places-is, w.at-is) (written-differ a.first.now a.second.now c.requires.first_len a.places.now l.places l.at l.place l.invariant (omega arith) w.if-old-new.true _ (three_set l.places l.at _ _ _ _ _ _ refl refl refl))
      | else-old-new w ↦ rw (w.places-is, w.at-is) (written_equal a.first.now a.second.now c.requires.first_len a.places.now l.places l.at l.place l.invariant (omega arith) w.if-old-new.false)
    ]

pub shape_of-places : goal.shape_of-places
shape_of-places c = rw c.loop-place.invariant.words (simp length-sets)

pub returns : goal.returns
returns c =
    let l = c.loop-place in
    rw (up_to_all c.args.first.now c.args.second.now l.place (omega arith) (omega (arith, c.requires.first_len))) at l.invariant.words
