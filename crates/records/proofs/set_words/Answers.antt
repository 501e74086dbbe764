-- `records::set_words` meets its contract: one move of all the words, or of those that have room. Assumes nothing.
use Prim.Native.Nat.{◌+◌, ◌-◌, ◌≤◌, ℕ}
use Rattle.records.proofs.Laws.{sets_past, sets_room}
use Rattle.std.proofs.lemmas.List.Edits.{sets-eq}
use Rattle.std.proofs.lemmas.List.{append_assoc, drop-drop, length-take-le}
use borrow.Rule.Slice.PartMut.{put_mid}
use lib.ListN.{length, take}
use lib.Seq.{sets}
use mathlib.Core.List.{List}
use mathlib.Core.Path.{◌∙◌, ◌≡◌, sym}
use native.Mathlib.Omega.{arith}
use Rattle.records.proofs.set_words.Goals as goal

written : (t words moved : List ℕ) (p k : ℕ) → moved ≡ words → k ≡ length words → p + length words ≤ length t → put_mid p k t moved ≡ sets t p words
written t words moved p k e n h = rw (e, n, sets-eq words t p h, append_assoc, drop-drop (length words) p t)

pub returns-then-end-t : goal.returns-then-end-t
returns-then-end-t c =
    let a = c.args in
    written a.t.now a.words.now _ a.p _ c.copy_from_slice.ensures.after (omega arith) c.if-end-t.true

pub returns-then-p-t : goal.returns-then-p-t
returns-then-p-t c =
    let a = c.args in
    let n = length a.t.now - a.p in
    let room : n ≡ length (take n a.words.now) = sym (length-take-le n a.words.now (omega arith)) in
    written a.t.now (take n a.words.now) _ a.p n c.copy_from_slice-then-p-t.ensures.after room (omega (arith, room))
    ∙ sym (sets_room a.t.now a.p a.words.now n (omega arith))

pub returns-else-p-t : goal.returns-else-p-t
returns-else-p-t c = sym (sets_past c.args.t.now c.args.p c.args.words.now c.if-p-t.false)
