-- One word more is its four bytes more. A word is below 2 ^ 32. Assumes nothing.
use Prim.Native.Nat.{◌*◌, ◌+◌}
use Rattle.bytes4.proofs.Laws.{bytes_more, words-bytes}
use Rattle.bytes4.specs.Bytes.{bytes_of}
use Rattle.std.proofs.lemmas.List.{take_all}
use Rattle.std.proofs.lemmas.Slice.{take-put_mid}
use Rattle.std.specs.Int.{to_le_bytes, w32}
use lib.ListN.{get_or, length}
use mathlib.Core.Path.{◌∙◌, ◌≡◌, ap, refl, sym}
use native.Mathlib.Omega.{arith}
use Rattle.bytes4.proofs.pack.Goals as goal

pub loop-i-init : goal.loop-i-init
unfolding bytes_of
loop-i-init c = refl

pub loop-i-preserved : goal.loop-i-preserved
loop-i-preserved c =
    let l = c.loop-i in
    let t = c.args.t.now in
    let four : c.copy_from_slice.new.self ≡ to_le_bytes w32 (get_or t l.i 0) = c.copy_from_slice.ensures.after ∙ c.to_le_bytes.ensures in
    let long : length c.copy_from_slice.new.self ≡ 4 = ap length four in
    take-put_mid (4 * l.i) _ l.b c.copy_from_slice.new.self (4 * (l.i + 1)) (omega (arith, long)) (omega arith)
    ∙ rw (l.invariant, four) (sym (bytes_more t l.i c.loop-i-test.true))

pub returns : goal.returns
returns c =
    let t = c.args.t.now in
    let b = c.loop-i.b in
    let bytes : b ≡ bytes_of t =
    rw (take_all (4 * c.loop-i.i) b (omega arith), take_all c.loop-i.i t c.loop-i-test.false) at c.loop-i.invariant
    in
    record { bytes = bytes; back = rw bytes (words-bytes t (λ i h. omega (arith, c.type_inv.t i))) }
