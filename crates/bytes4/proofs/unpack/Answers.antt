-- All words are those of the chunks, and back again they are the bytes, each below 256. Assumes nothing.
use Prim.Native.Nat.{◌*◌, ◌/◌}
use Rattle.bytes4.proofs.Laws.{bytes-words, words_chunks}
use Rattle.bytes4.specs.Bytes.{words_from}
use Rattle.std.proofs.lemmas.List.{take_all}
use lib.ListN.{length}
use mathlib.Core.Path.{◌∙◌, ◌≡◌}
use native.Mathlib.Omega.{arith}
use Rattle.bytes4.proofs.unpack.Goals as goal

pub returns : goal.returns
returns c =
    let b = c.args.b.now in
    let t = c.loop-i.t in
    let n : length b ≡ 4 * (length b / 4) = omega (arith, c.requires) in
    let all = take_all c.loop-i.i c.as_chunks.result.0.now (omega (arith, c.as_chunks.ensures.front_len, c.requires)) in
    let words : t ≡ words_from b =
    rw (take_all c.loop-i.i t (omega arith), all, c.as_chunks.ensures.front) at c.loop-i.invariant ∙ words_chunks (length b / 4) b n
    in
    record { words = words; back = rw words (bytes-words (length b / 4) b n (λ i h. omega (arith, c.type_inv.b i))) }
