-- `tablebytes::table_words` meets its contract: the words of a table of edition 1, in front of the array; of edition 2, all of it; none of
-- other bytes. Assumes nothing.
use Prim.Native.Nat.{ℕ}
use Rattle.tablebytes.proofs.Laws.{all_in_front, fits_one, fits-two, in_front, none_in_front}
use Rattle.rules.specs.Table.{one, size, two}
use lib.ListN.{length, take}
use lib.Seq.{length-take-le}
use mathlib.Core.List.{List}
use mathlib.Core.Path.{◌≡◌, sym}
use native.Mathlib.Omega.{arith}
use Rattle.tablebytes.proofs.table_words.Goals as goal

-- the array has room for a table of edition 1
room-one : (t : List ℕ) → length t ≡ size two → length (take (size one) t) ≡ size one
room-one t e = length-take-le (size one) t (omega (arith, e))

pub slice_bounds-unpack-end-in-2400 : goal.slice_bounds-unpack-end-in-2400
slice_bounds-unpack-end-in-2400 c = sym (room-one c.args.words.now c.requires)

pub returns-in-2400 : goal.returns-in-2400
returns-in-2400 c =
    let t = c.in-2400.is in
    in_front _ _ (fits_one _ t) t c.unpack.ensures _

pub returns-in-2976 : goal.returns-in-2976
returns-in-2976 c =
    let t = c.in-2976.is in
    all_in_front _ _ (fits-two _ t) t c.unpack-in-2976.ensures

pub returns-in_default : goal.returns-in_default
returns-in_default c = none_in_front _ (λ e. omega (arith, e)) (λ e. omega (arith, e)) _
