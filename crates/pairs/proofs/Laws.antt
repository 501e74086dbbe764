-- The way out of the rows' edge: what is shown of the words in front of two arrays is shown of the bytes. Assumes nothing.
use Prim.Native.Nat.{ℕ}
use Rattle.pairs.specs.Pairs.{RowsOfBytes, rows_numbers_of}
use Rattle.pairs.specs.declared.HubKernelRowsReply.{HubKernelRowsReply}
use Rattle.rules.specs.declared.Refusal.{Refusal}
use Rattle.sidebyside.specs.Shows.{Shows}
use Rattle.sidebyside.specs.declared.Shown.{Shown}
use Rattle.tablebytes.specs.TableBytes.{InFront}
use Rattle.std.specs.Prelude.{Result}
use lib.ListN.{take}
use mathlib.Core.List.{List}
use mathlib.Core.Path.{◌≡◌}

pub rows-shown : (first second text : List ℕ) {a b : List ℕ} {n m : ℕ} → InFront first a n → InFront second b m
    → {r : Result Shown Refusal} {text' : List ℕ} → Shows (take n a) (take m b) text r text' → {n' : HubKernelRowsReply} → n' ≡ rows_numbers_of r
    → RowsOfBytes first second text n' text'
rows-shown first second text f g s e = record {
  reply = rw (← f.front, ← g.front, ← s.reply) e;
  bytes = rw (← f.front, ← g.front) s.bytes;
}
