-- The running task in the words of a table. A turn of the search for it: where the list has ended (`running_none`), and where
-- an entry stands (`running_some`).
-- Not here: where the parts of a state stand in its words (crate rules, proofs/Places.antt). Assumes nothing.
use Prim.Native.Nat.{◌*◌, ◌+◌, ◌<◌, ◌≤◌, suc, ℕ}
use Rattle.lists.proofs.Counting.{occ-drop}
use Rattle.lists.proofs.Laws.{entries_none, entries-some}
use Rattle.lists.specs.Lists.{entries, occ}
use Rattle.records.specs.Records.{ready_at as ready_from, task_at}
use Rattle.rules.proofs.Changes.{in_use}
use Rattle.rules.proofs.Layouts.{Laid, sized}
use Rattle.rules.proofs.Places.{ready-word, task-word}
use Rattle.rules.proofs.Standing.{listed-ready}
use Rattle.rules.proofs.Valid.{Listed, Room}
use Rattle.rules.specs.Lists.{first_free}
use Rattle.rules.specs.Table.{Layout, State, task, words}
use borrow.Author.Tests.{eq-eqb}
use lib.Dec.{eqb}
use lib.ListN.{drop, get_or, length}
use mathlib.Core.Bool.{cond, not}
use mathlib.Core.List.{◌∷◌}
use mathlib.Core.Path.{◌≡◌, ◌∙◌, refl, sym}
use native.Mathlib.Omega.{arith}

module _ {ts : ℕ} (L : Layout) (y : Laid ts L) (s : State) (listed : Listed s) where
  module _ (room : Room s) (k : ℕ) (h : k < 16) where
    ready : get_or (words L s) (ready_from ts + k) 0 ≡ get_or (entries 16 s.ready) k 0
    ready = rw y.size (ready-word L (sized y) s k h)

    pub running_none : get_or (words L s) (ready_from ts + k) 0 ≡ 0 → first_free s (drop k s.ready) ≡ 0
    unfolding first_free
    running_none e = rw (entries_none 16 s.ready k h (sym ready ∙ e))

    -- one entry: the flag of its task in the words, and by it the entry or what the rest has
    pub running_some : (i : ℕ) → get_or (words L s) (ready_from ts + k) 0 ≡ suc i
        → first_free s (drop k s.ready) ≡ cond (not (eqb (task_at ts (words L s) i).suspended 0)) (first_free s (drop (suc k) s.ready)) (suc i)
    unfolding first_free occ task_at
    running_some i e =
        let here : drop k s.ready ≡ i ∷ drop (suc k) s.ready = entries-some 16 s.ready k i h (sym ready ∙ e) in
        let met : 1 ≤ occ i (drop k s.ready) = rw (here, eq-eqb i i refl) (omega arith) in
        let used : i < length s.tasks = in_use s i 0 (listed-ready s listed i (omega (arith, occ-drop i k s.ready))) in
        let flag : get_or (words L s) (8 + i * ts + 1) 0 ≡ (task s i).suspended = rw y.size (task-word L (sized y) s i 1 (omega (arith, room.tasks)) used (omega arith)) in
        rw (here, flag)
