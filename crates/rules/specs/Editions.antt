-- M-105, "Two-word messages, edition 2": a table moved from edition 1 to edition 2, and back. In the paper's order: what the moves
-- write; when they are refused; both as one contract.
-- Not here: the editions themselves (Table.antt). That each way followed by the other gives the first table again is proved in crate
-- editions, whose code moves a table.
use Rattle.std.specs.Prelude.{◌*◌, ◌+◌, ℕ, eqb, get_or, length, Bool, ◌&&◌, cond, List, ◌≡◌}
use Rattle.rules.specs.Refusals.{need}
use Rattle.rules.specs.Table.{Layout, one, read, size, stores_at, task_size, tasks_at, two, words}
use Rattle.rules.specs.WellFormed.{for_all, well_formed_in}

-- ---- "One call moves a table from edition 1 to 2": what is read in one edition is written in the other

abbrev pub moved_up : List ℕ → List ℕ
moved_up from = words two (read one from)

abbrev pub moved_down : List ℕ → List ℕ
moved_down from = words one (read two from)

-- ---- "A source or destination of the wrong size is 1, a malformed source 2, before 9"

-- from an edition L to an edition M, where the destination has `room` words; `rest` is what is tested then
unfoldable pub move_refusal : Layout → Layout → List ℕ → ℕ → ℕ → ℕ
move_refusal L M from room rest =
    need (eqb (length from) (size L) && eqb room (size M)) 1 (need (well_formed_in L from) 2 rest)

unfoldable pub up_refusal : List ℕ → ℕ → ℕ
up_refusal from room = move_refusal one two from room 0

-- word f of each of n records of `wide` words is 0, where the first record starts at word `at`
unfoldable pub zeros_at : ℕ → ℕ → ℕ → ℕ → List ℕ → Bool
zeros_at at wide n f t = for_all n (λ i. eqb (get_or t (at + i * wide + f) 0) 0)

-- the high words of a table of edition 2: "Task records have 9 words (high after low)", and 16 stores "8 pairs, low first"
unfoldable pub high_zero : List ℕ → Bool
high_zero t = zeros_at tasks_at (task_size two) 16 7 t && zeros_at (stores_at two) two.width 128 1 t

-- "refused with new number 9 exactly if some high word isn't 0"
unfoldable pub down_refusal : List ℕ → ℕ → ℕ
down_refusal from room = move_refusal two one from room (need (high_zero from) 9 0)

-- ---- a move: its refusal, 0 if it is done, and every word of the destination; "a refused move writes nothing"

pub record Moved (refusal : ℕ) (done to : List ℕ) (r : ℕ) (to' : List ℕ) : Type 0 where
  pub number : r ≡ refusal
  pub table : to' ≡ cond (eqb refusal 0) done to
