-- What is known behind a chunk, whatever was written out on the way: the table that its lines leave, the reader's state, and
-- room for another line. Nothing is said where a write has failed. The text of each block is the crate runner's promise.
use Rattle.std.specs.Prelude.{◌+◌, ◌≤◌, ℕ, length, List, ◌≡◌}
use Rattle.lines.specs.Lines.{print_room}
use Rattle.lines.specs.Scan.{after, ended}
use Rattle.lines.specs.declared.Scan.{Scan}
use Rattle.runner.specs.Runner.{table_through}

pub record Behind (s : Scan) (bytes t : List ℕ) (s' : Scan) (end : ℕ) (t' out' : List ℕ) : Type 0 where
  pub table : t' ≡ table_through t (ended s bytes)
  pub state : s' ≡ after s bytes
  pub room : end + print_room ≤ length out'
