-- The table that a drill begins with, by the bytes that came: all of a table, or "as all zeros".
use Rattle.std.specs.Prelude.{◌*◌, ℕ, length, List, ◌≡◌}
use Rattle.bytes4.specs.Bytes.{Unpacked}
use Rattle.runner.specs.Runner.{zeros}

pub record Begun (came t : List ℕ) : Type 0 where
  pub all : length came ≡ 4 * length t → Unpacked came t
  pub fewer : (length came ≡ 4 * length t → ⊥) → t ≡ zeros
