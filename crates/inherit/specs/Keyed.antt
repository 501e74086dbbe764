-- What the keys of a table are: sixteen numbers, those of the tasks their effective priorities; and before anybody is asked, their
-- own.
-- Not here: what an effective priority is (rules, Effective.antt).
use Rattle.std.specs.Prelude.{◌<◌, ℕ, get_or, length, List, ◌≡◌}
use Rattle.rules.proofs.Layouts.{Laid}
use Rattle.rules.proofs.Valid.{Sound}
use Rattle.rules.specs.Effective.{effective}
use Rattle.rules.specs.Table.{Layout, State, task, words}

-- of a table t, whose task records have ts words
pub record Keyed (ts : ℕ) (t ks : List ℕ) : Type 0 where
  pub long : length ks ≡ 16
  pub each : (L : Layout) (s : State) → Laid ts L → Sound s → t ≡ words L s → (j : ℕ) → get_or ks j 0 ≡ effective s j

pub record Owned (ts : ℕ) (t ks : List ℕ) : Type 0 where
  pub long : length ks ≡ 16
  pub each : (L : Layout) (s : State) → Laid ts L → Sound s → t ≡ words L s → (j : ℕ) → j < 16 → get_or ks j 0 ≡ (task s j).priority
