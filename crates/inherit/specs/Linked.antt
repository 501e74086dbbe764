-- What the links of a table are: for each task number the first hub that it is asked at, and for each such hub the next.
-- Not here: who is asked (Asked.antt).
use Rattle.std.specs.Prelude.{◌+◌, ◌<◌, suc, ℕ, drop, get_or, length, List, ◌≡◌}
use Rattle.inherit.specs.Asked.{asked_from, asked_owner}
use Rattle.rules.proofs.Layouts.{Laid}
use Rattle.rules.proofs.Valid.{Sound}
use Rattle.rules.specs.Table.{Layout, State, hub, words}

-- of a state
pub record Links (s : State) (ks : List ℕ) : Type 0 where
  pub first : (i : ℕ) → i < 16 → get_or ks i 0 ≡ asked_from i s.hubs 0
  pub next : (h i : ℕ) → h < length s.hubs → i < 16 → asked_owner (hub s h) ≡ suc i
      → get_or ks (16 + h) 0 ≡ asked_from i (drop (suc h) s.hubs) (suc h)

-- of a table t, whose task records have ts words; on any table whoever follows them ends
pub record Linked (ts : ℕ) (t ks : List ℕ) : Type 0 where
  pub long : length ks ≡ 32
  pub rises : (h : ℕ) → h < 16 → h < get_or ks (16 + h) 0
  pub each : (L : Layout) (s : State) → Laid ts L → Sound s → t ≡ words L s → Links s ks
