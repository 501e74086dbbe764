-- M-108 in the paper's words: who waits for whom, and what an effective priority is to mean.
-- Not here: that `effective` is that (proofs/Meaning.antt).
use Rattle.std.specs.Prelude.{◌≤◌, suc, ℕ, ◌≡◌}
use Rattle.rules.specs.Table.{Resource, State, hub, kind_of, task}

-- task j waits (state 3) at a hub that is a Resource and owned by task i: "waits, directly, for a Resource it owns"
pub record WaitsFor (s : State) (j i : ℕ) : Type 0 where
  pub at : ℕ
  pub waiting : (task s j).state ≡ 3
  pub there : (task s j).hub ≡ suc at
  pub resource : kind_of (hub s at).kind ≡ Resource
  pub owned : (hub s at).count ≡ suc i

-- "among itself and all tasks that wait, directly or through others, for a Resource it owns": task j is among those of i
pub data Reaches (s : State) (j : ℕ) : ℕ → Type 0 where
  itself : Reaches s j j
  through : {k i : ℕ} → Reaches s j k → WaitsFor s k i → Reaches s j i

-- "the smallest own priority among" them
pub record Smallest (s : State) (i p : ℕ) : Type 0 where
  pub least : (j : ℕ) → Reaches s j i → p ≤ (task s j).priority
  pub whose : ℕ
  pub among : Reaches s whose i
  pub its : p ≡ (task s whose).priority
