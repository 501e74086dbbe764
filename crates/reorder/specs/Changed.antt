-- What the contracts of the reordering name beside the rules: whose key changed, as the code has the keys, and what of a state
-- putting back rests on while tasks are out of their lists.
-- Not here: the reordering itself (rules, Reorder.antt).
use Rattle.std.specs.Prelude.{◌<◌, ◌≤◌, ℕ, eqb, ltb, get_or, length, Bool, ◌&&◌, not, true, List, ◌≡◌}
use Rattle.rules.specs.Table.{State}
use Rattle.rules.specs.WellFormed.{waits_for}

-- of the numbers below n those whose keys are not the same before and after
abbrev pub differs : ℕ → List ℕ → List ℕ → ℕ → Bool
differs n before after j = ltb j n && not (eqb (get_or before j 0) (get_or after j 0))

-- a waiting task's hub is in use
pub record HubsUsed (s : State) : Type 0 where
  pub tasks : length s.tasks ≤ 16
  pub hubs : length s.hubs ≤ 16
  pub used : (h i : ℕ) → waits_for s h i ≡ true → h < length s.hubs
