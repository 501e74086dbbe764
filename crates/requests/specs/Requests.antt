-- The meetings of a whole list; and what a request leaves.
use Rattle.std.specs.Prelude.{ℕ, List, [], ◌∷◌, ◌≡◌}
use Rattle.rules.specs.Calls.{HubRequest}
use Rattle.rules.specs.HubTable.{Meeting}
use Rattle.rules.specs.Lists.{wake}
use Rattle.rules.specs.Reply.{ahead_for}
use Rattle.rules.specs.Table.{Layout, State, words}
use Rattle.rules.specs.declared.Call.{Call}

-- the tasks of a list, each met with this word
unfoldable pub meetings : ℕ → List ℕ → List Meeting
meetings w [] = []
meetings w (j ∷ js) = record { waiter = j; word = w } ∷ meetings w js

-- the first of them alone
unfoldable pub meet_one : (ℕ → ℕ) → ℕ → List ℕ → State → State
meet_one key w [] s = s
meet_one key w (j ∷ js) s = wake key j 1 w s

-- a request leaves this state in the table, and hands up how many are ahead of the caller in it
pub record Leaves (L : Layout) (s' : State) (c : Call) (n : ℕ) (t' : List ℕ) : Type 0 where
  pub table : t' ≡ words L s'
  pub ahead : n ≡ ahead_for HubRequest s' c
