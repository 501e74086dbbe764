-- M-108: "At the end of each accepted call, all tasks whose effective priority changed are taken out of their lists, then put
-- back behind their equals in task number order." s is the state before the call, s' the state when its service is done.
-- Not here: effective priorities (Effective.antt); what it comes to (proofs/Reordered.antt, proofs/Inherited.antt).
use Rattle.std.specs.Prelude.{suc, zero, ℕ, eqb, ltb, length, Bool, ◌&&◌, cond, not, map}
use Rattle.lists.specs.Lists.{left_out}
use Rattle.rules.specs.Effective.{effective}
use Rattle.rules.specs.Lists.{join_hub, join_ready, queued}
use Rattle.rules.specs.Table.{Hub, State, task}
use Rattle.rules.specs.WellFormed.{is_ready}

-- "taken out of their lists"
unfoldable pub thinned : (ℕ → Bool) → Hub → Hub
thinned p x = queued (left_out p x.waiters) x

unfoldable pub taken_out : (ℕ → Bool) → State → State
taken_out p s = record { tasks = s.tasks; hubs = map (thinned p) s.hubs; ready = left_out p s.ready }

-- task i joins the list in which its record says that it stands, "behind its equals": a ready task the ready list, a waiting
-- one the list of its hub (the record has the hub's number plus 1), any other none
unfoldable pub rejoin_hub : (ℕ → ℕ) → ℕ → ℕ → State → State
rejoin_hub key zero i s = s
rejoin_hub key (suc h) i s = join_hub key h i s

unfoldable pub rejoin : (ℕ → ℕ) → ℕ → State → State
rejoin key i s =
    cond (is_ready s i) (join_ready key i s) (cond (eqb (task s i).state 3) (rejoin_hub key (task s i).hub i s) s)

-- "then put back ... in task number order": of the tasks 0 to n - 1 those that pass the test
unfoldable pub put_back : (ℕ → ℕ) → (ℕ → Bool) → ℕ → State → State
put_back key p zero s = s
put_back key p (suc n) s = cond (p n) (rejoin key n (put_back key p n s)) (put_back key p n s)

-- "tasks whose effective priority changed": a task added in the call had none
abbrev pub changed : State → State → ℕ → Bool
changed s s' i = ltb i (length s.tasks) && not (eqb (effective s i) (effective s' i))

unfoldable pub reordered : State → State → State
reordered s s' = put_back (effective s') (changed s s') (length s.tasks) (taken_out (changed s s') s')
