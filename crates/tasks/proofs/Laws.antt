-- Services 2 to 5 by their condition: the state that each leaves where it holds and where it doesn't; and how many tasks each
-- move leaves; what a Stop rests on. Not here: how its locks pass on (crate locks). Assumes nothing.
use Prim.Native.Nat.{◌<◌, ℕ}
use Rattle.rules.proofs.Changes.{length-set_task}
use Rattle.rules.proofs.Hubs.{hubs-deactivate}
use Rattle.rules.proofs.Valid.{Sound, Valid}
use Rattle.rules.proofs.Waiting.{Good, good_deactivate, valid_good}
use Rattle.rules.specs.Calls.{deactivate, flag, grant, start}
use Rattle.rules.specs.Lists.{answer, join_ready, leave}
use Rattle.rules.specs.Table.{State, inactive, set_ready, task}
use Rattle.rules.specs.declared.Call.{Call}
use lib.ListN.{length}
use mathlib.Core.Bool.{Bool, false, true}
use mathlib.Core.Path.{◌≡◌}

-- "Each answers 1, or 2 where its condition doesn't hold."
module _ (condition : Bool) (s' s : State) (c : Call) where
  pub granted : condition ≡ true → answer c.caller 1 0 s' ≡ grant condition s' s c
  unfolding grant
  granted e = rw e

  pub failed : condition ≡ false → answer c.caller 2 0 s ≡ grant condition s' s c
  unfolding grant
  failed e = rw e

-- the moves of these services leave as many tasks as there were
module _ (key : ℕ → ℕ) (i : ℕ) (s : State) where
  pub tasks-start : length (start key i s).tasks ≡ length s.tasks
  unfolding join_ready set_ready start
  tasks-start = length-set_task s i _

  pub tasks-flag : (f : ℕ) → length (flag f i s).tasks ≡ length s.tasks
  unfolding flag
  tasks-flag f = length-set_task s i _

-- ---- Stop: the task is out of its list, and inactive

module _ (i : ℕ) (s : State) (v : Valid s) (u : i < length s.tasks) where
  pub good_out : Good (deactivate i s)
  good_out = good_deactivate i s (valid_good s v) u

  pub sound_out : Sound (deactivate i s)
  sound_out = record {
    tasks = unfold deactivate leave in rw (length-set_task (leave i s) i (inactive (task s i).priority)) v.tasks;
    hubs = rw (hubs-deactivate i s).many v.hubs;
    listed = good_out.listed;
  }
