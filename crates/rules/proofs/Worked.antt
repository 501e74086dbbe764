-- M-108 worked out on three states, by computing: a chain of sixteen tasks, a ring of sixteen, and the stalled reversal. In the
-- chain and in the ring task k + 1 waits for the Resource that task k owns; in the ring task 0 waits for task 15's.
-- Not here: the theorems, for every state (Meaning.antt, Inherited.antt). Assumes nothing.
use Prim.Native.Nat.{◌-◌, suc, ℕ}
use Rattle.lists.specs.Lists.{insert, only}
use Rattle.rules.specs.Effective.{effective, over_owned, over_task, over_waiters}
use Rattle.rules.specs.Lists.{join_hub, join_ready, queued}
use Rattle.rules.specs.Reorder.{put_back, rejoin, rejoin_hub, reordered, taken_out, thinned}
use Rattle.rules.specs.Table.{Hub, State, Task, inactive, is_resource, kind_of, no_hub, owns, set_hub, set_ready, tab}
use mathlib.Core.List.{List, [], ◌++◌, ◌∷◌}
use mathlib.Core.Path.{◌≡◌, refl}

-- task records of this priority: ready, and waiting for Resource h
unfoldable pub ready : ℕ → Task
ready p = record { state = 2; suspended = 0; priority = p; hub = 0; ticks = 0; side = 0; word = 0; answer = 0 }

unfoldable pub waiting : ℕ → ℕ → Task
waiting p h = record { state = 3; suspended = 0; priority = p; hub = suc h; ticks = 0; side = 2; word = 0; answer = 0 }

-- a Resource that task i owns, with those who wait for it
unfoldable pub lock : ℕ → List ℕ → Hub
lock i l = record { kind = 5; count = suc i; limit = 1; start = 0; waiters = l; held = [] }

-- ---- a chain of sixteen: task 0 is ready and has priority 100, task 15 is the most urgent and has 85

unfoldable pub chain : State
chain = record {
  tasks = ready 100 ∷ tab 15 0 (λ k. waiting (99 - k) k);
  hubs = tab 15 0 (λ k. lock k (suc k ∷ []));
  ready = 0 ∷ [];
}

pub chain_first : effective chain 0 ≡ 85
unfolding chain effective inactive is_resource kind_of lock no_hub over_owned over_task over_waiters owns ready tab waiting
chain_first = refl

-- one task less deep, and the sixteenth is not asked
pub chain_short : over_task 15 chain 0 100 ≡ 86
unfolding chain inactive is_resource kind_of lock no_hub over_owned over_task over_waiters owns ready tab waiting
chain_short = refl

-- ---- a ring of sixteen: each waits for the one before it, and task 0, the most urgent, for task 15

unfoldable pub ring : State
ring = record {
  tasks = waiting 50 15 ∷ tab 15 0 (λ k. waiting (99 - k) k);
  hubs = tab 15 0 (λ k. lock k (suc k ∷ [])) ++ lock 15 (0 ∷ []) ∷ [];
  ready = [];
}

pub ring_ends : effective ring 1 ≡ 50
unfolding effective inactive is_resource kind_of lock no_hub over_owned over_task over_waiters owns ready ring tab waiting
ring_ends = refl

-- ---- the stalled reversal: task 0 of priority 9 owns the fan lock, task 1 of priority 5 is ready, and task 2 of priority 3
-- begins to wait for the lock. Task 0 now goes before task 1

unfoldable pub before : State
before = record {
  tasks = ready 9 ∷ ready 5 ∷ ready 3 ∷ [];
  hubs = lock 0 [] ∷ [];
  ready = 2 ∷ 1 ∷ 0 ∷ [];
}

unfoldable pub after : State
after = record {
  tasks = ready 9 ∷ ready 5 ∷ waiting 3 0 ∷ [];
  hubs = lock 0 (2 ∷ []) ∷ [];
  ready = 1 ∷ 0 ∷ [];
}

pub put_right : (reordered before after).ready ≡ 0 ∷ 1 ∷ []
unfolding after before effective inactive insert is_resource join_hub join_ready kind_of lock no_hub only over_owned over_task over_waiters owns put_back queued ready rejoin rejoin_hub reordered set_hub set_ready tab taken_out thinned waiting
put_right = refl
