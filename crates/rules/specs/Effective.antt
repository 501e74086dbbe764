-- M-108: "A task's effective priority is the smallest own priority among itself and all tasks that wait, directly or through
-- others, for a Resource it owns. A task's effective priority asks the waiters of its Resources, and each waiter asks in turn,
-- to at most 16 tasks deep; a ring of locks must still end."
-- Over a task (`over_task`), which asks over the waiting lists of its Resources (`over_waiters`), which ask over each task in
-- them. Every one of them takes the smallest priority found so far, p, and gives back the smallest found when it is done.
-- Not here: that this is the smallest own priority among all who wait (Meaning.antt says it, proofs/Meaning.antt proves it).
use Rattle.std.specs.Prelude.{min, suc, zero, ℕ, cond, List, [], ◌∷◌}
use Rattle.rules.specs.Table.{Hub, State, owns, task}

-- "each waiter asks in turn": ask of every entry of a waiting list, first entry first
unfoldable pub over_waiters : (ℕ → ℕ → ℕ) → List ℕ → ℕ → ℕ
over_waiters ask [] p = p
over_waiters ask (j ∷ js) p = over_waiters ask js (ask j p)

-- "asks the waiters of its Resources": of every hub that task i owns, in hub number order
unfoldable pub over_owned : (ℕ → ℕ → ℕ) → ℕ → List Hub → ℕ → ℕ
over_owned ask i [] p = p
over_owned ask i (x ∷ xs) p = over_owned ask i xs (cond (owns i x) (over_waiters ask x.waiters p) p)

-- "to at most 16 tasks deep": task i's own priority, then those of its Resources' waiters, who may ask one task less deep
unfoldable pub over_task : ℕ → State → ℕ → ℕ → ℕ
over_task zero s i p = p
over_task (suc n) s i p = over_owned (over_task n s) i s.hubs (min (task s i).priority p)

unfoldable pub effective : State → ℕ → ℕ
effective s i = over_task 16 s i (task s i).priority
