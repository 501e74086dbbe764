-- What asking finds. In order: nothing greater than what was found before (`task_le`); nothing greater than what some waiter
-- of a Resource that the task owns finds (`task-waiter`); nothing but what was found before and what those say that are asked
-- (`task-from`), for any property of what is found; a number not in use (`none_urgent`).
-- Not here: who is asked in the end (Meaning.antt). Assumes nothing.
use Prim.Native.Nat.{◌<◌, ◌≤◌, min, suc, suc-le-suc, zero, ℕ}
use Rattle.lists.proofs.Counting.{occ_here, occ_tail}
use Rattle.lists.proofs.Laws.{bool_case}
use Rattle.lists.specs.Lists.{occ}
use Rattle.rules.proofs.Cases.{cond_case, same_or}
use Rattle.rules.specs.Effective.{effective, over_owned, over_task, over_waiters}
use Rattle.rules.specs.Table.{Hub, State, Task, hub, inactive, no_hub, owns, task}
use borrow.Author.Tests.{leb-false, leb-true}
use lib.Dec.{leb}
use lib.ListN.{get_or-eq_default, get_or, length}
use mathlib.Core.Bool.{cond, false≢true, true}
use mathlib.Core.List.{List, [], ◌∷◌}
use mathlib.Core.Path.{◌∙◌, ◌≡◌, ap, sym}
use native.Mathlib.Nat.{le_of_suc-le-suc, le_refl, le_trans, not-suc-le-zero}
use native.Mathlib.Omega.{arith}

module _ (ask : ℕ → ℕ → ℕ) where
  -- ---- nothing greater than what was found before

  module _ (le : (j p : ℕ) → ask j p ≤ p) where
    waiters_le : (l : List ℕ) (p : ℕ) → over_waiters ask l p ≤ p
    unfolding over_waiters
    waiters_le [] p = le_refl p
    waiters_le (j ∷ js) p = le_trans (waiters_le js (ask j p)) (le j p)

    owned_le : (i : ℕ) (xs : List Hub) (p : ℕ) → over_owned ask i xs p ≤ p
    unfolding over_owned
    owned_le i [] p = le_refl p
    owned_le i (x ∷ xs) p =
        le_trans (owned_le i xs (cond (owns i x) (over_waiters ask x.waiters p) p))
        (cond_case (λ (q : ℕ). q ≤ p) (owns i x) _ _ (λ _. waiters_le x.waiters p) (λ _. le_refl p))

    -- nor than what a waiter finds

    module _ (j v : ℕ) (finds : (q : ℕ) → ask j q ≤ v) where
      waiters_hit : (l : List ℕ) (p : ℕ) → 1 ≤ occ j l → over_waiters ask l p ≤ v
      unfolding over_waiters
      waiters_hit [] p h = absurd (unfold occ in omega (arith, h))
      waiters_hit (x ∷ xs) p h =
          same_or x j
          (λ e. le_trans (waiters_le xs (ask x p)) (rw e (finds p)))
          (λ n. waiters_hit xs (ask x p) (occ_tail j x xs n h))

      owned_hit : (i : ℕ) (xs : List Hub) (h p : ℕ) → h < length xs → owns i (get_or xs h no_hub) ≡ true → 1 ≤ occ j (get_or xs h no_hub).waiters → over_owned ask i xs p ≤ v
      unfolding over_owned
      owned_hit i [] h p l o w = absurd (not-suc-le-zero l)
      owned_hit i (x ∷ xs) zero p l o w =
          le_trans (owned_le i xs (cond (owns i x) (over_waiters ask x.waiters p) p))
          (cond_case (λ (q : ℕ). q ≤ v) (owns i x) _ _ (λ _. waiters_hit x.waiters p w) (λ f. absurd (false≢true (sym f ∙ o))))
      owned_hit i (x ∷ xs) (suc h) p l o w = owned_hit i xs h (cond (owns i x) (over_waiters ask x.waiters p) p) (le_of_suc-le-suc l) o w

  -- ---- nothing but what was found before and what those say that are asked

  module _ (P : ℕ → Type 0) where
    waiters-from : (l : List ℕ) → ((j q : ℕ) → 1 ≤ occ j l → P q → P (ask j q)) → (p : ℕ) → P p → P (over_waiters ask l p)
    unfolding occ over_waiters
    waiters-from [] f p b = b
    waiters-from (j ∷ js) f p b = waiters-from js (λ k q h. f k q (omega (arith, h))) (ask j p) (f j p (occ_here j js) b)

    owned-from : (i : ℕ) (xs : List Hub) → ((h j q : ℕ) → h < length xs → owns i (get_or xs h no_hub) ≡ true → 1 ≤ occ j (get_or xs h no_hub).waiters → P q → P (ask j q))
        → (p : ℕ) → P p → P (over_owned ask i xs p)
    unfolding over_owned
    owned-from i [] f p b = b
    owned-from i (x ∷ xs) f p b =
        owned-from i xs (λ h j q l. f (suc h) j q (suc-le-suc l)) (cond (owns i x) (over_waiters ask x.waiters p) p)
        (cond_case P (owns i x) _ _ (λ o. waiters-from x.waiters (λ j q. f 0 j q (omega arith) o) p b) (λ _. b))

-- ---- over a task

pub task_le : (n : ℕ) (s : State) (i p : ℕ) → over_task n s i p ≤ p
unfolding over_task
task_le zero s i p = le_refl p
task_le (suc n) s i p = le_trans (owned_le (over_task n s) (task_le n s) i s.hubs (min (task s i).priority p)) (omega arith)

pub task-own : (n : ℕ) (s : State) (i p : ℕ) → over_task (suc n) s i p ≤ (task s i).priority
unfolding over_task
task-own n s i p = le_trans (owned_le (over_task n s) (task_le n s) i s.hubs (min (task s i).priority p)) (omega arith)

pub task-waiter : (n : ℕ) (s : State) (i j h v : ℕ) → h < length s.hubs → owns i (hub s h) ≡ true → 1 ≤ occ j (hub s h).waiters
    → ((q : ℕ) → over_task n s j q ≤ v) → (p : ℕ) → over_task (suc n) s i p ≤ v
unfolding over_task
task-waiter n s i j h v l o w f p = owned_hit (over_task n s) (task_le n s) j v f i s.hubs h (min (task s i).priority p) l o w

pub task-from : (P : ℕ → Type 0) (n : ℕ) (s : State) (i : ℕ) → P (task s i).priority
    → ((h j q : ℕ) → h < length s.hubs → owns i (hub s h) ≡ true → 1 ≤ occ j (hub s h).waiters → P q → P (over_task n s j q))
    → (p : ℕ) → P p → P (over_task (suc n) s i p)
unfolding over_task
task-from P n s i own f p b = owned-from (over_task n s) P i s.hubs f (min (task s i).priority p) smaller
  where
    smaller : P (min (task s i).priority p)
    smaller =
        bool_case (leb (task s i).priority p)
        (λ e. let h : (task s i).priority ≤ p = leb-true (task s i).priority p e in let q : min (task s i).priority p ≡ (task s i).priority = omega arith in rw q own)
        (λ e. let h : p < (task s i).priority = leb-false (task s i).priority p e in let q : min (task s i).priority p ≡ p = omega arith in rw q b)

-- a number not in use has priority 0, and nothing is less
pub none_urgent : (s : State) (j : ℕ) → length s.tasks ≤ j → effective s j ≡ 0
unfolding effective inactive
none_urgent s j h =
    omega (
      arith,
      task_le 16 s j (task s j).priority,
      ap (λ (t : Task). t.priority) (get_or-eq_default s.tasks (inactive 0) h),
    )
