-- An entry of a list, or an owner plus 1, by the words of its task's record, which starts at word b. Assumes nothing.
use Prim.Native.Nat.{◌*◌, ◌+◌, ◌-◌, ◌≤◌, pred, ℕ}
use Rattle.rules.proofs.Layouts.{Laid}
use Rattle.rules.proofs.Reading.{read-task}
use Rattle.rules.specs.Table.{Layout, Task, read, task, task_at, task_size, tasks_at}
use lib.ListN.{get_or}
use mathlib.Core.List.{List}
use mathlib.Core.Path.{◌∙◌, ◌≡◌, ap}
use native.Mathlib.Omega.{arith}

module _ {ts : ℕ} (L : Layout) (y : Laid ts L) (t : List ℕ) (e b : ℕ) (n : e ≡ 0 → ⊥) (u : e ≤ get_or t 1 0) (at : b ≡ 8 + (e - 1) * ts) where
  known : task (read L t) (pred e) ≡ task_at L t (pred e)
  known = read-task L t (pred e) (omega arith)

  start : tasks_at + pred e * task_size L ≡ b
  start = let q : e - 1 ≡ pred e = omega arith in rw (at, q, y.size)

  pub entry_hub : (task (read L t) (pred e)).hub ≡ get_or t (b + 3) 0
  unfolding task_at
  entry_hub = ap (λ (x : Task). x.hub) known ∙ ap (λ (k : ℕ). get_or t (k + 3) 0) start

  pub entry_state : (task (read L t) (pred e)).state ≡ get_or t b 0
  unfolding task_at
  entry_state = ap (λ (x : Task). x.state) known ∙ ap (λ (k : ℕ). get_or t k 0) (omega (arith, start))

  pub entry_side : (task (read L t) (pred e)).side ≡ get_or t (b + 5) 0
  unfolding task_at
  entry_side = ap (λ (x : Task). x.side) known ∙ ap (λ (k : ℕ). get_or t (k + 5) 0) start
