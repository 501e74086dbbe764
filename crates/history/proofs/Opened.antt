-- The requests that the table after an accepted call is read for, by service: none after a Blank, the old ones and its own
-- after a Hub request, else the old ones.
use Prim.Native.Nat.{ℕ}
use Rattle.history.specs.History.{Request, asked, opened, part_of}
use Rattle.rules.specs.Calls.{AddHub, AddTask, Blank, HubRequest, Resume, Service, Sleep, Start, Stop, Suspend, Tick, Unknown, Yield}
use Rattle.rules.specs.Table.{State}
use Rattle.rules.specs.declared.Call.{Call}
use mathlib.Core.List.{List, [], ◌++◌, ◌∷◌}
use mathlib.Core.Logic.{◌≢◌}
use mathlib.Core.Path.{◌≡◌, refl}
use native.Mathlib.Omega.{arith}

module _ (P : List Request → Type 0) (s : State) (c : Call) (rs : List Request) where
  pub opened_case : (w : Service) → (w ≡ Blank → P []) → (w ≡ HubRequest → P (rs ++ asked s c ∷ [])) → (w ≢ Blank → P rs) → P (opened (part_of w) s c rs)
  unfolding opened part_of
  opened_case Blank b q f = b refl
  opened_case HubRequest b q f = q refl
  opened_case Start b q f = f (λ e. let z : ◌≡◌ {A = ℕ} 0 1 = cc in omega arith)
  opened_case Stop b q f = f (λ e. let z : ◌≡◌ {A = ℕ} 0 1 = cc in omega arith)
  opened_case Suspend b q f = f (λ e. let z : ◌≡◌ {A = ℕ} 0 1 = cc in omega arith)
  opened_case Resume b q f = f (λ e. let z : ◌≡◌ {A = ℕ} 0 1 = cc in omega arith)
  opened_case Yield b q f = f (λ e. let z : ◌≡◌ {A = ℕ} 0 1 = cc in omega arith)
  opened_case Sleep b q f = f (λ e. let z : ◌≡◌ {A = ℕ} 0 1 = cc in omega arith)
  opened_case Tick b q f = f (λ e. let z : ◌≡◌ {A = ℕ} 0 1 = cc in omega arith)
  opened_case AddTask b q f = f (λ e. let z : ◌≡◌ {A = ℕ} 0 1 = cc in omega arith)
  opened_case AddHub b q f = f (λ e. let z : ◌≡◌ {A = ℕ} 0 1 = cc in omega arith)
  opened_case Unknown b q f = f (λ e. let z : ◌≡◌ {A = ℕ} 0 1 = cc in omega arith)
