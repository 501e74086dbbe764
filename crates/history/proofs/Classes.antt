-- The class that a record shows, by its state and answer; and what a class test says of a request.
use Prim.Native.Nat.{suc, zero, ℕ}
use Rattle.history.specs.History.{Class, Request, class_by, class_of, failed, is_class, is_waiting, met, place, timed_out, turns, unread, waiting, withdrawn}
use Rattle.rules.proofs.Cases.{and_l, and_r}
use Rattle.rules.specs.Table.{State, Task, stage_of, task}
use borrow.Author.Tests.{eqb-true, ne_eqb}
use lib.Dec.{eqb}
use lib.ListN.{get_or}
use mathlib.Core.Bool.{true}
use mathlib.Core.List.{[], ◌∷◌}
use mathlib.Core.Path.{◌∙◌, ◌≡◌, ap, refl, sym}
use native.Mathlib.Omega.{arith}

-- ---- a record's class

module _ (t : Task) where
  pub class-stopped : t.state ≡ 1 → class_of t ≡ withdrawn
  unfolding class_by class_of stage_of
  class-stopped e = rw e

  pub class-waiting : t.state ≡ 3 → class_of t ≡ waiting
  unfolding class_by class_of stage_of
  class-waiting e = rw e

  pub class-met : t.state ≡ 2 → t.answer ≡ 1 → class_of t ≡ met
  unfolding class_by class_of stage_of
  class-met e f = rw (e, f)

  pub class_failed : t.state ≡ 2 → t.answer ≡ 2 → class_of t ≡ failed
  unfolding class_by class_of stage_of
  class_failed e f = rw (e, f)

  pub class_timed : t.state ≡ 2 → t.answer ≡ 3 → class_of t ≡ timed_out
  unfolding class_by class_of stage_of
  class_timed e f = rw (e, f)

waits_by_lem : (n a : ℕ) → is_class waiting (class_by (stage_of n) a) ≡ eqb n 3
unfolding class_by stage_of
waits_by_lem zero a = refl
waits_by_lem (suc zero) a = refl
waits_by_lem (suc (suc zero)) zero = refl
waits_by_lem (suc (suc zero)) (suc zero) = refl
waits_by_lem (suc (suc zero)) (suc (suc zero)) = refl
waits_by_lem (suc (suc zero)) (suc (suc (suc zero))) = refl
waits_by_lem (suc (suc zero)) (suc (suc (suc (suc a)))) = refl
waits_by_lem (suc (suc (suc zero))) a = refl
waits_by_lem (suc (suc (suc (suc zero)))) a = refl
waits_by_lem (suc (suc (suc (suc (suc n))))) a = sym (ne_eqb (suc (suc (suc (suc (suc n))))) 3 (λ e. omega (arith, e)))

-- waiting just where the state is 3
pub class-waits : (t : Task) → is_class waiting (class_of t) ≡ eqb t.state 3
unfolding class_of
class-waits t = waits_by_lem t.state t.answer

-- ---- tests of a class

at_place : ℕ → Class
at_place n = get_or (waiting ∷ met ∷ failed ∷ timed_out ∷ withdrawn ∷ unread ∷ []) n unread

at-place-place : (k : Class) → at_place (place k) ≡ k
unfolding at_place
at-place-place waiting = refl
at-place-place met = refl
at-place-place failed = refl
at-place-place timed_out = refl
at-place-place withdrawn = refl
at-place-place unread = refl

pub is_class_lem : (k k' : Class) → is_class k k' ≡ true → k' ≡ k
is_class_lem k k' e = sym (at-place-place k') ∙ (ap at_place (sym (eqb-true (place k) (place k') e)) ∙ at-place-place k)

-- a request that turns into k was waiting, and its task's record shows k
pub turns-true : (k : Class) (s : State) (r : Request) → turns k s r ≡ true → (r.class ≡ waiting) × (class_of (task s r.task) ≡ k)
turns-true k s r e = (is_class_lem waiting r.class (and_l _ _ e), is_class_lem k (class_of (task s r.task)) (and_r (is_waiting r) _ e))
