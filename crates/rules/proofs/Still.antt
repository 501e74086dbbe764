-- Calls after which nothing is put in another order. In order: nobody changed (`nobody_still`); who waits for whom and own
-- priorities as before (`alike_still`); nobody waits, before or after (`idle_still`); a caller that is only answered, failed or
-- met, keeps its place (`answer_still`); Blank (`blank_still`, `served-blank`).
-- Not here: what the reordering does where somebody changed (Inherited.antt). Assumes nothing.
use Prim.Native.Nat.{◌<◌, suc, zero, ℕ}
use Rattle.lists.proofs.Laws.{bool_case}
use Rattle.lists.specs.Lists.{occ, only}
use Rattle.rules.proofs.Cases.{cond_case}
use Rattle.rules.proofs.Changes.{length-set_task, set_keeps}
use Rattle.rules.proofs.Inherited.{SameWaits, effective_alike, same_waits}
use Rattle.rules.proofs.Least.{task-from}
use Rattle.rules.proofs.Listed.{listed_answer}
use Rattle.rules.proofs.Meaning.{OwnersLow}
use Rattle.rules.proofs.Reordered.{out_none}
use Rattle.rules.proofs.Settled.{length-answer}
use Rattle.rules.proofs.Valid.{Sound}
use Rattle.rules.specs.Calls.{Blank, blank, serve, served, service_of}
use Rattle.rules.specs.Effective.{effective}
use Rattle.rules.specs.Lists.{answer, answered}
use Rattle.rules.specs.Reorder.{changed, put_back, rejoin, reordered, taken_out}
use Rattle.rules.specs.Table.{State, Task, hub, inactive, set_task, task}
use Rattle.rules.specs.declared.Call.{Call}
use borrow.Author.Tests.{eq-eqb, ltb-true}
use lib.Dec.{ltb}
use lib.ListN.{length}
use mathlib.Core.Bool.{Bool, and-false, false}
use mathlib.Core.List.{[]}
use mathlib.Core.Path.{◌∙◌, ◌≡◌, ap, refl, sym}
use native.Mathlib.Omega.{arith}

back_none : (key : ℕ → ℕ) (p : ℕ → Bool) → ((j : ℕ) → p j ≡ false) → (n : ℕ) (s : State) → put_back key p n s ≡ s
unfolding put_back
back_none key p e zero s = refl
back_none key p e (suc n) s = rw (e n) (back_none key p e n s)

pub nobody_still : (s s' : State) → ((j : ℕ) → changed s s' j ≡ false) → reordered s s' ≡ s'
unfolding reordered
nobody_still s s' e =
    back_none (effective s') (changed s s') e (length s.tasks) (taken_out (changed s s') s') ∙ out_none (changed s s') s' e

pub same_still : (s s' : State) → ((j : ℕ) → effective s' j ≡ effective s j) → reordered s s' ≡ s'
same_still s s' e = nobody_still s s' (λ j. rw (eq-eqb (effective s j) (effective s' j) (sym (e j)), and-false) refl)

pub alike_still : (s s' : State) → SameWaits s s' → Sound s → Sound s' → OwnersLow s → OwnersLow s' → reordered s s' ≡ s'
alike_still s s' k x x' o o' = same_still s s' (effective_alike s s' k x x' o o')

-- where nobody waits an effective priority is the task's own, and only a change of that would move it
effective_idle : (s : State) → ((h : ℕ) → (hub s h).waiters ≡ []) → (i : ℕ) → effective s i ≡ (task s i).priority
unfolding effective occ
effective_idle s none i =
    task-from (λ (q : ℕ). q ≡ (task s i).priority) 15 s i refl
    (λ h j q l o w e. absurd (omega (arith, w, ap (occ j) (none h))))
    (task s i).priority refl

pub idle_still : (s s' : State) → ((h : ℕ) → (hub s h).waiters ≡ []) → ((h : ℕ) → (hub s' h).waiters ≡ [])
    → ((j : ℕ) → j < length s.tasks → (task s' j).priority ≡ (task s j).priority) → reordered s s' ≡ s'
idle_still s s' none none' own = nobody_still s s' same
  where
    same : (j : ℕ) → changed s s' j ≡ false
    same j =
        bool_case (ltb j (length s.tasks))
        (λ b. let e : effective s j ≡ effective s' j = effective_idle s none j ∙ sym (effective_idle s' none' j ∙ own j (ltb-true j _ b)) in
        rw (eq-eqb (effective s j) (effective s' j) e, and-false) refl)
        (λ b. rw b)

-- "A met or failed caller keeps its ready place"
module _ (i a w : ℕ) (s : State) where
  answer_keeps : {B : Type 0} (f : Task → B) → f (answered a w (task s i)) ≡ f (task s i) → (j : ℕ) → f (task (answer i a w s) j) ≡ f (task s j)
  unfolding answer
  answer_keeps f e = set_keeps s i (answered a w (task s i)) f e

  pub answer-waits : SameWaits s (answer i a w s)
  unfolding answered
  answer-waits =
      same_waits s (answer i a w s) (answer_keeps (λ (t : Task). t.state) refl) (answer_keeps (λ (t : Task). t.hub) refl)
      (answer_keeps (λ (t : Task). t.priority) refl) (λ h. unfold answer set_task in refl) (λ h. unfold answer set_task in refl)

  answer_owners : OwnersLow s → OwnersLow (answer i a w s)
  unfolding answer
  answer_owners o = record { low = λ h e. rw (length-set_task s i (answered a w (task s i))) (unfold set_task in o.low h e) }

  pub answer_still : Sound s → OwnersLow s → reordered s (answer i a w s) ≡ answer i a w s
  answer_still x o = alike_still s (answer i a w s) answer-waits x exact o (answer_owners o)
    where
      exact : Sound (answer i a w s)
      exact = record {
        tasks = omega (arith, x.tasks, length-answer s i a w);
        hubs = unfold answer set_task in x.hubs;
        listed = listed_answer i a w s x.listed;
      }

-- 0 Blank
rejoin-blank : (key : ℕ → ℕ) (i : ℕ) → rejoin key i blank ≡ blank
unfolding blank inactive rejoin
rejoin-blank key i = refl

back-blank : (key : ℕ → ℕ) (p : ℕ → Bool) (n : ℕ) → put_back key p n blank ≡ blank
unfolding put_back
back-blank key p zero = refl
back-blank key p (suc n) =
    let e = back-blank key p n in
    cond_case (λ (z : State). z ≡ blank) (p n) _ _ (λ _. ap (rejoin key n) e ∙ rejoin-blank key n) (λ _. e)

out-blank : (p : ℕ → Bool) → taken_out p blank ≡ blank
unfolding blank only taken_out
out-blank p = refl

pub blank_still : (s : State) → reordered s blank ≡ blank
unfolding reordered
blank_still s =
    ap (put_back (effective blank) (changed s blank) (length s.tasks)) (out-blank (changed s blank))
    ∙ back-blank (effective blank) (changed s blank) (length s.tasks)

pub served-blank : (s : State) (c : Call) → service_of c.service ≡ Blank → served s c ≡ blank
unfolding serve served
served-blank s c e = rw e (blank_still s)
