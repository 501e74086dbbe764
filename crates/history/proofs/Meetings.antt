-- Over a whole run: whatever request is met, one of the calls met it. From what each call says of those that turn met, whatever
-- that is.
use Prim.Native.Nat.{suc, zero, ℕ}
use Rattle.history.proofs.Following.{down_same, up_same}
use Rattle.history.proofs.Opened.{opened_case}
use Rattle.history.proofs.Run.{Sound, sound_step}
use Rattle.history.proofs.Those.{each_append, each_both, each_imp, each_map}
use Rattle.history.specs.History.{History, Request, Step, again, asked, calls, down, history, is_waiting, met, next, next_by, opened, part_of, reread, shown, step, those, turned, turned_by, turned_to, turns, up}
use Rattle.history.specs.Statements.{Each, InOne}
use Rattle.lists.proofs.Laws.{bool_case}
use Rattle.rules.specs.Calls.{service_of}
use Rattle.rules.specs.Refusals.{refusal_of}
use Rattle.rules.specs.Reply.{table_after}
use Rattle.rules.specs.Table.{State}
use Rattle.rules.specs.declared.Call.{Call}
use mathlib.Core.Bool.{Bool, false≢true, true}
use mathlib.Core.List.{List, [], ◌∷◌, map}
use mathlib.Core.Logic.{◌⊎◌, inl, inr}
use mathlib.Core.Path.{◌∙◌, ◌≡◌, sym}
use native.Mathlib.Omega.{arith}

-- what holds of those that pass, mapped, holds of each that passes
each-passed : {A B : Type 0} (P : B → Type 0) (f : A → B) (p : A → Bool) (xs : List A) → Each P (map f (those p xs)) → Each (λ x. p x ≡ true → P (f x)) xs
unfolding Each those
each-passed P f p [] a = tt
each-passed P f p (x ∷ xs) a =
    bool_case (p x)
    (λ b. let a' : P (f x) × Each P (map f (those p xs)) = rw b at a in (λ e. a'.0, each-passed P f p xs a'.1))
    (λ b. (λ e. absurd (false≢true (sym b ∙ e)), each-passed P f p xs (rw b at a)))

-- ---- one call

abbrev MetAs : (Request → Type 0) → Request → Type 0
MetAs P r = r.class ≡ met → P r

-- a request read again is met as it was, or it turned met
as_again : (P Q : Request → Type 0) (s : State) (r : Request) → MetAs P r × (turns met s r ≡ true → Q (reread s r)) → MetAs (λ r. P r ⊎ Q r) (again s r)
unfolding again
as_again P Q s r a =
    bool_case (is_waiting r)
    (λ b. rw b (λ e. inr (a.1 (rw b (unfold reread in rw e)))))
    (λ b. rw b (λ e. inl (a.0 e)))

module _ (x : History) (c : Call) (M : Request → Type 0) (m : Each M (turned_to met x c)) (P : Request → Type 0) where
  -- the call's own request opens as waiting
  as_opened : Each (MetAs P) x.requests → Each (MetAs P) (opened (part_of (service_of c.service)) (shown x.table) c x.requests)
  as_opened a =
      opened_case (Each (MetAs P)) (shown x.table) c x.requests (service_of c.service)
      (λ e. unfold Each in tt)
      (λ e. each_append (MetAs P) x.requests (asked (shown x.table) c ∷ []) a (unfold Each in (own, tt)))
      (λ e. a)
    where
      own : MetAs P (asked (shown x.table) c)
      own = unfold asked in (λ e. absurd (let z : ◌≡◌ {A = ℕ} 0 1 = cc in omega arith))

  as_next : Each (MetAs P) x.requests → Each (MetAs (λ r. P r ⊎ M r)) (next x c).requests
  unfolding next turned_to
  as_next a = by (refusal_of x.table c) (unfold turned_to in m)
    where
      s' : State
      s' = shown (table_after x.table c)

      by : (n : ℕ) → Each M (turned_by n met x.table c x.requests) → Each (MetAs (λ r. P r ⊎ M r)) (next_by n x c).requests
      by zero t =
          unfold next_by turned turned_by in
          each_map _ (again s') (opened (part_of (service_of c.service)) (shown x.table) c x.requests)
          (each_imp _ _ (as_again P M s') _ (each_both _ _ _ (as_opened a) (each-passed M (reread s') (turns met s') _ t)))
      by (suc n) t = unfold next_by in each_imp (MetAs P) _ (λ r f e. inl (f e)) x.requests a

-- ---- any steps

module _ (M : History → Call → Request → Type 0) (means : (x : History) → Sound x → (c : Call) → Each (M x c) (turned_to met x c)) where
  pub met_in_lem : (ds : List Step) (x : History) → Sound x → (P : Request → Type 0) → Each (MetAs P) x.requests → Each (MetAs (λ r. P r ⊎ InOne M x ds r)) (history x ds).requests
  unfolding InOne history step
  met_in_lem [] x g P a = each_imp (MetAs P) _ (λ r f e. inl (f e)) x.requests a
  met_in_lem (calls c ∷ ds) x g P a =
      each_imp _ _ (λ r f e. regroup (f e)) _ (met_in_lem ds (step x (calls c)) (sound_step x (calls c) g) _ (as_next x c (M x c) (means x g c) P a))
    where
      regroup : {A B C : Type 0} → (A ⊎ B) ⊎ C → A ⊎ (B ⊎ C)
      regroup (inl (inl a)) = inl a
      regroup (inl (inr b)) = inr (inl b)
      regroup (inr c) = inr (inr c)
  met_in_lem (up room ∷ ds) x g P a = met_in_lem ds (step x (up room)) (sound_step x (up room) g) P (rw (up_same x room).requests a)
  met_in_lem (down room ∷ ds) x g P a = met_in_lem ds (step x (down room)) (sound_step x (down room) g) P (rw (down_same x room).requests a)
