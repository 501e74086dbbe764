-- A stopped task's Resources pass, one by one: what each passing keeps is kept by all of them, among it how many tasks there are
-- and who is ready. By any key. Not here: which records and hubs change (Handed.antt).
use Prim.Native.Nat.{suc, zero, ℕ}
use Rattle.rules.proofs.Cases.{cond_case}
use Rattle.rules.proofs.Changes.{length-set_task}
use Rattle.rules.proofs.Settled.{length-meet_all, meet_ready}
use Rattle.rules.specs.Calls.{carry_out, deactivate, heir, hold, pass_all, pass_one, stop}
use Rattle.rules.specs.HubTable.{Verdict, fail, met, not_now, pass}
use Rattle.rules.specs.Lists.{leave}
use Rattle.rules.specs.Table.{State, hub, owns, set_hub, task}
use lib.ListN.{length}
use mathlib.Core.Path.{◌∙◌, ◌≡◌, refl}

module _ (key : ℕ → ℕ) where
  pub pass_keeps : (P : State → Type 0) → ((h : ℕ) (s : State) → P s → P (carry_out key h (pass (heir s h) (hub s h)) s))
      → (i n : ℕ) (s : State) → P s → P (pass_all key i n s)
  unfolding pass_all pass_one
  pass_keeps P f i zero s p = p
  pass_keeps P f i (suc n) s p =
      let q = pass_keeps P f i n s p in
      cond_case P (owns i (hub (pass_all key i n s) n)) _ _ (λ _. f n (pass_all key i n s) q) (λ _. q)

  -- ---- how many tasks there are

  length_carry : (h : ℕ) (v : Verdict) (s : State) → length (carry_out key h v s).tasks ≡ length s.tasks
  unfolding carry_out hold set_hub
  length_carry h (met n ws x ms) s = length-meet_all key ms _
  length_carry h not_now s = refl
  length_carry h fail s = refl

  pub length-pass : (i n : ℕ) (s : State) → length (pass_all key i n s).tasks ≡ length s.tasks
  length-pass i n s =
      pass_keeps (λ (z : State). length z.tasks ≡ length s.tasks) (λ h z e. length_carry h _ z ∙ e) i n s refl

  pub length-stop : (i : ℕ) (s : State) → length (stop key i s).tasks ≡ length s.tasks
  unfolding deactivate leave stop
  length-stop i s = length-pass i (length s.hubs) (deactivate i s) ∙ length-set_task (leave i s) i _

  -- ---- who is ready

  carry_ready : (h : ℕ) (v : Verdict) (s : State) (j : ℕ) → (task s j).state ≡ 2 → (task (carry_out key h v s) j).state ≡ 2
  unfolding carry_out hold set_hub
  carry_ready h (met n ws x ms) s j e = meet_ready key ms _ j e
  carry_ready h not_now s j e = e
  carry_ready h fail s j e = e

  pub pass-ready : (i n : ℕ) (s : State) (j : ℕ) → (task s j).state ≡ 2 → (task (pass_all key i n s) j).state ≡ 2
  pass-ready i n s j e = pass_keeps (λ (z : State). (task z j).state ≡ 2) (λ h z q. carry_ready h _ z j q) i n s e
