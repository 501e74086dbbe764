-- What a call does to a waiting task, by service: it waits on with its ticks, less one at a Tick; a hub request meets it, or a Stop
-- whose target owned what it waits for; a Stop of it stops it; a Tick times it out.
use Prim.Native.Nat.{◌+◌, ◌<◌, ◌≤◌, suc, zero, ℕ}
use Rattle.history.proofs.Again.{Meets}
use Rattle.history.proofs.Asked.{rests_settle}
use Rattle.history.proofs.Stopping.{stop_fates}
use Rattle.rules.proofs.Accepted.{caller-ready, on_task_lem}
use Rattle.rules.proofs.Cases.{cond_case, same_or}
use Rattle.rules.proofs.Changes.{added_other, in_use, past_end, set_case, set_same}
use Rattle.rules.proofs.Quiet.{tick_above, tick_by_other}
use Rattle.rules.proofs.Settled.{answer_other, wake_same}
use Rattle.rules.proofs.Valid.{Valid}
use Rattle.rules.specs.Calls.{AddHub, AddTask, Blank, HubRequest, Resume, Service, Sleep, Start, Stop, Suspend, Tick, Unknown, Yield, add_hub, add_started, add_task, flag, grant, serve, slept, start, stop, tick_all, tick_by, tick_one, yielded}
use Rattle.rules.specs.HubTable.{verdict}
use Rattle.rules.specs.Lists.{answer, counted, flagged, join_ready, leave, readied}
use Rattle.rules.specs.Refusals.{refusal_for}
use Rattle.rules.specs.Reply.{bears_answer}
use Rattle.rules.specs.Table.{State, Task, inactive, set_ready, set_task, task}
use Rattle.rules.specs.WellFormed.{within}
use Rattle.rules.specs.declared.Call.{Call}
use borrow.Author.Tests.{eqb-true}
use lib.Dec.{eqb}
use lib.ListN.{length}
use mathlib.Core.Bool.{Bool, cond, false, true}
use mathlib.Core.Logic.{◌≢◌, ◌⊎◌, inl, inr}
use mathlib.Core.Path.{◌∙◌, ◌≡◌, ap, refl, subst, sym}
use native.Mathlib.Omega.{arith}

abbrev pub ticks_of : Service → ℕ
ticks_of Blank = 0
ticks_of HubRequest = 0
ticks_of Start = 0
ticks_of Stop = 0
ticks_of Suspend = 0
ticks_of Resume = 0
ticks_of Yield = 0
ticks_of Sleep = 0
ticks_of Tick = 1
ticks_of AddTask = 0
ticks_of AddHub = 0
ticks_of Unknown = 0

-- n ticks gone of those that were left, and some left still
abbrev pub Older : ℕ → Task → Task → Type 0
Older n t t' = 1 ≤ t.ticks → (t'.ticks + n ≡ t.ticks) × (1 ≤ t'.ticks)

-- task j, which waits with record t, has record t' after call c of service w
pub data Fate (w : Service) (c : Call) (j : ℕ) (t t' : Task) : Type 0 where
  rests : t'.state ≡ 3 → Older (ticks_of w) t t' → Fate w c j t t'
  meets : (w ≡ HubRequest) ⊎ (w ≡ Stop) → Meets t' → Fate w c j t t'
  stops : w ≡ Stop → j ≡ c.target → t'.state ≡ 1 → Fate w c j t t'
  times : w ≡ Tick → t'.state ≡ 2 → t'.answer ≡ 3 → Fate w c j t t'

-- waits on with the same ticks
on_fate : (w : Service) (c : Call) (j : ℕ) (t t' : Task) → ticks_of w ≡ 0 → t'.state ≡ 3 → t'.ticks ≡ t.ticks → Fate w c j t t'
on_fate w c j t t' z e k = rests e (λ l. (omega (arith, z, k), omega (arith, k)))

same_fate : (w : Service) (c : Call) (j : ℕ) (t t' : Task) → ticks_of w ≡ 0 → t.state ≡ 3 → t' ≡ t → Fate w c j t t'
same_fate w c j t t' z e q = on_fate w c j t t' z (ap (λ (t : Task). t.state) q ∙ e) (ap (λ (t : Task). t.ticks) q)

-- ---- services that leave every waiting task where it is

abbrev Rests1 : Task → Task → Type 0
Rests1 t t' = t.state ≡ 3 → (t'.state ≡ 3) × (t'.ticks ≡ t.ticks)

unfoldable Rests : State → State → Type 0
Rests s s' = (j : ℕ) → Rests1 (task s j) (task s' j)

rests_refl : (s : State) → Rests s s
unfolding Rests
rests_refl s j e = (e, refl)

rests_set : (s s' : State) (i : ℕ) (t : Task) → Rests s s' → Rests1 (task s i) t → Rests s (set_task i t s')
unfolding Rests
rests_set s s' i t k h j = set_case s' i t (λ u. Rests1 (task s j) u) j (λ e. rw e h) (k j)

rests_answer : (s s' : State) (i a w : ℕ) → Rests s s' → (task s i).state ≢ 3 → Rests s (answer i a w s')
unfolding answer
rests_answer s s' i a w k n = rests_set s s' i _ k (λ e. absurd (n e))

rests_grant : (b : Bool) (s s' : State) (c : Call) → (b ≡ true → Rests s s') → (task s c.caller).state ≢ 3 → Rests s (grant b s' s c)
unfolding grant
rests_grant true s s' c k n = rests_answer s s' c.caller 1 0 (k refl) n
rests_grant false s s' c k n = rests_answer s s c.caller 2 0 (rests_refl s) n

rests_start : (key : ℕ → ℕ) (s s' : State) (i : ℕ) → Rests s s' → (task s i).state ≢ 3 → Rests s (start key i s')
unfolding Rests join_ready set_ready start
rests_start key s s' i k n = rests_set s s' i _ k (λ e. absurd (n e))

rests_flag : (s : State) (f i : ℕ) → Rests s (flag f i s)
unfolding flag flagged
rests_flag s f i = rests_set s s i _ (rests_refl s) (λ e. (e, refl))

rests_added : (s : State) (p : ℕ) → Rests s (add_task p s)
unfolding Rests inactive
rests_added s p j =
    same_or j (length s.tasks)
    (λ q e. absurd (omega (arith, rw (q, past_end s) at e)))
    (λ n e. (ap (λ (t : Task). t.state) (added_other p s j n) ∙ e, ap (λ (t : Task). t.ticks) (added_other p s j n)))

rests_yield : (key : ℕ → ℕ) (s : State) (i : ℕ) → (task s i).state ≢ 3 → Rests s (yielded key i s)
unfolding Rests join_ready leave set_ready yielded
rests_yield key s i n = rests_answer s (leave i s) i 1 0 (rests_refl s) n

rests_sleep : (s : State) (k i : ℕ) → (task s i).state ≢ 3 → Rests s (slept k i s)
unfolding Rests leave slept
rests_sleep s k i n = rests_set s (leave i s) i _ (rests_refl s) (λ e. absurd (n e))

rests_add_task : (key : ℕ → ℕ) (s : State) (c : Call) → Rests s (serve key AddTask s c)
unfolding add_started inactive serve
rests_add_task key s c =
    cond_case (Rests s) (eqb c.side 1) _ _
    (λ _. rests_start _ s (add_task c.target s) (length s.tasks) (rests_added s c.target) (λ e. omega (arith, rw (past_end s) at e)))
    (λ _. rests_added s c.target)

-- ---- Stop

stop_fate : (key : ℕ → ℕ) (b : Bool) (s : State) (c : Call) (j : ℕ) → Valid s → (task s c.caller).state ≡ 2 → c.target < length s.tasks → (task s j).state ≡ 3
    → Fate Stop c j (task s j) (task (grant b (stop key c.target s) s c) j)
unfolding grant readied
stop_fate key true s c j g run u e =
    stop_fates key s c g run u (λ t. Fate Stop c j (task s j) t) j e
    (λ q t z. stops refl q z)
    (λ h b. meets (inr refl) (refl, refl))
    (λ f. same_fate Stop c j _ _ refl e refl)
stop_fate key false s c j g run u e = same_fate Stop c j _ _ refl e (answer_other s c.caller 2 0 j (λ q. omega (arith, run, rw q at e)))

-- ---- Tick, one task and then all: a task's record is as it was until its turn

module _ (key : ℕ → ℕ) where
  tick_by_fate : (n : ℕ) (s : State) (c : Call) (i : ℕ) → (task s i).ticks ≡ n → (task s i).state ≡ 3 → Fate Tick c i (task s i) (task (tick_by key n i s) i)
  unfolding counted readied tick_by
  tick_by_fate zero s c i e g = rests g (λ l. absurd (omega (arith, e)))
  tick_by_fate (suc zero) s c i e g =
      let q = wake_same key s i 3 0 (in_use s i 1 g) in
      times refl (ap (λ (t : Task). t.state) q) (ap (λ (t : Task). t.answer) q)
  tick_by_fate (suc (suc n)) s c i e g =
      let q = set_same s i (counted (suc n) (task s i)) (in_use s i 1 g) in
      let k = ap (λ (t : Task). t.ticks) q in
      rests (ap (λ (t : Task). t.state) q ∙ g) (λ l. (omega (arith, e, k), omega (arith, k)))

  tick_one_fate : (s : State) (c : Call) (i : ℕ) → (task s i).state ≡ 3 → Fate Tick c i (task s i) (task (tick_one key i s) i)
  unfolding tick_one
  tick_one_fate s c i g =
      subst (λ (n : ℕ). Fate Tick c i (task s i) (task (tick_by key n i s) i)) (sym due) (tick_by_fate (task s i).ticks s c i refl g)
    where
      due : cond (within 3 4 (task s i).state) (task s i).ticks 0 ≡ (task s i).ticks
      due = rw g refl

  tick_one_other : (s : State) (i j : ℕ) → j ≢ i → task (tick_one key i s) j ≡ task s j
  unfolding tick_one
  tick_one_other s i j h = tick_by_other key _ s i j h

  tick_fate : (n : ℕ) (s : State) (c : Call) (j : ℕ) → j < n → (task s j).state ≡ 3 → Fate Tick c j (task s j) (task (tick_all key n s) j)
  unfolding tick_all
  tick_fate zero s c j h e = absurd (omega arith)
  tick_fate (suc n) s c j h e =
      same_or j n
      (λ q. rw q (subst (λ (t : Task). Fate Tick c n t (task (tick_one key n (tick_all key n s)) n)) (tick_above key n s n (omega arith))
      (tick_one_fate (tick_all key n s) c n (rw (tick_above key n s n (omega arith)) (rw q at e)))))
      (λ m. rw (tick_one_other (tick_all key n s) n j m) (tick_fate n s c j (omega arith) e))

-- ---- by service

pub fate_serve : (key : ℕ → ℕ) (w : Service) → w ≢ Blank → (s : State) (c : Call) → Valid s → refusal_for w s c ≡ 0 → (j : ℕ) → (task s j).state ≡ 3
    → Fate w c j (task s j) (task (serve key w s c) j)
unfolding Rests bears_answer serve
fate_serve key w nb s c g e j st = by w nb e (caller-ready s g.listed c w e)
  where
    rest : (w : Service) (s' : State) → ticks_of w ≡ 0 → Rests s s' → Fate w c j (task s j) (task s' j)
    rest w s' z r = let q = r j st in on_fate w c j (task s j) (task s' j) z q.0 q.1

    two : (task s c.caller).state ≡ 2 → (task s c.caller).state ≢ 3
    two r f = omega (arith, r, f)

    asks : (s' : State) → (task s' j ≡ task s j) ⊎ Meets (task s' j) → Fate HubRequest c j (task s j) (task s' j)
    asks s' (inl q) = same_fate HubRequest c j _ _ refl st q
    asks s' (inr m) = meets (inl refl) m

    by : (w : Service) → w ≢ Blank → refusal_for w s c ≡ 0 → (bears_answer w ≡ true → (task s c.caller).state ≡ 2) → Fate w c j (task s j) (task (serve key w s c) j)
    by Blank nb e r = absurd (nb refl)
    by HubRequest nb e r = asks (serve key HubRequest s c) (rests_settle key s c (r refl) (verdict s c) j st)
    by Start nb e r =
        rest Start (serve key Start s c) refl (rests_grant _ s _ c
        (λ b. rests_start key s s c.target (rests_refl s) (λ f. omega (arith, f, eqb-true (task s c.target).state 1 b)))
        (two (r refl)))
    by Stop nb e r = stop_fate key _ s c j g (r refl) (unfold refusal_for in (on_task_lem s g.listed c e).1) st
    by Suspend nb e r = rest Suspend (serve key Suspend s c) refl (rests_grant _ s _ c (λ b. rests_flag s 1 c.target) (two (r refl)))
    by Resume nb e r = rest Resume (serve key Resume s c) refl (rests_grant _ s _ c (λ b. rests_flag s 0 c.target) (two (r refl)))
    by Yield nb e r = rest Yield (serve key Yield s c) refl (rests_yield key s c.caller (two (r refl)))
    by Sleep nb e r = rest Sleep (serve key Sleep s c) refl (rests_sleep s c.ticks c.caller (two (r refl)))
    by Tick nb e r = tick_fate key (length s.tasks) s c j (in_use s j 1 st) st
    by AddTask nb e r = rest AddTask (serve key AddTask s c) refl (rests_add_task key s c)
    by AddHub nb e r = unfold add_hub in same_fate AddHub c j (task s j) (task s j) refl st refl
    by Unknown nb e r = rest Unknown s refl (rests_refl s)
