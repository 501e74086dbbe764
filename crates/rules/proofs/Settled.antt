-- A hub request in the task records: who a verdict meets, and each task's record after the verdict is carried out.
-- About any list of waiters met, by any key. Not here: the hubs (Hubs.antt), the lists (Listed.antt).
use Prim.Native.Nat.{◌<◌, ◌≤◌, suc, ℕ}
use Rattle.lists.proofs.Counting.{occ_here}
use Rattle.lists.proofs.Laws.{bool_case}
use Rattle.lists.specs.Lists.{occ}
use Rattle.rules.proofs.Accepted.{Asked, Sided}
use Rattle.rules.proofs.Cases.{cond_case, same_or}
use Rattle.rules.proofs.Changes.{hub-leave, in_use, length-set_task, set_case, set_other, set_same}
use Rattle.rules.proofs.Quiet.{Quiet, quiet_answer, quiet_same}
use Rattle.rules.proofs.Standing.{first-waits, listed-waits}
use Rattle.rules.proofs.Valid.{Listed}
use Rattle.rules.proofs.Verdicts.{Apart, Each, Few, across, each_map, few, later_side, meets-all, meets-first, meets_later, meets_never, meets-none, waiters_met}
use Rattle.rules.specs.Calls.{hold, kept, meet_all, settle, wait}
use Rattle.rules.specs.HubTable.{Meeting, Verdict, fail, met, not_now, readers, verdict}
use Rattle.rules.specs.Lists.{answer, answered, first_waiting, join_hub, join_ready, leave, readied, unqueue, waits, wake}
use Rattle.rules.specs.Table.{State, Task, hub, kind_of, set_hub, set_ready, set_task, side_of, task}
use Rattle.rules.specs.declared.Call.{Call}
use borrow.Author.Tests.{eqb-true}
use lib.Dec.{eqb}
use lib.ListN.{length}
use mathlib.Core.List.{List, [], ◌∷◌}
use mathlib.Core.Logic.{◌≢◌, ◌⊎◌, inl, inr}
use mathlib.Core.Path.{◌∙◌, ◌≡◌, ap, refl, subst, sym}
use native.Mathlib.Omega.{arith}

-- ---- answered

module _ (s : State) (i a w : ℕ) where
  pub answer_same : i < length s.tasks → task (answer i a w s) i ≡ answered a w (task s i)
  unfolding answer
  answer_same h = set_same s i _ h

  pub answer_other : (j : ℕ) → j ≢ i → task (answer i a w s) j ≡ task s j
  unfolding answer
  answer_other j h = set_other s i _ j h

  pub length-answer : length (answer i a w s).tasks ≡ length s.tasks
  unfolding answer
  length-answer = length-set_task s i _

-- ---- woken

module _ (key : ℕ → ℕ) (s : State) (i a w : ℕ) where
  pub wake_same : i < length s.tasks → task (wake key i a w s) i ≡ readied a w (task s i)
  unfolding join_ready leave set_ready wake
  wake_same h = set_same (leave i s) i _ h

  pub wake_other : (j : ℕ) → j ≢ i → task (wake key i a w s) j ≡ task s j
  unfolding join_ready leave set_ready wake
  wake_other j h = set_other (leave i s) i _ j h

  wake-ready : (j : ℕ) → (task s j).state ≡ 2 → (task (wake key i a w s) j).state ≡ 2
  unfolding join_ready leave readied set_ready wake
  wake-ready j h = set_case (leave i s) i (readied a w (task s i)) (λ t. t.state ≡ 2) j (λ e. refl) h

  pub length-wake : length (wake key i a w s).tasks ≡ length s.tasks
  unfolding join_ready leave set_ready wake
  length-wake = length-set_task (leave i s) i _

  pub hub-wake : (h : ℕ) → hub (wake key i a w s) h ≡ unqueue i (hub s h)
  unfolding join_ready set_ready set_task wake
  hub-wake h = hub-leave i s h

-- ---- all waiters met

abbrev pub InUse : State → List Meeting → Type 0
InUse s ms = Each (λ m. m.waiter < length s.tasks) ms

pub in_use_move : (s s' : State) (ms : List Meeting) → length s'.tasks ≡ length s.tasks → InUse s ms → InUse s' ms
in_use_move s s' ms e u = each_map _ _ (λ m h. subst (λ (n : ℕ). m.waiter < n) (sym e) h) ms u

module _ (key : ℕ → ℕ) where
  pub meet_apart : (ms : List Meeting) (s : State) (j : ℕ) → Apart ms j → task (meet_all key ms s) j ≡ task s j
  unfolding Each meet_all
  meet_apart [] s j a = refl
  meet_apart (m ∷ ms) s j a = meet_apart ms _ j a.1 ∙ wake_other key s m.waiter 1 m.word j a.0

  pub meet_first : (m : Meeting) (ms : List Meeting) (s : State) → m.waiter < length s.tasks → Apart ms m.waiter
      → task (meet_all key (m ∷ ms) s) m.waiter ≡ readied 1 m.word (task s m.waiter)
  unfolding meet_all
  meet_first m ms s h a = meet_apart ms _ m.waiter a ∙ wake_same key s m.waiter 1 m.word h

  pub meet_ready : (ms : List Meeting) (s : State) (j : ℕ) → (task s j).state ≡ 2 → (task (meet_all key ms s) j).state ≡ 2
  unfolding meet_all
  meet_ready [] s j h = h
  meet_ready (m ∷ ms) s j h = meet_ready ms _ j (wake-ready key s m.waiter 1 m.word j h)

  -- who still waits was not met
  pub meet_waiting : (ms : List Meeting) (s : State) (j : ℕ) → InUse s ms → (task (meet_all key ms s) j).state ≡ 3 → Apart ms j
  unfolding Each meet_all readied
  meet_waiting [] s j u h = tt
  meet_waiting (m ∷ ms) s j u h =
      same_or j m.waiter
      (λ e. absurd (omega (
        arith,
        h,
        meet_ready ms (wake key m.waiter 1 m.word s) j (rw e (ap (λ (t : Task). t.state) (wake_same key s m.waiter 1 m.word u.0))),
      )))
      (λ n. (n, meet_waiting ms _ j (in_use_move s (wake key m.waiter 1 m.word s) ms (length-wake key s m.waiter 1 m.word) u.1) h))

  pub length-meet_all : (ms : List Meeting) (s : State) → length (meet_all key ms s).tasks ≡ length s.tasks
  unfolding meet_all
  length-meet_all [] s = refl
  length-meet_all (m ∷ ms) s = length-meet_all ms _ ∙ length-wake key s m.waiter 1 m.word

-- ---- who a verdict meets

-- a waiter at the target, on the other side
pub record Waiter (s : State) (c : Call) (w : ℕ) : Type 0 where
  pub state : (task s w).state ≡ 3
  pub hub : (task s w).hub ≡ suc c.target
  pub side : (task s w).side ≡ across (side_of c.side)

abbrev pub Partners : State → Call → List Meeting → Type 0
Partners s c ms = Each (λ m. Waiter s c m.waiter) ms

-- a reader in a list, met with word x: in it, on side 2
abbrev pub Reads : State → List ℕ → ℕ → Meeting → Type 0
Reads s l x m = (1 ≤ occ m.waiter l) × ((task s m.waiter).side ≡ 2) × (m.word ≡ x)

pub readers-waits : (s : State) (l : List ℕ) (x : ℕ) → Each (Reads s l x) (readers s l x)
unfolding Each occ readers
readers-waits s [] x = tt
readers-waits s (t ∷ ts) x =
    let rest : Each (Reads s (t ∷ ts) x) (readers s ts x) =
    each_map (Reads s ts x) (Reads s (t ∷ ts) x) (λ m q. (later m.waiter q.0, q.1, q.2)) (readers s ts x) (readers-waits s ts x) in
    bool_case (eqb (task s t).side 2) (λ b. rw b ((occ_here t ts, eqb-true _ 2 b, refl), rest)) (λ b. rw b rest)
  where
    later : (j : ℕ) → 1 ≤ occ j ts → 1 ≤ occ j (t ∷ ts)
    later j h = omega arith

partners_of : (s : State) → Listed s → (c : Call) (v : Verdict)
    → Few (kind_of (hub s c.target).kind) s (hub s c.target).waiters (across (side_of c.side)) (first_waiting s (across (side_of c.side)) (hub s c.target).waiters) v
    → Partners s c (waiters_met v)
unfolding Each waiters_met
partners_of s l c v (meets-none n ws x) = tt
partners_of s l c v (meets-first n ws x w y e) =
    let f = first-waits s (across (side_of c.side)) (hub s c.target).waiters w e in
    let g = listed-waits s l c.target w f.0 in
    (record { state = g.0; hub = g.1; side = f.1 }, tt)
partners_of s l c v (meets-all y b e) =
    each_map (Reads s (hub s c.target).waiters y) (λ m. Waiter s c m.waiter)
    (λ m q. let g = listed-waits s l c.target m.waiter q.0 in record { state = g.0; hub = g.1; side = q.1 ∙ sym e })
    (readers s (hub s c.target).waiters y) (readers-waits s (hub s c.target).waiters y)
partners_of s l c v meets_later = tt
partners_of s l c v meets_never = tt

pub partners : (s : State) → Listed s → (c : Call) → Partners s c (waiters_met (verdict s c))
partners s l c = partners_of s l c _ (few s c)

pub partners_in : (s : State) (c : Call) (ms : List Meeting) → Partners s c ms → InUse s ms
partners_in s c ms p = each_map _ _ (λ m q. in_use s m.waiter 1 q.state) ms p

-- who is told "not now" puts or gets
pub later_asked : (s : State) (c : Call) → Asked s c → verdict s c ≡ not_now → (c.side ≡ 1) ⊎ (c.side ≡ 2)
unfolding verdict
later_asked s c a q = by a.side
  where
    by : Sided (kind_of (hub s c.target).kind) c.side → (c.side ≡ 1) ⊎ (c.side ≡ 2)
    by (inl e) = inl e
    by (inr (inl e)) = inr e
    by (inr (inr e)) = absurd (later_side s (hub s c.target) c e.0 q)

-- ---- the records after a request, by the verdict

module _ (s : State) (c : Call) (run : (task s c.caller).state ≡ 2) where
  pub caller_in : c.caller < length s.tasks
  caller_in = in_use s c.caller 0 run

  -- answered alone: nobody else's record changes
  pub quiet_told : (a x : ℕ) (s₁ : State) → s₁.tasks ≡ s.tasks → Quiet s (answer c.caller a x s₁)
  quiet_told a x s₁ e = quiet_answer s s₁ c.caller a x (quiet_same s s₁ (λ j. rw e refl)) (λ f. omega (arith, f))

  pub told_caller : (a x : ℕ) (s₁ : State) → s₁.tasks ≡ s.tasks → task (answer c.caller a x s₁) c.caller ≡ answered a x (task s c.caller)
  told_caller a x s₁ e = answer_same s₁ c.caller a x (rw e caller_in) ∙ rw e refl

module _ (key : ℕ → ℕ) (s : State) (c : Call) (run : (task s c.caller).state ≡ 2) where
  -- waiting
  pub wait-caller : task (wait key s c) c.caller ≡ waits c.target c.ticks c.side (kept (hub s c.target) c) (task s c.caller)
  unfolding join_hub leave set_hub wait
  wait-caller = set_same (leave c.caller s) c.caller _ (caller_in s c run)

  pub wait_other : (j : ℕ) → j ≢ c.caller → task (wait key s c) j ≡ task s j
  unfolding join_hub leave set_hub wait
  wait_other j n = set_other (leave c.caller s) c.caller _ j n

  -- met, with these waiters
  module _ (n : ℕ) (ws : List ℕ) (x : ℕ) (ms : List Meeting) (p : Partners s c ms) where
    caller_apart : Apart ms c.caller
    caller_apart = each_map _ _ (λ m q e. omega (arith, run, rw (sym e) at q.state)) ms p

    pub met-caller : task (settle key (met n ws x ms) s c) c.caller ≡ answered 1 x (task s c.caller)
    unfolding hold set_hub settle
    met-caller = meet_apart key ms _ c.caller caller_apart ∙ told_caller s c run 1 x (hold c.target n ws s) refl

    pub met_other : (j : ℕ) → Apart ms j → j ≢ c.caller → task (settle key (met n ws x ms) s c) j ≡ task s j
    unfolding hold set_hub settle
    met_other j a e = meet_apart key ms _ j a ∙ answer_other (hold c.target n ws s) c.caller 1 x j e

    -- who waits after it waited before, and was not met
    pub met-waiting : (j : ℕ) → (task (settle key (met n ws x ms) s c) j).state ≡ 3 → Apart ms j × (j ≢ c.caller)
    unfolding answered hold set_hub settle
    met-waiting j h = (
      meet_waiting key ms s₁ j (in_use_move s s₁ ms (length-answer _ c.caller 1 x) (partners_in s c ms p)) h,
      λ e. omega (arith, run, rw e at h, ap (λ (t : Task). t.state) met-caller),
    )
      where
        s₁ : State
        s₁ = answer c.caller 1 x (hold c.target n ws s)

  pub met-first : (n : ℕ) (ws : List ℕ) (x : ℕ) (m : Meeting) (ms : List Meeting) → Partners s c (m ∷ ms) → Apart ms m.waiter
      → task (settle key (met n ws x (m ∷ ms)) s c) m.waiter ≡ readied 1 m.word (task s m.waiter)
  unfolding Each hold set_hub settle
  met-first n ws x m ms p a =
      meet_first key m ms s₁ (rw (length-answer (hold c.target n ws s) c.caller 1 x) (in_use s m.waiter 1 p.0.state)) a
      ∙ ap (readied 1 m.word) (answer_other (hold c.target n ws s) c.caller 1 x m.waiter (λ e. omega (arith, run, rw e at p.0.state)))
    where
      s₁ : State
      s₁ = answer c.caller 1 x (hold c.target n ws s)

-- ---- no call of this kind drops or adds a task

pub length-settle : (key : ℕ → ℕ) (v : Verdict) (s : State) (c : Call) → length (settle key v s c).tasks ≡ length s.tasks
unfolding hold join_hub leave set_hub settle wait
length-settle key (met n ws x ms) s c = length-meet_all key ms _ ∙ length-answer (hold c.target n ws s) c.caller 1 x
length-settle key not_now s c =
    cond_case (λ (z : State). length z.tasks ≡ length s.tasks) (eqb c.mode 2) _ _
    (λ _. length-answer s c.caller 2 0)
    (λ _. length-set_task (leave c.caller s) c.caller _)
length-settle key fail s c = length-answer s c.caller 2 0
