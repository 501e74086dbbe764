-- A hub request: after it the requests and the table agree, with the caller's own request among them; the requests that turn
-- met in it are those that the verdict names (`met_in`), and their words are the verdict's.
-- About any list of waiters met, but for `turned-settle`, which goes by the rows of the hub table, and `turned-update`.
use Prim.Native.Nat.{◌+◌, ◌<◌, ◌≤◌, ℕ}
use Rattle.history.proofs.Again.{Agree, Entry, Meets, MovedOrMet, again-waiting, each-turned, entries-again, turned_append, turned_none, turned-one, waiting-again}
use Rattle.history.proofs.Balance.{gets_by, puts_by}
use Rattle.history.proofs.Classes.{class_failed, class-met, class-waiting}
use Rattle.history.proofs.Those.{each_append, each_imp, how_many_append, how_many_cons, those_append, those-none}
use Rattle.history.specs.History.{Class, Request, again, asked, at, class_of, failed, how_many, is_class, passed, reread, row_class, those, turned, turns, waiting, waits_by, words_of}
use Rattle.history.specs.Statements.{Each, Stands}
use Rattle.lists.proofs.Laws.{bool_case}
use Rattle.lists.specs.Lists.{bit, occ}
use Rattle.rules.proofs.Accepted.{Sided}
use Rattle.rules.proofs.Cases.{cond_case, same_or}
use Rattle.rules.proofs.Changes.{in_use, set_case}
use Rattle.rules.proofs.Quiet.{Moved, Quiet, stays}
use Rattle.rules.proofs.Settled.{InUse, Partners, Reads, Waiter, answer_other, in_use_move, length-answer, length-wake, met-caller, met-first, met_other, met-waiting, partners_in, quiet_told, readers-waits, told_caller, wait-caller, wait_other, wake_other, wake_same}
use Rattle.rules.proofs.Verdicts.{Each as EachMeeting, Few, across, each_map as each-meeting, meets-all, meets-first, meets_later, meets_never, meets-none, waiters_met}
use Rattle.rules.specs.Calls.{hold, kept, meet_all, settle, wait}
use Rattle.rules.specs.HubTable.{Meeting, Verdict, fail, met, not_now, readers}
use Rattle.rules.specs.Lists.{answer, answered, join_ready, leave, readied, waits, wake}
use Rattle.rules.specs.Table.{Board, Kind, State, Task, hub, set_hub, set_ready, side_of, task}
use Rattle.rules.specs.declared.Call.{Call}
use borrow.Author.Tests.{eq-eqb, eqb-true, ne_eqb}
use lib.Dec.{eqb}
use lib.ListN.{length}
use mathlib.Core.Bool.{◌&&◌, false, true}
use mathlib.Core.List.{List, [], ◌++◌, ◌∷◌, append-nil, map, map-append}
use mathlib.Core.Logic.{◌≢◌, ◌⊎◌, inl, inr}
use mathlib.Core.Option.{Option}
use mathlib.Core.Path.{◌∙◌, ◌≡◌, ap, refl, subst, sym}
use native.Mathlib.Omega.{arith}

pub same_moved : (t t' : Task) → t' ≡ t → t.state ≡ 3 → Moved t t'
same_moved t t' q g =
    stays (ap (λ (t : Task). t.state) q ∙ g) (ap (λ (t : Task). t.hub) q) (ap (λ (t : Task). t.side) q) (ap (λ (t : Task). t.word) q)

-- ---- all waiters met: each task's record is as it was, or its request is met

-- what follows, of task j's record afterwards, where meeting m is j's: ready, answer 1, and the meeting's word
abbrev pub Known : (Task → Type 0) → ℕ → Meeting → Type 0
Known R j m = m.waiter ≡ j → (t : Task) → t.state ≡ 2 → t.answer ≡ 1 → t.word ≡ m.word → R t

module _ (key : ℕ → ℕ) where
  wake-meets : (s : State) (i w j : ℕ) → Meets (task s j) → Meets (task (wake key i 1 w s) j)
  unfolding join_ready leave readied set_ready wake
  wake-meets s i w j m = set_case (leave i s) i (readied 1 w (task s i)) Meets j (λ e. (refl, refl)) m

  meet_meets : (ms : List Meeting) (s : State) (j : ℕ) → Meets (task s j) → Meets (task (meet_all key ms s) j)
  unfolding meet_all
  meet_meets [] s j m = m
  meet_meets (x ∷ ms) s j m = meet_meets ms _ j (wake-meets s x.waiter x.word j m)

  meet_each : (ms : List Meeting) (s : State) → InUse s ms → Each (λ m. Meets (task (meet_all key ms s) m.waiter)) ms
  unfolding Each EachMeeting meet_all readied
  meet_each [] s u = tt
  meet_each (m ∷ ms) s u = (
    meet_meets ms (wake key m.waiter 1 m.word s) m.waiter (rw (wake_same key s m.waiter 1 m.word u.0) (refl, refl)),
    meet_each ms (wake key m.waiter 1 m.word s) (in_use_move s (wake key m.waiter 1 m.word s) ms (length-wake key s m.waiter 1 m.word) u.1),
  )

  -- task j's record is as it was, or what is known of the meeting that was its holds
  meet_known : (R : Task → Type 0) (j : ℕ) (ms : List Meeting) (s : State) → j < length s.tasks → EachMeeting (Known R j) ms
      → (task (meet_all key ms s) j ≡ task s j) ⊎ R (task (meet_all key ms s) j)
  unfolding EachMeeting meet_all readied
  meet_known R j [] s u k = inl refl
  meet_known R j (m ∷ ms) s u k = step (meet_known R j ms s₁ (rw (length-wake key s m.waiter 1 m.word) u) k.1)
    where
      s₁ : State
      s₁ = wake key m.waiter 1 m.word s

      step : (task (meet_all key ms s₁) j ≡ task s₁ j) ⊎ R (task (meet_all key ms s₁) j) → (task (meet_all key ms s₁) j ≡ task s j) ⊎ R (task (meet_all key ms s₁) j)
      step (inl e) =
          same_or j m.waiter
          (λ q. let w : task s₁ j ≡ readied 1 m.word (task s m.waiter) = rw q (wake_same key s m.waiter 1 m.word (rw (← q) u)) in
          inr (k.0 (sym q) _ (ap (λ (t : Task). t.state) (e ∙ w)) (ap (λ (t : Task). t.answer) (e ∙ w)) (ap (λ (t : Task). t.word) (e ∙ w))))
          (λ q. inl (e ∙ wake_other key s m.waiter 1 m.word j q))
      step (inr r) = inr r

all_known : (j : ℕ) (ms : List Meeting) → EachMeeting (Known Meets j) ms
unfolding EachMeeting
all_known j [] = tt
all_known j (m ∷ ms) = (λ e t a b w. (a, b), all_known j ms)

-- ---- the requests that turn met, by the verdict: the waiters' first, then the caller's

abbrev pub met_waiter : State → Call → Meeting → Request
met_waiter s c m = record {
  task = m.waiter;
  hub = c.target;
  side = across (side_of c.side);
  word = (task s m.waiter).word;
  class = Class.met;
  received = m.word;
}

abbrev pub met_caller : State → Call → ℕ → Request
met_caller s c x = record {
  task = c.caller;
  hub = c.target;
  side = c.side;
  word = kept (hub s c.target) c;
  class = Class.met;
  received = x;
}

unfoldable pub met_in : State → Call → Verdict → List Request
met_in s c (met n ws x ms) = map (met_waiter s c) ms ++ met_caller s c x ∷ []
met_in s c not_now = []
met_in s c fail = []

-- the update of a Board: every reader is met with the word written
abbrev pub updates : State → Call → ℕ → Verdict
updates s c y = met 1 (y ∷ []) 0 (readers s (hub s c.target).waiters y)

-- what comes of the caller's own request: met with word x, failed, or waiting
pub data Outcome (s : State) (c : Call) (s' : State) : Type 0 where
  is_met : (x : ℕ) → task s' c.caller ≡ answered 1 x (task s c.caller) → Outcome s c s'
  is_failed : task s' c.caller ≡ answered 2 0 (task s c.caller) → Outcome s c s'
  is_open : task s' c.caller ≡ waits c.target c.ticks c.side (kept (hub s c.target) c) (task s c.caller) → Outcome s c s'

module _ (key : ℕ → ℕ) (s : State) (c : Call) (run : (task s c.caller).state ≡ 2) where
  -- ---- the other tasks

  free : (j : ℕ) → (task s j).state ≡ 3 → j ≢ c.caller
  free j g e = omega (arith, run, rw e at g)

  -- a waiting task's record is as it was, or what is known of its meeting holds
  known_settle : (R : Task → Type 0) (v : Verdict) (j : ℕ) → (task s j).state ≡ 3 → EachMeeting (Known R j) (waiters_met v)
      → (task (settle key v s c) j ≡ task s j) ⊎ R (task (settle key v s c) j)
  unfolding settle waiters_met
  known_settle R (met n ws x ms) j g k =
      subst (λ (t : Task). (task (meet_all key ms s₁) j ≡ t) ⊎ R (task (meet_all key ms s₁) j)) same
      (meet_known key R j ms s₁ (rw (length-answer (hold c.target n ws s) c.caller 1 x) (unfold hold set_hub in in_use s j 1 g)) k)
    where
      s₁ : State
      s₁ = answer c.caller 1 x (hold c.target n ws s)

      same : task s₁ j ≡ task s j
      same = unfold hold set_hub in answer_other (hold c.target n ws s) c.caller 1 x j (free j g)
  known_settle R not_now j g k =
      cond_case (λ (z : State). (task z j ≡ task s j) ⊎ R (task z j)) (eqb c.mode 2) _ _
      (λ _. inl (answer_other s c.caller 2 0 j (free j g)))
      (λ _. inl (wait_other key s c run j (free j g)))
  known_settle R fail j g k = inl (answer_other s c.caller 2 0 j (free j g))

  pub rests_settle : (v : Verdict) (j : ℕ) → (task s j).state ≡ 3 → (task (settle key v s c) j ≡ task s j) ⊎ Meets (task (settle key v s c) j)
  rests_settle v j g = known_settle Meets v j g (all_known j (waiters_met v))

  moves-settle : (v : Verdict) → MovedOrMet s (settle key v s c)
  moves-settle v j g = go (rests_settle v j g)
    where
      go : (task (settle key v s c) j ≡ task s j) ⊎ Meets (task (settle key v s c) j) → Moved (task s j) (task (settle key v s c) j) ⊎ Meets (task (settle key v s c) j)
      go (inl e) = inl (same_moved _ _ e g)
      go (inr m) = inr m

  -- who waits after it waited before, or is the caller
  told_fresh : (a x j : ℕ) → (task (answer c.caller a x s) j).state ≡ 3 → (task s j).state ≡ 3
  told_fresh a x j g = unfold Quiet in (quiet_told s c run a x s refl j).new g

  fresh_settle : (v : Verdict) → Partners s c (waiters_met v) → (j : ℕ) → (task (settle key v s c) j).state ≡ 3 → (j ≡ c.caller) ⊎ ((task s j).state ≡ 3)
  unfolding settle waiters_met
  fresh_settle (met n ws x ms) p j g =
      let q = met-waiting key s c run n ws x ms p j g in
      inr (sym (ap (λ (t : Task). t.state) (met_other key s c run n ws x ms p j q.0 q.1)) ∙ g)
  fresh_settle not_now p j g =
      cond_case (λ (z : State). (task z j).state ≡ 3 → (j ≡ c.caller) ⊎ ((task s j).state ≡ 3)) (eqb c.mode 2) _ _
      (λ _ k. inr (told_fresh 2 0 j k))
      (λ _ k. same_or j c.caller inl (λ n. inr (sym (ap (λ (t : Task). t.state) (wait_other key s c run j n)) ∙ k)))
      g
  fresh_settle fail p j g = inr (told_fresh 2 0 j g)

  -- ---- the caller's own request

  pub outcome-settle : (v : Verdict) → Partners s c (waiters_met v) → Outcome s c (settle key v s c)
  unfolding settle waiters_met
  outcome-settle (met n ws x ms) p = is_met x (met-caller key s c run n ws x ms p)
  outcome-settle not_now p =
      cond_case (Outcome s c) (eqb c.mode 2) _ _ (λ _. is_failed (told_caller s c run 2 0 s refl)) (λ _. is_open (wait-caller key s c run))
  outcome-settle fail p = is_failed (told_caller s c run 2 0 s refl)

  pub class_of-met : (s' : State) (x : ℕ) → task s' c.caller ≡ answered 1 x (task s c.caller) → class_of (task s' c.caller) ≡ Class.met
  unfolding answered
  class_of-met s' x r = class-met _ (ap (λ (t : Task). t.state) r ∙ run) (ap (λ (t : Task). t.answer) r)

  class_of_failed : (s' : State) → task s' c.caller ≡ answered 2 0 (task s c.caller) → class_of (task s' c.caller) ≡ failed
  unfolding answered
  class_of_failed s' r = class_failed _ (ap (λ (t : Task). t.state) r ∙ run) (ap (λ (t : Task). t.answer) r)

  entry_own : (s' : State) → Outcome s c s' → Entry s' (reread s' (asked s c))
  unfolding asked reread waits
  entry_own s' (is_met x r) = record {
    known = λ e. let z : ◌≡◌ {A = ℕ} 0 1 = cc (class_of-met s' x r) in omega arith;
    stands = λ e. absurd (let z : ◌≡◌ {A = ℕ} 0 1 = cc (class_of-met s' x r) in omega arith);
  }
  entry_own s' (is_failed r) = record {
    known = λ e. let z : ◌≡◌ {A = ℕ} 0 1 = cc (class_of_failed s' r) in omega arith;
    stands = λ e. absurd (let z : ◌≡◌ {A = ℕ} 0 1 = cc (class_of_failed s' r) in omega arith);
  }
  entry_own s' (is_open r) = record {
    known = λ e. let z : ◌≡◌ {A = ℕ} 0 1 = cc (class-waiting (task s' c.caller) (ap (λ (t : Task). t.state) r)) in omega arith;
    stands = λ e. record {
      state = ap (λ (t : Task). t.state) r;
      hub = ap (λ (t : Task). t.hub) r;
      side = ap (λ (t : Task). t.side) r;
      word = ap (λ (t : Task). t.word) r;
    };
  }

  -- as the verdict's row says
  pub class-settle : (v : Verdict) → Partners s c (waiters_met v) → class_of (task (settle key v s c) c.caller) ≡ row_class v c
  unfolding row_class settle waiters_met waits
  class-settle (met n ws x ms) p = class_of-met (settle key (met n ws x ms) s c) x (met-caller key s c run n ws x ms p)
  class-settle not_now p =
      bool_case (eqb c.mode 2)
      (λ b. rw b (class_of_failed (answer c.caller 2 0 s) (told_caller s c run 2 0 s refl)))
      (λ b. rw b (class-waiting (task (wait key s c) c.caller) (ap (λ (t : Task). t.state) (wait-caller key s c run))))
  class-settle fail p = class_of_failed (answer c.caller 2 0 s) (told_caller s c run 2 0 s refl)

  -- and whoever is met with it is met
  pub waiters-met : (n : ℕ) (ws : List ℕ) (x : ℕ) (ms : List Meeting) → Partners s c ms → Each (λ m. class_of (task (settle key (met n ws x ms) s c) m.waiter) ≡ Class.met) ms
  unfolding hold set_hub settle
  waiters-met n ws x ms p =
      each_imp _ _ (λ m q. class-met _ q.0 q.1) ms
      (meet_each key ms _ (in_use_move s (answer c.caller 1 x (hold c.target n ws s)) ms (length-answer (hold c.target n ws s) c.caller 1 x) (partners_in s c ms p)))

  -- ---- the requests and the table agree again

  pub agree_settle : (rs : List Request) → Agree s rs → (v : Verdict) → Partners s c (waiters_met v)
      → Agree (settle key v s c) (map (again (settle key v s c)) (rs ++ asked s c ∷ []))
  agree_settle rs a v p = record { entries = entries; one = one }
    where
      s' : State
      s' = settle key v s c

      entries : Each (Entry s') (map (again s') (rs ++ asked s c ∷ []))
      entries =
          rw (map-append (again s') rs (asked s c ∷ []))
          (each_append (Entry s') _ _ (entries-again s s' (moves-settle v) rs a.entries)
          (unfold Each in (rw (again-waiting s' (asked s c) (unfold asked in refl)) (entry_own s' (outcome-settle v p)), tt)))

      one : (i : ℕ) → how_many (waits_by i) (map (again s') (rs ++ asked s c ∷ [])) ≡ bit (eqb (task s' i).state 3)
      one i =
          waiting-again s' i (rs ++ asked s c ∷ [])
          ∙ bool_case (eqb (task s' i).state 3) (λ b. rw b (by (fresh_settle v p i (eqb-true _ 3 b)))) (λ b. rw b)
        where
          counted : how_many (waits_by i) (rs ++ asked s c ∷ []) ≡ bit (eqb (task s i).state 3) + bit (eqb c.caller i)
          counted =
              how_many_append (waits_by i) rs (asked s c ∷ [])
              ∙ rw (a.one i, how_many_cons (waits_by i) (asked s c) []) (unfold asked those in omega arith)

          by : (i ≡ c.caller) ⊎ ((task s i).state ≡ 3) → how_many (waits_by i) (rs ++ asked s c ∷ []) ≡ 1
          by (inl q) = counted ∙ rw (ne_eqb (task s i).state 3 (λ g. free i g q), eq-eqb c.caller i (sym q))
          by (inr g) = counted ∙ rw (eq-eqb (task s i).state 3 g, ne_eqb c.caller i (λ q. free i g (sym q)))

  -- ---- who turns met

  own-met : (s' : State) (x : ℕ) → task s' c.caller ≡ answered 1 x (task s c.caller) → turned Class.met s' (asked s c ∷ []) ≡ met_caller s c x ∷ []
  unfolding answered asked reread turned
  own-met s' x r = ap (map (reread s')) one ∙ rw (class_of-met s' x r, ap (λ (t : Task). t.word) r)
    where
      one : those (turns Class.met s') (asked s c ∷ []) ≡ asked s c ∷ []
      one = unfold asked those in rw (class_of-met s' x r)

  own_unmet : (s' : State) → is_class Class.met (class_of (task s' c.caller)) ≡ false → turned Class.met s' (asked s c ∷ []) ≡ []
  unfolding asked those turned
  own_unmet s' e = rw e

  module _ (rs : List Request) (a : Agree s rs) where
    alone-turned : (n : ℕ) (ws : List ℕ) (x : ℕ) → turned Class.met (settle key (met n ws x []) s c) rs ≡ []
    unfolding hold meet_all set_hub settle
    alone-turned n ws x =
        turned_none s _ rs a.entries (λ j g. same_moved _ _ (answer_other (hold c.target n ws s) c.caller 1 x j (free j g)) g)

    pair-turned : (n : ℕ) (ws : List ℕ) (x : ℕ) (m : Meeting) → Partners s c (m ∷ []) → turned Class.met (settle key (met n ws x (m ∷ [])) s c) rs ≡ met_waiter s c m ∷ []
    unfolding EachMeeting readied reread
    pair-turned n ws x m p =
        let f = turned-one s s' m.waiter rs a p.0.state (ap (λ (t : Task). t.state) waiter, ap (λ (t : Task). t.answer) waiter) others in
        let r : Request = f.0 in
        let at : r.task ≡ m.waiter = f.2 in
        let e : reread s' r ∷ [] ≡ met_waiter s c m ∷ [] = rw (
          at,
          hub_is r at f.3,
          sym f.3.side ∙ (ap (λ (i : ℕ). (task s i).side) at ∙ p.0.side),
          sym f.3.word ∙ ap (λ (i : ℕ). (task s i).word) at,
          class-met (task s' m.waiter) (ap (λ (t : Task). t.state) waiter) (ap (λ (t : Task). t.answer) waiter),
          ap (λ (t : Task). t.word) waiter,
        ) in
        f.1 ∙ e
      where
        s' : State
        s' = settle key (met n ws x (m ∷ [])) s c

        waiter : task s' m.waiter ≡ readied 1 m.word (task s m.waiter)
        waiter = met-first key s c run n ws x m [] p (unfold EachMeeting in tt)

        others : (j : ℕ) → j ≢ m.waiter → (task s j).state ≡ 3 → Moved (task s j) (task s' j)
        others j e g = same_moved _ _ (met_other key s c run n ws x (m ∷ []) p j (unfold EachMeeting in (e, tt)) (free j g)) g

        hub_is : (r : Request) → r.task ≡ m.waiter → Stands s r → r.hub ≡ c.target
        hub_is r at k = omega (arith, k.hub, p.0.hub, ap (λ (i : ℕ). (task s i).hub) at)

    unmet_turned : (s' : State) → ((j : ℕ) → (task s j).state ≡ 3 → Moved (task s j) (task s' j)) → is_class Class.met (class_of (task s' c.caller)) ≡ false
        → turned Class.met s' (rs ++ asked s c ∷ []) ≡ []
    unmet_turned s' m e = turned_append Class.met s' rs (asked s c ∷ []) ∙ rw (turned_none s s' rs a.entries m, own_unmet s' e)

    fail-turned : turned Class.met (answer c.caller 2 0 s) (rs ++ asked s c ∷ []) ≡ []
    fail-turned =
        unmet_turned _ (λ j g. same_moved _ _ (answer_other s c.caller 2 0 j (free j g)) g) (ap (is_class Class.met) (class_of_failed (answer c.caller 2 0 s) (told_caller s c run 2 0 s refl)))

    wait-turned : turned Class.met (wait key s c) (rs ++ asked s c ∷ []) ≡ []
    unfolding waits
    wait-turned =
        unmet_turned _ (λ j g. same_moved _ _ (wait_other key s c run j (free j g)) g)
        (ap (is_class Class.met) (class-waiting (task (wait key s c) c.caller) (ap (λ (t : Task). t.state) (wait-caller key s c run))))

    -- by the rows of the hub table, but for the update of a Board (k the kind, d the other side), which meets every reader: those
    -- turn in the order of the calls, not of the list
    pub turned-settle : (v : Verdict) (k : Kind) (l : List ℕ) (d : ℕ) (f : Option ℕ) → Few k s l d f v → (k ≡ Board → d ≡ 2 → ⊥) → Partners s c (waiters_met v)
        → turned Class.met (settle key v s c) (rs ++ asked s c ∷ []) ≡ met_in s c v
    unfolding met_in settle waiters_met
    turned-settle v k l₀ d f few nu p = go l₀ v few nu p
      where
        go : (l : List ℕ) (v : Verdict) → Few k s l d f v → (k ≡ Board → d ≡ 2 → ⊥) → Partners s c (waiters_met v)
            → turned Class.met (settle key v s c) (rs ++ asked s c ∷ []) ≡ met_in s c v
        go l v (meets-none n ws x) nu p =
            turned_append Class.met (settle key (met n ws x []) s c) rs (asked s c ∷ [])
            ∙ rw (alone-turned n ws x, own-met (settle key (met n ws x []) s c) x (met-caller key s c run n ws x [] p))
        go l v (meets-first n ws x w y e) nu p =
            let m : Meeting = record { waiter = w; word = y } in
            turned_append Class.met (settle key (met n ws x (m ∷ [])) s c) rs (asked s c ∷ [])
            ∙ rw (pair-turned n ws x m p, own-met (settle key (met n ws x (m ∷ [])) s c) x (met-caller key s c run n ws x (m ∷ []) p))
        go l v (meets-all y b e) nu p = absurd (nu b e)
        go l v meets_later nu p =
            cond_case (λ (z : State). turned Class.met z (rs ++ asked s c ∷ []) ≡ []) (eqb c.mode 2) _ _ (λ _. fail-turned) (λ _. wait-turned)
        go l v meets_never nu p = fail-turned

    -- by any verdict: of the old requests those turn met whose task has a meeting
    turned-old : (P : Request → Type 0) (v : Verdict)
        → ((r : Request) → Stands s r → EachMeeting (Known (λ t. t ≡ task (settle key v s c) r.task → P (reread (settle key v s c) r)) r.task) (waiters_met v))
        → Each P (turned Class.met (settle key v s c) rs)
    turned-old P v f = each-turned P Class.met (settle key v s c) rs (each_imp (Entry s) _ (λ r y z u. by r (y.stands z) u) rs a.entries)
      where
        by : (r : Request) → Stands s r → class_of (task (settle key v s c) r.task) ≡ Class.met → P (reread (settle key v s c) r)
        by r k u = go (known_settle _ v r.task k.state (f r k))
          where
            go : (task (settle key v s c) r.task ≡ task s r.task) ⊎ (task (settle key v s c) r.task ≡ task (settle key v s c) r.task → P (reread (settle key v s c) r)) → P (reread (settle key v s c) r)
            go (inl e) = absurd (let z : ◌≡◌ {A = ℕ} 0 1 = cc (class-waiting (task (settle key v s c) r.task) (ap (λ (t : Task). t.state) e ∙ k.state)) in omega arith)
            go (inr q) = q refl

    -- and all that turn met are of the caller's hub
    pub turned-place : (v : Verdict) → Partners s c (waiters_met v) → Each (λ r. r.hub ≡ c.target) (turned Class.met (settle key v s c) (rs ++ asked s c ∷ []))
    unfolding reread
    turned-place v p =
        rw (turned_append Class.met (settle key v s c) rs (asked s c ∷ []))
        (each_append _ _ _
        (turned-old _ v (λ r k. each-meeting (λ m. Waiter s c m.waiter) _ (λ m w e t x y z q. omega (arith, k.hub, w.hub, ap (λ (i : ℕ). (task s i).hub) e)) (waiters_met v) p))
        (each-turned (λ r. r.hub ≡ c.target) Class.met (settle key v s c) (asked s c ∷ []) own))
      where
        own : Each (λ r. r.class ≡ waiting → class_of (task (settle key v s c) r.task) ≡ Class.met → (reread (settle key v s c) r).hub ≡ c.target) (asked s c ∷ [])
        own = unfold Each asked in (λ z u. refl, tt)

    -- an update of a Board: its readers, with the word y written, and the caller
    pub turned-update : (y : ℕ) (P : Request → Type 0) → Partners s c (readers s (hub s c.target).waiters y)
        → ((r : Request) → Stands s r → 1 ≤ occ r.task (hub s c.target).waiters → (task s r.task).side ≡ 2
        → (task (settle key (updates s c y) s c) r.task).word ≡ y → P (reread (settle key (updates s c y) s c) r))
        → P (met_caller s c 0) → Each P (turned Class.met (settle key (updates s c y) s c) (rs ++ asked s c ∷ []))
    unfolding waiters_met
    turned-update y P p f q =
        rw (turned_append Class.met s' rs (asked s c ∷ []), own-met s' 0 (unfold settle in met-caller key s c run 1 (y ∷ []) 0 ms p))
        (each_append P _ _
        (turned-old P (updates s c y) (λ r k. each-meeting (Reads s l y) _
        (λ m w e t a b z g. f r k (rw e at w.0) (rw e at w.1) (sym (ap (λ (t : Task). t.word) g) ∙ z ∙ w.2)) ms (readers-waits s l y)))
        (unfold Each in (q, tt)))
      where
        l : List ℕ
        l = (hub s c.target).waiters

        ms : List Meeting
        ms = readers s l y

        s' : State
        s' = settle key (updates s c y) s c

-- ---- their words

pub words_append : (h d : ℕ) (rs qs : List Request) → words_of h d (rs ++ qs) ≡ words_of h d rs ++ words_of h d qs
unfolding words_of
words_append h d rs qs = ap (map passed) (those_append (at h d) rs qs) ∙ map-append passed (those (at h d) rs) (those (at h d) qs)

-- none of a hub where all are of another
pub those_off : (g h d : ℕ) (qs : List Request) → g ≢ h → Each (λ r. r.hub ≡ g) qs → those (at h d) qs ≡ []
those_off g h d qs n a = those-none (at h d) qs (each_imp (λ r. r.hub ≡ g) (λ r. at h d r ≡ false) (λ r e. rw (ne_eqb r.hub h (λ q. n (sym e ∙ q)))) qs a)

pub words_off : (g h d : ℕ) (qs : List Request) → g ≢ h → Each (λ r. r.hub ≡ g) qs → words_of h d qs ≡ []
unfolding words_of
words_off g h d qs n a = rw (those_off g h d qs n a)

module _ (s : State) (c : Call) where
  waiters_off : (h d : ℕ) → (eqb c.target h && eqb (across (side_of c.side)) d) ≡ false → (ms : List Meeting) → words_of h d (map (met_waiter s c) ms) ≡ []
  unfolding those words_of
  waiters_off h d e [] = refl
  waiters_off h d e (m ∷ ms) = rw e (waiters_off h d e ms)

  caller_off : (h d x : ℕ) → (eqb c.target h && eqb c.side d) ≡ false → words_of h d (met_caller s c x ∷ []) ≡ []
  unfolding those words_of
  caller_off h d x e = rw e

  here : eqb c.target c.target ≡ true
  here = eq-eqb c.target c.target refl

  waiters-put : eqb (across (side_of c.side)) 1 ≡ true → (ms : List Meeting) → words_of c.target 1 (map (met_waiter s c) ms) ≡ map (λ (m : Meeting). (task s m.waiter).word) ms
  unfolding those words_of
  waiters-put b [] = refl
  waiters-put b (m ∷ ms) = rw (here, b, waiters-put b ms) (rw b refl)

  waiters_got : eqb (across (side_of c.side)) 2 ≡ true → eqb (across (side_of c.side)) 1 ≡ false → (ms : List Meeting)
      → words_of c.target 2 (map (met_waiter s c) ms) ≡ map (λ (m : Meeting). m.word) ms
  unfolding those words_of
  waiters_got b b₁ [] = refl
  waiters_got b b₁ (m ∷ ms) = rw (here, b, b₁, waiters_got b b₁ ms)

  pub words-put : (v : Verdict) {k : Kind} → Sided k c.side → words_of c.target 1 (met_in s c v) ≡ puts_by (side_of c.side) s (kept (hub s c.target) c) v
  unfolding across met_in puts_by side_of
  words-put (met n ws x ms) (inl e) =
      words_append c.target 1 (map (met_waiter s c) ms) (met_caller s c x ∷ [])
      ∙ (rw (waiters_off c.target 1 (rw (here, e)) ms) (unfold those words_of in rw (here, e)))
  words-put (met n ws x ms) (inr (inl e)) =
      words_append c.target 1 (map (met_waiter s c) ms) (met_caller s c x ∷ [])
      ∙ (rw (caller_off c.target 1 x (rw (here, e)), waiters-put (rw e) ms) (rw e (append-nil _)))
  words-put (met n ws x ms) (inr (inr e)) =
      words_append c.target 1 (map (met_waiter s c) ms) (met_caller s c x ∷ [])
      ∙ rw (waiters_off c.target 1 (rw (here, e.0)) ms, caller_off c.target 1 x (rw (here, e.0))) (rw e.0 refl)
  words-put not_now (inl e) = unfold those words_of in rw e
  words-put not_now (inr (inl e)) = unfold those words_of in rw e
  words-put not_now (inr (inr e)) = unfold those words_of in rw e.0
  words-put fail (inl e) = unfold those words_of in rw e
  words-put fail (inr (inl e)) = unfold those words_of in rw e
  words-put fail (inr (inr e)) = unfold those words_of in rw e.0

  pub words_got_lem : (v : Verdict) {k : Kind} → Sided k c.side → words_of c.target 2 (met_in s c v) ≡ gets_by (side_of c.side) v
  unfolding across gets_by met_in side_of
  words_got_lem (met n ws x ms) (inl e) =
      words_append c.target 2 (map (met_waiter s c) ms) (met_caller s c x ∷ [])
      ∙ (rw (caller_off c.target 2 x (rw (here, e)), waiters_got (rw e) (rw e) ms) (rw e (append-nil _)))
  words_got_lem (met n ws x ms) (inr (inl e)) =
      words_append c.target 2 (map (met_waiter s c) ms) (met_caller s c x ∷ [])
      ∙ (rw (waiters_off c.target 2 (rw (here, e)) ms) (unfold those words_of in rw (here, e)))
  words_got_lem (met n ws x ms) (inr (inr e)) =
      words_append c.target 2 (map (met_waiter s c) ms) (met_caller s c x ∷ [])
      ∙ rw (waiters_off c.target 2 (rw (here, e.0)) ms, caller_off c.target 2 x (rw (here, e.0))) (rw e.0 refl)
  words_got_lem not_now (inl e) = unfold those words_of in rw e
  words_got_lem not_now (inr (inl e)) = unfold those words_of in rw e
  words_got_lem not_now (inr (inr e)) = unfold those words_of in rw e.0
  words_got_lem fail (inl e) = unfold those words_of in rw e
  words_got_lem fail (inr (inl e)) = unfold those words_of in rw e
  words_got_lem fail (inr (inr e)) = unfold those words_of in rw e.0
