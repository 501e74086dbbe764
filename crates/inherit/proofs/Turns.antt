-- A turn of each loop of the cycle `over_task`, `over_waiters`, and its end. In order: what stands in the words that they read;
-- the allowance; the hubs that a task is asked at, one after the other (`Owning`); the entries of a waiting list (`Asking`).
-- Not here: what an effective priority means (rules, Meaning.antt), the links (Linking.antt), the sixteen keys (Sixteen.antt).
-- Assumes nothing.
use Prim.Native.Nat.{◌*◌, ◌+◌, ◌-◌, ◌<◌, ◌≤◌, min, suc, zero, zero-le, ℕ}
use Rattle.inherit.proofs.Passing.{AskedAt, first-asked, owned_mine, passed, past_all}
use Rattle.inherit.specs.Linked.{Linked}
use Rattle.lists.proofs.Counting.{occ-drop, occ_here}
use Rattle.lists.proofs.Laws.{bool_case, entries_none, entries-some}
use Rattle.lists.specs.Lists.{entries, occ}
use Rattle.records.specs.Records.{hubs_at, waits_at}
use Rattle.rules.proofs.Changes.{in_use}
use Rattle.rules.proofs.Layouts.{Laid, sized}
use Rattle.rules.proofs.Places.{hub-word, hubs-word, task-word, task-word_unused, wait-word}
use Rattle.rules.proofs.Room.{waiters-room}
use Rattle.rules.proofs.Standing.{listed-waits}
use Rattle.rules.proofs.Valid.{Sound}
use Rattle.rules.specs.Effective.{over_owned, over_task, over_waiters}
use Rattle.rules.specs.Table.{Layout, State, Task, hub, inactive, no_hub, task, words}
use borrow.Author.Tests.{ltb-false, ltb-true}
use lib.Dec.{ltb}
use Rattle.std.proofs.lemmas.List.{get_or-drop, get_or-take, length-take}
use lib.ListN.{get_or-eq_default, drop, drop_of_length-le, get_or, length, length-drop, take}
use lib.Seq.{drop-cons}
use mathlib.Core.List.{List, [], ◌∷◌}
use mathlib.Core.Path.{◌∙◌, ◌≡◌, ap, refl, sym}
use native.Mathlib.Nat.{add-zero}
use native.Mathlib.Numerals.{add-one}
use native.Mathlib.Omega.{arith}

-- what the contracts say: P of every state with exact lists whose words these are, in every layout of this size
abbrev pub Every : ℕ → List ℕ → (State → Type 0) → Type 0
Every ts t P = (L : Layout) (s : State) → Laid ts L → Sound s → t ≡ words L s → P s

-- ---- the words that are read

module _ {ts : ℕ} (L : Layout) (s : State) (y : Laid ts L) (x : Sound s) where
  -- a task's own priority, of a number in use or not
  priority-word : (i : ℕ) → i < 16 → get_or (words L s) (8 + i * ts + 2) 0 ≡ (task s i).priority
  unfolding inactive
  priority-word i h =
      rw y.size
      (bool_case (ltb i (length s.tasks))
      (λ e. task-word L (sized y) s i 2 h (ltb-true _ _ e) (omega arith))
      (λ e. let unused = ltb-false _ _ e in
      task-word_unused L (sized y) s x.tasks i 2 unused h (omega arith)
      ∙ sym (ap (λ (t : Task). t.priority) (get_or-eq_default s.tasks (inactive 0) unused))))

  module _ (h : ℕ) (used : h < length s.hubs) where
    pub kind-word : get_or (words L s) (hubs_at ts + h * 4) 0 ≡ (hub s h).kind
    kind-word = rw y.size (rw add-zero at (hub-word L (sized y) s h (omega (arith, x.hubs)) used 0 (omega arith)))

    pub count_word : get_or (words L s) (hubs_at ts + h * 4 + 1) 0 ≡ (hub s h).count
    count_word = rw y.size (hub-word L (sized y) s h (omega (arith, x.hubs)) used 1 (omega arith))

    pub entry_word : (k : ℕ) → k < 16 → get_or (words L s) (waits_at ts + h * 16 + k) 0 ≡ get_or (entries 16 (hub s h).waiters) k 0
    entry_word k l = rw y.size (wait-word L (sized y) s h (omega (arith, x.hubs)) used k l)

    -- who stands in a waiting list is one of the sixteen
    pub waiter-low : (k j : ℕ) → drop k (hub s h).waiters ≡ j ∷ drop (suc k) (hub s h).waiters → j < 16
    waiter-low k j e =
        let here : 1 ≤ occ j (hub s h).waiters = omega (arith, occ-drop j k (hub s h).waiters, rw (sym e) at (occ_here j (drop (suc k) (hub s h).waiters))) in
        omega (arith, x.tasks, in_use s j 1 (listed-waits s x.listed h j here).0)

-- the same of a table of these words, where record i starts at word a
pub own-word : (ts : ℕ) (t : List ℕ) (i a : ℕ) → a ≡ 8 + i * ts → Every ts t (λ s. i < 16 → get_or t (a + 2) 0 ≡ (task s i).priority)
own-word ts t i a at L s y x w l = rw (w, at) (priority-word L s y x i l)

-- a hub number that the contents count is in use, and all that are in use are counted
module _ (t : List ℕ) (m : ℕ) (is : m ≡ min (get_or t 2 0) 16) (L : Layout) (s : State) (w : t ≡ words L s) where
  pub used : (h : ℕ) → h < m → h < length s.hubs
  used h l = omega (arith, ap (λ (r : List ℕ). get_or r 2 0) w, hubs-word L s)

  pub all-used : Sound s → (h : ℕ) → m ≤ h → length s.hubs ≤ h
  all-used x h l = omega (arith, x.hubs, ap (λ (r : List ℕ). get_or r 2 0) w, hubs-word L s)

  pub many-used : Sound s → m ≡ length s.hubs
  many-used x = omega (arith, x.hubs, ap (λ (r : List ℕ). get_or r 2 0) w, hubs-word L s)

-- ---- the allowance

pub allowance_none : (d : ℕ) (s : State) (i p : ℕ) → d ≡ 0 → p ≡ over_task d s i p
unfolding over_task
allowance_none zero s i p e = refl
allowance_none (suc d) s i p e = absurd (omega (arith, e))

allowance_some : (d : ℕ) (s : State) (i p : ℕ) → (d ≡ 0 → ⊥) → over_task d s i p ≡ over_owned (over_task (d - 1) s) i s.hubs (min (task s i).priority p)
unfolding over_task
allowance_some zero s i p n = absurd (n refl)
allowance_some (suc d) s i p n = let e : suc d - 1 ≡ d = omega arith in rw e

-- ---- over a task: the hubs that it is asked at, from hub h on, where h is one or past all

pub record Owning (ts : ℕ) (t : List ℕ) (depth p i best h : ℕ) : Type 0 where
  pub asked : Every ts t (λ s. i < 16 → h < 16 → AskedAt i s.hubs h)
  pub rest : Every ts t (λ s. i < 16 → over_task depth s i p ≡ over_owned (over_task (depth - 1) s) i (drop h s.hubs) best)

module _ (ts : ℕ) (t ks : List ℕ) (k : Linked ts t ks) (depth p i : ℕ) where
  pub owning_begin : (depth ≡ 0 → ⊥) → (a best : ℕ) → a ≡ 8 + i * ts → best ≡ min (get_or t (a + 2) 0) p → Owning ts t depth p i best (get_or ks i 0)
  owning_begin n a best at e = record {
    asked = λ L s y x w u. rw ((k.each L s y x w).first i u) (first-asked i s.hubs s.hubs 0 refl);
    rest = λ L s y x w u.
        let all : over_task depth s i p ≡ over_owned (over_task (depth - 1) s) i s.hubs best = allowance_some depth s i p n ∙ rw (e, own-word ts t i a at L s y x w u) in
        rw ((k.each L s y x w).first i u) (all ∙ passed i s.hubs x.hubs (over_task (depth - 1) s) best s.hubs 0 refl);
  }

  module _ (best h : ℕ) (o : Owning ts t depth p i best h) where
    pub owning_end : 16 ≤ h → Every ts t (λ s. i < 16 → best ≡ over_task depth s i p)
    owning_end l L s y x w u = sym (o.rest L s y x w u ∙ past_all i s.hubs x.hubs (over_task (depth - 1) s) best h l)

    pub owning_step : h < 16 → (b : ℕ) → Every ts t (λ s. h < length s.hubs → b ≡ over_waiters (over_task (depth - 1) s) (hub s h).waiters best)
        → Owning ts t depth p i b (get_or ks (16 + h) 0)
    owning_step l b found = record {
      asked = λ L s y x w u.
          let a = o.asked L s y x w u l in
          rw ((k.each L s y x w).next h i a.inside u a.asked) (first-asked i s.hubs (drop (suc h) s.hubs) (suc h) refl);
      rest = λ L s y x w u.
          let a = o.asked L s y x w u l in
          let ask = over_task (depth - 1) s in
          let behind = drop (suc h) s.hubs in
          let mine : over_owned ask i (drop h s.hubs) best ≡ over_owned ask i behind b =
          rw (drop-cons s.hubs h no_hub a.inside, found L s y x w a.inside) (owned_mine ask i best (hub s h) behind a.asked) in
          rw ((k.each L s y x w).next h i a.inside u a.asked)
          (o.rest L s y x w u ∙ (mine ∙ passed i s.hubs x.hubs ask b behind (suc h) refl));
    }

-- ---- over the waiting list of hub h, which starts at word `at`, from place k on; the loop goes over its words, lent

pub lent_long : (t : List ℕ) (at : ℕ) → at + 16 ≤ length t → length (take (at + 16 - at) (drop at t)) ≡ 16
lent_long t at l = omega (arith, length-take (at + 16 - at) (drop at t), length-drop at t)

pub lent_word : (t : List ℕ) (at k : ℕ) → k < 16 → get_or (take (at + 16 - at) (drop at t)) k 0 ≡ get_or t (at + k) 0
lent_word t at k l = get_or-take (at + 16 - at) (drop at t) k 0 (omega arith) ∙ get_or-drop at t k 0

pub record Asking (ts : ℕ) (t : List ℕ) (depth p at best k : ℕ) : Type 0 where
  pub inside : k ≤ 16
  pub rest : (h : ℕ) → at ≡ waits_at ts + h * 16 → Every ts t (λ s. h < length s.hubs
      → over_waiters (over_task depth s) (hub s h).waiters p ≡ over_waiters (over_task depth s) (drop k (hub s h).waiters) best)

module _ (ts : ℕ) (t : List ℕ) (depth p at : ℕ) where
  pub asking_begin : Asking ts t depth p at p 0
  asking_begin = record { inside = zero-le; rest = λ h e L s y x w u. refl }

  module _ (best k : ℕ) (a : Asking ts t depth p at best k) (h : ℕ) (e : at ≡ waits_at ts + h * 16) where
    abbrev Answer : Type 0
    Answer = Every ts t (λ s. h < length s.hubs → best ≡ over_waiters (over_task depth s) (hub s h).waiters p)

    ended : Every ts t (λ s. h < length s.hubs → drop k (hub s h).waiters ≡ []) → Answer
    unfolding over_waiters
    ended none L s y x w u = sym (a.rest h e L s y x w u ∙ rw (none L s y x w u))

    pub asking_full : 16 ≤ k → Answer
    asking_full l =
        ended (λ L s y x w u. drop_of_length-le (hub s h).waiters {i = k} (omega (arith, x.tasks, waiters-room s x.listed h)))

    pub asking_end : k < 16 → get_or t (at + k) 0 ≡ 0 → Answer
    asking_end l z = ended (λ L s y x w u. entries_none 16 (hub s h).waiters k l (sym (entry_word L s y x h u k l) ∙ (rw (e, w) at z)))

  module _ (best k : ℕ) (a : Asking ts t depth p at best k) (l : k < 16) (n : ℕ) (is : n ≡ get_or t (at + k) 0) where
    pub asking_step : (n ≡ 0 → ⊥) → (b : ℕ) → Every ts t (λ s. n - 1 < 16 → b ≡ over_task depth s (n - 1) best) → Asking ts t depth p at b (k + 1)
    unfolding over_waiters
    asking_step some b asked = record {
      inside = omega arith;
      rest = λ h e L s y x w u.
          let j : ℕ = n - 1 in
          let here : n ≡ suc j = omega arith in
          let there : get_or (entries 16 (hub s h).waiters) k 0 ≡ get_or t (at + k) 0 = rw (w, e) (sym (entry_word L s y x h u k l)) in
          let word : get_or (entries 16 (hub s h).waiters) k 0 ≡ n = there ∙ sym is in
          let more : drop k (hub s h).waiters ≡ j ∷ drop (suc k) (hub s h).waiters = entries-some 16 (hub s h).waiters k j l (word ∙ here) in
          rw (add-one, asked L s y x w (waiter-low L s y x h u k j more)) (a.rest h e L s y x w u ∙ rw more);
    }
