-- What the moves do to the words of a state. In order: a list of the table takes another value; a task record is read and
-- written; leaving every list is leaving the one list in which the task stands; a hub's record and its first waiter, read.
-- Not here: where a state's parts stand (rules, Places), joining and leaving a list as such (lists, Laws). Assumes nothing.
use Prim.Native.Nat.{◌*◌, ◌+◌, ◌-◌, ◌<◌, ◌≤◌, suc, zero, ℕ}
use Rattle.lists.proofs.Counting.{occ_here}
use Rattle.lists.proofs.Laws.{bool_case, join_entries, leave-entries, length-entries, place-entries, without-none}
use Rattle.lists.specs.Lists.{entries, index_of, insert_at, occ, place_in, place_of, remove_at, without}
use Rattle.messages.specs.Messages.{message_at, messages}
use Rattle.moves.specs.Moves.{ListedBy, key_of, list_at, task_of}
use Rattle.moves.specs.declared.TaskList.TheVariants.{Ready, Waiting}
use Rattle.moves.specs.declared.TaskList.{TaskList}
use Rattle.records.specs.Records.{first, hubs_at as hubs_from, task_at, task_words as record_words, waits_at as waits_from, width}
use Rattle.records.specs.declared.TaskRecord.{TaskRecord}
use Rattle.rules.proofs.Changes.{in_use}
use Rattle.rules.proofs.Cut.{Cut, cut_part, cut_paste, cut_sets}
use Rattle.rules.proofs.Layouts.{Laid, answer_at, message-word, message-written, sized, wide}
use Rattle.rules.proofs.Places.{cut_ready, cut_task, cut_waiters, hub-word, same_hub, same_task, task-word, wait-word}
use Rattle.rules.proofs.Room.{stands-ready-once, stands-waits-once}
use Rattle.rules.proofs.Standing.{listed-waits}
use Rattle.rules.proofs.Valid.{Listed, Sound, Stands, Valid}
use Rattle.rules.specs.Lists.{first_waiting, join_hub, join_ready, leave, queued, unqueue}
use Rattle.rules.specs.Table.{Hub, Layout, State, Task, hub, hub_words, no_hub, ready_at, set_hub, set_ready, set_task, task, task_size, task_words, waits_at, words}
use Rattle.std.proofs.Common.{None, Some, inl, inr}
use borrow.Author.Tests.{eq-eqb, eqb-false, eqb-true, ltb-false, ltb-true, ne_eqb}
use borrow.Rule.Slice.PartMut.{mid_of, put_mid}
use lib.Dec.{eqb, ltb}
use lib.ListN.{get_or-eq_default, get_or, length, set}
use lib.Seq.{sets}
use mathlib.Core.Bool.{and-false}
use mathlib.Core.List.{List, [], ◌∷◌, map}
use mathlib.Core.Logic.{◌≢◌, ◌⊎◌}
use mathlib.Core.Option.{none}
use mathlib.Core.Path.{◌∙◌, ◌≡◌, ap, refl, sym}
use native.Mathlib.Nat.{add-zero}
use native.Mathlib.Omega.{arith}

-- ---- a list of the table takes another value

-- f is what a leaf does to the lent part: it takes the entries of xs to those of xs'
list_put : {whole : List ℕ → List ℕ} {at : ℕ} → Cut whole (entries 16) at → (f : List ℕ → List ℕ) (xs xs' t ys : List ℕ) (a n : ℕ) → a ≡ at → n ≡ 16 → t ≡ whole xs → ys ≡ f (mid_of a n t) → f (entries 16 xs) ≡ entries 16 xs' → put_mid a n t ys ≡ whole xs'
list_put {whole = whole} {at = at} c f xs xs' t ys a n ea en et ey ef =
    let part : mid_of at 16 (whole xs) ≡ entries 16 xs = cut_part c xs 16 (length-entries 16 xs) in
    let new : ys ≡ entries 16 xs' = ey ∙ rw (ea, en, et, part) ef in
    rw (ea, en, et, new) (cut_paste c xs xs' 16 (length-entries 16 xs))

-- the place that a lent list gives is the place among the numbers that it holds
list-place : {whole : List ℕ → List ℕ} {at : ℕ} → Cut whole (entries 16) at → (ks xs t : List ℕ) (p a n : ℕ) → a ≡ at → n ≡ 16 → length xs ≤ 16 → t ≡ whole xs → place_in ks p (mid_of a n t) ≡ place_of (key_of ks) p xs
list-place {whole = whole} {at = at} c ks xs t p a n ea en fits et =
    let part : mid_of at 16 (whole xs) ≡ entries 16 xs = cut_part c xs 16 (length-entries 16 xs) in
    rw (ea, en, et, part) (place-entries ks p 16 xs fits)

module _ {ts : ℕ} (L : Layout) (s : State) (y : Laid ts L) (t ys : List ℕ) (a n : ℕ) (many : n ≡ 16) (w : t ≡ words L s) where
  module _ (at : a ≡ ready_at L) where
    pub join_ready_lem : (ks : List ℕ) (i : ℕ) → ys ≡ insert_at (place_in ks (get_or ks i 0) (mid_of a n t)) (suc i) (mid_of a n t)
        → put_mid a n t ys ≡ words L (join_ready (key_of ks) i s)
    unfolding join_ready set_ready
    join_ready_lem ks i e =
        list_put (cut_ready L (sized y) s) (λ l. insert_at (place_in ks (get_or ks i 0) l) (suc i) l) s.ready _ t ys a n at many w e
        (join_entries ks i 16 s.ready)

    pub place-ready : (ks : List ℕ) (p : ℕ) → length s.ready ≤ 16 → place_in ks p (mid_of a n t) ≡ place_of (key_of ks) p s.ready
    unfolding set_ready
    place-ready ks p fits = list-place (cut_ready L (sized y) s) ks s.ready t p a n at many fits w

    pub leave-ready : (i : ℕ) → length s.ready ≤ 16 → occ i s.ready ≤ 1
        → ys ≡ remove_at (index_of (suc i) (mid_of a n t)) (mid_of a n t) → put_mid a n t ys ≡ words L (set_ready (without i s.ready) s)
    unfolding set_ready
    leave-ready i room once e =
        list_put (cut_ready L (sized y) s) (λ l. remove_at (index_of (suc i) l) l) s.ready _ t ys a n at many w e
        (leave-entries i 16 s.ready room once)

  module _ (h : ℕ) (low : h < 16) (used : h < length s.hubs) (at : a ≡ waits_at L + h * 16) where
    same : t ≡ words L (set_hub h (queued (hub s h).waiters (hub s h)) s)
    unfolding queued
    same = w ∙ ap (words L) (sym (same_hub s h))

    pub join_hub_lem : (ks : List ℕ) (i : ℕ) → ys ≡ insert_at (place_in ks (get_or ks i 0) (mid_of a n t)) (suc i) (mid_of a n t)
        → put_mid a n t ys ≡ words L (join_hub (key_of ks) h i s)
    unfolding join_hub
    join_hub_lem ks i e =
        list_put (cut_waiters L (sized y) s h low used (hub s h)) (λ l. insert_at (place_in ks (get_or ks i 0) l) (suc i) l) (hub s h).waiters _ t ys a n at many same e
        (join_entries ks i 16 (hub s h).waiters)

    pub place-hub : (ks : List ℕ) (p : ℕ) → length (hub s h).waiters ≤ 16 → place_in ks p (mid_of a n t) ≡ place_of (key_of ks) p (hub s h).waiters
    place-hub ks p fits = list-place (cut_waiters L (sized y) s h low used (hub s h)) ks (hub s h).waiters t p a n at many fits same

    pub leave-hub : (i : ℕ) → length (hub s h).waiters ≤ 16 → occ i (hub s h).waiters ≤ 1
        → ys ≡ remove_at (index_of (suc i) (mid_of a n t)) (mid_of a n t)
        → put_mid a n t ys ≡ words L (set_hub h (queued (without i (hub s h).waiters) (hub s h)) s)
    leave-hub i room once e =
        list_put (cut_waiters L (sized y) s h low used (hub s h)) (λ l. remove_at (index_of (suc i) l) l) (hub s h).waiters _ t ys a n at many same e
        (leave-entries i 16 (hub s h).waiters room once)

-- ---- a task record is read and written

module _ {ts : ℕ} (L : Layout) (s : State) (y : Laid ts L) (fits : length s.tasks ≤ 16) (i : ℕ) (used : i < length s.tasks) where
  word : (k : ℕ) → k < ts → get_or (words L s) (8 + i * ts + k) 0 ≡ get_or (task_words L (task s i)) k 0
  word k h = rw y.size (task-word L (sized y) s i k (omega arith) used (rw y.size at h))

  module _ (few : ts ≤ 9) (some : 8 ≤ ts) where
    message-read : message_at (width ts) (words L s) (8 + i * ts + 6) ≡ (task s i).word
    message-read =
        let at : (k : ℕ) → k < L.width → get_or (words L s) (8 + i * ts + 6 + k) 0 ≡ get_or (L.message (task s i).word) k 0 =
        λ k h. let e : 8 + i * ts + 6 + k ≡ 8 + i * ts + (6 + k) = omega arith in
        ap (λ (p : ℕ). get_or (words L s) p 0) e ∙ word (6 + k) (omega (arith, y.size)) ∙ message-word L y.long (task s i) k h in
        rw (wide y) (sym (y.reads (words L s) (8 + i * ts + 6)) ∙ y.back (task s i).word (λ k. get_or (words L s) (8 + i * ts + 6 + k) 0) at)

    answer-read : get_or (words L s) (8 + i * ts + 6 + width ts) 0 ≡ (task s i).answer
    answer-read =
        let e : 8 + i * ts + 6 + width ts ≡ 8 + i * ts + (6 + L.width) = omega (arith, y.size) in
        ap (λ (p : ℕ). get_or (words L s) p 0) e ∙ word (6 + L.width) (omega (arith, y.size)) ∙ answer_at L y.long (task s i)

    pub record_read : task_of (task_at ts (words L s) i) ≡ task s i
    unfolding task_at
    record_read =
        let first : get_or (words L s) (8 + i * ts) 0 ≡ (task s i).state = rw add-zero at (word 0 (omega arith)) in
        λ j. record {
          state = first j;
          suspended = word 1 (omega arith) j;
          priority = word 2 (omega arith) j;
          hub = word 3 (omega arith) j;
          ticks = word 4 (omega arith) j;
          side = word 5 (omega arith) j;
          word = message-read j;
          answer = answer-read j;
        }

    pub record_written : (x : TaskRecord) → x.word < messages (width ts) → sets (words L s) (8 + i * ts) (record_words ts x) ≡ words L (set_task i (task_of x) s)
    unfolding record_words
    record_written x low =
        let alike : record_words ts x ≡ task_words L (task_of x) = rw (message-written y some few x.word low) in
        rw (alike, y.size)
        (ap (λ (r : State). sets (words L r) (8 + i * task_size L) (task_words L (task_of x))) (sym (same_task s i))
        ∙ cut_sets (cut_task L (sized y) s i (omega arith) used) (task s i) (task_of x) ((sized y).task (task s i) ∙ sym ((sized y).task (task_of x))))

-- ---- leaving every list is leaving the one list in which the task stands

module _ (i : ℕ) where
  stays : (x : Hub) → occ i x.waiters ≡ 0 → unqueue i x ≡ x
  unfolding queued unqueue
  stays x e = ap (λ (l : List ℕ). queued l x) (without-none i x.waiters e)

  all_stay : (xs : List Hub) → ((h : ℕ) → occ i (get_or xs h no_hub).waiters ≡ 0) → map (unqueue i) xs ≡ xs
  all_stay [] e = refl
  all_stay (x ∷ xs) e = rw (stays x (e 0), all_stay xs (λ h. e (suc h)))

  one_leaves : (xs : List Hub) (k : ℕ) → k < length xs → ((h : ℕ) → h ≢ k → occ i (get_or xs h no_hub).waiters ≡ 0) → map (unqueue i) xs ≡ set xs k (unqueue i (get_or xs k no_hub))
  one_leaves [] k h e = absurd (omega arith)
  one_leaves (x ∷ xs) zero h e = rw (all_stay xs (λ h. e (suc h) (λ q. omega (arith, q))))
  one_leaves (x ∷ xs) (suc k) h e = rw (stays x (e 0 (λ q. omega (arith, q))), one_leaves xs k (omega arith) (λ h n. e (suc h) (λ q. n (omega (arith, q)))))

module _ (i : ℕ) (s : State) (g : Stands i s) where
  not_listed : ((task s i).state ≡ 2 → ⊥) → occ i s.ready ≡ 0
  not_listed n = rw (g.in_ready, ne_eqb (task s i).state 2 n) refl

  not-queued : ((task s i).state ≡ 3 → ⊥) → (h : ℕ) → occ i (hub s h).waiters ≡ 0
  not-queued n h = rw (g.at_hub h, ne_eqb (task s i).state 3 n) refl

  not_there : (h : ℕ) → ((task s i).hub ≡ suc h → ⊥) → occ i (hub s h).waiters ≡ 0
  not_there h n = rw (g.at_hub h, ne_eqb (task s i).hub (suc h) n, and-false) refl

  pub leave_none : ((task s i).state ≡ 2 → ⊥) → ((h : ℕ) → occ i (hub s h).waiters ≡ 0) → leave i s ≡ s
  unfolding leave
  leave_none n e =
      rw (without-none i s.ready (not_listed n), all_stay i s.hubs e) refl

  pub leave-listed : (task s i).state ≡ 2 → leave i s ≡ set_ready (without i s.ready) s
  unfolding leave set_ready
  leave-listed e = rw (all_stay i s.hubs (not-queued (λ f. omega (arith, e, f)))) refl

  pub leave-queued : (h : ℕ) → h < length s.hubs → (task s i).state ≡ 3 → (task s i).hub ≡ suc h → leave i s ≡ set_hub h (unqueue i (hub s h)) s
  unfolding leave set_hub
  leave-queued h used e f =
      rw (without-none i s.ready (not_listed (λ q. omega (arith, e, q))), one_leaves i s.hubs h used (λ k n. not_there k (λ q. n (omega (arith, f, q))))) refl

-- the list that `leave_list` picks by the task's record, and what it may rest on
module _ (L : Layout) (i : ℕ) (s : State) (g : Stands i s) (x : TaskRecord) (e : task_of x ≡ task s i) where
  state_is : x.state ≡ (task s i).state
  state_is = ap (λ (r : Task). r.state) e

  hub_is_lem : x.hub ≡ (task s i).hub
  hub_is_lem = ap (λ (r : Task). r.hub) e

  pub by_ready : x.state ≡ 2 → words L (set_ready (without i s.ready) s) ≡ words L (leave i s)
  by_ready q = ap (words L) (sym (leave-listed i s g (sym state_is ∙ q)))

  pub by_none : (x.state ≡ 2 → ⊥) → (x.state ≡ 3 → ⊥) → words L s ≡ words L (leave i s)
  by_none n m = ap (words L) (sym (leave_none i s g (λ q. n (state_is ∙ q)) (not-queued i s g (λ q. m (state_is ∙ q)))))

  -- a waiting task's hub is in use, since it stands in its list
  module _ (q : x.state ≡ 3) (k : ℕ) (at : x.hub ≡ suc k) where
    pub hub-used : k < length s.hubs
    unfolding no_hub occ
    hub-used =
        bool_case (ltb k (length s.hubs)) (ltb-true _ _)
        (λ b. absurd (let none : occ i (hub s k).waiters ≡ 0 = ap (λ (y : Hub). occ i y.waiters) (get_or-eq_default s.hubs no_hub (ltb-false k (length s.hubs) b)) in
        let here : occ i (hub s k).waiters ≡ 1 = rw (g.at_hub k, eq-eqb (task s i).state 3 (sym state_is ∙ q), eq-eqb (task s i).hub (suc k) (sym hub_is_lem ∙ at)) refl in
        omega arith))

    pub by_hub : words L (set_hub k (queued (without i (hub s k).waiters) (hub s k)) s) ≡ words L (leave i s)
    unfolding unqueue
    by_hub = ap (words L) (sym (leave-queued i s g k hub-used (sym state_is ∙ q) (sym hub_is_lem ∙ at)))

  pub by_nowhere : x.hub ≡ 0 → (x.state ≡ 2 → ⊥) → words L s ≡ words L (leave i s)
  by_nowhere z n = ap (words L) (sym (leave_none i s g (λ q. n (state_is ∙ q)) (λ h. not_there i s g h (λ q. omega (arith, z, hub_is_lem, q)))))

  -- the one list in which the task stands
  pub by_listed : {ts : ℕ} → Laid ts L → (t ys : List ℕ) (a n : ℕ) → n ≡ 16 → t ≡ words L s → (list : TaskList) → ListedBy x (Some list)
      → a ≡ list_at ts list → ys ≡ remove_at (index_of (suc i) (mid_of a n t)) (mid_of a n t) → put_mid a n t ys ≡ words L (leave i s)
  by_listed y t ys a n many w Ready there at z =
      leave-ready L s y t ys a n many w (omega (arith, at, y.size)) i g.ready (stands-ready-once i s g) z ∙ by_ready there
  by_listed y t ys a n many w (Waiting h) there at z =
      let k = h.0 in
      leave-hub L s y t ys a n many w k there.2 (hub-used there.0 k there.1) (omega (arith, at, y.size)) i (g.waiters k) (stands-waits-once i s g k) z
      ∙ by_hub there.0 k there.1

  -- no list: neither ready, nor waiting at a hub that there may be
  pub by_unlisted : ListedBy x None → length s.hubs ≤ 16 → words L s ≡ words L (leave i s)
  by_unlisted h few =
      bool_case (eqb x.state 3)
      (λ b. at (h.1 (eqb-true x.state 3 b)) (eqb-true x.state 3 b))
      (λ b. by_none h.0 (eqb-false x.state 3 b))
    where
      at : ((x.hub ≡ 0) ⊎ (16 < x.hub)) → x.state ≡ 3 → words L s ≡ words L (leave i s)
      at (inl z) q = by_nowhere z h.0
      at (inr z) q = absurd (omega (arith, few, z, hub-used q (x.hub - 1) (omega arith)))

-- ---- a hub's record and the first entry of its list, read

pub hub-number : {ts : ℕ} (L : Layout) (s : State) → Laid ts L → length s.hubs ≤ 16 → (h : ℕ) → h < length s.hubs → (k : ℕ) → k < 4
    → get_or (words L s) (hubs_from ts + h * 4 + k) 0 ≡ get_or (hub_words (hub s h)) k 0
hub-number L s y fits h used k l = rw y.size (hub-word L (sized y) s h (omega arith) used k l)

pub entry_read : {ts : ℕ} (L : Layout) (s : State) → Laid ts L → length s.hubs ≤ 16 → (h : ℕ) → h < length s.hubs
    → get_or (words L s) (waits_from ts + h * 16) 0 ≡ get_or (entries 16 (hub s h).waiters) 0 0
entry_read L s y fits h used = rw y.size (rw add-zero at (wait-word L (sized y) s h (omega arith) used 0 (omega arith)))

-- ---- the first waiter of a side, by the first entry e of the list

module _ (s : State) (d : ℕ) where
  pub no_entry : (l : List ℕ) → get_or (entries 16 l) 0 0 ≡ 0 → first_waiting s d l ≡ none
  unfolding entries first_waiting
  no_entry [] z = refl
  no_entry (x ∷ xs) z = absurd (omega (arith, z))

  pub nobody : (l : List ℕ) → ((i : ℕ) → 1 ≤ occ i l → (task s i).side ≡ d → ⊥) → first_waiting s d l ≡ none
  unfolding first_waiting occ
  nobody [] n = refl
  nobody (x ∷ xs) n =
      rw (ne_eqb (task s x).side d (n x (occ_here x xs))) (nobody xs (λ i o. n i (omega (arith, o))))

  module _ (l : List ℕ) (e : ℕ) (q : e ≡ get_or (entries 16 l) 0 0) (some-e : e ≡ 0 → ⊥) where
    pub entry_stands : 1 ≤ occ (e - 1) l
    unfolding entries
    entry_stands = go l q
      where
        go : (l : List ℕ) → e ≡ get_or (entries 16 l) 0 0 → 1 ≤ occ (e - 1) l
        go [] z = absurd (some-e z)
        go (x ∷ xs) z = let m : e - 1 ≡ x = omega (arith, z) in rw m (occ_here x xs)

    pub entry_first : (task s (e - 1)).side ≡ d → first_waiting s d l ≡ first e
    unfolding entries first first_waiting
    entry_first w = go l q
      where
        go : (l : List ℕ) → e ≡ get_or (entries 16 l) 0 0 → first_waiting s d l ≡ first e
        go [] z = absurd (some-e z)
        go (x ∷ xs) z = let m : e - 1 ≡ x = omega (arith, z) in rw (z, eq-eqb (task s x).side d (rw m at w)) refl

-- whoever stands in a hub's list is in use
pub waiter_in : (s : State) → Listed s → (h i : ℕ) → 1 ≤ occ i (hub s h).waiters → i < length s.tasks
waiter_in s l h i o = in_use s i 1 (listed-waits s l h i o).0

-- ---- what of a valid state a move rests on

pub valid_sound : (s : State) → Valid s → Sound s
valid_sound s g = record { tasks = g.tasks; hubs = g.hubs; listed = g.listed }
