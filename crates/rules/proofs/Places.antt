-- Where the parts of a state stand in the words of a table, for any layout of the sizes that it says. In order: the
-- table's length and contents; the place of each part, as a cut, and its words; one more record, behind those in use.
-- Not here: rows of words as such (Rows.antt), a table that is read (Reading.antt). Assumes nothing.
use Prim.Native.Nat.{◌*◌, ◌+◌, ◌-◌, ◌<◌, ◌≤◌, suc, ℕ}
use Rattle.lists.proofs.Laws.{length-entries}
use Rattle.lists.proofs.Padding.{zero-at}
use Rattle.lists.specs.Lists.{entries}
use Rattle.rules.proofs.Cut.{Cut, cut_along, cut_get, cut_here, cut_part, cut_set, cut_sets, cut_within}
use Rattle.rules.proofs.Layouts.{Sized}
use Rattle.rules.proofs.Rows.{cut_next, cut_row, length-rows, more, rest_zero, row_of, rows_empty, rows_same}
use Rattle.rules.specs.Calls.{add_hub, add_task}
use Rattle.rules.specs.Lists.{holding, queued}
use Rattle.rules.specs.Table.{Hub, Layout, State, Task, contents, hub, hub_words, hubs_at, inactive, no_hub, part, ready_at, rows, set_hub, set_ready, set_task, size, store_of, store_part, store_size, store_words, stores_at, task, task_size, task_words, tasks_at, wait_part, wait_words, waits_at, words}
use Rattle.rules.specs.WellFormed.{unused_zero, zero_from}
use lib.ListN.{get_or, length, length-append, length-replicate, length-set, replicate, set}
use lib.Seq.{set-get_or, sets}
use mathlib.Core.Bool.{true}
use mathlib.Core.List.{List, [], ◌++◌, ◌∷◌, append_assoc, append-nil}
use mathlib.Core.Option.{Option, none, some}
use mathlib.Core.Path.{◌∙◌, ◌≡◌, ap, refl, sym}
use native.Mathlib.Nat.{add-mul, add-sub_of_le, mul-le-mul_right, suc-mul}
use native.Mathlib.Numerals.{add-one}
use native.Mathlib.Omega.{arith}

-- ---- sizes, and how many words stand before each body

abbrev to_hubs : Layout → State → List ℕ
to_hubs L s = contents L s ++ rows (task_size L) (task_words L) 16 s.tasks

abbrev to_ready : Layout → State → List ℕ
to_ready L s = to_hubs L s ++ rows 4 hub_words 16 s.hubs

abbrev to_waits : Layout → State → List ℕ
to_waits L s = to_ready L s ++ entries 16 s.ready

abbrev to_stores : Layout → State → List ℕ
to_stores L s = to_waits L s ++ rows 16 wait_words 16 s.hubs

length-wait_words : (h : Hub) → length (wait_words h) ≡ 16
length-wait_words h = length-entries 16 h.waiters

length-contents : (L : Layout) (s : State) → length (contents L s) ≡ tasks_at
unfolding contents
length-contents L s = refl

module _ (L : Layout) (z : Sized L) (s : State) where
  length_to_hubs : length (to_hubs L s) ≡ hubs_at L
  unfolding contents
  length_to_hubs = rw length-append (ap (λ (n : ℕ). 8 + n) (length-rows (task_size L) (task_words L) z.task 16 s.tasks))

  length_to_ready : length (to_ready L s) ≡ ready_at L
  length_to_ready = rw (length-append (to_hubs L s), length_to_hubs, length-rows 4 hub_words (λ h. refl) 16 s.hubs)

  length_to_waits : length (to_waits L s) ≡ waits_at L
  length_to_waits = rw (length-append (to_ready L s), length_to_ready, length-entries 16 s.ready)

  length_to_stores : length (to_stores L s) ≡ stores_at L
  length_to_stores = rw (length-append (to_waits L s), length_to_waits, length-rows 16 wait_words length-wait_words 16 s.hubs)

  pub length-words : length (words L s) ≡ size L
  unfolding words
  length-words =
      let e : words L s ≡ to_stores L s ++ rows (store_size L) (store_of L) 16 s.hubs = simp append_assoc in
      ap length e
      ∙ length-append (to_stores L s) (rows (store_size L) (store_of L) 16 s.hubs)
      ∙ rw (length_to_stores, length-rows (store_size L) (store_of L) (λ h. z.store h.held) 16 s.hubs)

-- ---- the contents: two words that count the records, and no other change

module _ (L : Layout) (s : State) where
  contents-task : (i : ℕ) (y : Task) → contents L (set_task i y s) ≡ contents L s
  unfolding contents set_task
  contents-task i y = rw (length-set s.tasks i y)

  contents-hub : (h : ℕ) (x b : Hub) → contents L (set_hub h x s) ≡ contents L (set_hub h b s)
  unfolding contents set_hub
  contents-hub h x b = rw (length-set s.hubs h x, length-set s.hubs h b)

  pub tasks-word : get_or (words L s) 1 0 ≡ length s.tasks
  unfolding contents words
  tasks-word = refl

  pub hubs-word : get_or (words L s) 2 0 ≡ length s.hubs
  unfolding contents words
  hubs-word = refl

-- ---- the same record anew

pub same_task : (s : State) (i : ℕ) → set_task i (task s i) s ≡ s
unfolding set_task
same_task s i =
    ap (λ (ts : List Task). record { tasks = ts; hubs = s.hubs; ready = s.ready }) (set-get_or s.tasks i (inactive 0))

pub same_hub : (s : State) (h : ℕ) → set_hub h (hub s h) s ≡ s
unfolding set_hub
same_hub s h = ap (λ (hs : List Hub). record { tasks = s.tasks; hubs = hs; ready = s.ready }) (set-get_or s.hubs h no_hub)

-- ---- a task record, and the ready list

module _ (L : Layout) (z : Sized L) (s : State) where
  pub cut_task : (i : ℕ) → i < 16 → i < length s.tasks → Cut (λ (y : Task). words L (set_task i y s)) (task_words L) (tasks_at + i * task_size L)
  unfolding set_task words
  cut_task i h hi =
      cut_within
      (contents L s)
      (rows 4 hub_words 16 s.hubs ++ (entries 16 s.ready ++ (rows 16 wait_words 16 s.hubs ++ rows (store_size L) (store_of L) 16 s.hubs)))
      tasks_at
      (i * task_size L)
      (length-contents L s)
      (λ y. rw (contents-task L s i y))
      (cut_row (task_size L) (task_words L) z.task 16 s.tasks i h hi)

  pub cut_ready : Cut (λ (l : List ℕ). words L (set_ready l s)) (entries 16) (ready_at L)
  unfolding contents set_ready words
  cut_ready =
      cut_here
      (to_ready L s)
      (rows 16 wait_words 16 s.hubs ++ rows (store_size L) (store_of L) 16 s.hubs)
      (ready_at L)
      (length_to_ready L z s)
      (λ l. simp append_assoc)

  pub task-word : (i k : ℕ) → i < 16 → i < length s.tasks → k < task_size L → get_or (words L s) (tasks_at + i * task_size L + k) 0 ≡ get_or (task_words L (task s i)) k 0
  task-word i k h hi hk =
      ap (λ (x : State). get_or (words L x) (tasks_at + i * task_size L + k) 0) (sym (same_task s i))
      ∙ cut_get (cut_task i h hi) (task s i) k (rw (z.task (task s i)) hk)

  pub ready-word : (k : ℕ) → k < 16 → get_or (words L s) (ready_at L + k) 0 ≡ get_or (entries 16 s.ready) k 0
  unfolding set_ready
  ready-word k h = cut_get cut_ready s.ready k (rw (length-entries 16 s.ready) h)

  pub ready-part : part (ready_at L) 16 (words L s) ≡ entries 16 s.ready
  unfolding set_ready
  ready-part = cut_part cut_ready s.ready 16 (length-entries 16 s.ready)

-- ---- a hub's record, list and store, the other two kept: b's

-- the four words of y's record, the list and the store of b
abbrev pub recorded : Hub → Hub → Hub
recorded y b = record {
  kind = y.kind;
  count = y.count;
  limit = y.limit;
  start = y.start;
  waiters = b.waiters;
  held = b.held;
}

module _ (L : Layout) (z : Sized L) (s : State) (h : ℕ) (lt : h < 16) (used : h < length s.hubs) where
  pub cut_hub_record : (b : Hub) → Cut (λ (y : Hub). words L (set_hub h (recorded y b) s)) hub_words (hubs_at L + h * 4)
  unfolding set_hub words
  cut_hub_record b =
      cut_within
      (to_hubs L (set_hub h b s))
      (entries 16 s.ready ++ (rows 16 wait_words 16 (set s.hubs h b) ++ rows (store_size L) (store_of L) 16 (set s.hubs h b)))
      (hubs_at L)
      (h * 4)
      (length_to_hubs L z (set_hub h b s))
      (λ y. rw (
        contents-hub L s h (recorded y b) b,
        rows_same 16 wait_words 16 s.hubs h (recorded y b) b refl,
        rows_same (store_size L) (store_of L) 16 s.hubs h (recorded y b) b refl,
      )
      (simp append_assoc))
      (cut_along (λ (y : Hub). recorded y b) (cut_row 4 hub_words (λ x. refl) 16 s.hubs h lt used))

  pub cut_waiters : (b : Hub) → Cut (λ (l : List ℕ). words L (set_hub h (queued l b) s)) (entries 16) (waits_at L + h * 16)
  unfolding queued set_hub words
  cut_waiters b =
      cut_within
      (to_waits L (set_hub h b s))
      (rows (store_size L) (store_of L) 16 (set s.hubs h b))
      (waits_at L)
      (h * 16)
      (length_to_waits L z (set_hub h b s))
      (λ l. rw (
        contents-hub L s h (queued l b) b,
        rows_same 4 hub_words 16 s.hubs h (queued l b) b refl,
        rows_same (store_size L) (store_of L) 16 s.hubs h (queued l b) b refl,
      )
      (simp append_assoc))
      (cut_along (λ (l : List ℕ). queued l b) (cut_row 16 wait_words length-wait_words 16 s.hubs h lt used))

  pub cut_store : (n : ℕ) (b : Hub) → Cut (λ (ws : List ℕ). words L (set_hub h (holding n ws b) s)) (store_words L) (stores_at L + h * store_size L)
  unfolding holding set_hub words
  cut_store n b =
      cut_within
      (to_stores L (set_hub h (holding n [] b) s))
      []
      (stores_at L)
      (h * store_size L)
      (length_to_stores L z (set_hub h (holding n [] b) s))
      (λ ws. rw (
        contents-hub L s h (holding n ws b) (holding n [] b),
        rows_same 4 hub_words 16 s.hubs h (holding n ws b) (holding n [] b) refl,
        rows_same 16 wait_words 16 s.hubs h (holding n ws b) (holding n [] b) refl,
      )
      (simp (append_assoc, append-nil)))
      (cut_along (λ (ws : List ℕ). holding n ws b) (cut_row (store_size L) (store_of L) (λ x. z.store x.held) 16 s.hubs h lt used))

  -- the count alone is written
  pub set-count : (m n : ℕ) (ws : List ℕ) (b : Hub) → set (words L (set_hub h (holding m ws b) s)) (hubs_at L + h * 4 + 1) n ≡ words L (set_hub h (holding n ws b) s)
  unfolding holding
  set-count m n ws b = cut_set (cut_hub_record (holding m ws b)) (holding m ws b) (holding n ws b) 1 n (omega arith) refl

  pub hub-word : (k : ℕ) → k < 4 → get_or (words L s) (hubs_at L + h * 4 + k) 0 ≡ get_or (hub_words (hub s h)) k 0
  hub-word k hk =
      ap (λ (x : State). get_or (words L x) (hubs_at L + h * 4 + k) 0) (sym (same_hub s h))
      ∙ cut_get (cut_hub_record (hub s h)) (hub s h) k hk

  pub wait-word : (k : ℕ) → k < 16 → get_or (words L s) (waits_at L + h * 16 + k) 0 ≡ get_or (wait_words (hub s h)) k 0
  unfolding queued
  wait-word k hk =
      ap (λ (x : State). get_or (words L x) (waits_at L + h * 16 + k) 0) (sym (same_hub s h))
      ∙ cut_get (cut_waiters (hub s h)) (hub s h).waiters k (rw (length-wait_words (hub s h)) hk)

  pub store_word : (k : ℕ) → k < store_size L → get_or (words L s) (stores_at L + h * store_size L + k) 0 ≡ get_or (store_of L (hub s h)) k 0
  unfolding holding
  store_word k hk =
      ap (λ (x : State). get_or (words L x) (stores_at L + h * store_size L + k) 0) (sym (same_hub s h))
      ∙ cut_get (cut_store (hub s h).count (hub s h)) (hub s h).held k (rw (z.store (hub s h).held) hk)

  pub wait-part : wait_part L (words L s) h ≡ wait_words (hub s h)
  unfolding queued
  wait-part =
      ap (λ (x : State). wait_part L (words L x) h) (sym (same_hub s h))
      ∙ cut_part (cut_waiters (hub s h)) (hub s h).waiters 16 (length-wait_words (hub s h))

  pub store_part_lem : store_part L (words L s) h ≡ store_of L (hub s h)
  unfolding holding
  store_part_lem =
      ap (λ (x : State). store_part L (words L x) h) (sym (same_hub s h))
      ∙ cut_part (cut_store (hub s h).count (hub s h)) (hub s h).held (store_size L) (z.store (hub s h).held)

-- ---- behind the records in use

module _ (L : Layout) (z : Sized L) (s : State) (tasks : length s.tasks ≤ 16) (hubs : length s.hubs ≤ 16) where
  pub unused_zero_lem : unused_zero L (words L s) ≡ true
  unfolding unused_zero words
  unused_zero_lem =
      let stores = rows (store_size L) (store_of L) 16 s.hubs in
      let lists = rows 16 wait_words 16 s.hubs ++ stores in
      let after_tasks = rows 4 hub_words 16 s.hubs ++ (entries 16 s.ready ++ lists) in
      let at_hubs : words L s ≡ to_hubs L s ++ (rows 4 hub_words 16 s.hubs ++ (entries 16 s.ready ++ lists)) = simp append_assoc in
      let at_waits : words L s ≡ to_waits L s ++ lists = simp append_assoc in
      let at_stores : words L s ≡ to_stores L s ++ (stores ++ []) = simp (append_assoc, append-nil) in
      rw (
        tasks-word L s,
        hubs-word L s,
        rest_zero (task_size L) (task_words L) z.task 16 s.tasks tasks (contents L s) after_tasks tasks_at (length-contents L s),
        ap (zero_from (hubs_at L + length s.hubs * 4) (ready_at L)) at_hubs
            ∙ rest_zero 4 hub_words (λ h. refl) 16 s.hubs hubs (to_hubs L s) (entries 16 s.ready ++ lists) (hubs_at L) (length_to_hubs L z s),
        ap (zero_from (waits_at L + length s.hubs * 16) (stores_at L)) at_waits
            ∙ rest_zero 16 wait_words length-wait_words 16 s.hubs hubs (to_waits L s) stores (waits_at L) (length_to_waits L z s),
        ap (zero_from (stores_at L + length s.hubs * store_size L) (size L)) at_stores
            ∙ rest_zero (store_size L) (store_of L) (λ h. z.store h.held) 16 s.hubs hubs (to_stores L s) [] (stores_at L) (length_to_stores L z s),
      )

-- a word of a task record that is not in use
module _ (L : Layout) (z : Sized L) (s : State) (few : length s.tasks ≤ 16) where
  pub task-word_unused : (i k : ℕ) → length s.tasks ≤ i → i < 16 → k < task_size L → get_or (words L s) (tasks_at + i * task_size L + k) 0 ≡ 0
  unfolding contents words
  task-word_unused i k unused h hk =
      let w = task_size L in
      let T = length s.tasks in
      let up_to : T * w + (i - T) * w ≡ i * w = sym (add-mul T (i - T) w) ∙ ap (λ (n : ℕ). n * w) (add-sub_of_le unused) in
      let all : T * w + (16 - T) * w ≡ 16 * w = sym (add-mul T (16 - T) w) ∙ ap (λ (n : ℕ). n * w) (add-sub_of_le few) in
      let more : suc (i - T) * w ≤ (16 - T) * w = mul-le-mul_right w (omega arith) in
      let place : tasks_at + i * w + k ≡ tasks_at + T * w + ((i - T) * w + k) = omega arith in
      let inside : (i - T) * w + k < tasks_at + 16 * w - (tasks_at + T * w) = omega (arith, suc-mul (i - T) w) in
      ap (λ (n : ℕ). get_or (words L s) n 0) place
      ∙ zero-at (words L s) (tasks_at + T * w) (tasks_at + 16 * w - (tasks_at + T * w)) ((i - T) * w + k) inside
      (rest_zero w (task_words L) z.task 16 s.tasks few (contents L s)
      (rows 4 hub_words 16 s.hubs ++ (entries 16 s.ready ++ (rows 16 wait_words 16 s.hubs ++ rows (store_size L) (store_of L) 16 s.hubs)))
      tasks_at refl)

-- ---- one more record

module _ (L : Layout) (z : Sized L) (s : State) where
  pub add_task_lem : (p : ℕ) → length s.tasks < 16 → set (sets (words L s) (tasks_at + length s.tasks * task_size L) (task_words L (inactive p))) 1 (suc (length s.tasks)) ≡ words L (add_task p s)
  unfolding add_task contents words
  add_task_lem p h =
      ap (λ (l : List ℕ). set l 1 (suc (length s.tasks))) (cut_sets next none (some (inactive p)) (length-replicate {A = ℕ} (task_size L) 0 ∙ sym (z.task (inactive p))))
      ∙ rw (length-append s.tasks (inactive p ∷ []), add-one)
    where
      rest : List ℕ
      rest = rows 4 hub_words 16 s.hubs ++ (entries 16 s.ready ++ (rows 16 wait_words 16 s.hubs ++ rows (store_size L) (store_of L) 16 s.hubs))

      next : Cut (λ (o : Option Task). contents L s ++ (rows (task_size L) (task_words L) 16 (more s.tasks o) ++ rest)) (row_of (task_size L) (task_words L)) (tasks_at + length s.tasks * task_size L)
      next =
          cut_within (contents L s) rest tasks_at (length s.tasks * task_size L) refl (λ o. refl) (cut_next (task_size L) (task_words L) z.task 16 s.tasks h)

  -- a hub that has no waiter and holds nothing but zeros: its list and its store are zeros already
  pub add_hub_lem : (y : Hub) → y.waiters ≡ [] → store_of L y ≡ replicate (store_size L) 0 → length s.hubs < 16 → set (sets (words L s) (hubs_at L + length s.hubs * 4) (hub_words y)) 2 (suc (length s.hubs)) ≡ words L (add_hub y s)
  unfolding add_hub contents entries words
  add_hub_lem y no_waiter empty h =
      ap (λ (l : List ℕ). set l 2 (suc (length s.hubs))) (cut_sets next none (some y) refl)
      ∙ rw (
        length-append s.hubs (y ∷ []),
        add-one,
        rows_empty 16 wait_words 16 s.hubs y zeros,
        rows_empty (store_size L) (store_of L) 16 s.hubs y empty,
      )
    where
      zeros : wait_words y ≡ replicate 16 0
      zeros = rw no_waiter

      rest : List ℕ
      rest = entries 16 s.ready ++ (rows 16 wait_words 16 s.hubs ++ rows (store_size L) (store_of L) 16 s.hubs)

      next : Cut (λ (o : Option Hub). contents L s ++ (rows (task_size L) (task_words L) 16 s.tasks ++ (rows 4 hub_words 16 (more s.hubs o) ++ rest))) (row_of 4 hub_words) (hubs_at L + length s.hubs * 4)
      next =
          cut_within (to_hubs L s) rest (hubs_at L) (length s.hubs * 4) (length_to_hubs L z s) (λ o. sym (append_assoc (contents L s) (rows (task_size L) (task_words L) 16 s.tasks) (rows 4 hub_words 16 (more s.hubs o) ++ rest))) (cut_next 4 hub_words (λ x. refl) 16 s.hubs h)
