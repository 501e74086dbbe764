-- The words of a state, read, for any layout that is `Laid`. In order: how many records are read, and which; a record and a
-- store, read; the words of a state, read, are that state, and are written as the paper has it.
-- Not here: any other table (Written.antt), and the tests on the state itself (Tests.antt). Assumes nothing.
use Prim.Native.Nat.{◌*◌, ◌+◌, ◌<◌, ◌≤◌, suc, suc-le-suc, zero, ℕ}
use Rattle.lists.proofs.Laws.{numbers-entries}
use Rattle.lists.proofs.Padding.{packed-entries}
use Rattle.lists.specs.Lists.{numbers, packed}
use Rattle.messages.proofs.Laws.{message_same}
use Rattle.messages.specs.Messages.{message_at}
use Rattle.rules.proofs.Layouts.{Laid, answer_at, message-word, sized}
use Rattle.rules.proofs.Places.{hub-word, hubs-word, length-words, ready-part, store_part_lem, task-word, tasks-word, unused_zero_lem, wait-part}
use Rattle.rules.proofs.Rows.{row_word, rows_behind}
use Rattle.rules.proofs.Tests.{t_below_all}
use Rattle.rules.proofs.Valid.{Held, Room}
use Rattle.rules.specs.Table.{Hub, Kind, Layout, State, Task, contents, held_in, hub, hub_at, hub_word_at, hubs_at, inactive, kind_of, no_hub, part, read, ready_at, size, store_from, store_of, store_part, store_size, store_words, stores_at, tab, task, task_at, task_from, task_size, task_words, tasks_at, wait_part, waits_at, words}
use Rattle.rules.specs.WellFormed.{contents_right, lists_packed, store_right, stores_right, written}
use borrow.Author.Tests.{eq-eqb, le-leb}
use lib.ListN.{drop, get_or, length}
use lib.Seq.{get_or-drop, get_or-take}
use mathlib.Core.Bool.{true}
use mathlib.Core.List.{List, [], ◌∷◌}
use mathlib.Core.Path.{◌∙◌, ◌≡◌, ap, ap₂, refl, sym}
use native.Mathlib.Nat.{add_assoc, add-zero, le_of_suc-le-suc, mul-le-mul_right, not-suc-le-zero, suc-mul, zero-add}
use native.Mathlib.Omega.{arith}

-- ---- the records that are read

module _ {A : Type 0} (f : ℕ → A) where
  pub length-tab : (n i : ℕ) → length (tab n i f) ≡ n
  unfolding tab
  length-tab zero i = refl
  length-tab (suc n) i = ap suc (length-tab n (suc i))

  pub get_or-tab : (d : A) (n i k : ℕ) → k < n → get_or (tab n i f) k d ≡ f (i + k)
  unfolding tab
  get_or-tab d zero i k h = absurd (not-suc-le-zero h)
  get_or-tab d (suc n) i zero h = rw add-zero
  get_or-tab d (suc n) i (suc k) h =
      let e : suc i + k ≡ i + suc k = omega arith in
      get_or-tab d n (suc i) k (le_of_suc-le-suc h) ∙ ap f e

  -- a list, entry by entry
  tab-get_or : (d : A) (l : List A) (i : ℕ) → ((k : ℕ) → k < length l → f (i + k) ≡ get_or l k d) → tab (length l) i f ≡ l
  unfolding tab
  tab-get_or d [] i e = refl
  tab-get_or d (x ∷ xs) i e =
      ap₂ {C = List A} (λ y r. y ∷ r) (ap f (sym (add-zero i)) ∙ e 0 (omega arith)) (tab-get_or d xs (suc i) next)
    where
      next : (k : ℕ) → k < length xs → f (suc i + k) ≡ get_or xs k d
      next k h = let x : suc i + k ≡ i + suc k = omega arith in ap f x ∙ e (suc k) (suc-le-suc h)

module _ (L : Layout) (t : List ℕ) where
  pub read-tasks : length (read L t).tasks ≡ get_or t 1 0
  unfolding read
  read-tasks = length-tab (task_at L t) (get_or t 1 0) 0

  pub read-hubs : length (read L t).hubs ≡ get_or t 2 0
  unfolding read
  read-hubs = length-tab (hub_at L t) (get_or t 2 0) 0

  pub read-task : (i : ℕ) → i < get_or t 1 0 → task (read L t) i ≡ task_at L t i
  unfolding read
  read-task i h = get_or-tab (task_at L t) (inactive 0) (get_or t 1 0) 0 i h ∙ ap (task_at L t) (zero-add i)

  pub read-hub : (h : ℕ) → h < get_or t 2 0 → hub (read L t) h ≡ hub_at L t h
  unfolding read
  read-hub h used = get_or-tab (hub_at L t) no_hub (get_or t 2 0) 0 h used ∙ ap (hub_at L t) (zero-add h)

-- ---- message b of the n that a store holds, by the table's words

pub stored-word : {ts : ℕ} (L : Layout) → Laid ts L → (t : List ℕ) (h n b : ℕ) → 8 ≤ ts → b < n → n ≤ 8
    → get_or (store_from L n (store_part L t h)) b 0 ≡ message_at L.width t (stores_at L + h * store_size L + b * L.width)
stored-word L y t h n b some lt few =
    let store = store_part L t h in
    let w = L.width in
    get_or-tab (λ j. L.message_from (λ k. get_or store (j * w + k) 0)) 0 n 0 b lt
    ∙ rw (zero-add b) (y.reads store (b * w))
    ∙ message_same w store t (b * w) (stores_at L + h * store_size L + b * w)
    (λ k hk. get_or-take (store_size L) (drop (stores_at L + h * store_size L) t) (b * w + k) 0 (inside k hk) ∙ get_or-drop (stores_at L + h * store_size L) t (b * w + k) 0 ∙ ap (λ (i : ℕ). get_or t i 0) (sym (add_assoc (stores_at L + h * store_size L) (b * w) k)))
    (omega (arith, y.size))
  where
    inside : (k : ℕ) → k < L.width → b * L.width + k < store_size L
    inside k hk = let eighth : suc b ≤ 8 = omega arith in omega (arith, suc-mul b L.width, mul-le-mul_right L.width eighth)

-- ---- a record and a store of any layout, read

module _ {ts : ℕ} (L : Layout) (y : Laid ts L) where
  record_back : (x : Task) (w : ℕ → ℕ) → ((k : ℕ) → k < task_size L → w k ≡ get_or (task_words L x) k 0) → task_from L w ≡ x
  record_back x w e = λ j. record {
    state = e 0 (omega arith) j;
    suspended = e 1 (omega arith) j;
    priority = e 2 (omega arith) j;
    hub = e 3 (omega arith) j;
    ticks = e 4 (omega arith) j;
    side = e 5 (omega arith) j;
    word = y.back x.word (λ k. w (6 + k)) (λ k h. e (6 + k) (omega arith) ∙ message-word L y.long x k h) j;
    answer = (e (6 + L.width) (omega arith) ∙ answer_at L y.long x) j;
  }

  messages-back : (ws : List ℕ) → length ws ≤ 8 → store_from L (length ws) (store_words L ws) ≡ ws
  messages-back ws h =
      tab-get_or (λ i. L.message_from (λ k. get_or (store_words L ws) (i * L.width + k) 0)) 0 ws 0
      (λ i hi. rw zero-add (y.back (get_or ws i 0) _ (λ k hk. row_word L.width L.message y.long 8 ws i k 0 (omega arith) hi hk)))

  -- a store read and tested, whatever the kind
  held_back : (k : Kind) (x : Hub) → Held k x → length x.held ≤ 8 → held_in L k x.count x.limit (store_of L x) ≡ x.held
  unfolding Held held_in
  held_back k x e h = rw e (messages-back x.held h)

  store_right_lem : (k : Kind) (x : Hub) → Held k x → length x.held ≤ 8 → store_right L k x.count x.limit (store_of L x) ≡ true
  unfolding Held store_right
  store_right_lem k x e h = rw e (rows_behind L.width L.message y.long 8 x.held h)

  module _ (s : State) (r : Room s) where
    task-back : (i : ℕ) → i < length s.tasks → task_at L (words L s) i ≡ task s i
    unfolding task_at
    task-back i h =
        record_back (task s i) (λ k. get_or (words L s) (tasks_at + i * task_size L + k) 0)
        (λ k hk. task-word L (sized y) s i k (omega (arith, r.tasks)) h hk)

    hub-back : (h : ℕ) → h < length s.hubs → hub_at L (words L s) h ≡ hub s h
    unfolding hub_at
    hub-back h used =
        let lt : h < 16 = omega (arith, r.hubs) in
        let word = hub-word L (sized y) s h lt used in
        let wait : numbers (wait_part L (words L s) h) ≡ (hub s h).waiters =
        rw (wait-part L (sized y) s h lt used) (numbers-entries 16 (hub s h).waiters (r.waiters h)) in
        let held : held_in L (kind_of (hub_word_at L (words L s) h 0)) (hub_word_at L (words L s) h 1) (hub_word_at L (words L s) h 2) (store_part L (words L s) h) ≡ (hub s h).held =
        rw
        (word 0 (omega arith), word 1 (omega arith), word 2 (omega arith), store_part_lem L (sized y) s h lt used)
        (held_back (kind_of (hub s h).kind) (hub s h) (r.held h used) (r.stores h)) in
        λ j. record {
          kind = word 0 (omega arith) j;
          count = word 1 (omega arith) j;
          limit = word 2 (omega arith) j;
          start = word 3 (omega arith) j;
          waiters = wait j;
          held = held j;
        }

    pub read-words : read L (words L s) ≡ s
    unfolding read
    read-words =
        let tasks : tab (length s.tasks) 0 (task_at L (words L s)) ≡ s.tasks =
        tab-get_or (task_at L (words L s)) (inactive 0) s.tasks 0 (λ k h. rw zero-add (task-back k h)) in
        let hubs : tab (length s.hubs) 0 (hub_at L (words L s)) ≡ s.hubs =
        tab-get_or (hub_at L (words L s)) no_hub s.hubs 0 (λ k h. rw zero-add (hub-back k h)) in
        let ready : numbers (part (ready_at L) 16 (words L s)) ≡ s.ready =
        rw (ready-part L (sized y) s) (numbers-entries 16 s.ready r.ready) in
        rw (tasks-word L s, hubs-word L s, tasks, hubs, ready)

    contents-right : contents_right L (words L s) ≡ true
    unfolding contents contents_right words
    contents-right =
        rw (
          eq-eqb L.edition L.edition refl,
          le-leb (length s.tasks) 16 r.tasks,
          le-leb (length s.hubs) 16 r.hubs,
          eq-eqb tasks_at tasks_at refl,
          eq-eqb (hubs_at L) (hubs_at L) refl,
          eq-eqb (ready_at L) (ready_at L) refl,
          eq-eqb (waits_at L) (waits_at L) refl,
          eq-eqb (stores_at L) (stores_at L) refl,
        )

    lists_packed_lem : lists_packed L (words L s) ≡ true
    unfolding lists_packed
    lists_packed_lem =
        rw
        (ready-part L (sized y) s, packed-entries 16 s.ready, hubs-word L s)
        ((t_below_all (λ h. packed (wait_part L (words L s) h)) (length s.hubs)).conv (λ h used. rw (wait-part L (sized y) s h (omega (arith, r.hubs)) used) (packed-entries 16 (hub s h).waiters)))

    stores-right : stores_right L (words L s) ≡ true
    unfolding stores_right
    stores-right =
        rw
        (hubs-word L s)
        ((t_below_all (λ h. store_right L (kind_of (hub_word_at L (words L s) h 0)) (hub_word_at L (words L s) h 1) (hub_word_at L (words L s) h 2) (store_part L (words L s) h)) (length s.hubs)).conv
        (λ h used.
        let lt : h < 16 = omega (arith, r.hubs) in
        let word = hub-word L (sized y) s h lt used in
        rw
        (word 0 (omega arith), word 1 (omega arith), word 2 (omega arith), store_part_lem L (sized y) s h lt used)
        (store_right_lem (kind_of (hub s h).kind) (hub s h) (r.held h used) (r.stores h))))

    pub written-words : written L (words L s) ≡ true
    unfolding written
    written-words =
        rw (
          eq-eqb (length (words L s)) (size L) (length-words L (sized y) s),
          contents-right,
          unused_zero_lem L (sized y) s r.tasks r.hubs,
          lists_packed_lem,
          stores-right,
        )
