-- The words of a state, body by body, and the same state written in another edition. In order: a message and a task record of
-- zeros; the four bodies of a table; a word of a task record and of a store's message, whether it is in use or not; what the
-- code writes, body by body, and the whole.
-- Not here: where the parts in use stand (rules, Places), parts as such (Joined.antt). Assumes nothing.
use Prim.Native.Nat.{◌*◌, ◌+◌, ◌<◌, ◌≤◌, suc, zero, ℕ}
use Rattle.editions.proofs.Joined.{joined_same, length-joined, part-word, rows-joined, rows-rows, sets-all, sets_then}
use Rattle.editions.specs.Editions.{Below, contents_from, joined, stored, stores_from, tasks_from}
use Rattle.lists.proofs.Laws.{bool_case, length-entries}
use Rattle.lists.specs.Lists.{entries}
use Rattle.messages.proofs.Laws.{length-message}
use Rattle.messages.specs.Messages.{message_at, message_words, messages}
use Rattle.records.specs.Records.{hubs_at as hubs_for, ready_at as ready_for, stores_at as stores_for, task_at, task_words as record_words, waits_at as waits_for, width}
use Rattle.records.specs.declared.TaskRecord.{TaskRecord}
use Rattle.rules.proofs.Layouts.{Laid, answer_at, message-at, message-word, message-written, message-zero, sized, wide}
use Rattle.rules.proofs.Places.{hubs-word, length-words, tasks-word}
use Rattle.rules.proofs.Rows.{length-rows}
use Rattle.rules.specs.Table.{Hub, Layout, State, Task, contents, hub_words, hubs_at, inactive, part, rows, size, store_of, store_size, stores_at, task, task_size, task_words, tasks_at, wait_words, words}
use borrow.Author.Tests.{ltb-false, ltb-true}
use lib.Dec.{ltb}
use lib.ListN.{get_or-eq_default, get_or, length, length-append, replicate, replicate-append-replicate}
use lib.Seq.{drop_at, sets, take_at}
use mathlib.Core.List.{List, [], ◌++◌, ◌∷◌, append_assoc, append-nil}
use mathlib.Core.Path.{◌∙◌, ◌≡◌, ap, refl, sym}
use native.Mathlib.Nat.{add-zero}
use native.Mathlib.Omega.{arith}

-- ---- what is not in use: a record of zeros

abbrev pub none : Task
none = record { state = 0; suspended = 0; priority = 0; hub = 0; ticks = 0; side = 0; word = 0; answer = 0 }

-- the record that stands at place i of 16
abbrev pub placed : State → ℕ → Task
placed s i = get_or s.tasks i none

-- what is read inside a list doesn't depend on what is read outside
get_d_default : {A : Type 0} (l : List A) (d e : A) (i : ℕ) → i < length l → get_or l i d ≡ get_or l i e
get_d_default [] d e i h = absurd (omega arith)
get_d_default (x ∷ xs) d e zero h = refl
get_d_default (x ∷ xs) d e (suc i) h = get_d_default xs d e i (omega arith)

pub placed_word : (s : State) (i : ℕ) → (placed s i).word ≡ (task s i).word
placed_word s i =
    bool_case (ltb i (length s.tasks))
    (λ b. ap (λ (x : Task). x.word) (get_d_default s.tasks none (inactive 0) i (ltb-true i _ b)))
    (λ b.
    let out : length s.tasks ≤ i = ltb-false i _ b in
    rw (get_or-eq_default s.tasks none out, get_or-eq_default s.tasks (inactive 0) out) (unfold inactive in refl))

module _ {ts : ℕ} (L : Layout) (y : Laid ts L) where
  none-words : task_words L none ≡ replicate (task_size L) 0
  none-words =
      let n : 6 + (L.width + 1) ≡ task_size L = omega arith in
      rw (message-zero L y, replicate-append-replicate {A = ℕ} L.width 1 0)
      (replicate-append-replicate {A = ℕ} 6 (L.width + 1) 0 ∙ ap (λ (k : ℕ). replicate {A = ℕ} k 0) n)

-- ---- the bodies

-- hub records, ready list and waiting lists: the same in each edition
middle : State → List ℕ
middle s = rows 4 hub_words 16 s.hubs ++ (entries 16 s.ready ++ rows 16 wait_words 16 s.hubs)

length_middle : (s : State) → length (middle s) ≡ 336
unfolding middle
length_middle s =
    length-append (rows 4 hub_words 16 s.hubs) (entries 16 s.ready ++ rows 16 wait_words 16 s.hubs)
    ∙ rw (
      length-append (entries 16 s.ready) (rows 16 wait_words 16 s.hubs),
      length-rows 4 hub_words (λ h. refl) 16 s.hubs,
      length-entries 16 s.ready,
      length-rows 16 wait_words (λ h. length-entries 16 h.waiters) 16 s.hubs,
    )

abbrev pub task_part : Layout → State → ℕ → List ℕ
task_part L s i = task_words L (placed s i)

abbrev pub store_part : Layout → State → ℕ → List ℕ
store_part L s k = L.message (get_or (stored s) k 0)

module _ {ts : ℕ} (L : Layout) (y : Laid ts L) (s : State) where
  bodies : words L s ≡ contents L s ++ (joined 16 (task_part L s) ++ (middle s ++ joined 128 (store_part L s)))
  unfolding middle stored words
  bodies =
      let stores : rows (store_size L) (store_of L) 16 s.hubs ≡ joined 128 (store_part L s) =
      rows-rows L.width L.message (message-zero L y) (λ (h : Hub). h.held) 8 16 s.hubs
      ∙ rows-joined L.width L.message 0 (message-zero L y) 128 (stored s) in
      rw (rows-joined (task_size L) (task_words L) none (none-words L y) 16 s.tasks, stores) (simp append_assoc)

  length-tasks : length (joined 16 (task_part L s)) ≡ 16 * task_size L
  length-tasks = length-joined (task_size L) (task_part L s) (λ i. (sized y).task (placed s i)) 16

  -- word j of the record at place i
  pub task-place : (i j : ℕ) → i < 16 → j < task_size L → get_or (words L s) (tasks_at + i * task_size L + j) 0 ≡ get_or (task_part L s i) j 0
  unfolding contents
  task-place i j h hj =
      ap (λ (l : List ℕ). get_or l (tasks_at + i * task_size L + j) 0) bodies
      ∙ part-word (task_size L) (task_part L s) (λ i. (sized y).task (placed s i)) (contents L s) (middle s ++ joined 128 (store_part L s)) tasks_at 16 i j refl h hj

  length_front : length (contents L s ++ joined 16 (task_part L s)) ≡ hubs_at L
  unfolding contents
  length_front = length-append (contents L s) (joined 16 (task_part L s)) ∙ rw length-tasks

  length_most : length (contents L s ++ (joined 16 (task_part L s) ++ middle s)) ≡ stores_at L
  unfolding contents
  length_most =
      length-append (contents L s) (joined 16 (task_part L s) ++ middle s)
      ∙ rw (length-append (joined 16 (task_part L s)) (middle s), length-tasks, length_middle s) (omega arith)

  -- word j of message k of the stores
  pub message-place : (k j : ℕ) → k < 128 → j < L.width → get_or (words L s) (stores_at L + k * L.width + j) 0 ≡ get_or (store_part L s k) j 0
  message-place k j h hj =
      let e : words L s ≡ (contents L s ++ (joined 16 (task_part L s) ++ middle s)) ++ (joined 128 (store_part L s) ++ []) = bodies ∙ simp (append_assoc, append-nil) in
      ap (λ (l : List ℕ). get_or l (stores_at L + k * L.width + j) 0) e
      ∙ part-word L.width (store_part L s) (λ k. y.long (get_or (stored s) k 0)) (contents L s ++ (joined 16 (task_part L s) ++ middle s)) [] (stores_at L) 128 k j length_most h hj

  middle_part : part (hubs_at L) 336 (words L s) ≡ middle s
  middle_part =
      let e : words L s ≡ (contents L s ++ joined 16 (task_part L s)) ++ (middle s ++ joined 128 (store_part L s)) = bodies ∙ simp append_assoc in
      rw (e, drop_at (contents L s ++ joined 16 (task_part L s)) (middle s ++ joined 128 (store_part L s)) (hubs_at L) length_front)
      (take_at (middle s) (joined 128 (store_part L s)) 336 (length_middle s))

-- ---- the same state in another edition

pub contents_are : (ts : ℕ) (from : List ℕ) {v n m h r w p : ℕ} → v ≡ width ts → n ≡ get_or from 1 0 → m ≡ get_or from 2 0 → h ≡ hubs_for ts → r ≡ ready_for ts → w ≡ waits_for ts → p ≡ stores_for ts
    → v ∷ n ∷ m ∷ 8 ∷ h ∷ r ∷ w ∷ p ∷ [] ≡ contents_from ts from
unfolding contents_from
contents_are ts from ev en em eh er ew ep = rw (ev, en, em, eh, er, ew, ep)

pub length_record : (ts : ℕ) → 8 ≤ ts → ts ≤ 9 → (x : TaskRecord) → length (record_words ts x) ≡ ts
unfolding record_words
length_record ts low high x =
    rw (length-append (message_words (width ts) x.word) (x.answer ∷ []), length-message (width ts) x.word (omega arith) (omega arith))
    (omega arith)

module _ {fs ts : ℕ} (L M : Layout) (y : Laid fs L) (z : Laid ts M) (s : State) where
  contents-moved : contents_from ts (words L s) ≡ contents M s
  unfolding contents contents_from
  contents-moved = rw (tasks-word L s, hubs-word L s, wide z, z.edition, z.size)

  module _ (low : 8 ≤ ts) (high : ts ≤ 9) (b : Below (messages (width ts)) s) where
    -- a record of the source, read and written in the destination's words
    task-moved : (i : ℕ) → i < 16 → record_words ts (task_at fs (words L s) i) ≡ task_part M s i
    unfolding record_words task_at
    task-moved i h =
        let x = placed s i in
        let word : (k : ℕ) → k < fs → get_or (words L s) (8 + i * fs + k) 0 ≡ get_or (task_part L s i) k 0 =
        λ k hk. rw y.size (task-place L y s i k h (rw y.size at hk)) in
        let first : get_or (words L s) (8 + i * fs) 0 ≡ x.state = rw add-zero at (word 0 (omega (arith, y.size))) in
        let message : message_at (width fs) (words L s) (8 + i * fs + 6) ≡ x.word =
        message-at L y (words L s) (8 + i * fs + 6) x.word
        (λ k hk.
        let e : 8 + i * fs + 6 + k ≡ 8 + i * fs + (6 + k) = omega arith in
        ap (λ (p : ℕ). get_or (words L s) p 0) e ∙ word (6 + k) (omega (arith, y.size)) ∙ message-word L y.long x k hk) in
        let answer : get_or (words L s) (8 + i * fs + 6 + width fs) 0 ≡ x.answer =
        let e : 8 + i * fs + 6 + width fs ≡ 8 + i * fs + (6 + L.width) = omega (arith, y.size) in
        ap (λ (p : ℕ). get_or (words L s) p 0) e ∙ word (6 + L.width) (omega (arith, y.size)) ∙ answer_at L y.long x in
        let fits : x.word < messages (width ts) = rw (placed_word s i) (b.tasks i h) in
        rw (
          first,
          word 1 (omega (arith, y.size)),
          word 2 (omega (arith, y.size)),
          word 3 (omega (arith, y.size)),
          word 4 (omega (arith, y.size)),
          word 5 (omega (arith, y.size)),
          message,
          answer,
          message-written z low high x.word fits,
        )

    -- and a message of a store
    store_moved : (k : ℕ) → k < 128 → message_words (width ts) (message_at (width fs) (words L s) (stores_for fs + k * width fs)) ≡ store_part M s k
    store_moved k h =
        let m = get_or (stored s) k 0 in
        let p : stores_for fs + k * width fs ≡ stores_at L + k * L.width = rw (wide y) (omega (arith, y.size)) in
        let message : message_at (width fs) (words L s) (stores_for fs + k * width fs) ≡ m =
        message-at L y (words L s) (stores_for fs + k * width fs) m
        (λ j hj. ap (λ (q : ℕ). get_or (words L s) (q + j) 0) p ∙ message-place L y s k j h hj) in
        rw message (message-written z low high m (b.stores k h))

    -- the whole, written from its first word to its last: t₁ to t₄ are what each body leaves, and mid is what lies between the
    -- task records and the stores
    pub words-moved : (from t t₁ t₂ t₃ t₄ mid : List ℕ) (a n p : ℕ) → from ≡ words L s → length t ≡ size M
        → t₁ ≡ sets t 0 (contents_from ts from) → t₂ ≡ sets t₁ 8 (tasks_from fs ts from)
        → a ≡ hubs_for fs → n ≡ 336 → mid ≡ part a n from → p ≡ hubs_for ts → t₃ ≡ sets t₂ p mid
        → t₄ ≡ sets t₃ (stores_for ts) (stores_from fs ts from) → t₄ ≡ words M s
    words-moved from t t₁ t₂ t₃ t₄ mid a n p ef long e₁ e₂ ea en em ep e₃ e₄ =
        let tasks : tasks_from fs ts (words L s) ≡ joined 16 (task_part M s) = joined_same 16 _ (task_part M s) task-moved in
        let stores : stores_from fs ts (words L s) ≡ joined 128 (store_part M s) = joined_same 128 _ (store_part M s) store_moved in
        let hubs : a ≡ hubs_at L = omega (arith, y.size) in
        let lists : mid ≡ middle s = em ∙ rw (hubs, en, ef) (middle_part L y s) in
        let front : 0 + length (contents M s ++ joined 16 (task_part M s)) ≡ hubs_for ts = omega (arith, z.size, length_front M z s) in
        let most : 0 + length (contents M s ++ joined 16 (task_part M s) ++ middle s) ≡ stores_for ts =
        omega (arith, front, length_middle s, length-append (contents M s ++ joined 16 (task_part M s)) (middle s)) in
        let all : contents M s ++ joined 16 (task_part M s) ++ middle s ++ joined 128 (store_part M s) ≡ words M s = simp append_assoc (sym (bodies M z s)) in
        e₄
        ∙ rw (
          e₃,
          e₂,
          e₁,
          ep,
          ef,
          contents-moved,
          tasks,
          stores,
          lists,
          sets_then t 0 8 (contents M s) (joined 16 (task_part M s)) (unfold contents in refl),
          sets_then t 0 (hubs_for ts) (contents M s ++ joined 16 (task_part M s)) (middle s) front,
          sets_then t 0 (stores_for ts) (contents M s ++ joined 16 (task_part M s) ++ middle s) (joined 128 (store_part M s)) most,
          all,
        )
        (sets-all t (words M s) (length-words M (sized z) s ∙ sym long))
