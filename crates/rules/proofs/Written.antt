-- A table that is written as the paper has it is the words of what is read from it. In order: a layout whose records and
-- stores, read and written again, are the words that stand there; what `written` says, test by test; the six bodies; what
-- such a table says of the state.
-- Not here: the words of a state, read (Reading.antt), and the tests on the state itself (Tests.antt). Assumes nothing.
use Prim.Native.Nat.{◌*◌, ◌+◌, ◌-◌, ◌<◌, ◌≤◌, suc, suc-le-suc, zero, ℕ}
use Rattle.lists.proofs.Laws.{bool_case, entries-numbers}
use Rattle.lists.proofs.Padding.{replicate-all_zero}
use Rattle.lists.specs.Lists.{all_zero, entries, numbers, packed}
use Rattle.rules.proofs.Layouts.{Laid, answer_at, message-word, sized}
use Rattle.rules.proofs.Reading.{length-tab, read-hub, read-hubs, read-tasks}
use Rattle.rules.proofs.Rows.{rows_none}
use Rattle.rules.proofs.Tests.{t_below_all}
use Rattle.rules.proofs.Valid.{Fits, Held}
use Rattle.rules.specs.Table.{Hub, Kind, Layout, Task, contents, held_in, hub, hub_at, hub_word_at, hub_words, hubs_at, kind_of, part, read, ready_at, rows, size, store_from, store_of, store_part, store_size, store_words, stored, stores_at, tab, task_at, task_from, task_size, task_words, tasks_at, wait_part, wait_words, waits_at, words}
use Rattle.rules.specs.WellFormed.{contents_right, lists_packed, store_right, stores_right, unused_zero, written, zero_from}
use borrow.Author.Tests.{eqb-true, leb-true, ltb-false, ltb-true}
use lib.Dec.{ltb}
use lib.ListN.{get_or-eq_default, drop, get_or, length, length-drop, length-take, replicate, take, take-append-drop}
use lib.Seq.{drop-cons, drop-drop, ext_get_or, get_or-drop, get_or-take, length-take-le, take-add, take_all}
use mathlib.Core.Bool.{and-eq-true_iff, true}
use mathlib.Core.List.{List, [], ◌++◌, ◌∷◌}
use mathlib.Core.Path.{◌∙◌, ◌≡◌, ap, ap₂, refl, sym}
use native.Mathlib.Nat.{mul-le-mul_right, suc-mul, zero-add, zero-mul}
use native.Mathlib.Numerals.{towards_suc}
use native.Mathlib.Omega.{arith}

-- ---- n words from a on, one by one

window : ℕ → ℕ → List ℕ → List ℕ
window zero a t = []
window (suc n) a t = get_or t a 0 ∷ window n (suc a) t

part_window : (n a : ℕ) (t : List ℕ) → a + n ≤ length t → part a n t ≡ window n a t
unfolding window
part_window zero a t h = refl
part_window (suc n) a t h =
    rw
    (drop-cons t a 0 (omega arith))
    (ap {B = List ℕ} (λ r. get_or t a 0 ∷ r) (part_window n (suc a) t (omega arith)))

module _ (t : List ℕ) where
  pub length_part : (a n : ℕ) → a + n ≤ length t → length (part a n t) ≡ n
  length_part a n h = length-take-le n (drop a t) (rw (length-drop a t) (omega arith))

  -- a list that has the same words
  part_same : (l : List ℕ) (a n : ℕ) → length l ≡ n → a + n ≤ length t → ((k : ℕ) → k < n → get_or l k 0 ≡ get_or t (a + k) 0) → l ≡ part a n t
  part_same l a n long h e =
      ext_get_or 0 l (part a n t) (long ∙ sym (length_part a n h))
      (λ k hk. let lt : k < n = omega arith in e k lt ∙ sym (get_or-take n (drop a t) k 0 lt ∙ get_or-drop a t k 0))

  drop-part : (a n : ℕ) → drop a t ≡ part a n t ++ drop (a + n) t
  drop-part a n = sym (ap (λ (r : List ℕ). part a n t ++ r) (sym (drop-drop n a t)) ∙ take-append-drop n (drop a t))

  -- rows that are read are the rows that stand there, where the rest is zeros
  module _ {A : Type 0} (w : ℕ) (f : A → List ℕ) (g : ℕ → A) where
    rows-tab : (n N i B : ℕ) → B + N * w ≤ length t → ((j : ℕ) → j < n → j < N → f (g (i + j)) ≡ part (B + j * w) w t) → zero_from (B + n * w) (B + N * w) t ≡ true → rows w f N (tab n i g) ≡ part B (N * w) t
    unfolding rows tab
    rows-tab zero N i B fits each rest =
        let k : B + N * w - (B + 0 * w) ≡ N * w = omega (arith, zero-mul w) in
        let b : B + 0 * w ≡ B = omega (arith, zero-mul w) in
        let zeros : all_zero (part B (N * w) t) ≡ true = rw (k, b) at rest in
        rows_none w f N
        ∙ sym (replicate-all_zero (part B (N * w) t) zeros ∙ ap (λ (k : ℕ). replicate {A = ℕ} k 0) (length_part B (N * w) fits))
    rows-tab (suc n) zero i B fits each rest = rw zero-mul
    rows-tab (suc n) (suc N) i B fits each rest =
        let e0 : i ≡ i + 0 = omega arith in
        let b0 : B + 0 * w ≡ B = omega (arith, zero-mul w) in
        let head : f (g i) ≡ part B w t = ap (λ (k : ℕ). f (g k)) e0 ∙ each 0 (omega arith) (omega arith) ∙ ap (λ (b : ℕ). part b w t) b0 in
        let b : B + suc n * w ≡ B + w + n * w = omega (arith, suc-mul n w) in
        let e : B + suc N * w ≡ B + w + N * w = omega (arith, suc-mul N w) in
        let tail : rows w f N (tab n (suc i) g) ≡ part (B + w) (N * w) t =
        rows-tab n N (suc i) (B + w) (omega (arith, suc-mul N w)) next (rw (e, b) at rest) in
        let m : w + N * w ≡ suc N * w = omega (arith, suc-mul N w) in
        ap₂ {C = List ℕ} ◌++◌ head tail
        ∙ ap (λ (r : List ℕ). part B w t ++ take (N * w) r) (sym (drop-drop w B t))
        ∙ sym (take-add w (N * w) (drop B t))
        ∙ ap (λ (k : ℕ). part B k t) m
      where
        next : (j : ℕ) → j < n → j < N → f (g (suc i + j)) ≡ part (B + w + j * w) w t
        next j hj h_n =
            let x : suc i + j ≡ i + suc j = omega arith in
            let b : B + suc j * w ≡ B + w + j * w = omega (arith, suc-mul j w) in
            ap (λ (k : ℕ). f (g k)) x ∙ each (suc j) (suc-le-suc hj) (suc-le-suc h_n) ∙ ap (λ (b : ℕ). part b w t) b

-- ---- what `written` says, test by test

pub record Written (L : Layout) (t : List ℕ) : Type 0 where
  pub long : length t ≡ size L
  pub tasks : get_or t 1 0 ≤ 16
  pub hubs : get_or t 2 0 ≤ 16
  pub head : contents L (read L t) ≡ take 8 t
  pub unused : unused_zero L t ≡ true
  pub ready : packed (part (ready_at L) 16 t) ≡ true
  pub waiters : (h : ℕ) → h < get_or t 2 0 → packed (wait_part L t h) ≡ true
  pub stores : (h : ℕ) → h < get_or t 2 0 → store_right L (kind_of (hub_word_at L t h 0)) (hub_word_at L t h 1) (hub_word_at L t h 2) (store_part L t h) ≡ true

pub written-says : (L : Layout) (t : List ℕ) → written L t ≡ true → Written L t
unfolding contents contents_right lists_packed stores_right window written
written-says L t e =
    let w0 = (and-eq-true_iff _ _).0 e in
    let w1 = (and-eq-true_iff _ _).0 w0.1 in
    let w2 = (and-eq-true_iff _ _).0 w1.1 in
    let w3 = (and-eq-true_iff _ _).0 w2.1 in
    let c0 = (and-eq-true_iff _ _).0 w1.0 in
    let c1 = (and-eq-true_iff _ _).0 c0.1 in
    let c2 = (and-eq-true_iff _ _).0 c1.1 in
    let c3 = (and-eq-true_iff _ _).0 c2.1 in
    let c4 = (and-eq-true_iff _ _).0 c3.1 in
    let c5 = (and-eq-true_iff _ _).0 c4.1 in
    let c6 = (and-eq-true_iff _ _).0 c5.1 in
    let p = (and-eq-true_iff _ _).0 w3.0 in
    let long : length t ≡ size L = eqb-true _ _ w0.0 in
    record {
      long = long;
      tasks = leb-true _ _ c1.0;
      hubs = leb-true _ _ c2.0;
      head = rw (
        part_window 8 0 t (fits long),
        read-tasks L t,
        read-hubs L t,
        eqb-true (get_or t 0 0) L.edition c0.0,
        eqb-true (get_or t 3 0) tasks_at c3.0,
        eqb-true (get_or t 4 0) (hubs_at L) c4.0,
        eqb-true (get_or t 5 0) (ready_at L) c5.0,
        eqb-true (get_or t 6 0) (waits_at L) c6.0,
        eqb-true (get_or t 7 0) (stores_at L) c6.1,
      );
      unused = w2.0;
      ready = p.0;
      waiters = (t_below_all (λ h. packed (wait_part L t h)) (get_or t 2 0)).yes p.1;
      stores = (t_below_all (λ h. store_right L (kind_of (hub_word_at L t h 0)) (hub_word_at L t h 1) (hub_word_at L t h 2) (store_part L t h)) (get_or t 2 0)).yes w3.1;
    }
  where
    fits : length t ≡ size L → 0 + 8 ≤ length t
    fits l = omega arith

-- ---- such a table is the words of what is read

module _ {ts : ℕ} {L : Layout} (y : Laid ts L) (t : List ℕ) (low : (k : ℕ) → get_or t k 0 < 4294967296) (w : Written L t) where
  -- row j of 16, of n words each
  row_fits : (b n j : ℕ) → j < 16 → b + 16 * n ≤ size L → b + j * n + n ≤ length t
  row_fits b n j h fits = omega (arith, w.long, suc-mul j n, mul-le-mul_right n h)

  hub-words : (h : ℕ) → h < 16 → hub_words (hub_at L t h) ≡ part (hubs_at L + h * 4) 4 t
  unfolding hub_at window
  hub-words h lt = rw (part_window 4 (hubs_at L + h * 4) t (row_fits (hubs_at L) 4 h lt (omega arith))) (simp towards_suc)

  wait-words : (h : ℕ) → h < 16 → packed (wait_part L t h) ≡ true → wait_words (hub_at L t h) ≡ wait_part L t h
  unfolding hub_at
  wait-words h lt e =
      rw (length_part t (waits_at L + h * 16) 16 (row_fits (waits_at L) 16 h lt (omega arith))) at (entries-numbers (wait_part L t h) e)

  task-words : (i : ℕ) → i < 16 → task_words L (task_at L t i) ≡ part (tasks_at + i * task_size L) (task_size L) t
  unfolding task_at
  task-words i lt =
      part_same t (task_words L x) (tasks_at + i * task_size L) (task_size L) ((sized y).task x) (row_fits tasks_at (task_size L) i lt (omega arith)) word
    where
      at : ℕ → ℕ
      at k = get_or t (tasks_at + i * task_size L + k) 0

      x : Task
      x = task_from L at

      rest : (k : ℕ) → k < 1 + L.width → get_or (task_words L x) (6 + k) 0 ≡ at (6 + k)
      rest k h =
          bool_case (ltb k L.width)
          (λ b. let n = ltb-true k L.width b in message-word L y.long x k n ∙ y.again (λ j. at (6 + j)) (λ j. low (tasks_at + i * task_size L + (6 + j))) k n)
          (λ b. let n : k ≡ L.width = omega (arith, ltb-false k L.width b) in rw n (answer_at L y.long x))

      word : (k : ℕ) → k < task_size L → get_or (task_words L x) k 0 ≡ at k
      word zero h = refl
      word (suc zero) h = refl
      word (suc (suc zero)) h = refl
      word (suc (suc (suc zero))) h = refl
      word (suc (suc (suc (suc zero)))) h = refl
      word (suc (suc (suc (suc (suc zero))))) h = refl
      word (suc (suc (suc (suc (suc (suc k)))))) h =
          let e : 6 + k ≡ suc (suc (suc (suc (suc (suc k))))) = omega arith in rw e at (rest k (omega arith))

  part_low : (a n k : ℕ) → get_or (part a n t) k 0 < 4294967296
  part_low a n k =
      bool_case (ltb k n)
      (λ b. rw (get_or-take n (drop a t) k 0 (ltb-true k n b), get_or-drop a t k 0) (low (a + k)))
      (λ b. let out : length (part a n t) ≤ k = omega (arith, ltb-false k n b, length-take n (drop a t)) in rw (get_or-eq_default (part a n t) 0 out) (omega arith))

  length_store : (h : ℕ) → h < 16 → length (store_part L t h) ≡ store_size L
  length_store h lt = length_part t (stores_at L + h * store_size L) (store_size L) (row_fits (stores_at L) (store_size L) h lt (omega arith))

  messages-words : (n h : ℕ) → h < 16 → all_zero (drop (n * L.width) (store_part L t h)) ≡ true → store_words L (store_from L n (store_part L t h)) ≡ store_part L t h
  messages-words n h lt e =
      rows-tab store v L.message from n 8 0 0 (omega (arith, length_store h lt)) each zeros
      ∙ take_all (8 * v) store (omega (arith, length_store h lt))
    where
      v : ℕ
      v = L.width

      store : List ℕ
      store = store_part L t h

      from : ℕ → ℕ
      from j = L.message_from (λ k. get_or store (j * v + k) 0)

      each : (j : ℕ) → j < n → j < 8 → L.message (from (0 + j)) ≡ part (0 + j * v) v store
      each j hj lt8 =
          simp zero-add
          (part_same store (L.message (from j)) (j * v) v (y.long (from j)) (omega (arith, length_store h lt, suc-mul j v, mul-le-mul_right v lt8))
          (λ k hk. y.again (λ k. get_or store (j * v + k) 0) (λ k. part_low (stores_at L + h * store_size L) (store_size L) (j * v + k)) k hk))

      zeros : zero_from (0 + n * v) (0 + 8 * v) store ≡ true
      zeros = simp zero-add (rw (take_all (8 * v - n * v) (drop (n * v) store) (rw length-drop (omega (arith, length_store h lt)))) e)

  store_words_lem : (k : Kind) (n m h : ℕ) → h < 16 → store_right L k n m (store_part L t h) ≡ true → store_words L (held_in L k n m (store_part L t h)) ≡ store_part L t h
  unfolding held_in store_right
  store_words_lem k n m h lt e = messages-words (stored k n m) h lt e

  -- the six bodies, one after the other
  bodies : t ≡ take 8 t ++ (part tasks_at (16 * task_size L) t ++ (part (hubs_at L) (16 * 4) t ++ (part (ready_at L) 16 t ++ (part (waits_at L) (16 * 16) t ++ part (stores_at L) (16 * store_size L) t))))
  bodies =
      sym (take-append-drop 8 t)
      ∙ ap (λ (r : List ℕ). take 8 t ++ r)
      (drop-part t tasks_at (16 * task_size L)
      ∙ ap (λ (r : List ℕ). part tasks_at (16 * task_size L) t ++ r)
      (drop-part t (hubs_at L) (16 * 4)
      ∙ ap (λ (r : List ℕ). part (hubs_at L) (16 * 4) t ++ r)
      (drop-part t (ready_at L) 16
      ∙ ap (λ (r : List ℕ). part (ready_at L) 16 t ++ r)
      (drop-part t (waits_at L) (16 * 16)
      ∙ ap (λ (r : List ℕ). part (waits_at L) (16 * 16) t ++ r)
      (sym (take_all (16 * store_size L) (drop (stores_at L) t) (rw (length-drop (stores_at L) t) (omega (arith, w.long)))))))))

  pub words-read_of : t ≡ words L (read L t)
  unfolding hub_at read unused_zero words
  words-read_of =
      let z0 = (and-eq-true_iff _ _).0 w.unused in
      let z1 = (and-eq-true_iff _ _).0 z0.1 in
      let z2 = (and-eq-true_iff _ _).0 z1.1 in
      bodies
      ∙ sym (rw (
        w.head,
        rows-tab t (task_size L) (task_words L) (task_at L t) (get_or t 1 0) 16 0 tasks_at fits₁ task_rows z0.0,
        rows-tab t 4 hub_words (hub_at L t) (get_or t 2 0) 16 0 (hubs_at L) fits₂ hub_rows z1.0,
        ready,
        rows-tab t 16 wait_words (hub_at L t) (get_or t 2 0) 16 0 (waits_at L) fits₃ wait_rows z2.0,
        rows-tab t (store_size L) (store_of L) (hub_at L t) (get_or t 2 0) 16 0 (stores_at L) fits₄ store_rows z2.1,
      ))
    where
      fits₁ : tasks_at + 16 * task_size L ≤ length t
      fits₁ = omega (arith, w.long)

      fits₂ : hubs_at L + 16 * 4 ≤ length t
      fits₂ = omega (arith, w.long)

      fits₃ : waits_at L + 16 * 16 ≤ length t
      fits₃ = omega (arith, w.long)

      fits₄ : stores_at L + 16 * store_size L ≤ length t
      fits₄ = omega (arith, w.long)

      ready : entries 16 (numbers (part (ready_at L) 16 t)) ≡ part (ready_at L) 16 t
      ready = rw (length_part t (ready_at L) 16 (omega (arith, w.long))) at (entries-numbers (part (ready_at L) 16 t) w.ready)

      task_rows : (j : ℕ) → j < get_or t 1 0 → j < 16 → task_words L (task_at L t (0 + j)) ≡ part (tasks_at + j * task_size L) (task_size L) t
      task_rows j h lt = rw zero-add (task-words j lt)

      hub_rows : (j : ℕ) → j < get_or t 2 0 → j < 16 → hub_words (hub_at L t (0 + j)) ≡ part (hubs_at L + j * 4) 4 t
      hub_rows j h lt = rw zero-add (hub-words j lt)

      wait_rows : (j : ℕ) → j < get_or t 2 0 → j < 16 → wait_words (hub_at L t (0 + j)) ≡ wait_part L t j
      wait_rows j h lt = rw zero-add (wait-words j lt (w.waiters j h))

      store_rows : (j : ℕ) → j < get_or t 2 0 → j < 16 → store_of L (hub_at L t (0 + j)) ≡ store_part L t j
      store_rows j h lt = rw zero-add (store_words_lem (kind_of (hub_word_at L t j 0)) (hub_word_at L t j 1) (hub_word_at L t j 2) j lt (w.stores j h))

-- a table of 32-bit words
pub words-read : {ts : ℕ} {L : Layout} → Laid ts L → (t : List ℕ) → ((k : ℕ) → get_or t k 0 < 4294967296) → written L t ≡ true → t ≡ words L (read L t)
words-read {L = L} y t low e = words-read_of y t low (written-says L t e)

-- ---- what the words say of the state: how many records, and that a hub holds as many messages as its record says

holds : (L : Layout) (k : Kind) (x : Hub) (l : List ℕ) → x.held ≡ held_in L k x.count x.limit l → Held k x
unfolding Held held_in
holds L k x l e =
    sym (ap length e ∙ length-tab (λ j. L.message_from (λ k. get_or l (j * L.width + k) 0)) (stored k x.count x.limit) 0)

pub read_fits : (L : Layout) (t : List ℕ) → written L t ≡ true → Fits (read L t)
unfolding hub_at
read_fits L t e =
    let w = written-says L t e in
    record {
      tasks = rw (read-tasks L t) w.tasks;
      hubs = rw (read-hubs L t) w.hubs;
      held = λ h used.
          let lt : h < get_or t 2 0 = rw (read-hubs L t) at used in
          let held : (hub (read L t) h).held ≡ held_in L (kind_of (hub (read L t) h).kind) (hub (read L t) h).count (hub (read L t) h).limit (store_part L t h) = rw (read-hub L t h lt) in
          holds L (kind_of (hub (read L t) h).kind) (hub (read L t) h) (store_part L t h) held;
    }
