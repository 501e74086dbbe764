-- What the rules, and every contract inside the kernel, ask of a layout: `Laid`. In order: the condition; what follows from it
-- for a task record and a store; edition 1 and edition 2, so that what is proved of every such layout is proved of both; the
-- edition that fits a length; and that there are no other sizes.
-- Not here: where the parts of a state stand (Places.antt), a table read (Reading.antt, Written.antt). Assumes nothing.
use Prim.Native.Nat.{◌%◌, ◌*◌, ◌+◌, ◌-◌, ◌/◌, ◌<◌, ◌≤◌, suc, zero, ℕ}
use Rattle.lists.proofs.Laws.{bool_case}
use Rattle.lists.specs.Lists.{padded}
use Rattle.messages.proofs.Laws.{length-message, message-back, words-low}
use Rattle.messages.specs.Messages.{message_at, message_words, messages}
use Rattle.rules.proofs.Rows.{length-rows, rows-zeros}
use Rattle.rules.specs.Table.{Layout, Task, edition_of, one, rows, size, store_size, store_words, stores_at, task_size, task_words, two}
use borrow.Author.Tests.{eq-eqb, eqb-false, eqb-true, ne_eqb}
use lib.Dec.{eqb, ltb}
use lib.ListN.{get_or-append, get_or, get_or-replicate, length, length-append, length-replicate, replicate}
use lib.Seq.{ext_get_or, get_or-append-add}
use mathlib.Core.List.{List, [], ◌++◌, ◌∷◌}
use mathlib.Core.Path.{◌∙◌, ◌≡◌, ap, refl, sym}
use native.Mathlib.Nat.{add-mul-div_left, add-mul-mod_self_left, add-zero, div-add-mod, div-eq_of_lt, mod-eq_of_lt, zero-add}
use native.Mathlib.Omega.{arith}

-- A layout that is sized, written and read faithfully, whose task records have ts words: the edition's number is how many
-- words a message has; they are read as the code reads them, low word first; a message has as many words as the layout
-- says; written and read it is the same; words of 32 bits, read and written again, are the same.
pub record Laid (ts : ℕ) (L : Layout) : Type 0 where
  pub size : ts ≡ task_size L
  pub edition : L.edition ≡ L.width
  pub reads : (t : List ℕ) (p : ℕ) → L.message_from (λ k. get_or t (p + k) 0) ≡ message_at L.width t p
  pub long : (m : ℕ) → length (L.message m) ≡ L.width
  pub back : (m : ℕ) (w : ℕ → ℕ) → ((k : ℕ) → k < L.width → w k ≡ get_or (L.message m) k 0) → L.message_from w ≡ m
  pub again : (w : ℕ → ℕ) → ((k : ℕ) → w k < 4294967296) → (k : ℕ) → k < L.width → get_or (L.message (L.message_from w)) k 0 ≡ w k

-- ---- the sizes of a task record and of a store

pub record Sized (L : Layout) : Type 0 where
  pub task : (t : Task) → length (task_words L t) ≡ task_size L
  pub store : (ws : List ℕ) → length (store_words L ws) ≡ store_size L

module _ {ts : ℕ} {L : Layout} (y : Laid ts L) where
  pub sized : Sized L
  sized = record {
    task = λ t. rw (length-append (L.message t.word) (t.answer ∷ []), y.long t.word) (omega arith);
    store = length-rows L.width L.message y.long 8;
  }

  -- ---- sizes and places as the code has them, from ts alone

  -- how many words a message has
  pub wide : ts - 7 ≡ L.width
  wide = omega (arith, y.size)

  -- where hub h's store starts; with h = 16, where the table ends
  pub store_place : (h : ℕ) → 8 + 16 * ts + 64 + 16 + 256 + h * (8 * (ts - 7)) ≡ stores_at L + h * store_size L
  store_place h = rw wide (omega (arith, y.size))

  -- a message as the code writes it
  pub message-written : 8 ≤ ts → ts ≤ 9 → (m : ℕ) → m < messages (ts - 7) → message_words (ts - 7) m ≡ L.message m
  message-written low high m fits =
      let w = ts - 7 in
      let few : w ≤ 2 = omega arith in
      let ws = message_words w m in
      let same : L.message_from (λ k. get_or ws (0 + k) 0) ≡ m = y.reads ws 0 ∙ rw (← wide) (message-back w m few fits) in
      let long : length ws ≡ w = length-message w m (omega arith) few in
      ext_get_or 0 ws (L.message m) (long ∙ wide ∙ sym (y.long m))
      (λ k h. sym (ap (λ (x : ℕ). get_or (L.message x) k 0) (sym same) ∙ y.again (λ j. get_or ws (0 + j) 0) (λ j. words-low w m few fits (0 + j)) k (omega (arith, wide)) ∙ ap (λ (j : ℕ). get_or ws j 0) (zero-add k)))

-- ---- a message by its words, and the message 0

read_none : (w : ℕ) → message_at w [] 0 ≡ 0
unfolding message_at
read_none w = bool_case (ltb 1 w) (λ b. rw b) (λ b. rw b)

module _ {ts : ℕ} (L : Layout) (y : Laid ts L) where
  pub message-zero : L.message 0 ≡ replicate L.width 0
  message-zero =
      let from : L.message_from (λ k. 0) ≡ 0 = y.reads [] 0 ∙ read_none L.width in
      ext_get_or 0 (L.message 0) (replicate L.width 0) (y.long 0 ∙ sym (length-replicate L.width 0))
      (λ k h.
      let lt : k < L.width = omega (arith, y.long 0) in
      ap (λ (m : ℕ). get_or (L.message m) k 0) (sym from) ∙ y.again (λ k. 0) (λ k. omega arith) k lt ∙ sym (get_or-replicate L.width k 0 0 lt))

  pub message-at : (t : List ℕ) (p m : ℕ) → ((k : ℕ) → k < L.width → get_or t (p + k) 0 ≡ get_or (L.message m) k 0) → message_at (ts - 7) t p ≡ m
  message-at t p m e = rw (wide y) (sym (y.reads t p) ∙ y.back m (λ k. get_or t (p + k) 0) e)

  -- a store of zeros
  pub store_zero : (n : ℕ) → store_words L (replicate n 0) ≡ replicate (store_size L) 0
  store_zero n = rows-zeros L.width L.message 0 message-zero 8 n

-- ---- a task record's words, read

-- the six words before the message
abbrev head : Task → List ℕ
head t = t.state ∷ t.suspended ∷ t.priority ∷ t.hub ∷ t.ticks ∷ t.side ∷ []

module _ (L : Layout) (long : (m : ℕ) → length (L.message m) ≡ L.width) (t : Task) where
  pub message-word : (k : ℕ) → k < L.width → get_or (task_words L t) (6 + k) 0 ≡ get_or (L.message t.word) k 0
  message-word k h =
      get_or-append-add (head t) (L.message t.word ++ t.answer ∷ []) k 0
      ∙ get_or-append (L.message t.word) (t.answer ∷ []) 0 k (rw (long t.word) h)

  pub answer_at : get_or (task_words L t) (6 + L.width) 0 ≡ t.answer
  answer_at =
      get_or-append-add (head t) (L.message t.word ++ t.answer ∷ []) L.width 0
      ∙ rw (← long t.word) (ap (λ (k : ℕ). get_or (L.message t.word ++ t.answer ∷ []) k 0) (sym (add-zero (length (L.message t.word))))
      ∙ get_or-append-add (L.message t.word) (t.answer ∷ []) 0 0)

-- ---- edition 1

pub one_laid : Laid 8 one
one_laid = record {
  size = refl;
  edition = refl;
  reads = λ t p. rw add-zero (unfold message_at in refl);
  long = λ m. refl;
  back = λ m w e. e 0 (omega arith);
  again = λ w low k h. let z : k ≡ 0 = omega arith in rw z;
}

-- in the paper's words: a task record is its eight words, and a store its words as they are, then zeros
pub one-task : (t : Task) → task_words one t ≡ t.state ∷ t.suspended ∷ t.priority ∷ t.hub ∷ t.ticks ∷ t.side ∷ t.word ∷ t.answer ∷ []
one-task t = refl

one-rows : (n : ℕ) (ws : List ℕ) → rows 1 one.message n ws ≡ padded n ws
unfolding padded rows
one-rows zero ws = refl
one-rows (suc n) [] = ap {B = List ℕ} (λ r. 0 ∷ r) (one-rows n [])
one-rows (suc n) (x ∷ xs) = ap {B = List ℕ} (λ r. x ∷ r) (one-rows n xs)

pub one_store : (ws : List ℕ) → store_words one ws ≡ padded 8 ws
one_store = one-rows 8

-- ---- edition 2: "every message is a low and a high word"

pub two_laid : Laid 9 two
two_laid = record {
  size = refl;
  edition = refl;
  reads = λ t p. rw add-zero (unfold message_at in refl);
  long = λ m. refl;
  back = λ m w e. rw (e 0 (omega arith), e 1 (omega arith)) (omega (arith, div-add-mod m 4294967296));
  again = λ w low k h. word w low k h;
}
  where
    word : (w : ℕ → ℕ) → ((k : ℕ) → w k < 4294967296) → (k : ℕ) → k < 2 → get_or ((w 0 + 4294967296 * w 1) % 4294967296 ∷ (w 0 + 4294967296 * w 1) / 4294967296 ∷ []) k 0 ≡ w k
    word w low zero h = add-mul-mod_self_left (w 0) 4294967296 (w 1) ∙ mod-eq_of_lt (low 0)
    word w low (suc zero) h = add-mul-div_left (w 0) (w 1) (omega arith) ∙ omega (arith, div-eq_of_lt (low 0))
    word w low (suc (suc k)) h = absurd (omega arith)

-- ---- the edition that fits a length

module _ (t : List ℕ) where
  pub edition-one : length t ≡ size one → edition_of t ≡ one
  unfolding edition_of
  edition-one e = rw (ne_eqb (length t) (size two) (λ z. omega (arith, e, z))) refl

  pub edition-two : length t ≡ size two → edition_of t ≡ two
  unfolding edition_of
  edition-two e = rw (eq-eqb (length t) (size two) e) refl

  -- either way
  pub by_edition : (P : Layout → Type 0) → P one → P two → P (edition_of t)
  unfolding edition_of
  by_edition P p q = bool_case (eqb (length t) (size two)) (λ b. rw b q) (λ b. rw b p)

  pub edition_laid : Laid (task_size (edition_of t)) (edition_of t)
  edition_laid = by_edition (λ L. Laid (task_size L) L) one_laid two_laid

-- ---- each size that the code takes is an edition's

pub record Edition (ts : ℕ) : Type 0 where
  pub layout : Layout
  pub laid : Laid ts layout

pub edition_of_lem : (ts : ℕ) → 8 ≤ ts → ts ≤ 9 → Edition ts
edition_of_lem ts low high =
    bool_case (eqb ts 8)
    (λ b. rw (eqb-true ts 8 b) (record { layout = one; laid = one_laid }))
    (λ b. let nine : ts ≡ 9 = omega (arith, eqb-false ts 8 b) in rw nine (record { layout = two; laid = two_laid }))

-- what does not name the layout, and follows in each
pub in_some : {C : Type 0} (ts : ℕ) → 8 ≤ ts → ts ≤ 9 → ((L : Layout) → Laid ts L → C) → C
in_some ts low high f = let e = edition_of_lem ts low high in f e.layout e.laid
