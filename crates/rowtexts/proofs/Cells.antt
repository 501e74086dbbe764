-- Cells of two tables of one length: where the words that a row covers are equal, and what its text says beside them, the texts are
-- equal.
-- Not here: that texts differ (Distinct.antt). Assumes nothing.
use Prim.Native.Nat.{◌*◌, ◌+◌, ◌-◌, ◌<◌, ◌≤◌, suc, zero, ℕ}
use Rattle.hubtexts.specs.Cells.{board_text, count_text, held_from, holds_text, kind_text}
use Rattle.lists.proofs.Laws.{bool_case}
use Rattle.messages.specs.Messages.{message_at}
use Rattle.records.specs.Records.{hub_at, hubs_at, ready_at, store_size, stores_at, task_at, waits_at, width}
use Rattle.rows.proofs.Words.{Unmarked, none_differ}
use Rattle.rows.specs.Rows.{covers, differ, differs, more_differs, used}
use Rattle.rows.specs.declared.Row.TheVariants.{Answer, Contents, Holds, Kind, Priority, ReadyList, State, Waiting}
use Rattle.rows.specs.declared.Row.{Row}
use Rattle.rowtexts.specs.RowTexts.{cell, used_text}
use Rattle.rules.specs.Effective.{effective}
use Rattle.rules.specs.Table.{part, state_of}
use Rattle.texts.specs.Cells.{answer_text, contents_text, stage_text, state_text}
use borrow.Author.Tests.{eqb-true, ltb-true, ne_eqb, not-false}
use lib.Dec.{eqb, ltb}
use lib.ListN.{drop, get_or, length, length-drop, length-take}
use lib.Seq.{ext_get_or, get_or-drop, get_or-take}
use mathlib.Core.Bool.{false, false≢true, true}
use mathlib.Core.List.{List, [], ◌∷◌}
use mathlib.Core.Path.{◌∙◌, ◌≡◌, refl, sym}
use native.Mathlib.Nat.{mul-le-mul_right, suc-mul}
use native.Mathlib.Omega.{arith}

-- a Memory hub is no Board
more_than_6 : (k : ℕ) → eqb k 7 ≡ true → eqb k 6 ≡ false
more_than_6 k e = ne_eqb k 6 (λ z. omega (arith, eqb-true k 7 e, z))

module _ (a b : List ℕ) where
  -- n words from word p on are the same in both
  unfoldable pub Same : ℕ → ℕ → Type 0
  Same p n = (k : ℕ) → p ≤ k → k < p + n → get_or a k 0 ≡ get_or b k 0

  run_same : (p n : ℕ) → differ a b p n ≡ false → Same p n
  unfolding Same
  run_same p n e k lo hi = none_differ a b p n k e lo hi

  -- one run, and two
  pub one-run : (p n : ℕ) → differs a b (record { from = p; count = n } ∷ []) ≡ false → Same p n
  unfolding differs
  one-run p n e = run_same p n (bool_case (differ a b p n) (λ d. absurd (false≢true (sym (rw d at e)))) (λ d. d))

  two_runs : (p n q m : ℕ) → differs a b (record { from = p; count = n } ∷ record { from = q; count = m } ∷ []) ≡ false → Same p n × Same q m
  unfolding differs
  two_runs p n q m e =
      bool_case (differ a b p n)
      (λ d. absurd (false≢true (sym (rw d at e))))
      (λ d. (run_same p n d, one-run q m (rw d at e)))

  word_same : (p n k : ℕ) → Same p n → p ≤ k → k < p + n → get_or a k 0 ≡ get_or b k 0
  unfolding Same
  word_same p n k s lo hi = s k lo hi

  -- a message of w words
  message_same : (w p : ℕ) → 1 ≤ w → Same p w → message_at w a p ≡ message_at w b p
  unfolding message_at
  message_same w p h s =
      let low : get_or a p 0 ≡ get_or b p 0 = word_same p w p s (omega arith) (omega arith) in
      bool_case (ltb 1 w)
      (λ q.
      let high : get_or a (p + 1) 0 ≡ get_or b (p + 1) 0 = word_same p w (p + 1) s (omega arith) (omega (arith, ltb-true 1 w q)) in
      rw (q, low, high) refl)
      (λ q. rw (q, low) refl)

  module _ (long : length a ≡ length b) where
    pub part_same : (p n : ℕ) → Same p n → part p n a ≡ part p n b
    part_same p n s =
        let m = length-take n (drop p a) in
        let m' = length-take n (drop p b) in
        ext_get_or 0 (part p n a) (part p n b)
        (m ∙ rw (length-drop p a, long, ← length-drop p b) (sym m'))
        (λ k h.
        let lt : k < n = omega (arith, m) in
        get_or-take n (drop p a) k 0 lt
        ∙ get_or-drop p a k 0
        ∙ word_same p n (p + k) s (omega arith) (omega arith)
        ∙ sym (get_or-take n (drop p b) k 0 lt ∙ get_or-drop p b k 0))

  -- the words that a store holds: n messages, of which there is room
  held_same : (w p n m : ℕ) → 1 ≤ w → Same p m → n * w ≤ m → held_from w a p n ≡ held_from w b p n
  unfolding Same held_from
  held_same w p zero m h s fits = refl
  held_same w p (suc n) m h s fits =
      let more : n * w + w ≤ m = rw (suc-mul n w) at fits in
      let head : message_at w a p ≡ message_at w b p = message_same w p h (λ k lo hi. s k lo (omega arith)) in
      let rest : held_from w a (p + w) n ≡ held_from w b (p + w) n = held_same w (p + w) n (m - w) h (λ k lo hi. s k (omega arith) (omega arith)) (omega arith) in
      rw (head, rest) refl

  -- ---- the text of a row, where its words and what it says beside them are the same

  module _ (long : length a ≡ length b) (ts : ℕ) (low : 8 ≤ ts) (ra rb : ℕ) where
    -- a FIFO of the first table holds at most 8 words
    unfoldable pub Few : Type 0
    Few = (h : ℕ) → used a (Holds h) ≡ true → get_or a (hubs_at ts + h * 4) 0 ≡ 4 → get_or a (hubs_at ts + h * 4 + 1) 0 ≤ 8

    text_same : (r : Row) → used a r ≡ true → Few → Unmarked ts a b ra rb r → used_text ts a ra r ≡ used_text ts b rb r
    unfolding Few Same answer_text board_text contents_text count_text covers holds_text hub_at kind_text more_differs stage_text state_text task_at used_text
    text_same Contents i few u =
        let s = one-run 0 8 u.words in
        rw (word_same 0 8 0 s (omega arith) (omega arith), word_same 0 8 1 s (omega arith) (omega arith), word_same 0 8 2 s (omega arith) (omega arith)) refl
    text_same ReadyList i few u =
        let s = one-run (ready_at ts) 16 u.words in
        rw (part_same long (ready_at ts) 16 s, eqb-true ra rb (not-false (eqb ra rb) u.more)) refl
    text_same (State n) i few u =
        let p = 8 + n * ts in
        let s = two_runs p 2 (p + 3) 3 u.words in
        rw (
          word_same p 2 p s.0 (omega arith) (omega arith),
          word_same p 2 (p + 1) s.0 (omega arith) (omega arith),
          word_same (p + 3) 3 (p + 3) s.1 (omega arith) (omega arith),
          word_same (p + 3) 3 (p + 4) s.1 (omega arith) (omega arith),
          word_same (p + 3) 3 (p + 5) s.1 (omega arith) (omega arith),
        ) refl
    text_same (Priority n) i few u =
        let p = 8 + n * ts + 2 in
        rw (eqb-true (effective (state_of a) n) (effective (state_of b) n) (not-false _ u.more), word_same p 1 p (one-run p 1 u.words) (omega arith) (omega arith)) refl
    text_same (Answer n) i few u =
        let p = 8 + n * ts + 6 in
        let s = one-run p (width ts + 1) u.words in
        rw (
          message_same (width ts) p (omega arith) (λ k lo hi. word_same p (width ts + 1) k s lo (omega arith)),
          word_same p (width ts + 1) (p + width ts) s (omega arith) (omega arith),
        ) refl
    text_same (Kind h) i few u =
        let p = hubs_at ts + h * 4 in
        let s = two_runs p 1 (p + 2) 2 u.words in
        rw (
          word_same p 1 p s.0 (omega arith) (omega arith),
          word_same (p + 2) 2 (p + 2) s.1 (omega arith) (omega arith),
          word_same (p + 2) 2 (p + 3) s.1 (omega arith) (omega arith),
        ) refl
    text_same (Holds h) i few u =
        let p = hubs_at ts + h * 4 in
        let q = stores_at ts + h * store_size ts in
        let s = two_runs (p + 1) 1 q (store_size ts) u.words in
        let kind : get_or a p 0 ≡ get_or b p 0 = word_same p 1 p (run_same p 1 u.more) (omega arith) (omega arith) in
        let count : get_or a (p + 1) 0 ≡ get_or b (p + 1) 0 = word_same (p + 1) 1 (p + 1) s.0 (omega arith) (omega arith) in
        bool_case (eqb (get_or b p 0) 4)
        (λ fifo.
        let most : get_or a (p + 1) 0 ≤ 8 = few h i (kind ∙ eqb-true (get_or b p 0) 4 fifo) in
        let room : get_or b (p + 1) 0 * width ts ≤ store_size ts = mul-le-mul_right (width ts) (omega (arith, count)) in
        rw (kind, fifo, count, held_same (width ts) q (get_or b (p + 1) 0) (store_size ts) (omega arith) s.1 room) refl)
        (λ other.
        bool_case (eqb (get_or b p 0) 7)
        (λ memory. rw (kind, other, memory, more_than_6 (get_or b p 0) memory, held_same (width ts) q 8 (store_size ts) (omega arith) s.1 (omega arith)) refl)
        (λ neither.
        let word = message_same (width ts) q (omega arith) (λ k lo hi. word_same q (store_size ts) k s.1 lo (omega arith)) in
        rw (kind, other, neither, count, word) refl))
    text_same (Waiting h) i few u =
        let p = waits_at ts + h * 16 in
        rw (part_same long p 16 (one-run p 16 u.words)) refl

    pub cell_same : (r : Row) → Few → Unmarked ts a b ra rb r → cell ts a ra r ≡ cell ts b rb r
    unfolding cell
    cell_same r few u =
        bool_case (used a r)
        (λ i. rw (i, sym u.used ∙ i) (text_same r i few u))
        (λ i. rw (i, sym u.used ∙ i) refl)
