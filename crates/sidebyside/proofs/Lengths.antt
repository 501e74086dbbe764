-- How long the texts are, at most, in tables of words of 32 bits. In order: a text's length; a number and a message; the cells of a row; a
-- row, and all rows. The bounds are not the least: they show that the buffer of our own has room for every text.
-- Assumes nothing.
use Prim.Native.Nat.{◌%◌, ◌*◌, ◌+◌, ◌/◌, ◌<◌, ◌≤◌, pred, suc, zero, ℕ}
use Rattle.hubtexts.specs.Cells.{block_text, blocks_from, board_text, count_text, held_from, holds_text, kind_text, none_text, word_text, words_from, words_text}
use Rattle.lines.proofs.Putting.{short}
use Rattle.lines.specs.Lines.{decimal}
use Rattle.lists.proofs.Laws.{bool_case}
use Rattle.lists.specs.Lists.{numbers}
use Rattle.messages.specs.Messages.{message_at}
use Rattle.records.specs.Records.{hub_at, hubs_at, ready_at, store_size, stores_at, task_at, waits_at, width}
use Rattle.records.specs.declared.HubRecord.{HubRecord}
use Rattle.records.specs.declared.TaskRecord.{TaskRecord}
use Rattle.rows.specs.Rows.{hub_rows, marked, row_number, rows, shown, task_rows, used}
use Rattle.rows.specs.declared.Row.TheVariants.{Answer, Contents, Holds, Kind, Priority, ReadyList, State, Waiting}
use Rattle.rows.specs.declared.Row.{Row}
use Rattle.rowtexts.specs.RowTexts.{cell, mark_text, title, used_text}
use Rattle.rules.specs.Effective.{effective}
use Rattle.rules.specs.Table.{part, state_of}
use Rattle.sidebyside.specs.RowLines.{line_text, row_text, rows_text}
use Rattle.texts.proofs.Lists.{numbers_end, numbers-next}
use Rattle.texts.specs.Cells.{answer_text, contents_text, entries_from, entry_text, message_text, outcome_text, priority_text, stage_text, state_text, task_text, tasks_text, ticks_text, waits_text}
use Rattle.texts.specs.Texts.{bytes}
use borrow.Author.Tests.{eqb-false, eqb-true}
use lib.Dec.{eqb, ltb}
use lib.ListN.{get_or, length, length-append}
use mathlib.Core.Bool.{Bool, cond, false, true}
use mathlib.Core.List.{List, Memᴰ, [], ◌++◌, ◌∷◌}
use mathlib.Core.Path.{◌≡◌, ap, refl}
use native.Mathlib.Omega.{arith}

-- ---- a text of at most n bytes

unfoldable pub Most : ℕ → List ℕ → Type 0
Most n l = length l ≤ n

most_append : (n m : ℕ) (x y : List ℕ) → Most n x → Most m y → Most (n + m) (x ++ y)
unfolding Most
most_append n m x y h g = rw (length-append x y) (omega arith)

most_cond : (n : ℕ) (b : Bool) (x y : List ℕ) → Most n x → Most n y → Most n (cond b x y)
most_cond n true x y h g = h
most_cond n false x y h g = g

most_more : (n m : ℕ) (x : List ℕ) → n ≤ m → Most n x → Most m x
unfolding Most
most_more n m x h g = omega arith

lit : (l : List ℕ) → Most (length l) l
unfolding Most
lit l = omega arith

none : (n : ℕ) → Most n []
unfolding Most
none n = omega arith

-- ---- a number, and a message

abbrev Word : ℕ → Type 0
Word n = n < 4294967296

number_most : (n : ℕ) → Word n → Most 10 (decimal n)
unfolding Most
number_most n h = short n h

message_most : (m : ℕ) → m < 18446744073709551616 → Most 26 (message_text m)
unfolding Most message_text
message_most m h =
    let low = short (m % 4294967296) (omega arith) in
    let high = short (m / 4294967296) (omega arith) in
    bool_case (eqb (m / 4294967296) 0)
    (λ q. rw q (omega arith))
    (λ q. rw (q, length-append (decimal (m % 4294967296) ++ bytes " high ") (decimal (m / 4294967296)), length-append (decimal (m % 4294967296)) (bytes " high ")) (omega arith))

-- a text of three parts, of which the middle is a number
between_most : (n m k : ℕ) (x y : List ℕ) → Word k → Most n x → Most m y → Most (n + 10 + m) (x ++ decimal k ++ y)
between_most n m k x y h g e = most_append (n + 10) m (x ++ decimal k) y (most_append n 10 x (decimal k) g (number_most k h)) e

-- ---- the cells

module _ (t : List ℕ) (low : (k : ℕ) → Word (get_or t k 0)) where
  stored : (w p : ℕ) → message_at w t p < 18446744073709551616
  unfolding message_at
  stored w p = bool_case (ltb 1 w) (λ q. rw q (omega (arith, low p, low (p + 1)))) (λ q. rw q (omega (arith, low p)))

  words_most : (w p n k : ℕ) → Most (n * 28) (words_from k (held_from w t p n))
  unfolding held_from word_text words_from
  words_most w p zero k = none 0
  words_most w p (suc n) k =
      let m = message_at w t p in
      let one = message_most m (stored w p) in
      let first = most_cond 28 (eqb k 0) (message_text m) (bytes ", " ++ message_text m) (most_more 26 28 (message_text m) (omega arith) one) (most_append 2 26 (bytes ", ") (message_text m) (lit (bytes ", ")) one) in
      most_more (28 + n * 28) (suc n * 28) _ (omega arith) (most_append 28 (n * 28) _ _ first (words_most w (p + w) n (suc k)))

  held_most : (w p n : ℕ) → n ≤ 8 → Most 224 (words_text (held_from w t p n))
  unfolding held_from words_text
  held_most w p zero h = most_more 5 224 (bytes "empty") (omega arith) (lit (bytes "empty"))
  held_most w p (suc n) h = most_more (suc n * 28) 224 _ (omega arith) (words_most w p (suc n) 0)

  entry_most : (k runs i : ℕ) → Word i → Most 24 (entry_text k runs i)
  unfolding entry_text task_text
  entry_most k runs i h =
      most_append 17 7 _ _
      (most_cond 17 (eqb k 0) (bytes "task " ++ decimal i) (bytes ", task " ++ decimal i) (most_more 15 17 _ (omega arith) (most_append 5 10 (bytes "task ") (decimal i) (lit (bytes "task ")) (number_most i h))) (most_append 7 10 (bytes ", task ") (decimal i) (lit (bytes ", task ")) (number_most i h)))
      (most_cond 7 (eqb (suc i) runs) (bytes " (runs)") [] (lit (bytes " (runs)")) (none 7))

  entries_most : (runs p n k : ℕ) → Most (n * 24) (entries_from k runs (numbers (part p n t)))
  unfolding entries_from numbers
  entries_most runs p zero k = none 0
  entries_most runs p (suc n) k =
      bool_case (eqb (get_or t p 0) 0)
      (λ q. rw (numbers_end t p (suc n) (eqb-true (get_or t p 0) 0 q)) (none (suc n * 24)))
      (λ q.
      rw (numbers-next t p n (eqb-false (get_or t p 0) 0 q))
      (most_more (24 + n * 24) (suc n * 24) _ (omega arith) (most_append 24 (n * 24) _ _ (entry_most k runs (pred (get_or t p 0)) (omega (arith, low p))) (entries_most runs (suc p) n (suc k)))))

  tasks_most : (runs p : ℕ) → Most 384 (tasks_text runs (numbers (part p 16 t)))
  unfolding tasks_text
  tasks_most runs p =
      by (numbers (part p 16 t)) (entries_most runs p 16 0)
    where
      by : (l : List ℕ) → Most 384 (entries_from 0 runs l) → Most 384 (tasks_text runs l)
      by [] h = most_more 6 384 (bytes "nobody") (omega arith) (lit (bytes "nobody"))
      by (i ∷ is) h = h

ticks_most : (n : ℕ) → Word n → Most 23 (ticks_text n)
unfolding ticks_text
ticks_most n h =
    most_cond 23 (eqb n 0) _ _ (most_more 10 23 _ (omega arith) (lit (bytes ", no limit")))
    (most_cond 23 (eqb n 1) _ _ (most_more 13 23 _ (omega arith) (lit (bytes ", 1 tick left"))) (between_most 2 11 n (bytes ", ") (bytes " ticks left") h (lit (bytes ", ")) (lit (bytes " ticks left"))))

waits_most : (hub side : ℕ) → Word hub → Most 30 (waits_text hub side)
unfolding waits_text
waits_most hub side h =
    most_cond 30 (eqb side 1) _ _
    (between_most 13 7 (pred hub) (bytes "waits at hub ") (bytes " to put") (omega arith) (lit (bytes "waits at hub ")) (lit (bytes " to put")))
    (between_most 13 7 (pred hub) (bytes "waits at hub ") (bytes " to get") (omega arith) (lit (bytes "waits at hub ")) (lit (bytes " to get")))

state_most : (x : TaskRecord) → Word x.hub → Word x.ticks → Most 64 (state_text x)
unfolding stage_text state_text
state_most x h g =
    most_append 53 11 _ _
    (most_cond 53 (eqb x.state 1) _ _ (most_more 8 53 _ (omega arith) (lit (bytes "inactive")))
    (most_cond 53 (eqb x.state 2) _ _ (most_more 5 53 _ (omega arith) (lit (bytes "ready")))
    (most_cond 53 (eqb x.state 3) _ _ (most_append 30 23 _ _ (waits_most x.hub x.side h) (ticks_most x.ticks g))
    (most_more 29 53 _ (omega arith) (most_append 6 23 (bytes "sleeps") _ (lit (bytes "sleeps")) (ticks_most x.ticks g))))))
    (most_cond 11 (eqb x.suspended 0) _ _ (none 11) (lit (bytes ", suspended")))

priority_most : (own eff : ℕ) → Word own → Word eff → Most 32 (priority_text own eff)
unfolding priority_text
priority_most own eff h g =
    most_append 10 22 _ _ (number_most own h)
    (most_cond 22 (eqb own eff) _ _ (none 22) (most_append 12 10 (bytes ", effective ") _ (lit (bytes ", effective ")) (number_most eff g)))

answer_most : (x : TaskRecord) → x.word < 18446744073709551616 → Most 42 (answer_text x)
unfolding answer_text outcome_text
answer_most x h =
    most_append 9 33 _ _
    (most_cond 9 (eqb x.answer 0) _ _ (most_more 4 9 _ (omega arith) (lit (bytes "none")))
    (most_cond 9 (eqb x.answer 2) _ _ (most_more 6 9 _ (omega arith) (lit (bytes "failed")))
    (most_cond 9 (eqb x.answer 3) _ _ (lit (bytes "timed out"))
    (most_cond 9 (eqb x.word 0) _ _ (most_more 2 9 _ (omega arith) (lit (bytes "OK"))) (most_more 3 9 _ (omega arith) (lit (bytes "met")))))))
    (most_cond 33 (eqb x.word 0) _ _ (none 33) (most_append 7 26 (bytes ", word ") _ (lit (bytes ", word ")) (message_most x.word h)))

kind_most : (x : HubRecord) → Word x.limit → Word x.start → Most 45 (kind_text x)
unfolding kind_text
kind_most x h g =
    most_cond 45 (eqb x.kind 1) _ _ (most_more 5 45 _ (omega arith) (lit (bytes "Event")))
    (most_cond 45 (eqb x.kind 2) _ _ (most_append 35 10 _ _ (between_most 17 8 x.limit (bytes "Semaphore, limit ") (bytes ", start ") h (lit (bytes "Semaphore, limit ")) (lit (bytes ", start "))) (number_most x.start g))
    (most_cond 45 (eqb x.kind 3) _ _ (most_more 4 45 _ (omega arith) (lit (bytes "Port")))
    (most_cond 45 (eqb x.kind 4) _ _ (most_more 22 45 _ (omega arith) (most_append 12 10 (bytes "FIFO, limit ") _ (lit (bytes "FIFO, limit ")) (number_most x.limit h)))
    (most_cond 45 (eqb x.kind 5) _ _ (most_more 8 45 _ (omega arith) (lit (bytes "Resource")))
    (most_cond 45 (eqb x.kind 6) _ _ (most_more 5 45 _ (omega arith) (lit (bytes "Board"))) (most_more 24 45 _ (omega arith) (most_append 14 10 (bytes "Memory, limit ") _ (lit (bytes "Memory, limit ")) (number_most x.limit h))))))))

blocks_most : (n k b : ℕ) (ms : List ℕ) → length ms ≡ n → Word (b + n) → Most (12 + n * 22) (blocks_from k b ms)
unfolding block_text blocks_from none_text
blocks_most n k b [] l h = most_more 12 (12 + n * 22) _ (omega arith) (most_cond 12 (eqb k 0) _ _ (lit (bytes "no block out")) (none 12))
blocks_most zero k b (m ∷ ms) l h = absurd (omega arith)
blocks_most (suc n) k b (m ∷ ms) l h =
    let number = number_most b (omega arith) in
    let head : Most 22 (block_text k b) = most_cond 22 (eqb k 0) _ _ (most_append 12 10 (bytes "blocks out: ") _ (lit (bytes "blocks out: ")) number) (most_more 12 22 _ (omega arith) (most_append 2 10 (bytes ", ") _ (lit (bytes ", ")) number)) in
    most_cond (12 + suc n * 22) (eqb m 0) _ _
    (most_more (12 + n * 22) (12 + suc n * 22) _ (omega arith) (blocks_most n k (suc b) ms (omega arith) (omega arith)))
    (most_more (22 + (12 + n * 22)) (12 + suc n * 22) _ (omega arith) (most_append 22 (12 + n * 22) _ _ head (blocks_most n (suc k) (suc b) ms (omega arith) (omega arith))))

held-long : (w : ℕ) (t : List ℕ) (p n : ℕ) → length (held_from w t p n) ≡ n
unfolding held_from
held-long w t p zero = refl
held-long w t p (suc n) = ap suc (held-long w t (p + w) n)

count_most : (x : HubRecord) → Word x.count → Most 22 (count_text x)
unfolding count_text
count_most x h =
    most_cond 22 (eqb x.kind 1) _ _ (most_cond 22 (eqb x.count 0) _ _ (most_more 7 22 _ (omega arith) (lit (bytes "not set"))) (most_more 3 22 _ (omega arith) (lit (bytes "set"))))
    (most_cond 22 (eqb x.kind 2) _ _ (most_more 16 22 _ (omega arith) (most_append 6 10 (bytes "count ") _ (lit (bytes "count ")) (number_most x.count h)))
    (most_cond 22 (eqb x.kind 5) _ _
    (most_cond 22 (eqb x.count 0) _ _ (most_more 4 22 _ (omega arith) (lit (bytes "free"))) (most_append 12 10 (bytes "owner: task ") _ (lit (bytes "owner: task ")) (number_most (pred x.count) (omega arith))))
    (most_more 7 22 _ (omega arith) (lit (bytes "nothing")))))

-- ---- a row

unfoldable pub cell_most : Row → ℕ
cell_most Contents = 55
cell_most ReadyList = 384
cell_most (State i) = 64
cell_most (Priority i) = 32
cell_most (Answer i) = 42
cell_most (Kind h) = 45
cell_most (Holds h) = 224
cell_most (Waiting h) = 384

ten : (r : Row) → 10 ≤ cell_most r
unfolding cell_most
ten Contents = omega arith
ten ReadyList = omega arith
ten (State i) = omega arith
ten (Priority i) = omega arith
ten (Answer i) = omega arith
ten (Kind h) = omega arith
ten (Holds h) = omega arith
ten (Waiting h) = omega arith

-- a table of words of 32 bits whose FIFOs hold at most 8 words, and whose effective priorities fit a word as well
pub record Bounded (ts : ℕ) (t : List ℕ) : Type 0 where
  pub low : (k : ℕ) → get_or t k 0 < 4294967296
  pub few : (h : ℕ) → used t (Holds h) ≡ true → get_or t (hubs_at ts + h * 4) 0 ≡ 4 → get_or t (hubs_at ts + h * 4 + 1) 0 ≤ 8
  pub keys : (i : ℕ) → effective (state_of t) i < 4294967296

module _ (ts : ℕ) (t : List ℕ) (b : Bounded ts t) (runs : ℕ) where
  used_most : (r : Row) → used t r ≡ true → Most (cell_most r) (used_text ts t runs r)
  unfolding board_text cell_most contents_text holds_text hub_at task_at used_text
  used_most Contents i =
      most_append 45 10 _ _ (most_append 27 18 _ _ (between_most 8 9 (get_or t 0 0) (bytes "edition ") (bytes ", tasks: ") (b.low 0) (lit (bytes "edition ")) (lit (bytes ", tasks: "))) (most_append 10 8 _ _ (number_most (get_or t 1 0) (b.low 1)) (lit (bytes ", hubs: ")))) (number_most (get_or t 2 0) (b.low 2))
  used_most ReadyList i = tasks_most t b.low runs (ready_at ts)
  used_most (State n) i = state_most _ (b.low (8 + n * ts + 3)) (b.low (8 + n * ts + 4))
  used_most (Priority n) i = priority_most _ _ (b.low (8 + n * ts + 2)) (b.keys n)
  used_most (Answer n) i = answer_most _ (stored t b.low (width ts) (8 + n * ts + 6))
  used_most (Kind h) i = kind_most _ (b.low (hubs_at ts + h * 4 + 2)) (b.low (hubs_at ts + h * 4 + 3))
  used_most (Holds h) i =
      let from = stores_at ts + h * store_size ts in
      bool_case (eqb (get_or t (hubs_at ts + h * 4) 0) 4)
      (λ q. rw q (held_most t b.low (width ts) from (get_or t (hubs_at ts + h * 4 + 1) 0) (b.few h i (eqb-true (get_or t (hubs_at ts + h * 4) 0) 4 q))))
      (λ q.
      rw q
      (most_cond 224 (eqb (get_or t (hubs_at ts + h * 4) 0) 6) _ _
      (most_more 35 224 _ (omega arith)
      (most_cond 35 (eqb (get_or t (hubs_at ts + h * 4 + 1) 0) 0) _ _ (most_more 11 35 _ (omega arith) (lit (bytes "not written"))) (most_append 9 26 (bytes "written: ") _ (lit (bytes "written: ")) (message_most _ (stored t b.low (width ts) from)))))
      (most_cond 224 (eqb (get_or t (hubs_at ts + h * 4) 0) 7) _ _
      (most_more 188 224 _ (omega arith) (blocks_most 8 0 0 (held_from (width ts) t from 8) (held-long (width ts) t from 8) (omega arith)))
      (most_more 22 224 _ (omega arith) (count_most _ (b.low (hubs_at ts + h * 4 + 1)))))))
  used_most (Waiting h) i = tasks_most t b.low 0 (waits_at ts + h * 16)

  cell_most_lem : (r : Row) → Most (cell_most r) (cell ts t runs r)
  unfolding cell
  cell_most_lem r =
      bool_case (used t r)
      (λ i. rw i (used_most r i))
      (λ i. rw i (most_more 10 (cell_most r) _ (ten r) (lit (bytes "not in use"))))

title_most : (r : Row) → row_number r < 16 → Most 25 (title r)
unfolding title
title_most Contents h = most_more 15 25 _ (omega arith) (lit (bytes "table\tcontents\t"))
title_most ReadyList h = most_more 17 25 _ (omega arith) (lit (bytes "table\tready list\t"))
title_most (State i) h = most_more 22 25 _ (omega arith) (between_most 5 7 i _ (bytes "\tstate\t") (omega arith) (lit (bytes "task ")) (lit (bytes "\tstate\t")))
title_most (Priority i) h = between_most 5 10 i _ (bytes "\tpriority\t") (omega arith) (lit (bytes "task ")) (lit (bytes "\tpriority\t"))
title_most (Answer i) h = most_more 23 25 _ (omega arith) (between_most 5 8 i _ (bytes "\tanswer\t") (omega arith) (lit (bytes "task ")) (lit (bytes "\tanswer\t")))
title_most (Kind i) h = most_more 20 25 _ (omega arith) (between_most 4 6 i _ (bytes "\tkind\t") (omega arith) (lit (bytes "hub ")) (lit (bytes "\tkind\t")))
title_most (Holds i) h = most_more 21 25 _ (omega arith) (between_most 4 7 i _ (bytes "\tholds\t") (omega arith) (lit (bytes "hub ")) (lit (bytes "\tholds\t")))
title_most (Waiting i) h = most_more 23 25 _ (omega arith) (between_most 4 9 i _ (bytes "\twaiting\t") (omega arith) (lit (bytes "hub ")) (lit (bytes "\twaiting\t")))

-- ---- all rows

unfoldable pub text_most : List Row → ℕ
text_most [] = 0
text_most (r ∷ rs) = 27 + cell_most r + 1 + cell_most r + 1 + text_most rs

module _ (ts : ℕ) (a b : List ℕ) (f : Bounded ts a) (g : Bounded ts b) (ra rb : ℕ) where
  row_most : (r : Row) → row_number r < 16 → Most (27 + cell_most r + 1 + cell_most r + 1) (row_text ts a b ra rb r)
  unfolding line_text mark_text row_text
  row_most r h =
      let n = cell_most r in
      most_cond (27 + n + 1 + n + 1) (shown ts a b ra rb r) _ _
      (most_append (27 + n + 1 + n) 1 _ (bytes "\n")
      (most_append (27 + n + 1) n _ _
      (most_append (27 + n) 1 _ (bytes "\t")
      (most_append 27 n _ _ (most_append 2 25 _ _ (most_cond 2 (marked ts a b ra rb r) _ _ (lit (bytes "!\t")) (lit (bytes "=\t"))) (title_most r h)) (cell_most_lem ts a f ra r))
      (lit (bytes "\t")))
      (cell_most_lem ts b g rb r))
      (lit (bytes "\n")))
      (none (27 + n + 1 + n + 1))

  rows_most : (rs : List Row) → ((r : Row) → Memᴰ r rs → row_number r < 16) → Most (text_most rs) (rows_text ts a b ra rb rs)
  unfolding rows_text text_most
  rows_most [] h = none 0
  rows_most (r ∷ rs) h =
      most_append (27 + cell_most r + 1 + cell_most r + 1) (text_most rs) _ _ (row_most r (h r (Memᴰ.head refl))) (rows_most rs (λ x m. h x (Memᴰ.tail m)))

  pub text_most_lem : ((r : Row) → Memᴰ r rows → row_number r < 16) → length (rows_text ts a b ra rb rows) ≤ 65535
  unfolding Most cell_most hub_rows rows task_rows text_most
  text_most_lem h = let m = rows_most rows h in omega arith
