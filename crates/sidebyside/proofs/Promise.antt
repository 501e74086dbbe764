-- What the rows of two tables promise, beside the contract of `show`. In order: every place lies in exactly one row; a differing word
-- lies in a marked row that is shown; what an unmarked row says, and a marked one; no row is marked exactly if the tables are equal; the
-- marked rows and M-106's entries; how long the text is at most; the state that the cells speak of; a table against itself; what is
-- given back with a refusal, and with none.
-- Not here: that the code does what the definitions say (the functions' proofs). Assumes nothing.
use Prim.Native.Nat.{◌*◌, ◌+◌, ◌-◌, ◌<◌, ◌≤◌, suc, zero, ℕ}
use Rattle.differences.proofs.Promise.{OneEdition, differs-listed, listed-differs}
use Rattle.differences.proofs.Ways.{Formed}
use Rattle.differences.specs.Differences.{Entry, entries, table_refusal}
use Rattle.lists.proofs.Laws.{bool_case}
use Rattle.lists.proofs.Padding.{zero-at}
use Rattle.lists.specs.Lists.{numbers}
use Rattle.records.specs.Records.{hub_at as hub_record_at, hubs_at, ready_at, table_size, task_at as task_record_at, task_size_of, waits_at}
use Rattle.records.specs.declared.TaskRecord.{TaskRecord}
use Rattle.rows.proofs.Turns.{row_few}
use Rattle.rows.proofs.Words.{Differing, marked_by, marked-shown, none-differs, once, row_of_place, self_no_mark, some-differ, some-differs, times, unmarked, unmarked_all}
use Rattle.rows.specs.Rows.{apart, covers, differs, lies, marked, more_differs, rows, used}
use Rattle.rows.specs.declared.Row.TheVariants.{Answer, Contents, Holds, Kind, Priority, ReadyList, State, Waiting}
use Rattle.rows.specs.declared.Row.{Row}
use Rattle.rowtexts.proofs.Cells.{Few, Same, cell_same, one-run, part_same}
use Rattle.rowtexts.proofs.Distinct.{kind_said_lem, kind_said, never_unused, priority_said, runs_said}
use Rattle.rowtexts.specs.RowTexts.{cell, used_text}
use Rattle.rules.proofs.After.{valid_in}
use Rattle.rules.proofs.Coded.{coded, given-number, given_0, need-all}
use Rattle.rules.proofs.Layouts.{Laid, store_place}
use Rattle.rules.proofs.Least.{none_urgent, task_le}
use Rattle.rules.proofs.Reading.{read-hub, read-hubs, read-task, read-tasks}
use Rattle.rules.proofs.Valid.{Range}
use Rattle.rules.proofs.Written.{written-says}
use Rattle.rules.specs.Effective.{effective}
use Rattle.rules.specs.Lists.{first_free, next}
use Rattle.rules.specs.Reply.{given, refusal_number, refusal_with}
use Rattle.rules.specs.Table as RulesTable
use Rattle.rules.specs.Table.{Hub, NoKind, Task, edition_of, hub, hub_at, kind_of, part, read, state_of, task, task_size, tasks_at}
use Rattle.rules.specs.WellFormed.{unused_zero, valid, well_formed_in, written, zero_from}
use Rattle.rules.specs.declared.Refusal.{Refusal}
use Rattle.sidebyside.proofs.Lengths.{text_most_lem}
use Rattle.sidebyside.specs.Shows.{Shows, is_marked, is_shown, length_given, marked_given, marks_of, pair_refusal, refusal_for, reply_for, runs_in, size_of, text_after, text_of}
use Rattle.sidebyside.specs.declared.Shown.{Shown}
use Rattle.std.specs.Prelude.{Result}
use Rattle.texts.specs.Cells.{tasks_text}
use Rattle.wellformed.proofs.Editions.{edition_laid_of}
use borrow.Author.Tests.{eq-eqb, eqb-false, eqb-true, ltb-false, ltb-true, ne_eqb}
use lib.Dec.{eqb, ltb}
use lib.ListN.{get_or-eq_default, get_or, length}
use lib.Seq.{ext_get_or}
use mathlib.Core.Bool.{and-eq-true_iff, false, false≢true, true}
use mathlib.Core.List.{List, Memᴰ, [], ◌∷◌}
use mathlib.Core.Logic.{◌↔◌, ◌⊎◌, inl, inr, ⊎_elim}
use mathlib.Core.Path.{◌∙◌, ◌≡◌, ap, refl, sym}
use native.Mathlib.Nat.{add-zero}
use native.Mathlib.Omega.{arith}

-- ---- sizes

size_low : (n : ℕ) → 8 ≤ task_size_of n
size_low n = bool_case (eqb n (table_size 9)) (λ q. rw q (omega arith)) (λ q. rw q (omega arith))

size-high : (n : ℕ) → task_size_of n ≤ 9
size-high n = bool_case (eqb n (table_size 9)) (λ q. rw q (omega arith)) (λ q. rw q (omega arith))

laid : (t : List ℕ) → Laid (size_of t) (edition_of t)
laid t = edition_laid_of t (size_of t) refl

table-long : (t : List ℕ) → Formed t → length t ≡ table_size (size_of t)
table-long t f = f.long ∙ sym (store_place (laid t) 16)

-- ---- a table's ready list and the kinds of its hubs

pub ready_is : (t : List ℕ) → (state_of t).ready ≡ numbers (part (ready_at (size_of t)) 16 t)
unfolding read
ready_is t =
    let e : RulesTable.ready_at (edition_of t) ≡ ready_at (size_of t) = omega (arith, (laid t).size) in
    ap (λ (p : ℕ). numbers (part p 16 t)) e

kind_at : (t : List ℕ) (h : ℕ) → RulesTable.hubs_at (edition_of t) + h * 4 + 0 ≡ hubs_at (size_of t) + h * 4
kind_at t h = omega (arith, (laid t).size)

-- a hub in use has one of the seven kinds
kind_known : (t : List ℕ) → Formed t → (h : ℕ) → h < get_or t 2 0 → (1 ≤ get_or t (hubs_at (size_of t) + h * 4) 0) × (get_or t (hubs_at (size_of t) + h * 4) 0 ≤ 7)
unfolding Range hub_at kind_of
kind_known t f h here =
    let L = edition_of t in
    let k = get_or t (hubs_at (size_of t) + h * 4) 0 in
    let kind : (hub (state_of t) h).kind ≡ k = ap (λ (x : Hub). x.kind) (read-hub L t h here) ∙ ap (λ (p : ℕ). get_or t p 0) (kind_at t h) in
    let range = rw kind at ((valid_in L t f.formed).ranges.range h (rw (read-hubs L t) here)) in (
      bool_case (eqb k 0)
          (λ q. absurd (rw (eqb-true k 0 q) at range))
          (λ q. omega (arith, eqb-false k 0 q)),
      bool_case (ltb k 8)
          (λ q. omega (arith, ltb-true k 8 q))
          (λ q. absurd (rw (get_or-eq_default kinds NoKind {n = k} (ltb-false k 8 q)) at range)),
    )
  where
    kinds : List RulesTable.Kind
    kinds = NoKind ∷ RulesTable.Event ∷ RulesTable.Semaphore ∷ RulesTable.Port ∷ RulesTable.Fifo ∷ RulesTable.Resource ∷ RulesTable.Board ∷ RulesTable.Memory ∷ []

-- a FIFO holds at most 8 words
fifo_few : (t : List ℕ) → Formed t → (h : ℕ) → used t (Holds h) ≡ true → get_or t (hubs_at (size_of t) + h * 4) 0 ≡ 4 → get_or t (hubs_at (size_of t) + h * 4 + 1) 0 ≤ 8
unfolding Range hub_at kind_of used
fifo_few t f h i k =
    let L = edition_of t in
    let here : h < get_or t 2 0 = ltb-true h (get_or t 2 0) i in
    let same : hub (state_of t) h ≡ hub_at L t h = read-hub L t h here in
    let second : RulesTable.hubs_at L + h * 4 + 1 ≡ hubs_at (size_of t) + h * 4 + 1 = omega (arith, (laid t).size) in
    let kind : (hub (state_of t) h).kind ≡ 4 = ap (λ (x : Hub). x.kind) same ∙ ap (λ (p : ℕ). get_or t p 0) (kind_at t h) ∙ k in
    let count : (hub (state_of t) h).count ≡ get_or t (hubs_at (size_of t) + h * 4 + 1) 0 = ap (λ (x : Hub). x.count) same ∙ ap (λ (p : ℕ). get_or t p 0) second in
    let range = rw kind at ((valid_in L t f.formed).ranges.range h (rw (read-hubs L t) here)) in
    omega (arith, range.0, range.2, count)

-- one that isn't has none
kind_unused : (t : List ℕ) → Formed t → (h : ℕ) → h < 16 → get_or t 2 0 ≤ h → get_or t (hubs_at (size_of t) + h * 4) 0 ≡ 0
unfolding unused_zero well_formed_in
kind_unused t f h few here =
    let L = edition_of t in
    let H = get_or t 2 0 in
    let a = RulesTable.hubs_at L + H * 4 in
    let zeros : unused_zero L t ≡ true = (written-says L t ((and-eq-true_iff (written L t) (valid (read L t))).0 f.formed).0).unused in
    let rest = ((and-eq-true_iff (zero_from (tasks_at + get_or t 1 0 * task_size L) (RulesTable.hubs_at L) t) _).0 zeros).1 in
    let behind : zero_from a (RulesTable.ready_at L) t ≡ true = ((and-eq-true_iff (zero_from a (RulesTable.ready_at L) t) _).0 rest).0 in
    let place : a + (h * 4 - get_or t 2 0 * 4) ≡ hubs_at (size_of t) + h * 4 = omega (arith, (laid t).size) in
    rw place at (zero-at t a (RulesTable.ready_at L - a) (h * 4 - get_or t 2 0 * 4) (omega arith) behind)

-- ---- the effective priorities of a table: of a task not in use 0, and each fits a word

key_unused : (t : List ℕ) (i : ℕ) → get_or t 1 0 ≤ i → effective (state_of t) i ≡ 0
key_unused t i h = none_urgent (state_of t) i (omega (arith, read-tasks (edition_of t) t))

key-low : (t : List ℕ) → ((k : ℕ) → get_or t k 0 < 4294967296) → (i : ℕ) → effective (state_of t) i < 4294967296
unfolding RulesTable.task_at effective
key-low t low i =
    let L = edition_of t in
    bool_case (ltb i (get_or t 1 0))
    (λ q.
    let own : (task (state_of t) i).priority ≡ get_or t (tasks_at + i * task_size L + 2) 0 = ap (λ (x : Task). x.priority) (read-task L t i (ltb-true i (get_or t 1 0) q)) in
    omega (arith, task_le 16 (state_of t) i (task (state_of t) i).priority, own, low (tasks_at + i * task_size L + 2)))
    (λ q. omega (arith, key_unused t i (ltb-false i (get_or t 1 0) q)))

-- ---- every place of a table lies in exactly one row

pub place_in-one-row : (t : List ℕ) → Formed t → (p : ℕ) → p < length t → times (size_of t) p rows ≡ 1
place_in-one-row t f p h = once (size_of t) (size_low (length t)) (size-high (length t)) p (rw (table-long t f) at h)

-- ---- a differing word lies in a marked row that is shown

pub record MarkedAt (a b : List ℕ) (p : ℕ) : Type 0 where
  pub row : Row
  pub listed : Memᴰ row rows
  pub lies : lies (size_of a) row p ≡ true
  pub marked : is_marked a b row ≡ true
  pub shown : is_shown a b row ≡ true

module _ (a b : List ℕ) (w : OneEdition a b) where
  pub differing_word : (p : ℕ) → p < length a → (get_or a p 0 ≡ get_or b p 0 → ⊥) → MarkedAt a b p
  differing_word p h d =
      let ts = size_of a in
      let r = row_of_place ts (size_low (length a)) (size-high (length a)) p (rw (table-long a w.first) at h) in
      let m = marked_by ts a b (runs_in a) (runs_in b) r.row p r.lies d in
      record { row = r.row; listed = r.listed; lies = r.lies; marked = m; shown = marked-shown ts a b (runs_in a) (runs_in b) r.row m }

  -- ---- a row that isn't marked has equal words, and two equal texts

  few : Few a b w.same (size_of a) (size_low (length a)) (runs_in a) (runs_in b)
  unfolding Few
  few = fifo_few a w.first

  pub unmarked_same : (r : Row) → is_marked a b r ≡ false
      → ((p : ℕ) → lies (size_of a) r p ≡ true → get_or a p 0 ≡ get_or b p 0) × (cell (size_of a) a (runs_in a) r ≡ cell (size_of a) b (runs_in b) r)
  unmarked_same r m =
      let u = unmarked (size_of a) a b (runs_in a) (runs_in b) r m in (
        λ p i. none-differs a b (covers (size_of a) r) p u.words i,
        cell_same a b w.same (size_of a) (size_low (length a)) (runs_in a) (runs_in b) r few u,
      )

  -- ---- a marked row differs: a word that it covers, or its two texts

  -- one table alone uses it
  used-apart : (r : Row) → (used a r ≡ used b r → ⊥) → cell (size_of a) a (runs_in a) r ≡ cell (size_of a) b (runs_in b) r → ⊥
  unfolding cell
  used-apart r d e =
      bool_case (used a r)
      (λ p. bool_case (used b r) (λ q. d (p ∙ sym q)) (λ q. never_unused (size_of a) a (runs_in a) r (rw (p, q) at e)))
      (λ p. bool_case (used b r) (λ q. never_unused (size_of a) b (runs_in b) r (sym (rw (p, q) at e))) (λ q. d (p ∙ sym q)))

  -- both use it, its words are equal, and what its text says beside them differs
  more_apart : (r : Row) → used a r ≡ true → used b r ≡ true → differs a b (covers (size_of a) r) ≡ false → more_differs (size_of a) a b (runs_in a) (runs_in b) r ≡ true
      → used_text (size_of a) a (runs_in a) r ≡ used_text (size_of a) b (runs_in b) r → ⊥
  unfolding Same covers hub_record_at more_differs next task_record_at used used_text
  more_apart Contents p q d m e = false≢true m
  more_apart ReadyList p q d m e =
      let l = numbers (part (ready_at (size_of a)) 16 a) in
      let l' = numbers (part (ready_at (size_of a)) 16 b) in
      let one : l ≡ l' = ap numbers (part_same a b w.same (ready_at (size_of a)) 16 (one-run a b (ready_at (size_of a)) 16 d)) in
      let ra : runs_in a ≡ first_free (state_of a) l = ap (first_free (state_of a)) (ready_is a) in
      let rb : runs_in b ≡ first_free (state_of b) l = ap (first_free (state_of b)) (ready_is b ∙ rw (sym w.same) (sym one)) in
      let said : tasks_text (first_free (state_of a) l) l ≡ tasks_text (first_free (state_of b) l) l = rw (ra, rb, ← one) at e in
      let same : runs_in a ≡ runs_in b = ra ∙ runs_said (state_of a) (state_of b) l said ∙ sym rb in
      false≢true (rw (eq-eqb (runs_in a) (runs_in b) same) at m)
  more_apart (State i) p q d m e = false≢true m
  more_apart (Priority i) p q d m e =
      let k = 8 + i * size_of a + 2 in
      let own : get_or a k 0 ≡ get_or b k 0 = one-run a b k 1 d k (omega arith) (omega arith) in
      let same = priority_said (get_or a k 0) (get_or b k 0) (effective (state_of a) i) (effective (state_of b) i) own e in
      false≢true (rw (eq-eqb (effective (state_of a) i) (effective (state_of b) i) same) at m)
  more_apart (Answer i) p q d m e = false≢true m
  more_apart (Kind h) p q d m e = false≢true m
  more_apart (Holds h) p q d m e =
      let k = hubs_at (size_of a) + h * 4 in
      let s = some-differs a b k 1 m in
      let here : s.place ≡ k = omega (arith, s.low, s.high) in
      let first = kind_known a w.first h (ltb-true h (get_or a 2 0) p) in
      let second : (1 ≤ get_or b k 0) × (get_or b k 0 ≤ 7) = rw (← w.same) at (kind_known b w.second h (ltb-true h (get_or b 2 0) q)) in
      let said = ap kind_said e in
      s.differ (rw here (sym (kind_said_lem _ a _ _ first.0 first.1) ∙ said ∙ kind_said_lem _ b _ _ second.0 second.1))
  more_apart (Waiting h) p q d m e = false≢true m

  -- neither uses it: then there is nothing that its text could say beside its words
  unused_apart : (r : Row) → Memᴰ r rows → used a r ≡ false → used b r ≡ false → more_differs (size_of a) a b (runs_in a) (runs_in b) r ≡ true → ⊥
  unfolding more_differs used
  unused_apart Contents l p q m = false≢true m
  unused_apart ReadyList l p q m = false≢true (sym p)
  unused_apart (State i) l p q m = false≢true m
  unused_apart (Priority i) l p q m =
      let first = key_unused a i (ltb-false i (get_or a 1 0) p) in
      let second = key_unused b i (ltb-false i (get_or b 1 0) q) in
      false≢true (rw (eq-eqb (effective (state_of a) i) (effective (state_of b) i) (first ∙ sym second)) at m)
  unused_apart (Answer i) l p q m = false≢true m
  unused_apart (Kind h) l p q m = false≢true m
  unused_apart (Holds h) l p q m =
      let k = hubs_at (size_of a) + h * 4 in
      let s = some-differs a b k 1 m in
      let here : s.place ≡ k = omega (arith, s.low, s.high) in
      let low : h < 16 = row_few (Holds h) l in
      let first = kind_unused a w.first h low (ltb-false h (get_or a 2 0) p) in
      let second : get_or b k 0 ≡ 0 = rw (← w.same) at (kind_unused b w.second h low (ltb-false h (get_or b 2 0) q)) in
      s.differ (rw here (first ∙ sym second))
  unused_apart (Waiting h) l p q m = false≢true m

  pub marked_differs : (r : Row) → Memᴰ r rows → is_marked a b r ≡ true
      → Differing a b (covers (size_of a) r) ⊎ (cell (size_of a) a (runs_in a) r ≡ cell (size_of a) b (runs_in b) r → ⊥)
  unfolding apart cell marked
  marked_differs r l m =
      bool_case (differs a b (covers (size_of a) r))
      (λ d. inl (some-differ a b (covers (size_of a) r) d))
      (λ d.
      inr
      (λ e.
      bool_case (used a r)
      (λ p.
      bool_case (used b r)
      (λ q. more_apart r p q d (rw (p, q, d) at m) (rw (p, q) at e))
      (λ q. used-apart r (λ z. false≢true (sym q ∙ sym z ∙ p)) e))
      (λ p.
      bool_case (used b r)
      (λ q. used-apart r (λ z. false≢true (sym p ∙ z ∙ q)) e)
      (λ q. unused_apart r l p q (rw (p, q, d) at m)))))

  -- both ways: a row is marked exactly if a word that it covers differs, or its two texts differ
  pub marked-exactly : (r : Row) → Memᴰ r rows
      → is_marked a b r ≡ true ↔ (Differing a b (covers (size_of a) r) ⊎ (cell (size_of a) a (runs_in a) r ≡ cell (size_of a) b (runs_in b) r → ⊥))
  marked-exactly r l = (
    marked_differs r l,
    λ why.
        bool_case (is_marked a b r)
        (λ m. m)
        (λ m.
        let u = unmarked_same r m in
        absurd (⊎_elim (λ s. s.differ (u.0 s.place s.lies)) (λ d. d u.1) why)),
  )

  -- ---- no row is marked: the tables are equal

  pub no_mark_same : marks_of a b ≡ 0 → a ≡ b
  no_mark_same none =
      ext_get_or 0 a b w.same
      (λ p h.
      bool_case (eqb (get_or a p 0) (get_or b p 0))
      (λ q. eqb-true (get_or a p 0) (get_or b p 0) q)
      (λ q.
      let r = differing_word p h (eqb-false (get_or a p 0) (get_or b p 0) q) in
      absurd (false≢true (sym (unmarked_all (size_of a) a b (runs_in a) (runs_in b) rows none r.row r.listed) ∙ r.marked))))

  -- ---- the marked rows and M-106's entries

  -- the place of an entry lies in a marked row that is shown
  pub entry_marked : (e : Entry) → Memᴰ e (entries a b) → MarkedAt a b e.place
  entry_marked e m =
      let d = listed-differs a b e m in
      differing_word e.place d.first (λ q. d.differ (d.old ∙ q ∙ sym d.new))

  -- a row that covers a differing word has the entry of one
  pub record EntryIn (r : Row) : Type 0 where
    pub entry : Entry
    pub listed : Memᴰ entry (entries a b)
    pub lies : lies (size_of a) r entry.place ≡ true

  pub differing_entry : (r : Row) → Differing a b (covers (size_of a) r) → EntryIn r
  differing_entry r s =
      let p = s.place in
      bool_case (ltb p (length a))
      (λ q.
      let h = ltb-true p (length a) q in
      record {
        entry = record { place = p; old = get_or a p 0; new = get_or b p 0 };
        listed = differs-listed a b p h (omega (arith, w.same)) s.differ;
        lies = s.lies;
      })
      (λ q.
      let h = ltb-false p (length a) q in
      absurd (s.differ (get_or-eq_default a 0 {n = p} h ∙ sym (get_or-eq_default b 0 {n = p} (omega (arith, w.same))))))

-- ---- in tables of words of 32 bits no text has 65,536 bytes: so 8 is given exactly if the caller's buffer is shorter than the text

module _ (a b : List ℕ) (w : OneEdition a b) (low-a : (k : ℕ) → get_or a k 0 < 4294967296) (low-b : (k : ℕ) → get_or b k 0 < 4294967296) where
  pub text_short : length (text_of a b) ≤ 65535
  text_short =
      text_most_lem (size_of a) a b
      (record { low = low-a; few = fifo_few a w.first; keys = key-low a low-a })
      (record { low = low-b; few = rw (← w.same) at (fifo_few b w.second); keys = key-low b low-b })
      (runs_in a) (runs_in b) row_few

-- ---- the cells speak of the state that the table holds: a task's record, a hub's waiting list (of the ready list: `ready_is`)

pub record SameTask (x : TaskRecord) (y : Task) : Type 0 where
  pub state : x.state ≡ y.state
  pub suspended : x.suspended ≡ y.suspended
  pub priority : x.priority ≡ y.priority
  pub hub : x.hub ≡ y.hub
  pub ticks : x.ticks ≡ y.ticks
  pub side : x.side ≡ y.side

module _ (t : List ℕ) where
  pub task_of-state : (i : ℕ) → i < get_or t 1 0 → SameTask (task_record_at (size_of t) t i) (task (state_of t) i)
  unfolding RulesTable.task_at task_record_at
  task_of-state i h =
      let L = edition_of t in
      let word : (k : ℕ) → get_or t (8 + i * size_of t + k) 0 ≡ get_or t (tasks_at + i * task_size L + k) 0 = λ k. ap (λ (n : ℕ). get_or t (8 + i * n + k) 0) (laid t).size in
      let first : get_or t (8 + i * size_of t) 0 ≡ get_or t (tasks_at + i * task_size L + 0) 0 = ap (λ (n : ℕ). get_or t n 0) (sym (add-zero (8 + i * size_of t))) ∙ word 0 in
      rw (read-task L t i h)
      (record { state = first; suspended = word 1; priority = word 2; hub = word 3; ticks = word 4; side = word 5 })

  pub waiting_of_state : (h : ℕ) → h < get_or t 2 0 → numbers (part (waits_at (size_of t) + h * 16) 16 t) ≡ (hub (state_of t) h).waiters
  unfolding hub_at
  waiting_of_state h here =
      let L = edition_of t in
      let place : waits_at (size_of t) + h * 16 ≡ RulesTable.waits_at L + h * 16 = omega (arith, (laid t).size) in
      rw (read-hub L t h here) (ap (λ (p : ℕ). numbers (part p 16 t)) place)

-- ---- a table against itself

-- no row is marked
pub same_no_mark : (t : List ℕ) → marks_of t t ≡ 0
same_no_mark t = self_no_mark (size_of t) t (runs_in t) rows

-- ---- what is given back

-- every refusal number of two tables is a refusal's
shown-coded : (a b text : List ℕ) → coded (refusal_for (pair_refusal a b) (text_of a b) (length text)) ≡ true
unfolding pair_refusal refusal_for refusal_with table_refusal
shown-coded a b text =
    let pair : coded (pair_refusal a b) ≡ true =
    need-all coded _ 1 _ refl (need-all coded _ 2 _ refl (need-all coded _ 1 _ refl (need-all coded _ 2 _ refl (need-all coded _ 13 0 refl refl)))) in
    bool_case (eqb (pair_refusal a b) 0) (λ q. rw q (need-all coded _ 8 0 refl refl)) (λ q. rw q pair)

nothing_given : (n len marks : ℕ) → (n ≡ 0 → ⊥)
    → (length_given (given n (record { length = len; marked = marks })) ≡ 0) × (marked_given (given n (record { length = len; marked = marks })) ≡ 0)
unfolding given
nothing_given zero len marks d = absurd (d refl)
nothing_given (suc n) len marks d = (refl, refl)

module _ (a b text : List ℕ) (r : Result Shown Refusal) (text' : List ℕ) (c : Shows a b text r text') where
  pub refusal_is : refusal_number r ≡ refusal_for (pair_refusal a b) (text_of a b) (length text)
  unfolding reply_for
  refusal_is = ap refusal_number c.reply ∙ given-number _ _ (shown-coded a b text)

  -- "A refusal writes nothing" and gives 0 and 0
  pub refused_leaves : (refusal_number r ≡ 0 → ⊥) → (length_given r ≡ 0) × (marked_given r ≡ 0) × (text' ≡ text)
  unfolding reply_for text_after
  refused_leaves d =
      let n = refusal_for (pair_refusal a b) (text_of a b) (length text) in
      let some : n ≡ 0 → ⊥ = λ z. d (refusal_is ∙ z) in
      let given = nothing_given n (length (text_of a b)) (marks_of a b) some in
      (ap length_given c.reply ∙ given.0, ap marked_given c.reply ∙ given.1, rw (ne_eqb n 0 some) at c.bytes)

  pub shown_given : refusal_number r ≡ 0 → (length_given r ≡ length (text_of a b)) × (marked_given r ≡ marks_of a b)
  unfolding reply_for
  shown_given z =
      let same = c.reply ∙ given_0 _ _ (sym refusal_is ∙ z) in
      (ap length_given same, ap marked_given same)
