-- The words of two tables that rows cover. In order: a run of words; the runs of a row; that every place of a table lies in exactly one
-- row; what an unmarked row says of the words, and where a differing word is marked; rows none of which is marked; a table against itself.
-- Not here: the texts (crate rowtexts), and the promises (crate sidebyside). Assumes nothing.
use Prim.Native.Nat.{◌*◌, ◌+◌, ◌<◌, ◌≤◌, suc, zero, ℕ}
use Rattle.lists.proofs.Laws.{bool_case}
use Rattle.lists.specs.Lists.{bit}
use Rattle.records.specs.Records.{hubs_at, ready_at, store_size, stores_at, table_size, waits_at, width}
use Rattle.rows.specs.Rows.{Range, apart, covers, differ, differs, hub_rows, in_ranges, lies, marked, marked_in, more_differs, range, rows, shown, task_rows, used}
use Rattle.rows.specs.declared.Row.TheVariants.{Answer, Contents, Holds, Kind, Priority, ReadyList, State, Waiting}
use Rattle.rows.specs.declared.Row.{Row}
use Rattle.rules.specs.Effective.{effective}
use Rattle.rules.specs.Table.{state_of}
use borrow.Author.Tests.{eq-eqb, eqb-false, eqb-true, le-leb, le-ltb, leb-false, leb-true, lt-ltb, ltb-true}
use lib.Dec.{eqb, leb, ltb}
use lib.ListN.{get_or}
use mathlib.Core.Bool.{◌&&◌, false, false≢true, true}
use mathlib.Core.List.Memᴰ
use mathlib.Core.List.{List, Memᴰ, [], ◌++◌, ◌∷◌}
use mathlib.Core.Logic.{⊎_elim}
use mathlib.Core.Path.{◌∙◌, ◌≡◌, refl, sym}
use native.Mathlib.Nat.{suc-mul}
use native.Mathlib.Omega.{arith}

-- ---- a run of words

module _ (a b : List ℕ) where
  pub none_differ : (p n k : ℕ) → differ a b p n ≡ false → p ≤ k → k < p + n → get_or a k 0 ≡ get_or b k 0
  unfolding differ
  none_differ p zero k e lo hi = absurd (omega arith)
  none_differ p (suc n) k e lo hi =
      bool_case (eqb (get_or a p 0) (get_or b p 0))
      (λ q.
      bool_case (eqb p k)
      (λ h. rw (← eqb-true p k h) (eqb-true (get_or a p 0) (get_or b p 0) q))
      (λ h. none_differ (suc p) n k (rw q at e) (omega (arith, eqb-false p k h)) (omega arith)))
      (λ q. absurd (false≢true (sym (rw q at e))))

  -- a word that differs
  pub record Spot (p n : ℕ) : Type 0 where
    pub place : ℕ
    pub low : p ≤ place
    pub high : place < p + n
    pub differ : get_or a place 0 ≡ get_or b place 0 → ⊥

  pub some-differs : (p n : ℕ) → differ a b p n ≡ true → Spot p n
  unfolding differ
  some-differs p zero e = absurd (false≢true e)
  some-differs p (suc n) e =
      bool_case (eqb (get_or a p 0) (get_or b p 0))
      (λ q.
      let s = some-differs (suc p) n (rw q at e) in
      record { place = s.place; low = omega (arith, s.low); high = omega (arith, s.high); differ = s.differ })
      (λ q. record { place = p; low = omega arith; high = omega arith; differ = eqb-false (get_or a p 0) (get_or b p 0) q })

-- ---- the runs of a row

inside : (r : Range) (k : ℕ) → (leb r.from k && ltb k (r.from + r.count)) ≡ true → (r.from ≤ k) × (k < r.from + r.count)
inside r k e =
    bool_case (leb r.from k)
    (λ q. (leb-true r.from k q, ltb-true k (r.from + r.count) (rw q at e)))
    (λ q. absurd (false≢true (rw q at e)))

outside : (r : Range) (k : ℕ) → r.from ≤ k → k < r.from + r.count → (leb r.from k && ltb k (r.from + r.count)) ≡ true
outside r k lo hi = rw (le-leb r.from k lo, lt-ltb k (r.from + r.count) hi) refl

module _ (a b : List ℕ) where
  pub none-differs : (rs : List Range) (k : ℕ) → differs a b rs ≡ false → in_ranges rs k ≡ true → get_or a k 0 ≡ get_or b k 0
  unfolding differs in_ranges
  none-differs [] k e i = absurd (false≢true i)
  none-differs (r ∷ rs) k e i =
      bool_case (differ a b r.from r.count)
      (λ d. absurd (false≢true (sym (rw d at e))))
      (λ d.
      bool_case (leb r.from k && ltb k (r.from + r.count))
      (λ q. let w = inside r k q in none_differ a b r.from r.count k d w.0 w.1)
      (λ q. none-differs rs k (rw d at e) (rw q at i)))

  -- a place of these runs at which the words differ
  pub record Differing (rs : List Range) : Type 0 where
    pub place : ℕ
    pub lies : in_ranges rs place ≡ true
    pub differ : get_or a place 0 ≡ get_or b place 0 → ⊥

  pub some-differ : (rs : List Range) → differs a b rs ≡ true → Differing rs
  unfolding differs in_ranges
  some-differ [] e = absurd (false≢true e)
  some-differ (r ∷ rs) e =
      bool_case (differ a b r.from r.count)
      (λ d.
      let s = some-differs a b r.from r.count d in
      record { place = s.place; lies = rw (outside r s.place s.low s.high) refl; differ = s.differ })
      (λ d.
      let s = some-differ rs (rw d at e) in
      record {
        place = s.place;
        lies = bool_case (leb r.from s.place && ltb s.place (r.from + r.count)) (λ q. rw q refl) (λ q. rw q s.lies);
        differ = s.differ;
      })

-- ---- every place of a table lies in exactly one row

-- in how many rows
unfoldable pub times : ℕ → ℕ → List Row → ℕ
times ts p [] = 0
times ts p (r ∷ rs) = bit (lies ts r p) + times ts p rs

-- 1 where p stands before place k. A run holds p just where this grows along it, so runs that follow one another add up
unfoldable before : ℕ → ℕ → ℕ
before p k = bit (ltb p k)

module _ (p : ℕ) where
  is_before : (k : ℕ) → p < k → before p k ≡ 1
  unfolding before
  is_before k h = rw (lt-ltb p k h) refl

  not_before : (k : ℕ) → k ≤ p → before p k ≡ 0
  unfolding before
  not_before k h = rw (le-ltb p k h) refl

  in_run : (k n : ℕ) → bit (leb k p && ltb p (k + n)) + before p k ≡ before p (k + n)
  unfolding before
  in_run k n =
      bool_case (leb k p)
      (λ q. rw (q, le-ltb p k (leb-true k p q)) (omega arith))
      (λ q.
      let h : p < k = leb-false k p q in
      rw (q, lt-ltb p k h, lt-ltb p (k + n) (omega arith)) refl)

  in_one : (k n : ℕ) → bit (in_ranges (range k n ∷ []) p) + before p k ≡ before p (k + n)
  unfolding in_ranges
  in_one k n =
      bool_case (leb k p && ltb p (k + n))
      (λ q. rw q (rw q at (in_run k n)))
      (λ q. rw q (rw q at (in_run k n)))

  -- two runs, the second behind the first
  in_two : (j m k n : ℕ) → j + m ≤ k → bit (in_ranges (range j m ∷ range k n ∷ []) p) + before p j + before p k ≡ before p (j + m) + before p (k + n)
  unfolding in_ranges
  in_two j m k n h =
      bool_case (leb j p && ltb p (j + m))
      (λ q.
      let one : bit true + before p j ≡ before p (j + m) = rw q at (in_run j m) in
      let near : p < k = omega (arith, (inside (range j m) p q).1) in
      rw q (omega (arith, is_before k near, is_before (k + n) (omega arith))))
      (λ q.
      let one : bit false + before p j ≡ before p (j + m) = rw q at (in_run j m) in
      rw q (omega (arith, in_one k n)))

  same : (j k : ℕ) → j ≡ k → before p j ≡ before p k
  same j k e = rw e refl

  module _ (ts : ℕ) where
    -- the rows of tasks i to j-1 hold the places of their records
    in_tasks : 8 ≤ ts → (n i j : ℕ) (rs : List Row) → j ≡ i + n → times ts p (task_rows n i ++ rs) + before p (8 + i * ts) ≡ before p (8 + j * ts) + times ts p rs
    unfolding covers task_rows times
    in_tasks low zero i j rs e = let f : j ≡ i = omega arith in rw f (omega arith)
    in_tasks low (suc n) i j rs e =
        let at : ℕ = 8 + i * ts in
        omega (
          arith,
          in_two at 2 (at + 3) 3 (omega arith),
          in_one (at + 2) 1,
          in_one (at + 6) (width ts + 1),
          same (at + 2 + 1) (at + 3) (omega arith),
          same (at + 3 + 3) (at + 6) (omega arith),
          same (at + 6 + (width ts + 1)) (8 + suc i * ts) (omega (arith, suc-mul i ts)),
          in_tasks low n (suc i) j rs (omega arith),
        )

    -- the rows of hubs h to j-1 hold the places of their records, of their waiting lists and of their stores
    in_hubs : (n h j : ℕ) → j ≡ h + n → j ≤ 16
        → times ts p (hub_rows n h) + before p (hubs_at ts + h * 4) + before p (waits_at ts + h * 16) + before p (stores_at ts + h * store_size ts)
        ≡ before p (hubs_at ts + j * 4) + before p (waits_at ts + j * 16) + before p (stores_at ts + j * store_size ts)
    unfolding covers hub_rows times
    in_hubs zero h j e few = let f : j ≡ h = omega arith in rw f (omega arith)
    in_hubs (suc n) h j e few =
        let at : ℕ = hubs_at ts + h * 4 in
        let waits : ℕ = waits_at ts + h * 16 in
        let store : ℕ = stores_at ts + h * store_size ts in
        omega (
          arith,
          in_two at 1 (at + 2) 2 (omega arith),
          in_two (at + 1) 1 store (store_size ts) (omega arith),
          in_one waits 16,
          same (at + 1 + 1) (at + 2) (omega arith),
          same (at + 2 + 2) (hubs_at ts + suc h * 4) (omega arith),
          same (waits + 16) (waits_at ts + suc h * 16) (omega arith),
          same (store + store_size ts) (stores_at ts + suc h * store_size ts) (omega (arith, suc-mul h (store_size ts))),
          in_hubs n (suc h) j (omega arith) few,
        )

pub once : (ts : ℕ) → 8 ≤ ts → ts ≤ 9 → (p : ℕ) → p < table_size ts → times ts p rows ≡ 1
unfolding covers rows times
once ts low high p h =
    omega (
      arith,
      not_before p 0 (omega arith),
      in_one p 0 8,
      same p 8 (8 + 0 * ts) (omega arith),
      in_tasks p ts low 16 0 16 (hub_rows 16 0) refl,
      same p (8 + 16 * ts) (hubs_at ts + 0 * 4) (omega arith),
      in_hubs p ts 16 0 16 refl (omega arith),
      same p (hubs_at ts + 16 * 4) (ready_at ts) (omega arith),
      in_one p (ready_at ts) 16,
      same p (ready_at ts + 16) (waits_at ts + 0 * 16) (omega arith),
      same p (waits_at ts + 16 * 16) (stores_at ts + 0 * store_size ts) (omega arith),
      is_before p (table_size ts) h,
    )

-- so there is such a row
pub record RowOf (ts p : ℕ) (rs : List Row) : Type 0 where
  pub row : Row
  pub listed : Memᴰ row rs
  pub lies : lies ts row p ≡ true

row_of : (ts p : ℕ) (rs : List Row) → 1 ≤ times ts p rs → RowOf ts p rs
unfolding times
row_of ts p [] h = absurd (omega arith)
row_of ts p (r ∷ rs) h =
    bool_case (lies ts r p)
    (λ q. record { row = r; listed = Memᴰ.head refl; lies = q })
    (λ q.
    let more : 1 ≤ bit false + times ts p rs = rw q at h in
    let s = row_of ts p rs (omega arith) in
    record { row = s.row; listed = Memᴰ.tail s.listed; lies = s.lies })

pub row_of_place : (ts : ℕ) → 8 ≤ ts → ts ≤ 9 → (p : ℕ) → p < table_size ts → RowOf ts p rows
row_of_place ts low high p h = row_of ts p rows (omega (arith, once ts low high p h))

-- ---- marks

module _ (ts : ℕ) (a b : List ℕ) (ra rb : ℕ) (r : Row) where
  -- what an unmarked row says
  pub record Unmarked : Type 0 where
    pub used : used a r ≡ used b r
    pub words : differs a b (covers ts r) ≡ false
    pub more : more_differs ts a b ra rb r ≡ false

  unapart : apart ts a b ra rb r ≡ false → (differs a b (covers ts r) ≡ false) × (more_differs ts a b ra rb r ≡ false)
  unfolding apart
  unapart e =
      bool_case (differs a b (covers ts r))
      (λ d. absurd (false≢true (sym (rw d at e))))
      (λ d. (d, rw d at e))

  pub unmarked : marked ts a b ra rb r ≡ false → Unmarked
  unfolding marked
  unmarked e =
      bool_case (used a r)
      (λ p.
      bool_case (used b r)
      (λ q. let w = unapart (rw (p, q) at e) in record { used = p ∙ sym q; words = w.0; more = w.1 })
      (λ q. absurd (false≢true (sym (rw (p, q) at e)))))
      (λ p.
      bool_case (used b r)
      (λ q. absurd (false≢true (sym (rw (p, q) at e))))
      (λ q. let w = unapart (rw (p, q) at e) in record { used = p ∙ sym q; words = w.0; more = w.1 }))

  pub marked_by : (p : ℕ) → lies ts r p ≡ true → (get_or a p 0 ≡ get_or b p 0 → ⊥) → marked ts a b ra rb r ≡ true
  marked_by p i d =
      bool_case (marked ts a b ra rb r)
      (λ m. m)
      (λ m. absurd (d (none-differs a b (covers ts r) p (unmarked m).words i)))

  pub marked-shown : marked ts a b ra rb r ≡ true → shown ts a b ra rb r ≡ true
  unfolding shown
  marked-shown m =
      bool_case (used a r)
      (λ p. rw p refl)
      (λ p. bool_case (used b r) (λ q. rw (p, q) refl) (λ q. rw (p, q) m))

-- ---- rows none of which is marked

module _ (ts : ℕ) (a b : List ℕ) (ra rb : ℕ) where
  pub unmarked_all : (rs : List Row) → marked_in ts a b ra rb rs ≡ 0 → (r : Row) → Memᴰ r rs → marked ts a b ra rb r ≡ false
  unfolding marked_in
  unmarked_all [] e r m = absurd (Memᴰ.not-nil m)
  unmarked_all (x ∷ rs) e r m =
      bool_case (marked ts a b ra rb x)
      (λ q. absurd (let z : bit true + marked_in ts a b ra rb rs ≡ 0 = rw q at e in omega arith))
      (λ q.
      let z : bit false + marked_in ts a b ra rb rs ≡ 0 = rw q at e in
      ⊎_elim (λ s. rw s q) (λ s. unmarked_all rs (omega arith) r s) (Memᴰ.cases_cons m))

-- ---- a table against itself

differ_self : (t : List ℕ) (p n : ℕ) → differ t t p n ≡ false
unfolding differ
differ_self t p zero = refl
differ_self t p (suc n) = rw (eq-eqb (get_or t p 0) (get_or t p 0) refl) (differ_self t (suc p) n)

differs_self : (t : List ℕ) (rs : List Range) → differs t t rs ≡ false
unfolding differs
differs_self t [] = refl
differs_self t (r ∷ rs) = rw (differ_self t r.from r.count) (differs_self t rs)

more_self : (ts : ℕ) (t : List ℕ) (ra : ℕ) (r : Row) → more_differs ts t t ra ra r ≡ false
unfolding more_differs
more_self ts t ra Contents = refl
more_self ts t ra ReadyList = rw (eq-eqb ra ra refl) refl
more_self ts t ra (State i) = refl
more_self ts t ra (Priority i) = rw (eq-eqb (effective (state_of t) i) (effective (state_of t) i) refl) refl
more_self ts t ra (Answer i) = refl
more_self ts t ra (Kind h) = refl
more_self ts t ra (Holds h) = differ_self t (hubs_at ts + h * 4) 1
more_self ts t ra (Waiting h) = refl

self_unmarked : (ts : ℕ) (t : List ℕ) (ra : ℕ) (r : Row) → marked ts t t ra ra r ≡ false
unfolding apart marked
self_unmarked ts t ra r =
    let same : apart ts t t ra ra r ≡ false = rw (differs_self t (covers ts r)) (more_self ts t ra r) in
    bool_case (used t r) (λ q. rw q same) (λ q. rw q same)

pub self_no_mark : (ts : ℕ) (t : List ℕ) (ra : ℕ) (rs : List Row) → marked_in ts t t ra ra rs ≡ 0
unfolding marked_in
self_no_mark ts t ra [] = refl
self_no_mark ts t ra (r ∷ rs) = rw (self_unmarked ts t ra r) (omega (arith, self_no_mark ts t ra rs))
