-- A turn of each loop of this crate, and its end. In order: a list's walk by the word at its place; an entry by its task's
-- words; a task's record by its words and by its state; the marks; a walk of 16 words (`Walking`).
-- Not here: laws of `packed`, `all_zero` and `numbers` alone (crate lists); the hubs (Hubs.antt). Assumes nothing.
use Prim.Native.Nat.{◌*◌, ◌+◌, ◌-◌, ◌<◌, ◌≤◌, pred, suc, zero-le, ℕ}
use Rattle.bodies.proofs.Entries.{entry_hub, entry_side}
use Rattle.bodies.proofs.Parts.{so_many, to_end}
use Rattle.lists.proofs.Counting.{occ_most}
use Rattle.lists.proofs.Laws.{bool_case, length-numbers}
use Rattle.lists.specs.Lists.{all_zero, bit, numbers, occ}
use Rattle.messages.proofs.Laws.{at_one, at-two}
use Rattle.messages.specs.Messages.{message_at}
use Rattle.rules.proofs.Cases.{and_l, and_r}
use Rattle.rules.proofs.Layouts.{Laid}
use Rattle.rules.proofs.Numbers.{no_stage}
use Rattle.rules.proofs.Reading.{read-hub, read-task, read-tasks}
use Rattle.rules.specs.Table.{Hub, Layout, Ready, State, Task, Waiting, hub, hub_at, hubs_at, read, stage_of, task_at, task_size, tasks_at}
use Rattle.rules.specs.WellFormed.{fields_right, stage_right}
use Rattle.wellformed.specs.Walks.{Marked, Marks, listed, meets, record_of, record_right, rest_right, task_right, walks}
use borrow.Author.Tests.{eq-eqb, eqb-false, eqb-true, le-leb, leb-true, lt-leb, ltb-false, ltb-true, ne_eqb}
use lib.Dec.{eqb, leb, ltb}
use lib.ListN.{drop, drop_of_length-le, get_or, length, length-set, set, take}
use lib.Seq.{drop-cons, get_or-drop, get_or-set_other, get_or-set_same, get_or-take}
use mathlib.Core.Bool.{Bool, ◌&&◌, ◌||◌, and_assoc, and-false, and_self, and-true, false, false≢true, not, or-true, true}
use mathlib.Core.List.{List, [], ◌∷◌}
use mathlib.Core.Path.{◌∙◌, ◌≡◌, ap, refl, sym}
use native.Mathlib.Nat.{add_assoc, add-zero}
use native.Mathlib.Numerals.{add-one}
use native.Mathlib.Omega.{arith}

-- ---- a list's walk from place k on, by the word there

module _ (l : List ℕ) (k : ℕ) (h : k < length l) where
  module _ (s : State) (a d owner : ℕ) where
    walks_end : get_or l k 0 ≡ 0 → walks s a d owner (drop k l) ≡ all_zero (drop k l)
    unfolding all_zero walks
    walks_end e = rw (drop-cons l k 0 h, eq-eqb (get_or l k 0) 0 e)

    walks_turn : (get_or l k 0 ≡ 0 → ⊥) → walks s a d owner (drop k l) ≡ (meets s a d owner (get_or l k 0) && walks s a d owner (drop (suc k) l))
    unfolding walks
    walks_turn n = rw (drop-cons l k 0 h, ne_eqb (get_or l k 0) 0 n)

  pub numbers_end : get_or l k 0 ≡ 0 → numbers (drop k l) ≡ []
  unfolding numbers
  numbers_end e = rw (drop-cons l k 0 h, eq-eqb (get_or l k 0) 0 e)

  numbers_turn : (get_or l k 0 ≡ 0 → ⊥) → numbers (drop k l) ≡ pred (get_or l k 0) ∷ numbers (drop (suc k) l)
  unfolding numbers
  numbers_turn n = rw (drop-cons l k 0 h, ne_eqb (get_or l k 0) 0 n)

-- ---- an entry, by the words of its task's record, which starts at word b

-- what the code tests of an entry that is a task in use
abbrev fits : List ℕ → ℕ → ℕ → ℕ → ℕ → ℕ → Bool
fits t b a d owner e = eqb (get_or t (b + 3) 0) a && (eqb (get_or t (b + 5) 0) d && not (eqb e owner))

module _ {ts : ℕ} (L : Layout) (y : Laid ts L) (t : List ℕ) (e b : ℕ) (n : e ≡ 0 → ⊥) (u : e ≤ get_or t 1 0) (at : b ≡ 8 + (e - 1) * ts) where
  pub meets-words : (a d owner : ℕ) → meets (read L t) a d owner e ≡ fits t b a d owner e
  unfolding meets
  meets-words a d owner = rw (read-tasks L t, le-leb e (get_or t 1 0) u, entry_hub L y t e b n u at, entry_side L y t e b n u at)

pub meets_far : (L : Layout) (t : List ℕ) (a d owner e : ℕ) → get_or t 1 0 < e → meets (read L t) a d owner e ≡ false
unfolding meets
meets_far L t a d owner e h = rw (read-tasks L t, lt-leb e (get_or t 1 0) h)

-- ---- a task's record by its words, and the kind of the hub that it names

or_l : (a b : Bool) → (a || b) ≡ false → a ≡ false
or_l true b e = e
or_l false b e = refl

or_r : (a b : Bool) → (a || b) ≡ false → b ≡ false
or_r true b e = absurd (false≢true (sym e))
or_r false b e = e

pub hub-kind : (L : Layout) (t : List ℕ) (n b : ℕ) → (n ≡ 0 → ⊥) → n ≤ get_or t 2 0 → b + 4 ≡ hubs_at L + n * 4 → (hub (read L t) (pred n)).kind ≡ get_or t b 0
unfolding hub_at
hub-kind L t n b z u at =
    let q : hubs_at L + pred n * 4 + 0 ≡ b = omega arith in
    ap (λ (x : Hub). x.kind) (read-hub L t (pred n) (omega arith)) ∙ ap (λ (k : ℕ). get_or t k 0) q

-- a message, by the words that it is read from
message_same : (w : ℕ) (l t : List ℕ) (p q : ℕ) → get_or l p 0 ≡ get_or t q 0 → (1 < w → get_or l (p + 1) 0 ≡ get_or t (q + 1) 0) → message_at w l p ≡ message_at w t q
message_same w l t p q e f =
    bool_case (ltb 1 w)
    (λ b. let h = ltb-true 1 w b in rw (at-two w h l p, at-two w h t q, e, f h))
    (λ b. let h = ltb-false 1 w b in rw (at_one w h l p, at_one w h t q, e))

-- the words of task i, as the code lends them, hold its record
module _ {ts : ℕ} (L : Layout) (y : Laid ts L) (t : List ℕ) (i b : ℕ) (u : i < get_or t 1 0) (at : b ≡ 8 + i * ts) where
  abbrev lent : List ℕ
  lent = take ts (drop b t)

  abbrev first : ℕ
  first = tasks_at + i * task_size L

  word : (k : ℕ) → k < ts → get_or lent k 0 ≡ get_or t (first + k) 0
  word k h = get_or-take ts (drop b t) k 0 h ∙ get_or-drop b t k 0 ∙ rw (at, y.size)

  message : L.message_from (λ k. get_or lent (6 + k) 0) ≡ L.message_from (λ k. get_or t (first + (6 + k)) 0)
  message =
      y.reads lent 6
      ∙ message_same L.width lent t 6 (first + 6) (word 6 (omega arith)) (λ h. word 7 (omega arith) ∙ ap (λ (k : ℕ). get_or t k 0) (sym (add_assoc first 6 1)))
      ∙ sym (y.reads t (first + 6))
      ∙ (λ j. L.message_from (λ k. get_or t (add_assoc first 6 k j) 0))

  same : record_of L lent ≡ task_at L t i
  unfolding task_at
  same = λ j. record {
    state = word 0 (omega arith) j;
    suspended = word 1 (omega arith) j;
    priority = word 2 (omega arith) j;
    hub = word 3 (omega arith) j;
    ticks = word 4 (omega arith) j;
    side = word 5 (omega arith) j;
    word = message j;
    answer = word (6 + L.width) (omega arith) j;
  }

  pub record_task : (mark : ℕ) → record_right (read L t) (record_of L (take (b + ts - b) (drop b t))) mark ≡ task_right (read L t) i mark
  unfolding task_right
  record_task mark = rw (read-task L t i u, so_many b ts t) (ap (λ (x : Task). record_right (read L t) x mark) same)

beyond : (n : ℕ) → (n ≡ 1 → ⊥) → (n ≡ 2 → ⊥) → (n ≡ 3 → ⊥) → (n ≡ 4 → ⊥) → 1 ≤ n → 4 < n
beyond n a b c d h = omega arith

module _ (s : State) (x : Task) (mark : ℕ) where
  pub record_range : fields_right x ≡ false → record_right s x mark ≡ false
  unfolding record_right
  record_range e = rw e

  pub record_stage : fields_right x ≡ true → (n : ℕ) → x.state ≡ n → record_right s x mark ≡ (stage_right (stage_of n) s x && eqb mark (listed n))
  unfolding record_right
  record_stage e n q = rw (e, q)

  -- one that isn't marked once, and is neither inactive nor asleep
  pub record_neither : fields_right x ≡ true → (mark ≡ 1 → ⊥) → (x.state ≡ 1 → ⊥) → (x.state ≡ 4 → ⊥) → record_right s x mark ≡ false
  unfolding record_right stage_right
  record_neither e m i k =
      bool_case (eqb x.state 2 || eqb x.state 3)
      (λ b. rw (b, ne_eqb mark 1 m, and-false, and-false))
      (λ b.
      let u = eqb-false x.state 2 (or_l _ _ b) in
      let v = eqb-false x.state 3 (or_r (eqb x.state 2) _ b) in
      rw (no_stage x.state (beyond x.state i u v k), and-false))

-- ---- a task that is marked once: flag and priority, then what is left, by its state

two_no : (a b r : Bool) → (a && b) ≡ false → (a && (b && r)) ≡ false
two_no true b r e = rw e
two_no false b r e = refl

three_no : (a b c r : Bool) → (a && (b && c)) ≡ false → (a && (b && (c && r))) ≡ false
three_no true b c r e = two_no b c r e
three_no false b c r e = refl

module _ (s : State) (x : Task) where
  abbrev flags : Bool
  flags = leb x.suspended 1 && leb x.priority 255

  pub listed_no : flags ≡ false → record_right s x 1 ≡ false
  unfolding fields_right record_right
  listed_no e = rw (two_no (leb x.suspended 1) (leb x.priority 255) (leb x.ticks 1000000 && leb x.answer 3) e)

  pub listed_as : flags ≡ true → (n : ℕ) → x.state ≡ n → listed n ≡ 1 → record_right s x 1 ≡ rest_right (stage_of n) s x
  unfolding fields_right record_right rest_right
  listed_as e n q w =
      ap (λ (k : ℕ). fields_right x && (stage_right (stage_of k) s x && eqb 1 (listed k))) q
      ∙ rw
      (and_l (leb x.suspended 1) (leb x.priority 255) e, and_r (leb x.suspended 1) (leb x.priority 255) e, w, and-true)
      (and_assoc (leb x.ticks 1000000) (leb x.answer 3) (stage_right (stage_of n) s x))

  pub listed_neither : (x.state ≡ 2 → ⊥) → (x.state ≡ 3 → ⊥) → record_right s x 1 ≡ false
  unfolding record_right
  listed_neither a b = rw (ne_eqb x.state 2 a, ne_eqb x.state 3 b, and-false, and-false)

  -- a ready one
  abbrev still : Bool
  still = eqb x.hub 0 && (eqb x.ticks 0 && eqb x.side 0)

  pub ready_no : still ≡ false → rest_right Ready s x ≡ false
  unfolding rest_right stage_right
  ready_no e =
      rw
      (three_no (eqb x.hub 0) (eqb x.ticks 0) (eqb x.side 0) (eqb x.answer 1 || eqb x.word 0) e, and-false, and-false)

  module _ (e : still ≡ true) where
    ready_as : rest_right Ready s x ≡ (leb x.answer 3 && (eqb x.answer 1 || eqb x.word 0))
    unfolding rest_right stage_right
    ready_as =
        let h = and_l (eqb x.hub 0) _ e in
        let r = and_r (eqb x.hub 0) _ e in
        let k = and_l (eqb x.ticks 0) _ r in
        let z = eqb-true x.ticks 0 k in
        rw
        (le-leb x.ticks 1000000 (omega (arith, z)), h, k, and_r (eqb x.ticks 0) _ r)

    pub ready-met : x.answer ≡ 1 → rest_right Ready s x ≡ true
    ready-met a = ready_as ∙ rw a

    pub ready_far : 3 < x.answer → rest_right Ready s x ≡ false
    ready_far a = ready_as ∙ rw (lt-leb x.answer 3 a)

    pub ready_bare : x.answer ≤ 3 → (x.answer ≡ 1 → ⊥) → rest_right Ready s x ≡ eqb x.word 0
    ready_bare a n = ready_as ∙ rw (le-leb x.answer 3 a, ne_eqb x.answer 1 n)

  -- one that waits
  pub waiting-long : 1000000 < x.ticks → rest_right Waiting s x ≡ false
  unfolding rest_right
  waiting-long a = rw (lt-leb x.ticks 1000000 a)

  module _ (a : x.ticks ≤ 1000000) where
    waiting_none : eqb x.answer 0 ≡ false → stage_right Waiting s x ≡ false
    unfolding stage_right
    waiting_none b = rw (b, and-false, and-false)

    pub waiting_as : rest_right Waiting s x ≡ stage_right Waiting s x
    unfolding rest_right
    waiting_as =
        rw (le-leb x.ticks 1000000 a)
        (bool_case (eqb x.answer 0)
        (λ b. let z = eqb-true x.answer 0 b in rw (le-leb x.answer 3 (omega (arith, z))))
        (λ b. rw (waiting_none b, and-false)))

    pub waiting_bare : eqb x.word 0 ≡ true → rest_right Waiting s x ≡ ((leb 1 x.hub && leb x.hub (length s.hubs)) && ((leb 1 x.side && leb x.side 2) && eqb x.answer 0))
    unfolding stage_right
    waiting_bare e = waiting_as ∙ rw (e, or-true, and-true)

-- ---- the message of a record is 0

sum_none : (a b : ℕ) → (eqb a 0 && eqb b 0) ≡ eqb (a + 4294967296 * b) 0
sum_none a b =
    bool_case (eqb b 0)
    (λ e.
    let z = eqb-true b 0 e in
    let q : a + 4294967296 * b ≡ a = omega (arith, z) in
    rw (e, and-true, q))
    (λ e. let n = eqb-false b 0 e in rw (e, and-false, ne_eqb (a + 4294967296 * b) 0 (λ z. n (omega (arith, z)))))

pub word_none : {ts : ℕ} (L : Layout) → Laid ts L → (l : List ℕ) → 8 ≤ ts → ts ≤ 9 → (eqb (get_or l 6 0) 0 && eqb (get_or l (ts - 2) 0) 0) ≡ eqb (record_of L l).word 0
word_none {ts} L y l low high =
    bool_case (ltb 1 L.width)
    (λ b.
    let h = ltb-true 1 L.width b in
    let q : ts - 2 ≡ 7 = omega (arith, y.size) in
    rw q (sum_none (get_or l 6 0) (get_or l 7 0)) ∙ ap (λ (n : ℕ). eqb n 0) (sym (y.reads l 6 ∙ at-two L.width h l 6)))
    (λ b.
    let h = ltb-false 1 L.width b in
    let q : ts - 2 ≡ 6 = omega (arith, y.size) in
    rw q (and_self (eqb (get_or l 6 0) 0)) ∙ ap (λ (n : ℕ). eqb n 0) (sym (y.reads l 6 ∙ at_one L.width h l 6)))

-- its answer stands last
pub answer_last : {ts : ℕ} (L : Layout) → Laid ts L → (l : List ℕ) → get_or l (ts - 1) 0 ≡ (record_of L l).answer
answer_last {ts} L y l = ap (λ (k : ℕ). get_or l k 0) (omega (arith, y.size))

-- ---- the marks

mark_step : (m : List ℕ) (i j : ℕ) → i < length m → get_or (set m i (get_or m i 0 + 1)) j 0 ≡ get_or m j 0 + bit (eqb i j)
mark_step m i j h =
    bool_case (eqb i j)
    (λ b. rw (b, ← eqb-true i j b) (get_or-set_same m i (get_or m i 0 + 1) 0 h))
    (λ b. rw b (rw add-zero (get_or-set_other m i j (get_or m i 0 + 1) 0 (λ e. eqb-false i j b (sym e)))))

-- ---- a walk of a list of 16 words

-- what it gives back
abbrev Walked : Layout → List ℕ → List ℕ → ℕ → ℕ → ℕ → List ℕ → Bool → List ℕ → Type 0
Walked L t l a d owner m₀ r m = Marked r (walks (read L t) a d owner l) (λ j. occ j (numbers l)) m₀ m

-- at place k, where the marks are m

pub record Walking (L : Layout) (t l : List ℕ) (a d owner : ℕ) (m₀ m : List ℕ) (k : ℕ) : Type 0 where
  pub inside : k ≤ 16
  pub long : length m ≡ length m₀
  pub rest : walks (read L t) a d owner l ≡ walks (read L t) a d owner (drop k l)
  pub met : (j : ℕ) → get_or m j 0 + occ j (numbers (drop k l)) ≡ get_or m₀ j 0 + occ j (numbers l)

module _ (L : Layout) (t l : List ℕ) (a d owner : ℕ) (m₀ : List ℕ) where
  pub walking_begin : {n : ℕ} → Marks n m₀ → Walking L t l a d owner m₀ m₀ 0
  walking_begin w = record { inside = zero-le; long = refl; rest = refl; met = λ j. refl }

  module _ (m : List ℕ) (k : ℕ) (w : Walking L t l a d owner m₀ m k) (n : length l ≡ 16) where
    pub walking_low : {b : ℕ} → Marks b m₀ → (j : ℕ) → get_or m j 0 ≤ b + 16
    walking_low ok j = omega (arith, w.met j, ok.low j, occ_most j (numbers l), length-numbers l)

    refused : walks (read L t) a d owner (drop k l) ≡ false → Walked L t l a d owner m₀ false m
    refused e = record { right = sym (w.rest ∙ e); long = w.long; marks = λ f. absurd (false≢true f) }

    accepted : (r : Bool) → r ≡ walks (read L t) a d owner (drop k l) → numbers (drop k l) ≡ [] → Walked L t l a d owner m₀ r m
    unfolding occ
    accepted r e z = record { right = e ∙ sym w.rest; long = w.long; marks = λ f j. sym (add-zero (get_or m j 0)) ∙ rw z at (w.met j) }

    pub walking_full : 16 ≤ k → Walked L t l a d owner m₀ true m
    unfolding numbers walks
    walking_full h =
        let z : drop k l ≡ [] = drop_of_length-le l {i = k} (omega arith) in accepted true (rw z) (rw z)

    module _ (h : k < 16) where
      inner : k < length l
      inner = omega arith

      pub walking_end : get_or l k 0 ≡ 0 → (r : Bool) → r ≡ all_zero (take (length l - k) (drop k l)) → Walked L t l a d owner m₀ r m
      walking_end e r q =
          accepted r (q ∙ ap all_zero (to_end k l) ∙ sym (walks_end l k inner (read L t) a d owner e)) (numbers_end l k inner e)

      module _ (some : get_or l k 0 ≡ 0 → ⊥) where
        turned : walks (read L t) a d owner (drop k l) ≡ (meets (read L t) a d owner (get_or l k 0) && walks (read L t) a d owner (drop (suc k) l))
        turned = walks_turn l k inner (read L t) a d owner some

        pub walking_miss : meets (read L t) a d owner (get_or l k 0) ≡ false → Walked L t l a d owner m₀ false m
        walking_miss e = refused (turned ∙ rw e)

        module _ (e : meets (read L t) a d owner (get_or l k 0) ≡ true) where
          pub walking_used : get_or l k 0 ≤ get_or t 1 0
          unfolding meets
          walking_used = rw (read-tasks L t) at (leb-true (get_or l k 0) _ (and_l _ _ e))

          pub walking_hit : length m₀ ≡ 16 → get_or t 1 0 ≤ 16 → Walking L t l a d owner m₀ (set m (get_or l k 0 - 1) (get_or m (get_or l k 0 - 1) 0 + 1)) (k + 1)
          unfolding occ
          walking_hit all few = record {
            inside = omega arith;
            long = length-set m (get_or l k 0 - 1) (get_or m (get_or l k 0 - 1) 0 + 1) ∙ w.long;
            rest = rw add-one (w.rest ∙ turned ∙ rw e);
            met = λ j.
                let q : get_or l k 0 - 1 ≡ pred (get_or l k 0) = omega arith in
                let x = rw (numbers_turn l k inner some) at (w.met j) in
                rw (q, mark_step m (pred (get_or l k 0)) j (omega (arith, w.long, walking_used)), add-one k) (omega (arith, x));
          }
