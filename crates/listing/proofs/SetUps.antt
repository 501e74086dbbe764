-- The lines that the words of a table say are those of the set-up of the state that it holds. In order: lists made from numbers;
-- a task's line and a hub's; all of them; the answer of each way out; and the table's own edition. Assumes nothing.
use Prim.Native.Nat.{◌*◌, ◌+◌, ◌-◌, ◌<◌, ◌≤◌, suc, zero, ℕ}
use Rattle.lines.specs.Lines.{Put}
use Rattle.lists.proofs.Laws.{bool_case}
use Rattle.listing.specs.Listing.{ListedFrom, ListedIn, blank_line, hub_line, hub_set_up, line_at, lines_at, listing, listing_in, listing_refusal_in, listing_reply_in, priority_of, set_up, set_up_lines, set_up_text, task_line, text_in, text_of_lines}
use Rattle.rules.proofs.Coded.{code-some, coded, given-number, given_0, given_err, given_ok, need-all, number_given-0, on_table_err, on_table_then}
use Rattle.rules.proofs.After.{valid_in, words_in}
use Rattle.rules.proofs.Layouts.{Laid, sized}
use Rattle.rules.proofs.Places.{hub-word, hubs-word, task-word, tasks-word}
use Rattle.rules.proofs.Reading.{read-hubs, read-tasks}
use Rattle.rules.specs.Refusals.{need, on_table}
use Rattle.rules.specs.Reply.{code, number_given, refusal_number, refusal_with}
use Rattle.rules.specs.Table.{Layout, State, edition_of, hub, inactive, no_hub, read, tab, task, words}
use Rattle.rules.specs.WellFormed.{well_formed_in}
use Rattle.rules.specs.declared.Refusal.{Refusal}
use Rattle.std.specs.Prelude.{IsErrAnd, Ok, Result}
use borrow.Author.Tests.{eqb-false, eqb-true, le-leb, lt-leb, ne_eqb}
use lib.Dec.{eqb}
use lib.ListN.{drop, get_or, length, length-append}
use mathlib.Core.Bool.{cond, false, true}
use mathlib.Core.List.{List, [], ◌++◌, ◌∷◌, map}
use mathlib.Core.Path.{◌∙◌, ◌≡◌, ap, ap₂, refl, sym}
use native.Mathlib.Nat.{add-zero, zero-add}
use native.Mathlib.Omega.{arith}

-- ---- lists made from numbers, as rules' `tab` makes them

module _ {A : Type 0} (f : ℕ → A) where
  tab-split : (a b i : ℕ) → tab (a + b) i f ≡ tab a i f ++ tab b (i + a) f
  unfolding tab
  tab-split zero b i = rw (zero-add, add-zero)
  tab-split (suc a) b i =
      let e : suc a + b ≡ suc (a + b) = omega arith in
      let n : i + suc a ≡ suc i + a = omega arith in
      rw (e, n) (ap {B = List A} (λ r. f i ∷ r) (tab-split a b (suc i)))

  tab-map : {B : Type 0} (g : B → A) (d : B) (l : List B) (i : ℕ) → ((k : ℕ) → k < length l → f (i + k) ≡ g (get_or l k d)) → tab (length l) i f ≡ map g l
  unfolding tab
  tab-map g d [] i e = refl
  tab-map g d (x ∷ xs) i e =
      ap₂ {C = List A} (λ y r. y ∷ r) (ap f (sym (add-zero i)) ∙ e 0 (omega arith)) (tab-map g d xs (suc i) next)
    where
      next : (k : ℕ) → k < length xs → f (suc i + k) ≡ g (get_or xs k d)
      next k h = let z : suc i + k ≡ i + suc k = omega arith in ap f z ∙ e (suc k) (omega arith)

map-map : {A B C : Type 0} (g : B → C) (f : A → B) (l : List A) → map g (map f l) ≡ map (λ x. g (f x)) l
map-map g f [] = refl
map-map g f (x ∷ xs) = rw (map-map g f xs)

-- ---- the lines of the words of a state

module _ {ts : ℕ} (L : Layout) (y : Laid ts L) (s : State) (few-tasks : length s.tasks ≤ 16) (few-hubs : length s.hubs ≤ 16) where
  abbrev T : ℕ
  T = length s.tasks

  task-line : (k : ℕ) → k < T → line_at ts (words L s) T (1 + k) ≡ task_line (priority_of (task s k))
  unfolding line_at
  task-line k h =
      let e : 1 + k - 1 ≡ k = omega arith in
      let word : get_or (words L s) (8 + k * ts + 2) 0 ≡ (task s k).priority = rw y.size (task-word L (sized y) s k 2 (omega arith) h (omega arith)) in
      rw (ne_eqb (1 + k) 0 (λ z. omega arith), le-leb (1 + k) T (omega arith), e, word)

  hub-line : (k : ℕ) → k < length s.hubs → line_at ts (words L s) T (1 + T + k) ≡ hub_line (hub_set_up (hub s k))
  unfolding line_at
  hub-line k h =
      let e : 1 + T + k - 1 - T ≡ k = omega arith in
      let word = hub-word L (sized y) s k (omega arith) h in
      let kind : get_or (words L s) (8 + 16 * ts + k * 4) 0 ≡ (hub s k).kind = rw y.size (rw add-zero at (word 0 (omega arith))) in
      let limit : get_or (words L s) (8 + 16 * ts + k * 4 + 2) 0 ≡ (hub s k).limit = rw y.size (word 2 (omega arith)) in
      let start : get_or (words L s) (8 + 16 * ts + k * 4 + 3) 0 ≡ (hub s k).start = rw y.size (word 3 (omega arith)) in
      rw (ne_eqb (1 + T + k) 0 (λ z. omega arith), lt-leb (1 + T + k) T (omega arith), e, kind, limit, start)

  lines_are : lines_at ts (words L s) T (length s.hubs) ≡ set_up_lines (set_up s)
  unfolding line_at set_up set_up_lines tab
  lines_are =
      let f = line_at ts (words L s) T in
      let H = length s.hubs in
      let tasks : tab T 1 f ≡ map task_line (map priority_of s.tasks) =
      tab-map f (λ x. task_line (priority_of x)) (inactive 0) s.tasks 1 task-line ∙ sym (map-map task_line priority_of s.tasks) in
      let hubs : tab H (1 + T) f ≡ map hub_line (map hub_set_up s.hubs) =
      tab-map f (λ x. hub_line (hub_set_up x)) no_hub s.hubs (1 + T) hub-line ∙ sym (map-map hub_line hub_set_up s.hubs) in
      let first : tab (1 + T) 0 f ≡ blank_line ∷ tab T 1 f = tab-split f 1 T 0 in
      let parts : tab (1 + T + H) 0 f ≡ tab (1 + T) 0 f ++ tab H (1 + T) f = tab-split f (1 + T) H 0 ∙ ap (λ (n : ℕ). tab (1 + T) 0 f ++ tab H n f) (zero-add (1 + T)) in
      parts ∙ rw (first, tasks, hubs) refl

-- a well-formed table's lines are its listing's
pub listing-lines : {ts : ℕ} (L : Layout) → Laid ts L → (t : List ℕ) → ((k : ℕ) → get_or t k 0 < 4294967296) → well_formed_in L t ≡ true
    → text_of_lines (lines_at ts t (get_or t 1 0) (get_or t 2 0)) ≡ listing_in L t
unfolding listing_in set_up_text
listing-lines {ts} L y t low w =
    let s = read L t in
    let e : t ≡ words L s = words_in L t w y low in
    let v = valid_in L t w in
    let n : get_or t 1 0 ≡ length s.tasks = ap (λ (l : List ℕ). get_or l 1 0) e ∙ tasks-word L s in
    let m : get_or t 2 0 ≡ length s.hubs = ap (λ (l : List ℕ). get_or l 2 0) e ∙ hubs-word L s in
    rw (n, m) (ap (λ (l : List ℕ). text_of_lines (lines_at ts l (length s.tasks) (length s.hubs))) e ∙ ap text_of_lines (lines_are L y s v.tasks v.hubs))

-- and it has at most 16 tasks and 16 hubs
pub counts : (L : Layout) (t : List ℕ) → well_formed_in L t ≡ true → (get_or t 1 0 ≤ 16) × (get_or t 2 0 ≤ 16)
counts L t w = let v = valid_in L t w in (rw (read-tasks L t) at v.tasks, rw (read-hubs L t) at v.hubs)

-- ---- the ways out

module _ (L : Layout) (t text : List ℕ) where
  refused_by : (e : Refusal) (r : Result ℕ Refusal) → IsErrAnd r (λ y. y ≡ e) → code e ≡ listing_refusal_in L t (length text) → ListedIn L t text r text
  unfolding listing_reply_in text_in
  refused_by e r h q =
      let more : eqb (code e) 0 ≡ false = ne_eqb (code e) 0 (code-some e) in
      record { reply = given_err r e _ _ h q; bytes = rw (← q, more) refl }

  pub listed-refused : (e : Refusal) (r : Result ℕ Refusal) → IsErrAnd r (λ y. y ≡ e) → code e ≡ on_table L t 0 → ListedIn L t text r text
  unfolding listing_refusal_in
  listed-refused e r h q = refused_by e r h (on_table_err L t e _ q)

  module _ (good : 0 ≡ on_table L t 0) where
    pub listed_8 : (e : Refusal) (r : Result ℕ Refusal) → IsErrAnd r (λ y. y ≡ e) → code e ≡ 8 → length text < length (listing_in L t) → ListedIn L t text r text
    unfolding listing_refusal_in need
    listed_8 e r h q less = refused_by e r h (on_table_then L t (code e) _ good (q ∙ rw (lt-leb (length (listing_in L t)) (length text) less) refl))

    pub listed-all : (n : ℕ) (text' : List ℕ) → n ≡ length (listing_in L t) → n ≤ length text → Put text 0 (listing_in L t) n text'
        → ListedIn L t text (Ok n) text'
    unfolding listing_refusal_in listing_reply_in need text_in
    listed-all n text' e h p =
        let fits : length (listing_in L t) ≤ length text = omega arith in
        let z = on_table_then L t 0 _ good (rw (le-leb (length (listing_in L t)) (length text) fits) refl) in
        record {
          reply = ap Ok e ∙ given_ok _ _ z;
          bytes = p.bytes ∙ rw (← z, zero-add) refl;
        }

-- ---- in the table's own edition

-- every refusal number of a listing is a refusal's
pub listing-coded : (L : Layout) (t : List ℕ) (room : ℕ) → coded (listing_refusal_in L t room) ≡ true
unfolding listing_refusal_in refusal_with
listing-coded L t room = need-all coded _ 1 _ refl (need-all coded _ 2 _ refl (need-all coded _ 8 0 refl refl))

-- what is given back: the refusal's number, and the listing's length or 0
pub listing-number : (L : Layout) (t : List ℕ) (room : ℕ) → refusal_number (listing_reply_in L t room) ≡ listing_refusal_in L t room
unfolding listing_reply_in
listing-number L t room = given-number _ _ (listing-coded L t room)

pub listing-length : (L : Layout) (t : List ℕ) (room : ℕ) → number_given (listing_reply_in L t room) ≡ cond (eqb (listing_refusal_in L t room) 0) (length (listing_in L t)) 0
unfolding listing_reply_in
listing-length L t room =
    let n = listing_refusal_in L t room in
    bool_case (eqb n 0)
    (λ b. rw b (ap number_given (given_0 n _ (eqb-true n 0 b))))
    (λ b. rw b (number_given-0 n _ (eqb-false n 0 b)))

-- what is given back as length is in the buffer
pub listed-fits : (t text : List ℕ) (r : Result ℕ Refusal) (text' : List ℕ) → ListedFrom t text r text' → number_given r ≤ length text'
unfolding text_in
listed-fits t text r text' e =
    let size = ap number_given e.reply ∙ listing-length (edition_of t) t (length text) in
    let whole = listing t in
    bool_case (eqb (listing_refusal_in (edition_of t) t (length text)) 0)
    (λ b. omega (arith, rw b at size, ap length (rw b at e.bytes), length-append whole (drop (length whole) text)))
    (λ b. omega (arith, rw b at size))
