-- M-100, the promises of a listing. In order: the set-up of a well-formed table is acceptable; its lines are eight numbers each; what
-- a text of its form builds and prints; the listing builds the stripped table in edition 2 (`listing_builds`, `listing_builds_up`),
-- each of its lines is accepted (`listing_prints`); it is the only text that does (`listing-only`); same listing, same set-up
-- (`listing_same`); a table and its move have one listing (`listing-moved`); its length (`listing_most`). Assumes nothing.
use Prim.Native.Nat.{◌*◌, ◌+◌, ◌<◌, ◌≤◌, suc, ℕ}
use Rattle.lines.proofs.Decimal.{length-decimal}
use Rattle.lines.specs.Lines.{all, call_of, decimal, joined, number_limit, printed, read_lines, spaced}
use Rattle.listing.specs.Listing.{HubSetUp, SetUp, blank_line, built, hub_line, hub_set_up, listing, listing_in, new_hub, priority_of, set_up, set_up_lines, set_up_text, task_line, text_of_lines}
use Rattle.lists.proofs.Laws.{bool_case}
use Rattle.rebuilt.proofs.Building.{Steps, add_hubs, add_tasks, idle_blank, more_tasks, steps_append}
use Rattle.rebuilt.proofs.Reading.{Eight, good, text-read}
use Rattle.rebuilt.specs.Rebuilt.{Acceptable, Every, GoodHub, all_accepted, rebuilt, rebuilt_up}
use Rattle.rules.proofs.After.{read-valid}
use Rattle.rules.proofs.Editions.{down_shows, up_shows}
use Rattle.rules.proofs.Kept.{valid-blank}
use Rattle.rules.proofs.Layouts.{edition-two}
use Rattle.rules.proofs.Promise.{blank-accepted}
use Rattle.rules.proofs.States.{one_fitting, read_back, two_fitting}
use Rattle.rules.proofs.Still.{served-blank}
use Rattle.rules.proofs.Valid.{Range, Valid}
use Rattle.rules.specs.Calls.{blank, served, service_of}
use Rattle.rules.specs.Editions.{down_refusal, moved_down, moved_up, up_refusal}
use Rattle.rules.specs.Lists.{first_free, next}
use Rattle.rules.specs.Refusals.{good_hub, refusal_of}
use Rattle.rules.specs.Reply.{ahead, ahead_for, bears_answer, outcome, reply_by, reply_in, table_after, table_by, table_in}
use Rattle.rules.specs.Table.{Board, Event, Fifo, Hub, Kind, Memory, NoKind, Port, Resource, Semaphore, State, edition_of, hub, inactive, kind_of, no_hub, one, read, size, state_of, two, words}
use Rattle.rules.specs.WellFormed.{well_formed, within as between}
use Rattle.runner.specs.Runner.{drill_text, reply_text, table_through, text_through, zeros}
use borrow.Author.Tests.{eq-eqb, eqb-true, le-leb, leb-false, leb-true}
use lib.Dec.{eqb, leb}
use lib.ListN.{get_or-eq_default, get_or, length, length-append, length-map, length-replicate}
use mathlib.Core.Bool.{Bool, ◌&&◌, and-eq-true_iff, false≢true, true}
use mathlib.Core.List.{List, [], ◌++◌, ◌∷◌, append_assoc, map}
use mathlib.Core.Logic.{◌↔◌}
use mathlib.Core.Path.{◌∙◌, ◌≡◌, ap, refl, sym}
use native.Mathlib.Nat.{suc-mul, zero-add}
use native.Mathlib.Omega.{arith}

-- ---- every entry of a list

every-at : {A B : Type 0} (P : B → Type 0) (f : A → B) (d : A) (l : List A) → ((i : ℕ) → i < length l → P (f (get_or l i d))) → Every P (map f l)
unfolding Every
every-at P f d [] e = tt
every-at P f d (x ∷ xs) e = (e 0 (omega arith), every-at P f d xs (λ i h. e (suc i) (omega arith)))

every_to : {A : Type 0} (P Q : A → Type 0) → ((x : A) → P x → Q x) → (l : List A) → Every P l → Every Q l
unfolding Every
every_to P Q f [] e = tt
every_to P Q f (x ∷ xs) e = (f x e.0, every_to P Q f xs e.1)

every_map : {A B : Type 0} (P : B → Type 0) (f : A → B) (l : List A) → Every (λ x. P (f x)) l → Every P (map f l)
unfolding Every
every_map P f [] e = tt
every_map P f (x ∷ xs) e = (e.0, every_map P f xs e.1)

every_append : {A : Type 0} (P : A → Type 0) (a b : List A) → Every P a → Every P b → Every P (a ++ b)
unfolding Every
every_append P [] b p q = q
every_append P (x ∷ a) b p q = (p.0, every_append P a b p.1 q)

-- ---- the set-up of a well-formed table is acceptable

good_range : (k : Kind) (T : ℕ) (h : Hub) → Range k T h → good_hub k h.limit h.start ≡ true
unfolding Range good_hub
good_range NoKind T h r = absurd r
good_range Event T h r = rw (r.1, r.2)
good_range Semaphore T h r = rw (le-leb 1 h.limit r.1, le-leb h.limit 65535 r.2, le-leb h.start h.limit r.3)
good_range Port T h r = rw (r.1, r.2)
good_range Fifo T h r = rw (le-leb 1 h.limit r.1, le-leb h.limit 8 r.2, r.3)
good_range Resource T h r = rw (r.1, r.2)
good_range Board T h r = rw (r.1, r.2)
good_range Memory T h r = rw (le-leb 1 h.limit r.0, le-leb h.limit 8 r.1, eq-eqb h.start h.limit r.2)

set_up_acceptable : (s : State) → Valid s → Acceptable (set_up s)
unfolding set_up
set_up_acceptable s v = record {
  tasks = rw (length-map s.tasks priority_of) v.tasks;
  priorities = every-at (λ p. p ≤ 255) priority_of (inactive 0) s.tasks (λ i h. (v.records.each i).priority);
  hubs = rw (length-map s.hubs hub_set_up) v.hubs;
  kinds = every-at GoodHub hub_set_up no_hub s.hubs (λ i h. good_range (kind_of (hub s i).kind) (length s.tasks) (hub s i) (v.ranges.range i h));
}

pub listing_acceptable : (t : List ℕ) → well_formed t ≡ true → Acceptable (set_up (state_of t))
listing_acceptable t w = set_up_acceptable (state_of t) (read-valid t w)

-- ---- the numbers of an acceptable hub

both : (a b : Bool) → (a && b) ≡ true → (a ≡ true) × (b ≡ true)
both a b = (and-eq-true_iff a b).0

low_by : (k : Kind) (l s : ℕ) → good_hub k l s ≡ true → (l ≤ 65535) × (s ≤ 65535)
unfolding good_hub
low_by NoKind l s e = absurd (false≢true e)
low_by Event l s e = let q = both (eqb l 1) (eqb s 0) e in (omega (arith, eqb-true l 1 q.0), omega (arith, eqb-true s 0 q.1))
low_by Semaphore l s e =
    let q = both (between 1 65535 l) (leb s l) e in
    let m = leb-true l 65535 (both (leb 1 l) (leb l 65535) q.0).1 in
    (m, omega (arith, leb-true s l q.1))
low_by Port l s e = let q = both (eqb l 0) (eqb s 0) e in (omega (arith, eqb-true l 0 q.0), omega (arith, eqb-true s 0 q.1))
low_by Fifo l s e =
    let q = both (between 1 8 l) (eqb s 0) e in
    (omega (arith, leb-true l 8 (both (leb 1 l) (leb l 8) q.0).1), omega (arith, eqb-true s 0 q.1))
low_by Resource l s e = let q = both (eqb l 1) (eqb s 0) e in (omega (arith, eqb-true l 1 q.0), omega (arith, eqb-true s 0 q.1))
low_by Board l s e = let q = both (eqb l 1) (eqb s 0) e in (omega (arith, eqb-true l 1 q.0), omega (arith, eqb-true s 0 q.1))
low_by Memory l s e =
    let q = both (between 1 8 l) (eqb s l) e in
    let m = leb-true l 8 (both (leb 1 l) (leb l 8) q.0).1 in
    (omega (arith, m), omega (arith, m, eqb-true s l q.1))

low-kind : (n l s : ℕ) → good_hub (kind_of n) l s ≡ true → n ≤ 7
unfolding good_hub kind_of
low-kind n l s e =
    bool_case (leb n 7) (leb-true n 7)
    (λ b. let far : 8 ≤ n = leb-false n 7 b in
    absurd (false≢true (rw (get_or-eq_default (NoKind ∷ Event ∷ Semaphore ∷ Port ∷ Fifo ∷ Resource ∷ Board ∷ Memory ∷ []) NoKind far) at e)))

-- ---- its lines: eight numbers each, within the limit, and short

task_eight : (p : ℕ) → p ≤ 255 → Eight (task_line p)
unfolding all
task_eight p h = let q : p ≤ number_limit = omega arith in (refl, rw (le-leb p number_limit q))

hub_eight : (h : HubSetUp) → GoodHub h → Eight (hub_line h)
unfolding all
hub_eight h g =
    let k : h.kind ≤ number_limit = omega (arith, low-kind h.kind h.limit h.start g) in
    let m = low_by (kind_of h.kind) h.limit h.start g in
    let l : h.limit ≤ number_limit = omega (arith, m.0) in
    let s : h.start ≤ number_limit = omega (arith, m.1) in
    (refl, rw (le-leb h.kind number_limit k, le-leb h.limit number_limit l, le-leb h.start number_limit s))

module _ (u : SetUp) (a : Acceptable u) where
  eights : Every Eight (set_up_lines u)
  unfolding Every all set_up_lines
  eights = (
    (refl, refl),
    every_append Eight (map task_line u.priorities) (map hub_line u.hubs)
        (every_map Eight task_line u.priorities (every_to (λ p. p ≤ 255) (λ p. Eight (task_line p)) task_eight u.priorities a.priorities))
        (every_map Eight hub_line u.hubs (every_to GoodHub (λ h. Eight (hub_line h)) hub_eight u.hubs a.kinds)),
  )

  -- ---- what a text of its form builds and prints

  abbrev added : List (List ℕ)
  added = map task_line u.priorities ++ map hub_line u.hubs

  steps : Steps blank added (built u)
  unfolding blank built
  steps =
      let first = add_tasks u.priorities blank valid-blank idle_blank (rw zero-add a.tasks) a.priorities in
      let s₁ = more_tasks u.priorities blank in
      let then = add_hubs u.hubs s₁ first.valid first.idle (rw zero-add a.hubs) a.kinds in
      steps_append blank s₁ (built u) (map task_line u.priorities) (map hub_line u.hubs) first then

  long : length zeros ≡ size two
  unfolding zeros
  long = length-replicate {A = ℕ} (size two) 0

  edition : edition_of zeros ≡ two
  edition = edition-two zeros long

  accepts_blank : refusal_of zeros (call_of blank_line) ≡ 0
  unfolding call_of
  accepts_blank = blank-accepted zeros (call_of blank_line) (rw edition long) refl

  -- whatever stood there
  blank-served : served (read two zeros) (call_of blank_line) ≡ blank
  unfolding call_of service_of
  blank-served = served-blank (read two zeros) (call_of blank_line) refl

  blank-table : table_after zeros (call_of blank_line) ≡ words two blank
  unfolding table_by table_in
  blank-table = rw (accepts_blank, edition, blank-served) refl

  blanked : table_through zeros (map good (blank_line ∷ added)) ≡ table_through (words two blank) (map good added)
  unfolding table_through
  blanked = ap (λ (t : List ℕ). table_through t (map good added)) blank-table

  blank-text : text_through zeros (map good (blank_line ∷ added)) ≡ printed (0 ∷ 0 ∷ 0 ∷ 0 ∷ []) ++ text_through (words two blank) (map good added)
  unfolding ahead ahead_for bears_answer blank call_of first_free next outcome reply_by reply_in reply_text service_of text_through
  blank-text = rw (blank-table, accepts_blank, edition, blank-served) refl

  pub form_builds : table_through zeros (read_lines (set_up_text u)) ≡ words two (built u)
  unfolding set_up_lines set_up_text
  form_builds = ap (table_through zeros) (text-read (set_up_lines u) eights) ∙ blanked ∙ steps.table

  one_more : (n : ℕ) → printed (0 ∷ 0 ∷ 0 ∷ 0 ∷ []) ++ all_accepted n ≡ all_accepted (1 + n)
  unfolding text_of_lines
  one_more n = let e : 1 + n ≡ suc n = omega arith in rw e

  pub form_prints : drill_text (set_up_text u) ≡ all_accepted (1 + (length u.priorities + length u.hubs))
  unfolding drill_text set_up_lines set_up_text text_of_lines
  form_prints =
      let many : length added ≡ length u.priorities + length u.hubs = length-append (map task_line u.priorities) (map hub_line u.hubs) ∙ rw (length-map u.priorities task_line, length-map u.hubs hub_line) in
      ap (text_through zeros) (text-read (set_up_lines u) eights)
      ∙ blank-text
      ∙ ap (λ (r : List ℕ). printed (0 ∷ 0 ∷ 0 ∷ 0 ∷ []) ++ r) (steps.text ∙ ap all_accepted many)
      ∙ one_more (length u.priorities + length u.hubs)

  form_read : read two (words two (built u)) ≡ built u
  form_read = read_back two_fitting (built u) steps.valid

  form_read_one : read one (words one (built u)) ≡ built u
  form_read_one = read_back one_fitting (built u) steps.valid

-- the set-up of what a set-up builds
priorities-back : (ps : List ℕ) → map priority_of (map inactive ps) ≡ ps
unfolding inactive
priorities-back [] = refl
priorities-back (p ∷ ps) = ap {B = List ℕ} (λ r. p ∷ r) (priorities-back ps)

hubs-back : (hs : List HubSetUp) → map hub_set_up (map new_hub hs) ≡ hs
hubs-back [] = refl
hubs-back (h ∷ hs) = ap {B = List HubSetUp} (λ r. h ∷ r) (hubs-back hs)

set_up-built : (u : SetUp) → set_up (built u) ≡ u
unfolding built set_up
set_up-built u = λ i. record { priorities = priorities-back u.priorities i; hubs = hubs-back u.hubs i }

-- two set-ups that build one table are one
same_set_up : (u v : SetUp) → Acceptable u → Acceptable v → words two (built u) ≡ words two (built v) → u ≡ v
same_set_up u v a b e =
    sym (set_up-built u) ∙ ap set_up (sym (form_read u a) ∙ ap (read two) e ∙ form_read v b) ∙ set_up-built v

-- ---- the promises, of a well-formed table of either edition

module _ (t : List ℕ) (w : well_formed t ≡ true) where
  -- "Run through the drill runner, the listing must build the same table with every task inactive, every count at its start, and
  -- all lists and stores empty"
  pub listing_builds : table_through zeros (read_lines (listing t)) ≡ rebuilt (state_of t)
  unfolding listing_in
  listing_builds = form_builds (set_up (state_of t)) (listing_acceptable t w)

  pub listing_builds_up : table_through zeros (read_lines (listing t)) ≡ rebuilt_up (state_of t)
  listing_builds_up =
      listing_builds ∙ ap (words two) (sym (form_read_one (set_up (state_of t)) (listing_acceptable t w)))

  -- each of its lines prints refusal 0
  pub listing_prints : drill_text (listing t) ≡ all_accepted (1 + (length (set_up (state_of t)).priorities + length (set_up (state_of t)).hubs))
  unfolding listing_in
  listing_prints = form_prints (set_up (state_of t)) (listing_acceptable t w)

  -- "The listing is the only text of this form for that set-up."
  pub listing-only : (u : SetUp) → Acceptable u → table_through zeros (read_lines (set_up_text u)) ≡ table_through zeros (read_lines (listing t)) → set_up_text u ≡ listing t
  unfolding listing_in
  listing-only u a e =
      ap set_up_text (same_set_up u (set_up (state_of t)) a (listing_acceptable t w) (sym (form_builds u a) ∙ e ∙ listing_builds))

-- two well-formed tables, of one edition or of both, have the same listing exactly if their set-ups are equal
pub listing_same : (t₁ t₂ : List ℕ) → well_formed t₁ ≡ true → well_formed t₂ ≡ true → (listing t₁ ≡ listing t₂) ↔ (set_up (state_of t₁) ≡ set_up (state_of t₂))
unfolding listing_in
listing_same t₁ t₂ w₁ w₂ = (
  λ e. same_set_up (set_up (state_of t₁)) (set_up (state_of t₂)) (listing_acceptable t₁ w₁) (listing_acceptable t₂ w₂)
      (sym (listing_builds t₁ w₁) ∙ ap (λ (x : List ℕ). table_through zeros (read_lines x)) e ∙ listing_builds t₂ w₂),
  λ e. ap set_up_text e,
)

-- the listing of a table and of its move, where it is accepted, are the same text: M-105
module _ (t : List ℕ) (room : ℕ) where
  pub listing-moved : up_refusal t room ≡ 0 → listing (moved_up t) ≡ listing t
  unfolding listing_in
  listing-moved e = ap (λ (s : State). set_up_text (set_up s)) (up_shows t room e)

  pub listing-moved_down : down_refusal t room ≡ 0 → listing (moved_down t) ≡ listing t
  unfolding listing_in
  listing-moved_down e = ap (λ (s : State). set_up_text (set_up s)) (down_shows t room e)

-- ---- how long it is: 16 bytes, at most 18 for a task and 25 for a hub

short_text : (k : ℕ) (ls : List (List ℕ)) → Every (λ l. length (printed l) ≤ k) ls → length (text_of_lines ls) ≤ length ls * k
unfolding Every text_of_lines
short_text k [] e = omega arith
short_text k (l ∷ ls) e =
    let rest = short_text k ls e.1 in
    rw (length-append (printed l) (text_of_lines ls)) (omega (arith, e.0, suc-mul (length ls) k))

text-lines : (a b : List (List ℕ)) → length (text_of_lines (a ++ b)) ≡ length (text_of_lines a) + length (text_of_lines b)
unfolding text_of_lines
text-lines [] b = sym (zero-add _)
text-lines (l ∷ a) b = rw (length-append (printed l) (text_of_lines (a ++ b)), length-append (printed l) (text_of_lines a), text-lines a b) (omega arith)

-- a number and the byte behind it, number by number
total : List ℕ → ℕ
total [] = 0
total (x ∷ xs) = length (decimal x) + 1 + total xs

printed-length : (x : ℕ) (xs : List ℕ) → length (printed (x ∷ xs)) ≡ total (x ∷ xs)
unfolding joined printed spaced total
printed-length x [] = length-append (decimal x) (10 ∷ []) ∙ omega arith
printed-length x (y ∷ ys) =
    ap length (append_assoc (decimal x) (32 ∷ joined 32 (map decimal (y ∷ ys))) (10 ∷ []))
    ∙ length-append (decimal x) (32 ∷ (joined 32 (map decimal (y ∷ ys)) ++ 10 ∷ []))
    ∙ omega (arith, printed-length y ys)

digit_length : (n : ℕ) → n ≤ 9 → length (decimal n) ≤ 1
digit_length n h = length-decimal 0 n (omega arith)

ten_length : length (decimal 10) ≤ 2
ten_length = length-decimal 1 10 (omega arith)

task_short : (p : ℕ) → p ≤ 255 → length (printed (task_line p)) ≤ 18
unfolding total
task_short p h =
    omega (arith, printed-length 9 (0 ∷ p ∷ 0 ∷ 0 ∷ 0 ∷ 0 ∷ 0 ∷ []), digit_length 9 (omega arith), digit_length 0 (omega arith), length-decimal 2 p (omega arith))

hub_short : (h : HubSetUp) → GoodHub h → length (printed (hub_line h)) ≤ 25
unfolding total
hub_short h g =
    let m = low_by (kind_of h.kind) h.limit h.start g in
    omega (
      arith,
      printed-length 10 (0 ∷ h.kind ∷ 0 ∷ 0 ∷ h.limit ∷ h.start ∷ 0 ∷ []),
      ten_length,
      digit_length 0 (omega arith),
      digit_length h.kind (omega (arith, low-kind h.kind h.limit h.start g)),
      length-decimal 4 h.limit (omega (arith, m.0)),
      length-decimal 4 h.start (omega (arith, m.1)),
    )

blank_short : length (printed blank_line) ≤ 16
unfolding total
blank_short = omega (arith, printed-length 0 (0 ∷ 0 ∷ 0 ∷ 0 ∷ 0 ∷ 0 ∷ 0 ∷ []), digit_length 0 (omega arith))

form_most : (u : SetUp) → Acceptable u → length (set_up_text u) ≤ 704
unfolding set_up_lines set_up_text text_of_lines
form_most u a =
    let ts = map task_line u.priorities in
    let hs = map hub_line u.hubs in
    let x = short_text 18 ts (every_map (λ l. length (printed l) ≤ 18) task_line u.priorities (every_to (λ p. p ≤ 255) (λ p. length (printed (task_line p)) ≤ 18) task_short u.priorities a.priorities)) in
    let y = short_text 25 hs (every_map (λ l. length (printed l) ≤ 25) hub_line u.hubs (every_to GoodHub (λ h. length (printed (hub_line h)) ≤ 25) hub_short u.hubs a.kinds)) in
    omega (
      arith,
      length-append (printed blank_line) (text_of_lines (ts ++ hs)),
      blank_short,
      text-lines ts hs,
      x,
      y,
      length-map u.priorities task_line,
      length-map u.hubs hub_line,
      a.tasks,
      a.hubs,
    )

pub listing_most : (t : List ℕ) → well_formed t ≡ true → length (listing t) ≤ 704
unfolding listing_in
listing_most t w = form_most (set_up (state_of t)) (listing_acceptable t w)
