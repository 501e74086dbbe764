-- The entries of the first i words of two lists, and a turn of the loops that count and write them. In order: the words of
-- entries; one place more; the entries being counted, and being written.
-- Not here: which places the entries are (Promise.antt), and the ways out of a comparison (Ways.antt). Assumes nothing.
use Prim.Native.Nat.{◌*◌, ◌+◌, ◌<◌, ◌≤◌, suc, zero, ℕ}
use Rattle.differences.specs.Differences.{Entry, entries, entries_from, entry_words}
use Rattle.lists.proofs.Laws.{bool_case}
use Rattle.records.proofs.Laws.{sets_append}
use borrow.Author.Tests.{eq-eqb, ne_eqb}
use lib.Dec.{eqb}
use lib.ListN.{get_or, length, length-append, set, take}
use lib.Seq.{length-sets, sets, take_all}
use mathlib.Core.Bool.{cond}
use mathlib.Core.List.{List, [], ◌++◌, ◌∷◌, append-nil}
use mathlib.Core.Path.{◌∙◌, ◌≡◌, ap, refl, sym}
use native.Mathlib.Nat.{add-zero, zero-add}
use native.Mathlib.Numerals.{add-one}
use native.Mathlib.Omega.{arith}

-- ---- the words of entries

-- three words each
pub length-words : (es : List Entry) → length (entry_words es) ≡ 3 * length es
unfolding entry_words
length-words [] = refl
length-words (e ∷ es) = omega (arith, length-words es)

words_append : (es fs : List Entry) → entry_words (es ++ fs) ≡ entry_words es ++ entry_words fs
unfolding entry_words
words_append [] fs = refl
words_append (e ∷ es) fs = rw (words_append es fs)

-- ---- one place more

abbrev pub entry_at : ℕ → ℕ → ℕ → Entry
entry_at p x y = record { place = p; old = x; new = y }

from_turn : (p i : ℕ) (a b : List ℕ) → i < length a → i < length b
    → entries_from p (take (suc i) a) (take (suc i) b)
    ≡ entries_from p (take i a) (take i b) ++ cond (eqb (get_or a i 0) (get_or b i 0)) [] (entry_at (p + i) (get_or a i 0) (get_or b i 0) ∷ [])
unfolding entries_from
from_turn p i [] b h g = absurd (omega arith)
from_turn p i (x ∷ a) [] h g = absurd (omega arith)
from_turn p zero (x ∷ a) (y ∷ b) h g = rw (add-zero p)
from_turn p (suc i) (x ∷ a) (y ∷ b) h g =
    let n : p + suc i ≡ suc p + i = omega arith in
    let below = from_turn (suc p) i a b (omega arith) (omega arith) in
    bool_case (eqb x y) (λ e. rw (e, n) below) (λ e. rw (e, n) (ap (λ (r : List Entry). entry_at p x y ∷ r) below))

-- the entries of the first i words
abbrev pub up_to : List ℕ → List ℕ → ℕ → List Entry
up_to a b i = entries (take i a) (take i b)

module _ (a b : List ℕ) where
  pub up_to_none : up_to a b 0 ≡ []
  unfolding entries_from
  up_to_none = refl

  pub up_to_all : (i : ℕ) → length a ≤ i → length b ≤ i → up_to a b i ≡ entries a b
  up_to_all i h g = rw (take_all i a h, take_all i b g)

  module _ (i : ℕ) (h : i < length a) (g : i < length b) where
    pub equal_turn : get_or a i 0 ≡ get_or b i 0 → up_to a b (i + 1) ≡ up_to a b i
    equal_turn e = rw add-one (from_turn 0 i a b h g ∙ rw (eq-eqb (get_or a i 0) (get_or b i 0) e) (append-nil (up_to a b i)))

    pub differ_turn : (get_or a i 0 ≡ get_or b i 0 → ⊥) → up_to a b (i + 1) ≡ up_to a b i ++ (entry_at i (get_or a i 0) (get_or b i 0) ∷ [])
    differ_turn d = rw add-one (from_turn 0 i a b h g ∙ rw (ne_eqb (get_or a i 0) (get_or b i 0) d, zero-add i))

-- as many as there are in all, at most
few_up_to : (p i : ℕ) (a b : List ℕ) → length (entries_from p (take i a) (take i b)) ≤ length (entries_from p a b)
unfolding entries_from
few_up_to p zero a b = omega arith
few_up_to p (suc i) [] b = omega arith
few_up_to p (suc i) (x ∷ a) [] = omega arith
few_up_to p (suc i) (x ∷ a) (y ∷ b) =
    bool_case (eqb x y)
    (λ e. rw e (few_up_to (suc p) i a b))
    (λ e. rw e (omega (arith, few_up_to (suc p) i a b)))

-- ---- the entries being counted

pub record Counted (a b : List ℕ) (count i : ℕ) : Type 0 where
  pub inside : i ≤ length a
  pub few : count ≤ i
  pub all : count ≡ length (up_to a b i)

module _ (a b : List ℕ) (same : length a ≡ length b) where
  pub counted_begin : Counted a b 0 0
  counted_begin = record { inside = omega arith; few = omega arith; all = rw (up_to_none a b) }

  module _ (count i : ℕ) (w : Counted a b count i) (h : i < length a) where
    pub counted_equal : get_or a i 0 ≡ get_or b i 0 → Counted a b count (i + 1)
    counted_equal e = record {
      inside = omega arith;
      few = omega (arith, w.few);
      all = w.all ∙ ap length (sym (equal_turn a b i h (omega arith) e));
    }

    pub counted-differ : (get_or a i 0 ≡ get_or b i 0 → ⊥) → Counted a b (count + 1) (i + 1)
    counted-differ d = record {
      inside = omega arith;
      few = omega (arith, w.few);
      all = omega (arith, w.all, ap length (differ_turn a b i h (omega arith) d), length-append (up_to a b i) (entry_at i (get_or a i 0) (get_or b i 0) ∷ []));
    }

-- ---- the entries being written: `at` is the word behind the last

-- three words set one behind the other
pub three_set : (l : List ℕ) (p x y z : ℕ) (a b c : List ℕ) → a ≡ set l p x → b ≡ set a (p + 1) y → c ≡ set b (p + 2) z
    → c ≡ sets l p (x ∷ y ∷ z ∷ [])
three_set l p x y z a b c e f g =
    let one : p + 1 ≡ suc p = omega arith in
    let two : p + 2 ≡ suc (suc p) = omega arith in
    rw (g, f, e, one, two)

pub record Written (a b before now : List ℕ) (at i : ℕ) : Type 0 where
  pub inside : i ≤ length a
  pub few : at ≤ 3 * i
  pub end : at ≡ length (entry_words (up_to a b i))
  pub words : now ≡ sets before 0 (entry_words (up_to a b i))

module _ (a b : List ℕ) (same : length a ≡ length b) (before : List ℕ) where
  pub written_begin : Written a b before before 0 0
  unfolding entry_words
  written_begin = record { inside = omega arith; few = omega arith; end = rw (up_to_none a b); words = rw (up_to_none a b) }

  module _ (now : List ℕ) (at i : ℕ) (w : Written a b before now at i) (h : i < length a) where
    pub written_equal : get_or a i 0 ≡ get_or b i 0 → Written a b before now at (i + 1)
    written_equal e =
        let turn = equal_turn a b i h (omega arith) e in
        record { inside = omega arith; few = omega (arith, w.few); end = rw turn w.end; words = rw turn w.words }

    -- an entry more has room, where all of them have
    pub room_left : (get_or a i 0 ≡ get_or b i 0 → ⊥) → 3 * length (entries a b) ≤ length before → at + 3 ≤ length now
    room_left d m =
        let es = up_to a b i in
        let last = entry_at i (get_or a i 0) (get_or b i 0) ∷ [] in
        let turn = differ_turn a b i h (omega arith) d in
        let kept : length now ≡ length before = rw w.words (simp length-sets) in
        omega (arith, m, kept, w.end, length-words es, ap length turn, length-append es last, few_up_to 0 (i + 1) a b)

    pub written-differ : (get_or a i 0 ≡ get_or b i 0 → ⊥) → (next : List ℕ) → next ≡ sets now at (i ∷ get_or a i 0 ∷ get_or b i 0 ∷ [])
        → Written a b before next (at + 3) (i + 1)
    unfolding entry_words
    written-differ d next e =
        let es = up_to a b i in
        let last = entry_at i (get_or a i 0) (get_or b i 0) ∷ [] in
        let turn = differ_turn a b i h (omega arith) d in
        let more : entry_words (up_to a b (i + 1)) ≡ entry_words es ++ entry_words last = ap entry_words turn ∙ words_append es last in
        record {
          inside = omega arith;
          few = omega (arith, w.few);
          end = omega (arith, w.end, ap length more, length-append (entry_words es) (entry_words last));
          words =
              e
              ∙ rw (w.words, w.end)
              (ap (λ (k : ℕ). sets (sets before 0 (entry_words es)) k (entry_words last)) (sym (zero-add (length (entry_words es))))
              ∙ sets_append before 0 (entry_words es) (entry_words last)
              ∙ ap (sets before 0) (sym more));
        }
