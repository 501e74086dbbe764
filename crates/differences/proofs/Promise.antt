-- What a comparison promises, beside its contract. In order: the entries of two lists of words of any length (exactly the differing
-- places, rising; the new words put in; a list and itself; the two exchanged; how many); the refusals behind 1 and 2; what a comparison
-- gives back.
-- Not here: that the code does what the definitions say (Ways.antt and the functions' proofs). Assumes nothing.
use Prim.Native.Nat.{◌*◌, ◌+◌, ◌<◌, ◌≤◌, suc, zero, ℕ}
use Rattle.differences.proofs.Passes.{entry_at, length-words}
use Rattle.differences.proofs.Ways.{Formed, formed_most, long_enough, other_edition, short_buffer, table_to}
use Rattle.differences.specs.Differences.{Compares, Entry, buffer_after, compare_refusal, compare_reply, entries, entries_from, entry_words, put_new, table_refusal}
use Rattle.lists.proofs.Laws.{bool_case}
use Rattle.rules.proofs.Coded.{coded, given-number, given_0, need-all, number_given-0}
use Rattle.rules.specs.Reply.{given, number_given, refusal_number, refusal_with}
use Rattle.rules.specs.Table.{size, two}
use Rattle.rules.specs.declared.Refusal.{Refusal}
use Rattle.std.specs.Prelude.{Ok, Result}
use borrow.Author.Tests.{eq-eqb, eqb-false, eqb-true, leb-false, leb-true, ne_eqb}
use lib.Dec.{eqb, leb}
use lib.ListN.{drop, get_or, length, length-append}
use lib.Seq.{append_snoc, set_at}
use mathlib.Core.Bool.{false, true}
use mathlib.Core.List.Memᴰ
use mathlib.Core.List.{List, Memᴰ, [], ◌++◌, ◌∷◌, map}
use mathlib.Core.Logic.{⊎_elim}
use mathlib.Core.Path.{◌∙◌, ◌≡◌, ap, refl, sym}
use native.Mathlib.Nat.{add-zero, zero-add}
use native.Mathlib.Omega.{arith}

-- ---- "write the differing places": exactly these

-- the entry of a place at which both lists have a word, and the words differ; p is the place of their first words
record DiffersFrom (p : ℕ) (a b : List ℕ) (e : Entry) : Type 0 where
  k : ℕ
  place : e.place ≡ p + k
  first : k < length a
  second : k < length b
  old : e.old ≡ get_or a k 0
  new : e.new ≡ get_or b k 0
  differ : e.old ≡ e.new → ⊥

pub record Differs (a b : List ℕ) (e : Entry) : Type 0 where
  pub first : e.place < length a
  pub second : e.place < length b
  pub old : e.old ≡ get_or a e.place 0
  pub new : e.new ≡ get_or b e.place 0
  pub differ : e.old ≡ e.new → ⊥

differs_later : (p x y : ℕ) (a b : List ℕ) (e : Entry) → DiffersFrom (suc p) a b e → DiffersFrom p (x ∷ a) (y ∷ b) e
differs_later p x y a b e d = record {
  k = suc d.k;
  place = omega (arith, d.place);
  first = omega (arith, d.first);
  second = omega (arith, d.second);
  old = d.old;
  new = d.new;
  differ = d.differ;
}

from-differs : (p : ℕ) (a b : List ℕ) (e : Entry) → Memᴰ e (entries_from p a b) → DiffersFrom p a b e
unfolding entries_from
from-differs p [] b e m = absurd (Memᴰ.not-nil m)
from-differs p (x ∷ a) [] e m = absurd (Memᴰ.not-nil m)
from-differs p (x ∷ a) (y ∷ b) e m =
    bool_case (eqb x y)
    (λ q. differs_later p x y a b e (from-differs (suc p) a b e (rw q at m)))
    (λ q.
    ⊎_elim
    (λ h. record {
      k = 0;
      place = ap (λ (z : Entry). z.place) h ∙ sym (add-zero p);
      first = omega arith;
      second = omega arith;
      old = ap (λ (z : Entry). z.old) h;
      new = ap (λ (z : Entry). z.new) h;
      differ = λ s. eqb-false x y q (sym (ap (λ (z : Entry). z.old) h) ∙ s ∙ ap (λ (z : Entry). z.new) h);
    })
    (λ t. differs_later p x y a b e (from-differs (suc p) a b e t))
    (Memᴰ.cases_cons (rw q at m)))

differs-from : (p k : ℕ) (a b : List ℕ) → k < length a → k < length b → (get_or a k 0 ≡ get_or b k 0 → ⊥)
    → Memᴰ (entry_at (p + k) (get_or a k 0) (get_or b k 0)) (entries_from p a b)
unfolding entries_from
differs-from p k [] b h g d = absurd (omega arith)
differs-from p k (x ∷ a) [] h g d = absurd (omega arith)
differs-from p zero (x ∷ a) (y ∷ b) h g d = rw (ne_eqb x y d, add-zero p) (Memᴰ.head refl)
differs-from p (suc k) (x ∷ a) (y ∷ b) h g d =
    let n : p + suc k ≡ suc p + k = omega arith in
    let below = differs-from (suc p) k a b (omega arith) (omega arith) d in
    bool_case (eqb x y) (λ q. rw (q, n) below) (λ q. rw (q, n) (Memᴰ.tail below))

-- what is listed differs, and old and new are the two words
pub listed-differs : (a b : List ℕ) (e : Entry) → Memᴰ e (entries a b) → Differs a b e
listed-differs a b e m =
    let d = from-differs 0 a b e m in
    let n : e.place ≡ d.k = omega (arith, d.place) in
    record {
      first = omega (arith, d.first);
      second = omega (arith, d.second);
      old = rw n d.old;
      new = rw n d.new;
      differ = d.differ;
    }

-- and what differs is listed
pub differs-listed : (a b : List ℕ) (p : ℕ) → p < length a → p < length b → (get_or a p 0 ≡ get_or b p 0 → ⊥)
    → Memᴰ (record { place = p; old = get_or a p 0; new = get_or b p 0 }) (entries a b)
differs-listed a b p h g d = rw (zero-add p) at (differs-from 0 p a b h g d)

-- ---- "in rising order"

abbrev pub places_of : List Entry → List ℕ
places_of es = map (λ e. e.place) es

-- a place in front of n others that are all behind it
front-first : (p n : ℕ) (l : List ℕ) → ((i : ℕ) → i < n → p < get_or l i 0) → (i : ℕ) → i < suc n → p ≤ get_or (p ∷ l) i 0
front-first p n l f zero h = omega arith
front-first p n l f (suc i) h = omega (arith, f i (omega arith))

front-rising : (p n : ℕ) (l : List ℕ) → ((i : ℕ) → i < n → p < get_or l i 0) → ((i j : ℕ) → i < j → j < n → get_or l i 0 < get_or l j 0)
    → (i j : ℕ) → i < j → j < suc n → get_or (p ∷ l) i 0 < get_or (p ∷ l) j 0
front-rising p n l f g i zero k h = absurd (omega arith)
front-rising p n l f g zero (suc j) k h = f j (omega arith)
front-rising p n l f g (suc i) (suc j) k h = g i j (omega arith) (omega arith)

no_earlier : (p : ℕ) (a b : List ℕ) (i : ℕ) → i < length (entries_from p a b) → p ≤ get_or (places_of (entries_from p a b)) i 0
unfolding entries_from
no_earlier p [] b i h = absurd (omega arith)
no_earlier p (x ∷ a) [] i h = absurd (omega arith)
no_earlier p (x ∷ a) (y ∷ b) i h =
    let rest = entries_from (suc p) a b in
    bool_case (eqb x y)
    (λ q. rw q (omega (arith, no_earlier (suc p) a b i (rw q at h))))
    (λ q. rw q (front-first p (length rest) (places_of rest) (λ k l. no_earlier (suc p) a b k l) i (rw q at h)))

rising-from : (p : ℕ) (a b : List ℕ) (i j : ℕ) → i < j → j < length (entries_from p a b)
    → get_or (places_of (entries_from p a b)) i 0 < get_or (places_of (entries_from p a b)) j 0
unfolding entries_from
rising-from p [] b i j l h = absurd (omega arith)
rising-from p (x ∷ a) [] i j l h = absurd (omega arith)
rising-from p (x ∷ a) (y ∷ b) i j l h =
    let rest = entries_from (suc p) a b in
    bool_case (eqb x y)
    (λ q. rw q (rising-from (suc p) a b i j l (rw q at h)))
    (λ q. rw q (front-rising p (length rest) (places_of rest) (λ k g. no_earlier (suc p) a b k g) (λ i j l h. rising-from (suc p) a b i j l h) i j l (rw q at h)))

pub rising : (a b : List ℕ) (i j : ℕ) → i < j → j < length (entries a b) → get_or (places_of (entries a b)) i 0 < get_or (places_of (entries a b)) j 0
rising a b = rising-from 0 a b

-- ---- "Putting the new words into the first table must give the second"

-- behind the words that are put in already
put-behind : (done : List ℕ) (p : ℕ) (a b : List ℕ) → length done ≡ p → length a ≡ length b → put_new (done ++ a) (entries_from p a b) ≡ done ++ b
unfolding entries_from put_new
put-behind done p [] [] n e = refl
put-behind done p [] (y ∷ b) n e = absurd (omega arith)
put-behind done p (x ∷ a) [] n e = absurd (omega arith)
put-behind done p (x ∷ a) (y ∷ b) n e =
    let long : length (done ++ (y ∷ [])) ≡ suc p = omega (arith, length-append done (y ∷ [])) in
    let rest : put_new (done ++ (y ∷ a)) (entries_from (suc p) a b) ≡ done ++ (y ∷ b) =
    ap (λ (l : List ℕ). put_new l (entries_from (suc p) a b)) (sym (append_snoc done y a))
    ∙ put-behind (done ++ (y ∷ [])) (suc p) a b long (omega arith)
    ∙ append_snoc done y b in
    bool_case (eqb x y)
    (λ q. rw q (ap (λ (z : ℕ). put_new (done ++ (z ∷ a)) (entries_from (suc p) a b)) (eqb-true x y q) ∙ rest))
    (λ q. rw q (ap (λ (l : List ℕ). put_new l (entries_from (suc p) a b)) (set_at done x a y p n) ∙ rest))

pub put-new : (a b : List ℕ) → length a ≡ length b → put_new a (entries a b) ≡ b
put-new a b e = put-behind [] 0 a b refl e

-- ---- a list and itself

same_from : (p : ℕ) (a : List ℕ) → entries_from p a a ≡ []
unfolding entries_from
same_from p [] = refl
same_from p (x ∷ a) = rw (eq-eqb x x refl) (same_from (suc p) a)

pub same_none : (a : List ℕ) → entries a a ≡ []
same_none a = same_from 0 a

-- and only that: lists of one length without a difference are equal
pub none_same : (a b : List ℕ) → length a ≡ length b → entries a b ≡ [] → a ≡ b
unfolding put_new
none_same a b e n = ap (put_new a) (sym n) ∙ put-new a b e

-- ---- the two lists exchanged

abbrev pub exchange : Entry → Entry
exchange e = record { place = e.place; old = e.new; new = e.old }

exchanged_from : (p : ℕ) (a b : List ℕ) → entries_from p b a ≡ map exchange (entries_from p a b)
unfolding entries_from
exchanged_from p [] [] = refl
exchanged_from p [] (y ∷ b) = refl
exchanged_from p (x ∷ a) [] = refl
exchanged_from p (x ∷ a) (y ∷ b) =
    bool_case (eqb x y)
    (λ q. rw (q, eq-eqb y x (sym (eqb-true x y q))) (exchanged_from (suc p) a b))
    (λ q. rw (q, ne_eqb y x (λ s. eqb-false x y q (sym s))) (ap (λ (r : List Entry). entry_at p y x ∷ r) (exchanged_from (suc p) a b)))

pub exchanged : (a b : List ℕ) → entries b a ≡ map exchange (entries a b)
exchanged a b = exchanged_from 0 a b

-- ---- how many: at most one for each word of a table, so never more than edition 2 has words

length-entries : (p : ℕ) (a b : List ℕ) → length (entries_from p a b) ≤ length a
unfolding entries_from
length-entries p [] b = omega arith
length-entries p (x ∷ a) [] = omega arith
length-entries p (x ∷ a) (y ∷ b) =
    bool_case (eqb x y) (λ e. rw e (omega (arith, length-entries (suc p) a b))) (λ e. rw e (omega (arith, length-entries (suc p) a b)))

pub few_entries : (a b : List ℕ) → Formed a → length (entries a b) ≤ size two
few_entries a b f = omega (arith, length-entries 0 a b, formed_most a f)

pub three_words : (es : List Entry) → length (entry_words es) ≡ 3 * length es
three_words = length-words

-- ---- the refusals behind 1 and 2, exactly: 13, 8, and none

-- two well-formed tables of one edition
pub record OneEdition (a b : List ℕ) : Type 0 where
  pub first : Formed a
  pub second : Formed b
  pub same : length a ≡ length b

-- any number but 1 and 2 is of two well-formed tables
behind_tables : (a b : List ℕ) (room n : ℕ) → compare_refusal a b room ≡ n → (n ≡ 1 → ⊥) → (n ≡ 2 → ⊥) → Formed a × Formed b
unfolding compare_refusal
behind_tables a b room n e no₁ no₂ =
    let first = table_to a _ n e no₁ no₂ in
    (first.0, (table_to b _ n first.1 no₁ no₂).0)

-- and any but 13 too of two of one edition
behind_editions : (a b : List ℕ) (room n : ℕ) → compare_refusal a b room ≡ n → (n ≡ 1 → ⊥) → (n ≡ 2 → ⊥) → (n ≡ 13 → ⊥) → OneEdition a b
behind_editions a b room n e no₁ no₂ no₁₃ =
    let t = behind_tables a b room n e no₁ no₂ in
    bool_case (eqb (length a) (length b))
    (λ q. record { first = t.0; second = t.1; same = eqb-true (length a) (length b) q })
    (λ q. absurd (no₁₃ (sym (other_edition a b room t.0 t.1 (eqb-false (length a) (length b) q) ∙ e))))

module _ (a b : List ℕ) (room : ℕ) where
  -- "then new 13, differing editions": two well-formed tables that are not as long
  pub thirteen : Formed a → Formed b → (length a ≡ length b → ⊥) → compare_refusal a b room ≡ 13
  thirteen f g d = sym (other_edition a b room f g d)

  pub only_thirteen : compare_refusal a b room ≡ 13 → Formed a × Formed b × (length a ≡ length b → ⊥)
  only_thirteen e =
      let t = behind_tables a b room 13 e (λ q. omega (arith, q)) (λ q. omega (arith, q)) in (
        t.0,
        t.1,
        λ same.
            bool_case (leb (3 * length (entries a b)) room)
            (λ q. let z = long_enough a b room t.0 t.1 same (leb-true (3 * length (entries a b)) room q) ∙ e in omega (arith, z))
            (λ q. let z = short_buffer a b room t.0 t.1 same (leb-false (3 * length (entries a b)) room q) ∙ e in omega (arith, z)),
      )

  -- "then 8, a short buffer": less room than three words an entry
  pub eight : OneEdition a b → room < 3 * length (entries a b) → compare_refusal a b room ≡ 8
  eight o h = sym (short_buffer a b room o.first o.second o.same h)

  pub only_eight : compare_refusal a b room ≡ 8 → OneEdition a b × (room < 3 * length (entries a b))
  only_eight e =
      let o = behind_editions a b room 8 e (λ q. omega (arith, q)) (λ q. omega (arith, q)) (λ q. omega (arith, q)) in
      bool_case (leb (3 * length (entries a b)) room)
      (λ q.
      let z = long_enough a b room o.first o.second o.same (leb-true (3 * length (entries a b)) room q) ∙ e in
      absurd (omega (arith, z)))
      (λ q. (o, leb-false (3 * length (entries a b)) room q))

  -- else none
  pub accepted : OneEdition a b → 3 * length (entries a b) ≤ room → compare_refusal a b room ≡ 0
  accepted o h = sym (long_enough a b room o.first o.second o.same h)

  pub only-accepted : compare_refusal a b room ≡ 0 → OneEdition a b × (3 * length (entries a b) ≤ room)
  only-accepted e =
      let o = behind_editions a b room 0 e (λ q. omega (arith, q)) (λ q. omega (arith, q)) (λ q. omega (arith, q)) in
      bool_case (leb (3 * length (entries a b)) room)
      (λ q. (o, leb-true (3 * length (entries a b)) room q))
      (λ q.
      let z = short_buffer a b room o.first o.second o.same (leb-false (3 * length (entries a b)) room q) ∙ e in
      absurd (omega (arith, z)))

-- every refusal number of a comparison is a refusal's
compare-coded : (a b : List ℕ) (room : ℕ) → coded (compare_refusal a b room) ≡ true
unfolding compare_refusal refusal_with table_refusal
compare-coded a b room =
    let behind = need-all coded _ 13 _ refl (need-all coded _ 8 0 refl refl) in
    need-all coded _ 1 _ refl (need-all coded _ 2 _ refl (need-all coded _ 1 _ refl (need-all coded _ 2 _ refl behind)))

-- ---- what a comparison gives back

module _ (a b buffer : List ℕ) (r : Result ℕ Refusal) (buffer' : List ℕ) (c : Compares a b buffer r buffer') where
  pub refusal_is : refusal_number r ≡ compare_refusal a b (length buffer)
  unfolding compare_reply
  refusal_is = ap refusal_number c.reply ∙ given-number _ _ (compare-coded a b (length buffer))

  -- "A refusal writes nothing and reports 0"
  pub refused_leaves : (refusal_number r ≡ 0 → ⊥) → (number_given r ≡ 0) × (buffer' ≡ buffer)
  unfolding buffer_after compare_reply
  refused_leaves d =
      let some : compare_refusal a b (length buffer) ≡ 0 → ⊥ = λ z. d (refusal_is ∙ z) in
      let more : eqb (compare_refusal a b (length buffer)) 0 ≡ false = ne_eqb _ 0 some in
      (ap number_given c.reply ∙ number_given-0 _ _ some, rw more at c.words)

  module _ (z : refusal_number r ≡ 0) where
    pub of_one_edition : OneEdition a b
    of_one_edition = (only-accepted a b (length buffer) (sym refusal_is ∙ z)).0

    -- "report how many"
    pub count_entries : number_given r ≡ length (entries a b)
    unfolding compare_reply
    count_entries = ap number_given (c.reply ∙ given_0 _ _ (sym refusal_is ∙ z))

    -- the entries stand first, and "words past the last entry stay"
    pub words_are : buffer' ≡ entry_words (entries a b) ++ drop (3 * number_given r) buffer
    unfolding buffer_after
    words_are = c.words ∙ rw (sym refusal_is ∙ z, count_entries)

    pub room_enough : 3 * number_given r ≤ length buffer
    room_enough = rw count_entries (only-accepted a b (length buffer) (sym refusal_is ∙ z)).1

    -- "Putting the new words into the first table must give the second"
    pub gives_second : put_new a (entries a b) ≡ b
    gives_second = put-new a b of_one_edition.same

-- any two results that fit are equal
pub compares_agree : (a b buffer : List ℕ) (r r₁ : Result ℕ Refusal) (buffer' buffer₁ : List ℕ) → Compares a b buffer r buffer' → Compares a b buffer r₁ buffer₁
    → (r ≡ r₁) × (buffer' ≡ buffer₁)
compares_agree a b buffer r r₁ buffer' buffer₁ c d = (c.reply ∙ sym d.reply, c.words ∙ sym d.words)

-- a well-formed table and itself: no refusal, no entry, and the buffer as it was, whatever its length
pub same_compared : (t buffer : List ℕ) (r : Result ℕ Refusal) (buffer' : List ℕ) → Formed t → Compares t t buffer r buffer'
    → (r ≡ Ok 0) × (buffer' ≡ buffer)
unfolding buffer_after compare_reply entry_words given
same_compared t buffer r buffer' f c =
    let none = same_none t in
    let zero-long : length (entries t t) ≡ 0 = ap length none in
    let z : compare_refusal t t (length buffer) ≡ 0 = accepted t t (length buffer) (record { first = f; second = f; same = refl }) (omega arith) in
    (c.reply ∙ rw (z, zero-long) refl, c.words ∙ rw (z, none) refl)
