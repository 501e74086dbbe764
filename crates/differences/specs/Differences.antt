-- M-106, "Compare two tables": the places at which two tables differ. In the paper's order: an entry, and the entries of two lists of
-- words; the new words put into the first; when a comparison is refused; what is given back, and what the buffer holds afterwards.
-- Not here: that the entries are exactly the differing places, and that they take the first table to the second (proofs/Promise).
use Rattle.std.specs.Prelude.{◌*◌, suc, ℕ, eqb, leb, drop, length, set, cond, List, [], ◌++◌, ◌∷◌, Result, ◌≡◌}
use Rattle.rules.specs.Refusals.{need, on_table}
use Rattle.rules.specs.Reply.{given}
use Rattle.rules.specs.Table.{edition_of}
use Rattle.rules.specs.declared.Refusal.{Refusal}

-- ---- "the differing places in rising order, each as place (from 0), old word, new word"

pub record Entry : Type 0 where
  pub place : ℕ
  pub old : ℕ
  pub new : ℕ

-- the entries of two lists of words whose first words stand at place p: an equal word is passed over, a differing one is an entry, and
-- past the end of the shorter list there is none
unfoldable pub entries_from : ℕ → List ℕ → List ℕ → List Entry
entries_from p [] b = []
entries_from p (x ∷ a) [] = []
entries_from p (x ∷ a) (y ∷ b) =
    cond (eqb x y) (entries_from (suc p) a b) (record { place = p; old = x; new = y } ∷ entries_from (suc p) a b)

abbrev pub entries : List ℕ → List ℕ → List Entry
entries a b = entries_from 0 a b

-- three words an entry
unfoldable pub entry_words : List Entry → List ℕ
entry_words [] = []
entry_words (e ∷ es) = e.place ∷ e.old ∷ e.new ∷ entry_words es

-- ---- "Putting the new words into the first table": each at its place

unfoldable pub put_new : List ℕ → List Entry → List ℕ
put_new a [] = a
put_new a (e ∷ es) = put_new (set a e.place e.new) es

-- ---- "Refusals 1 and 2 for the first table, then for the second; then new 13, differing editions; then 8, a short buffer"

-- 1 and 2 for one table, in the edition that fits its length; `rest` is what is tested then
unfoldable pub table_refusal : List ℕ → ℕ → ℕ
table_refusal t rest = on_table (edition_of t) t rest

-- where the buffer has `room` words
unfoldable pub compare_refusal : List ℕ → List ℕ → ℕ → ℕ
compare_refusal a b room =
    table_refusal a (table_refusal b
    (need (eqb (edition_of a).edition (edition_of b).edition) 13
    (need (leb (3 * length (entries a b)) room) 8 0)))

-- ---- "report how many"; "A refusal writes nothing and reports 0" (`number_given`, of rules); "words past the last entry stay"

unfoldable pub compare_reply : List ℕ → List ℕ → ℕ → Result ℕ Refusal
compare_reply a b room = given (compare_refusal a b room) (length (entries a b))

unfoldable pub buffer_after : List ℕ → List ℕ → List ℕ → List ℕ
buffer_after a b buffer =
    cond (eqb (compare_refusal a b (length buffer)) 0)
    (entry_words (entries a b) ++ drop (3 * length (entries a b)) buffer)
    buffer

-- what is given back, and every word of the buffer
pub record Compares (a b buffer : List ℕ) (r : Result ℕ Refusal) (buffer' : List ℕ) : Type 0 where
  pub reply : r ≡ compare_reply a b (length buffer)
  pub words : buffer' ≡ buffer_after a b buffer
