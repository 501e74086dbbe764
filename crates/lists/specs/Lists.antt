-- What the functions of this crate do to a list of words, and how a list of numbers is written in words: definitions alone.
-- In order: a list of words (a place of it goes in, goes out, is looked for; its tests; the place of a key); a list of
-- numbers in words (`entries`, `padded`, and back, `numbers`); a list of numbers by itself (`insert`, `without`, `only`, `occ`).
-- Not here: the laws (proofs/Laws.antt), and where a list stands in the table.
use Rattle.std.specs.Prelude.{◌+◌, pred, suc, zero, ℕ, eqb, ltb, get_or, Bool, cond, false, not, true, List, [], ◌++◌, ◌∷◌, ◌≡◌, ◌==◌, Option, position}

-- ---- a list of words

-- v goes in front, every entry moves one place on, and the last one falls out
unfoldable pub shift_in : ℕ → List ℕ → List ℕ
shift_in v [] = []
shift_in v (x ∷ xs) = v ∷ shift_in x xs

-- the same from place n on
unfoldable pub insert_at : ℕ → ℕ → List ℕ → List ℕ
insert_at zero v l = shift_in v l
insert_at (suc n) v [] = []
insert_at (suc n) v (x ∷ xs) = x ∷ insert_at n v xs

-- the entry at place n goes, those behind it move up, and a 0 comes last
unfoldable pub remove_at : ℕ → List ℕ → List ℕ
remove_at n [] = []
remove_at zero (x ∷ xs) = xs ++ 0 ∷ []
remove_at (suc n) (x ∷ xs) = x ∷ remove_at n xs

-- the first n words go, those behind them move up, and zeros come last
unfoldable pub remove_first : ℕ → List ℕ → List ℕ
remove_first zero l = l
remove_first (suc n) l = remove_first n (remove_at 0 l)

-- the first place that holds v, or the length
unfoldable pub index_of : ℕ → List ℕ → ℕ
index_of v [] = 0
index_of v (x ∷ xs) = cond (eqb x v) 0 (suc (index_of v xs))

-- the same as an answer: that place, or that there is none
abbrev pub found_at : ℕ → List ℕ → Option ℕ
found_at v l = position (λ x. x == v) l

-- nothing but zeros
unfoldable pub all_zero : List ℕ → Bool
all_zero [] = true
all_zero (x ∷ xs) = cond (eqb x 0) (all_zero xs) false

-- entries that are not 0, and then nothing but zeros
unfoldable pub packed : List ℕ → Bool
packed [] = true
packed (x ∷ xs) = cond (eqb x 0) (all_zero xs) (packed xs)

-- the place behind all entries whose key is p or a more urgent one, where ks gives each number its key
unfoldable pub place_in : List ℕ → ℕ → List ℕ → ℕ
place_in ks p [] = 0
place_in ks p (e ∷ es) = cond (eqb e 0) 0 (cond (ltb p (get_or ks (pred e) 0)) 0 (suc (place_in ks p es)))

-- number i has joined the list: its place by its key, and the list with its entry there
pub record Joined (ks : List ℕ) (i : ℕ) (before : List ℕ) (k : ℕ) (after : List ℕ) : Type 0 where
  pub place : k ≡ place_in ks (get_or ks i 0) before
  pub list : after ≡ insert_at (place_in ks (get_or ks i 0) before) (suc i) before

-- ---- a list of numbers, in words

-- a list of numbers in n words: each number plus 1, then zeros
unfoldable pub entries : ℕ → List ℕ → List ℕ
entries zero xs = []
entries (suc n) [] = 0 ∷ entries n []
entries (suc n) (x ∷ xs) = suc x ∷ entries n xs

-- a list of words in n words: as they are, then zeros
unfoldable pub padded : ℕ → List ℕ → List ℕ
padded zero xs = []
padded (suc n) [] = 0 ∷ padded n []
padded (suc n) (x ∷ xs) = x ∷ padded n xs

-- the numbers of a list of words, up to the first 0
unfoldable pub numbers : List ℕ → List ℕ
numbers [] = []
numbers (x ∷ xs) = cond (eqb x 0) [] (pred x ∷ numbers xs)

-- ---- a list of numbers, by itself

-- t behind all entries of its own or a more urgent key
unfoldable pub insert : (ℕ → ℕ) → ℕ → List ℕ → List ℕ
insert key t [] = t ∷ []
insert key t (x ∷ xs) = cond (ltb (key t) (key x)) (t ∷ (x ∷ xs)) (x ∷ insert key t xs)

-- how many entries stand before one of key p that joins
unfoldable pub place_of : (ℕ → ℕ) → ℕ → List ℕ → ℕ
place_of key p [] = 0
place_of key p (x ∷ xs) = cond (ltb p (key x)) 0 (suc (place_of key p xs))

-- the list, every t taken out
unfoldable pub without : ℕ → List ℕ → List ℕ
without t [] = []
without t (x ∷ xs) = cond (eqb x t) (without t xs) (x ∷ without t xs)

-- the entries that pass a test, in their order
unfoldable pub only : (ℕ → Bool) → List ℕ → List ℕ
only p [] = []
only p (x ∷ xs) = cond (p x) (x ∷ only p xs) (only p xs)

-- the list, those that pass the test left out
abbrev pub left_out : (ℕ → Bool) → List ℕ → List ℕ
left_out p l = only (λ i. not (p i)) l

-- a test as a number
abbrev pub bit : Bool → ℕ
bit true = 1
bit false = 0

-- how often i stands in the list
unfoldable pub occ : ℕ → List ℕ → ℕ
occ i [] = 0
occ i (x ∷ xs) = bit (eqb x i) + occ i xs
