-- Laws of the definitions of specs/Bytes.antt. In order: there and back (`bytes-words`, `words-bytes`), and how many bytes; words
-- from chunks of four bytes; the bytes of one word more.
-- Not here: laws of `take`, `drop`, `set`, `get_or` and `length` alone (`lib.Seq`, `lib.ListN`). Assumes nothing.
use Prim.Native.Nat.{◌%◌, ◌*◌, ◌+◌, ◌/◌, ◌<◌, suc, zero, ℕ}
use Rattle.bytes4.specs.Bytes.{bytes_of, word_of, words_from}
use Rattle.std.proofs.lemmas.List.{take_more}
use Rattle.std.specs.Int.{from_le_bytes, to_le_bytes, w32}
use Rattle.std.specs.Simd.{first_chunks}
use lib.ListN.{get_or, length, take}
use mathlib.Core.List.{List, [], ◌++◌, ◌∷◌, map}
use mathlib.Core.Path.{◌≡◌, refl}
use native.Mathlib.Nat.{div-add-mod', div-div-eq-div-mul}
use native.Mathlib.Omega.{arith}

-- ---- there and back

four : {a a' b b' c c' d d' : ℕ} {r r' : List ℕ} → a ≡ a' → b ≡ b' → c ≡ c' → d ≡ d' → r ≡ r'
    → ◌≡◌ {A = List ℕ} (a ∷ (b ∷ (c ∷ (d ∷ r)))) (a' ∷ (b' ∷ (c' ∷ (d' ∷ r'))))
four p q r s t = cc

pub bytes-words : (n : ℕ) (b : List ℕ) → length b ≡ 4 * n → ((i : ℕ) → i < length b → get_or b i 0 < 256) → bytes_of (words_from b) ≡ b
unfolding bytes_of words_from
bytes-words zero [] h small = refl
bytes-words zero (_ ∷ _) h small = absurd (omega arith)
bytes-words (suc n) (w ∷ (x ∷ (y ∷ (z ∷ b)))) h small =
    let h0 : w < 256 = small 0 (omega arith) in
    let h1 : x < 256 = small 1 (omega arith) in
    let h2 : y < 256 = small 2 (omega arith) in
    let h3 : z < 256 = small 3 (omega arith) in
    four (omega arith) (omega arith) (omega arith) (omega arith)
    (bytes-words n b (omega arith) (λ i l. small (suc (suc (suc (suc i)))) (omega arith)))
bytes-words (suc n) (_ ∷ (_ ∷ (_ ∷ []))) h small = absurd (omega arith)
bytes-words (suc n) (_ ∷ (_ ∷ [])) h small = absurd (omega arith)
bytes-words (suc n) (_ ∷ []) h small = absurd (omega arith)
bytes-words (suc n) [] h small = absurd (omega arith)

-- a word is its four bytes, by the quotients and the remainders of the bytes
parts : (w a b c d x y : ℕ) → x * 256 + a ≡ w → y * 256 + b ≡ x → d * 256 + c ≡ y → word_of a b c d ≡ w
parts w a b c d x y e₀ e₁ e₂ = omega arith

word_bytes : (w : ℕ) → w < 4294967296 → word_of (w % 256) (w / 256 % 256) (w / 65536 % 256) (w / 16777216 % 256) ≡ w
word_bytes w h =
    let x : w / 256 / 256 ≡ w / 65536 = div-div-eq-div-mul w 256 256 in
    let y : w / 65536 / 256 ≡ w / 16777216 = div-div-eq-div-mul w 65536 256 in
    let d : w / 16777216 % 256 ≡ w / 16777216 = omega arith in
    rw d
    (parts w (w % 256) (w / 256 % 256) (w / 65536 % 256) (w / 16777216) (w / 256) (w / 65536) (div-add-mod' w 256)
    (rw x at (div-add-mod' (w / 256) 256)) (rw y at (div-add-mod' (w / 65536) 256)))

pub words-bytes : (t : List ℕ) → ((i : ℕ) → i < length t → get_or t i 0 < 4294967296) → words_from (bytes_of t) ≡ t
unfolding bytes_of words_from
words-bytes [] small = refl
words-bytes (w ∷ t) small =
    let e = word_bytes w (small 0 (omega arith)) in
    let r = words-bytes t (λ i l. small (suc i) (omega arith)) in
    cc

pub length-bytes : (t : List ℕ) → length (bytes_of t) ≡ 4 * length t
unfolding bytes_of
length-bytes [] = refl
length-bytes (w ∷ t) = let r = length-bytes t in omega arith

-- ---- words from chunks of four bytes, and the bytes of one word more

pub words_chunks : (n : ℕ) (b : List ℕ) → length b ≡ 4 * n → map (from_le_bytes w32) (first_chunks 4 n b) ≡ words_from b
unfolding words_from
words_chunks zero [] h = refl
words_chunks zero (_ ∷ _) h = absurd (omega arith)
words_chunks (suc n) (w ∷ (x ∷ (y ∷ (z ∷ b)))) h =
    let first : from_le_bytes w32 (w ∷ x ∷ y ∷ z ∷ []) ≡ word_of w x y z = omega arith in
    let rest = words_chunks n b (omega arith) in
    rw (first, rest)
words_chunks (suc n) (_ ∷ (_ ∷ (_ ∷ []))) h = absurd (omega arith)
words_chunks (suc n) (_ ∷ (_ ∷ [])) h = absurd (omega arith)
words_chunks (suc n) (_ ∷ []) h = absurd (omega arith)
words_chunks (suc n) [] h = absurd (omega arith)

bytes-push : (xs : List ℕ) (w : ℕ) → bytes_of (xs ++ w ∷ []) ≡ bytes_of xs ++ to_le_bytes w32 w
unfolding bytes_of
bytes-push [] w = refl
bytes-push (x ∷ xs) w = four refl refl refl refl (bytes-push xs w)

pub bytes_more : (t : List ℕ) (i : ℕ) → i < length t → bytes_of (take (i + 1) t) ≡ bytes_of (take i t) ++ to_le_bytes w32 (get_or t i 0)
bytes_more t i h = rw (take_more t i 0 h) (bytes-push (take i t) (get_or t i 0))
