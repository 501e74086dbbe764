-- A good line and the text of its numbers are one (`good_line`): every text of eight numbers is read as these, and a line
-- that is read as numbers is their text, so no other spelling is taken. No such line has more than 87 bytes, so the limit
-- of 90 turns none away (`good_by_numbers`), and the reader need not count.
-- In order: one number; a line of numbers and its length; eight numbers as a list; a line and its text.
use Prim.Native.Nat.{◌*◌, ◌<◌, ◌≤◌, ℕ}
use Rattle.lines.proofs.Bools.{and_both, and_l, and_r, bool_case}
use Rattle.lines.proofs.Decimal.{decimal-value, digit_low, is_decimal-decimal, is_number-decimal, length-decimal, value-decimal}
use Rattle.lines.proofs.Pieces.{joined-pieces, lacks, length-joined, pieces-joined}
use Rattle.lines.specs.Lines.{Line, all, are_numbers, call_of, decimal, field_count, is_decimal, is_digit, is_good, is_number, joined, line_limit, line_of, list_of, number_limit, pieces, space, spaced, text_of, value, zero_digit}
use Rattle.rules.specs.declared.Call.{Call}
use Rattle.std.specs.Prelude.{Err, Ok}
use borrow.Author.Tests.{eqb-true, le-leb, leb-true, ne_eqb}
use lib.Dec.{eqb, leb}
use lib.ListN.{length, length-map}
use mathlib.Core.Bool.{Bool, ◌&&◌, and-false, cond, false, not, true}
use mathlib.Core.List.{List, [], ◌∷◌, map}
use mathlib.Core.Logic.{◌↔◌}
use mathlib.Core.Path.{◌∙◌, ◌≡◌, ap, refl, sym}
use native.Mathlib.Omega.{arith}

-- ---- one number

number-text : (w : List ℕ) → is_number w ≡ true → decimal (value w) ≡ w
unfolding is_number
number-text w e = decimal-value w (and_l (is_decimal w) (leb (value w) number_limit) e)

number-within : (w : List ℕ) → is_number w ≡ true → value w ≤ number_limit
unfolding is_number
number-within w e = leb-true (value w) number_limit (and_r (is_decimal w) (leb (value w) number_limit) e)

length-number : (w : List ℕ) → is_number w ≡ true → length w ≤ 10
length-number w e =
    let h : value w ≤ number_limit = number-within w e in
    omega (arith, ap length (number-text w e), length-decimal 9 (value w) (omega arith))

digits_lack : (sep : ℕ) → sep < zero_digit → (w : List ℕ) → all is_digit w ≡ true → lacks sep w ≡ true
unfolding all
digits_lack sep h [] e = refl
digits_lack sep h (b ∷ w) e =
    let l : zero_digit ≤ b = digit_low b (and_l (is_digit b) (all is_digit w) e) in
    let n : eqb b sep ≡ false = ne_eqb b sep (λ q. omega arith) in
    rw n (digits_lack sep h w (and_r (is_digit b) (all is_digit w) e))

decimal-digits : (w : List ℕ) → is_decimal w ≡ true → all is_digit w ≡ true
unfolding all is_decimal
decimal-digits [] e = refl
decimal-digits (d ∷ []) e = and_both (is_digit d) true e refl
decimal-digits (d ∷ f ∷ w) e =
    let first : is_digit d && not (eqb d zero_digit) ≡ true = and_l (is_digit d && not (eqb d zero_digit)) (all is_digit (f ∷ w)) e in
    and_both (is_digit d) (all is_digit (f ∷ w)) (and_l (is_digit d) (not (eqb d zero_digit)) first)
    (and_r (is_digit d && not (eqb d zero_digit)) (all is_digit (f ∷ w)) e)

-- no byte of a number is one that stands below the digits: a space, a newline
pub decimal_lacks : (sep : ℕ) → sep < zero_digit → (n : ℕ) → lacks sep (decimal n) ≡ true
decimal_lacks sep h n = digits_lack sep h (decimal n) (decimal-digits (decimal n) (is_decimal-decimal n))

-- ---- a line of numbers

-- numbers of at most ten digits, with a byte between each two: 87 bytes for eight of them
numbers_short : (ws : List (List ℕ)) → are_numbers ws ≡ true → length (joined space ws) < 11 * field_count
unfolding are_numbers joined
numbers_short [] e = omega arith
numbers_short (w ∷ ws) e =
    let n : length (w ∷ ws) ≡ field_count = eqb-true (length (w ∷ ws)) field_count (and_l (eqb (length (w ∷ ws)) field_count) (all is_number (w ∷ ws)) e) in
    omega (arith, n, length-joined space 10 is_number length-number w ws (and_r (eqb (length (w ∷ ws)) field_count) (all is_number (w ∷ ws)) e))

-- so the limit of a line is no test of its own
pub good_by_numbers : (line : List ℕ) → is_good line ≡ are_numbers (pieces space line)
unfolding is_good
good_by_numbers line =
    bool_case (are_numbers (pieces space line))
    (λ e.
    let short : length line < 11 * field_count = rw (joined-pieces space [] line) at (numbers_short (pieces space line) e) in
    rw (e, le-leb (length line) line_limit (omega arith)))
    (λ e. rw e (and-false (leb (length line) line_limit)))

-- line n, by its words
unfoldable pub judged : ℕ → List (List ℕ) → Line
judged n ws = cond (are_numbers ws) (Ok (call_of (map value ws))) (Err (record { line = n }))

pub judged_good : (n : ℕ) (ws : List (List ℕ)) → are_numbers ws ≡ true → judged n ws ≡ Ok (call_of (map value ws))
unfolding judged
judged_good n ws e = rw e

pub judged_bad : (n : ℕ) (ws : List (List ℕ)) → are_numbers ws ≡ false → judged n ws ≡ Err (record { line = n })
unfolding judged
judged_bad n ws e = rw e

pub line_by_words : (n : ℕ) (line : List ℕ) → line_of n line ≡ judged n (pieces space line)
unfolding judged line_of
line_by_words n line = rw (good_by_numbers line)

-- ---- eight numbers as a list

abbrev pub within : List ℕ → Bool
within ns = all (λ v. leb v number_limit) ns

-- the numbers of a list of eight are that list
pub list_of-call_of : (ns : List ℕ) → length ns ≡ field_count → list_of (call_of ns) ≡ ns
unfolding call_of
list_of-call_of [] e = absurd (omega arith)
list_of-call_of (a ∷ []) e = absurd (omega arith)
list_of-call_of (a ∷ b ∷ []) e = absurd (omega arith)
list_of-call_of (a ∷ b ∷ c ∷ []) e = absurd (omega arith)
list_of-call_of (a ∷ b ∷ c ∷ d ∷ []) e = absurd (omega arith)
list_of-call_of (a ∷ b ∷ c ∷ d ∷ f ∷ []) e = absurd (omega arith)
list_of-call_of (a ∷ b ∷ c ∷ d ∷ f ∷ g ∷ []) e = absurd (omega arith)
list_of-call_of (a ∷ b ∷ c ∷ d ∷ f ∷ g ∷ h ∷ []) e = absurd (omega arith)
list_of-call_of (a ∷ b ∷ c ∷ d ∷ f ∷ g ∷ h ∷ i ∷ []) e = refl
list_of-call_of (a ∷ b ∷ c ∷ d ∷ f ∷ g ∷ h ∷ i ∷ j ∷ ns) e = absurd (omega arith)

numbers-decimal : (ns : List ℕ) → within ns ≡ true → all is_number (map decimal ns) ≡ true
unfolding all
numbers-decimal [] e = refl
numbers-decimal (n ∷ ns) e =
    and_both (is_number (decimal n)) (all is_number (map decimal ns))
    (is_number-decimal n (leb-true n number_limit (and_l (leb n number_limit) (within ns) e)))
    (numbers-decimal ns (and_r (leb n number_limit) (within ns) e))

decimals_lack : (ns : List ℕ) → all (lacks space) (map decimal ns) ≡ true
unfolding all
decimals_lack [] = refl
decimals_lack (n ∷ ns) =
    and_both (lacks space (decimal n)) (all (lacks space) (map decimal ns))
    (decimal_lacks space (omega arith) n) (decimals_lack ns)

values_decimal : (ns : List ℕ) → map value (map decimal ns) ≡ ns
values_decimal [] = refl
values_decimal (n ∷ ns) = rw (value-decimal n, values_decimal ns)

decimals_value : (ws : List (List ℕ)) → all is_number ws ≡ true → map decimal (map value ws) ≡ ws
unfolding all
decimals_value [] e = refl
decimals_value (w ∷ ws) e =
    rw (number-text w (and_l (is_number w) (all is_number ws) e), decimals_value ws (and_r (is_number w) (all is_number ws) e))

within_values : (ws : List (List ℕ)) → all is_number ws ≡ true → within (map value ws) ≡ true
unfolding all
within_values [] e = refl
within_values (w ∷ ws) e =
    and_both (leb (value w) number_limit) (within (map value ws))
    (le-leb (value w) number_limit (number-within w (and_l (is_number w) (all is_number ws) e)))
    (within_values ws (and_r (is_number w) (all is_number ws) e))

-- ---- a line and its text

words-text : (x : Call) → pieces space (text_of x) ≡ map decimal (list_of x)
unfolding spaced text_of
words-text x = pieces-joined space (decimal x.service) (map decimal (x.caller ∷ x.target ∷ x.side ∷ x.mode ∷ x.ticks ∷ x.word ∷ x.high ∷ [])) (decimals_lack (list_of x))

-- every text of eight numbers is read as these numbers
pub read-text : (n : ℕ) (x : Call) → within (list_of x) ≡ true → line_of n (text_of x) ≡ Ok x
unfolding are_numbers call_of
read-text n x e =
    line_by_words n (text_of x)
    ∙ ap (judged n) (words-text x)
    ∙ judged_good n (map decimal (list_of x)) (numbers-decimal (list_of x) e)
    ∙ ap (λ (ns : List ℕ). Ok (call_of ns)) (values_decimal (list_of x))

-- a line that is read as numbers is their text
pub text-read : (n : ℕ) (line : List ℕ) (x : Call) → line_of n line ≡ Ok x → (line ≡ text_of x) × (within (list_of x) ≡ true)
unfolding are_numbers spaced text_of
text-read n line x e =
    bool_case (are_numbers (pieces space line))
    (λ good.
    let ws : List (List ℕ) = pieces space line in
    let count : length ws ≡ field_count = eqb-true (length ws) field_count (and_l (eqb (length ws) field_count) (all is_number ws) good) in
    let each : all is_number ws ≡ true = and_r (eqb (length ws) field_count) (all is_number ws) good in
    let same : call_of (map value ws) ≡ x = cc (line_by_words n line, judged_good n ws good, e) in
    let list : list_of (call_of (map value ws)) ≡ map value ws = list_of-call_of (map value ws) (length-map ws value ∙ count) in (
      sym (joined-pieces space [] line)
          ∙ ap (joined space) (sym (decimals_value ws each))
          ∙ ap (λ (ns : List ℕ). joined space (map decimal ns)) (sym list)
          ∙ ap text_of same,
      ap (λ (y : Call). within (list_of y)) (sym same) ∙ ap within list ∙ within_values ws each,
    ))
    (λ bad. let z : ◌≡◌ {A = ℕ} 0 1 = cc (line_by_words n line, judged_bad n (pieces space line) bad, e) in absurd (omega arith))

-- reader and text are inverse: line n is good with these numbers exactly if it is their text and each is within the limit
pub good_line : (n : ℕ) (line : List ℕ) (x : Call) → (line_of n line ≡ Ok x) ↔ ((line ≡ text_of x) × (within (list_of x) ≡ true))
good_line n line x = (λ e. text-read n line x e, λ p. rw p.0 (read-text n x p.1))
