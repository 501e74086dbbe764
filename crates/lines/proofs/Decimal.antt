-- Laws of decimal numbers: a number's text and a text's value are inverse.
-- In order: the text of a small number and of ten times a number and a digit; its length; its value; which texts are
-- decimal numbers, byte by byte; the text of a text's value.
use Prim.Native.Nat.{◌%◌, ◌*◌, ◌+◌, ◌-◌, ◌/◌, ◌<◌, ◌^◌, ◌≤◌, suc, zero, ℕ}
use Rattle.lines.proofs.Bools.{all_snoc, and_both, and_l, and_r, bool_case}
use Rattle.lines.specs.Lines.{all, decimal, digits, is_decimal, is_digit, is_number, number_limit, value, value_from, zero_digit}
use borrow.Author.Tests.{eq-eqb, eqb-false, eqb-true, le-leb, le-ltb, leb-false, leb-true, lt-leb, lt-ltb, ltb-false, ltb-true, ne_eqb, not-true}
use lib.Dec.{eqb, leb, ltb}
use lib.ListN.{length, length-append}
use mathlib.Core.Bool.{Bool, ◌&&◌, and_assoc, and_comm, and-false, and-true, false, not, true}
use mathlib.Core.List.{List, [], ◌++◌, ◌∷◌, append_assoc, append-nil}
use mathlib.Core.Path.{◌∙◌, ◌≡◌, ap, refl, sym}
use native.Mathlib.Nat.{le_refl, pow-suc}
use native.Mathlib.Omega.{arith}

-- ---- the text

digits_small : (f n : ℕ) → n < 10 → digits f n ≡ (zero_digit + n) ∷ []
unfolding digits
digits_small zero n h = refl
digits_small (suc f) n h = rw (lt-ltb n 10 h, digits)

digits_more : (f n : ℕ) → 10 ≤ n → digits (suc f) n ≡ digits f (n / 10) ++ (zero_digit + n % 10) ∷ []
unfolding digits
digits_more f n h = rw (le-ltb n 10 h, digits)

digits_fuel : (f g n : ℕ) → n ≤ f → n ≤ g → digits f n ≡ digits g n
digits_fuel zero g n p q = digits_small zero n (omega arith) ∙ sym (digits_small g n (omega arith))
digits_fuel (suc f) zero n p q = digits_small (suc f) n (omega arith) ∙ sym (digits_small zero n (omega arith))
digits_fuel (suc f) (suc g) n p q =
    bool_case (ltb n 10)
    (λ e. let h : n < 10 = ltb-true n 10 e in digits_small (suc f) n h ∙ sym (digits_small (suc g) n h))
    (λ e.
    let h : 10 ≤ n = ltb-false n 10 e in
    digits_more f n h
    ∙ ap (λ (l : List ℕ). l ++ (zero_digit + n % 10) ∷ []) (digits_fuel f g (n / 10) (omega arith) (omega arith))
    ∙ sym (digits_more g n h))

pub decimal_small : (n : ℕ) → n < 10 → decimal n ≡ (zero_digit + n) ∷ []
unfolding decimal
decimal_small n h = digits_small n n h

pub decimal_more : (n : ℕ) → 10 ≤ n → decimal n ≡ decimal (n / 10) ++ (zero_digit + n % 10) ∷ []
unfolding decimal
decimal_more zero h = absurd (omega arith)
decimal_more (suc m) h =
    digits_more m (suc m) h
    ∙ ap (λ (l : List ℕ). l ++ (zero_digit + suc m % 10) ∷ []) (digits_fuel m (suc m / 10) (suc m / 10) (omega arith) (le_refl (suc m / 10)))

decimal-push : (v d : ℕ) → 0 < v → d < 10 → decimal (v * 10 + d) ≡ decimal v ++ (zero_digit + d) ∷ []
decimal-push v d p h =
    let q : (v * 10 + d) / 10 ≡ v = omega arith in
    let r : (v * 10 + d) % 10 ≡ d = omega arith in
    decimal_more (v * 10 + d) (omega arith) ∙ ap (λ (k : ℕ). decimal k ++ (zero_digit + (v * 10 + d) % 10) ∷ []) q
    ∙ ap (λ (k : ℕ). decimal v ++ (zero_digit + k) ∷ []) r

ind_below : (P : ℕ → Type 0) → ((n : ℕ) → n < 10 → P n) → ((n : ℕ) → 10 ≤ n → P (n / 10) → P n) → (f n : ℕ) → n ≤ f → P n
ind_below P small more zero n h = small n (omega arith)
ind_below P small more (suc f) n h =
    bool_case (ltb n 10)
    (λ e. small n (ltb-true n 10 e))
    (λ e. let l : 10 ≤ n = ltb-false n 10 e in more n l (ind_below P small more f (n / 10) (omega arith)))

-- what holds of the digits, and of a number where it holds of the number without its last digit, holds of each number
decimal_ind : (P : ℕ → Type 0) → ((n : ℕ) → n < 10 → P n) → ((n : ℕ) → 10 ≤ n → P (n / 10) → P n) → (n : ℕ) → P n
decimal_ind P small more n = ind_below P small more n n (le_refl n)

-- ---- its length

pub length_more : (n : ℕ) → 10 ≤ n → length (decimal n) ≡ length (decimal (n / 10)) + 1
length_more n h = ap length (decimal_more n h) ∙ length-append (decimal (n / 10)) ((zero_digit + n % 10) ∷ [])

pub length-decimal : (k n : ℕ) → n < 10 ^ suc k → length (decimal n) ≤ suc k
length-decimal k n h =
    bool_case (ltb n 10) (λ e. omega (arith, ap length (decimal_small n (ltb-true n 10 e)))) (λ e. long k n h (ltb-false n 10 e))
  where
    long : (k n : ℕ) → n < 10 ^ suc k → 10 ≤ n → length (decimal n) ≤ suc k
    long zero n h l = absurd (omega arith)
    long (suc k) n h l =
        let r : n < 10 ^ suc k * 10 = rw (pow-suc 10 (suc k)) at h in
        bool_case (ltb (n / 10) 10)
        (λ e. omega (arith, length_more n l, ap length (decimal_small (n / 10) (ltb-true (n / 10) 10 e))))
        (λ e. omega (arith, length_more n l, long k (n / 10) (omega arith) (ltb-false (n / 10) 10 e)))

-- ---- its value

pub value_snoc : (v : ℕ) (ds : List ℕ) (d : ℕ) → value_from v (ds ++ d ∷ []) ≡ value_from v ds * 10 + (d - zero_digit)
unfolding value_from
value_snoc v [] d = refl
value_snoc v (e ∷ ds) d = value_snoc (v * 10 + (e - zero_digit)) ds d

pub value-decimal : (n : ℕ) → value (decimal n) ≡ n
unfolding value_from
value-decimal =
    decimal_ind (λ n. value (decimal n) ≡ n)
    (λ n h. rw (decimal_small n h) (omega arith))
    (λ n h i. rw (decimal_more n h, value_snoc 0 (decimal (n / 10)) (zero_digit + n % 10), i) (omega arith))

value-least : (v : ℕ) (ds : List ℕ) → v ≤ value_from v ds
unfolding value_from
value-least v [] = le_refl v
value-least v (d ∷ ds) = omega (arith, value-least (v * 10 + (d - zero_digit)) ds)

-- ---- which texts are decimal numbers

pub digit_low : (b : ℕ) → is_digit b ≡ true → zero_digit ≤ b
digit_low b e = leb-true zero_digit b (and_l (leb zero_digit b) (leb b (zero_digit + 9)) e)

pub digit_high : (b : ℕ) → is_digit b ≡ true → b ≤ zero_digit + 9
digit_high b e = leb-true b (zero_digit + 9) (and_r (leb zero_digit b) (leb b (zero_digit + 9)) e)

pub digit_is : (b : ℕ) → zero_digit ≤ b → b ≤ zero_digit + 9 → is_digit b ≡ true
digit_is b l h = and_both (leb zero_digit b) (leb b (zero_digit + 9)) (le-leb zero_digit b l) (le-leb b (zero_digit + 9) h)

digit_zero : (a : ℕ) → is_digit a ≡ true → eqb (0 * 10 + (a - zero_digit)) 0 ≡ eqb a zero_digit
digit_zero a e =
    let l : zero_digit ≤ a = digit_low a e in
    bool_case (eqb a zero_digit)
    (λ q. let z : a ≡ zero_digit = eqb-true a zero_digit q in rw q (eq-eqb (0 * 10 + (a - zero_digit)) 0 (omega arith)))
    (λ q. let z : a ≡ zero_digit → ⊥ = eqb-false a zero_digit q in rw q (ne_eqb (0 * 10 + (a - zero_digit)) 0 (λ r. z (omega arith))))

value_positive : (d : ℕ) (ds : List ℕ) → is_digit d ≡ true → not (eqb d zero_digit) ≡ true → eqb (value (d ∷ ds)) 0 ≡ false
unfolding value_from
value_positive d ds e n =
    let l : zero_digit ≤ d = digit_low d e in
    let z : d ≡ zero_digit → ⊥ = eqb-false d zero_digit (not-true (eqb d zero_digit) n) in
    let v : 0 * 10 + (d - zero_digit) ≤ value_from (0 * 10 + (d - zero_digit)) ds = value-least (0 * 10 + (d - zero_digit)) ds in
    ne_eqb (value_from (0 * 10 + (d - zero_digit)) ds) 0 (λ r. omega arith)

-- one byte more: a digit, and not behind a 0
is_decimal_snoc : (a : ℕ) (w : List ℕ) (b : ℕ) → is_decimal (a ∷ w ++ b ∷ []) ≡ is_decimal (a ∷ w) && (is_digit b && not (eqb (value (a ∷ w)) 0))
unfolding is_decimal all value_from
is_decimal_snoc a [] b =
    bool_case (is_digit a)
    (λ e. rw (digit_zero a e, e) (and_comm (not (eqb a zero_digit)) (is_digit b && true) ∙ ap (λ (t : Bool). t && not (eqb a zero_digit)) (and-true (is_digit b))))
    (λ e. rw e)
is_decimal_snoc a (d ∷ ds) b =
    bool_case (is_digit a)
    (λ e.
    bool_case (not (eqb a zero_digit))
    (λ n.
    let p : all is_digit (d ∷ ds ++ b ∷ []) ≡ all is_digit (d ∷ ds) && is_digit b = all_snoc is_digit (d ∷ ds) b in
    let v : eqb (value (a ∷ d ∷ ds)) 0 ≡ false = value_positive a (d ∷ ds) e n in
    rw (v, e, n) (p ∙ ap (λ (t : Bool). all is_digit (d ∷ ds) && t) (sym (and-true (is_digit b)))))
    (λ n. rw (e, n)))
    (λ e. rw e)

is_decimal_more : (w : List ℕ) (b : ℕ) → is_decimal w ≡ true → is_digit b ≡ true → (value w ≡ 0 → ⊥) → is_decimal (w ++ b ∷ []) ≡ true
unfolding value_from
is_decimal_more [] b e d z = absurd (z refl)
is_decimal_more (a ∷ w) b e d z = is_decimal_snoc a w b ∙ rw (e, d, ne_eqb (value (a ∷ w)) 0 z)

pub is_decimal-decimal : (n : ℕ) → is_decimal (decimal n) ≡ true
unfolding is_decimal
is_decimal-decimal =
    decimal_ind (λ n. is_decimal (decimal n) ≡ true)
    (λ n h. rw (decimal_small n h) (digit_is (zero_digit + n) (omega arith) (omega arith)))
    (λ n h i.
    rw (decimal_more n h)
    (is_decimal_more (decimal (n / 10)) (zero_digit + n % 10) i (digit_is (zero_digit + n % 10) (omega arith) (omega arith))
    (λ z. let v : n / 10 ≡ 0 = sym (value-decimal (n / 10)) ∙ z in omega arith)))

regrouped : (d m i n l : Bool) → (m ≡ false → l ≡ false) → d && (i && n) && l ≡ d && m && (i && (n && l))
regrouped false m i n l h = refl
regrouped true true i n l h = and_assoc i n l
regrouped true false i n l h = rw (h refl) (and-false (i && n))

-- the same for a number within the limit
pub is_number_snoc : (a : ℕ) (w : List ℕ) (b : ℕ)
    → is_number (a ∷ w ++ b ∷ [])
    ≡ is_number (a ∷ w) && (is_digit b && (not (eqb (value (a ∷ w)) 0) && leb (value (a ∷ w) * 10 + (b - zero_digit)) number_limit))
unfolding is_number
is_number_snoc a w b =
    rw (is_decimal_snoc a w b, value_snoc 0 (a ∷ w) b)
    (regrouped (is_decimal (a ∷ w)) (leb (value (a ∷ w)) number_limit) (is_digit b) (not (eqb (value (a ∷ w)) 0))
    (leb (value (a ∷ w) * 10 + (b - zero_digit)) number_limit)
    (λ e.
    let over : number_limit < value (a ∷ w) = leb-false (value (a ∷ w)) number_limit e in
    lt-leb (value (a ∷ w) * 10 + (b - zero_digit)) number_limit (omega arith)))

pub is_number-one : (b : ℕ) → is_number (b ∷ []) ≡ is_digit b
unfolding is_number is_decimal value_from
is_number-one b =
    bool_case (is_digit b)
    (λ e. let h : b ≤ zero_digit + 9 = digit_high b e in rw (e, le-leb (0 * 10 + (b - zero_digit)) number_limit (omega arith)))
    (λ e. rw e)

pub is_number-decimal : (n : ℕ) → n ≤ number_limit → is_number (decimal n) ≡ true
unfolding is_number
is_number-decimal n h = and_both (is_decimal (decimal n)) (leb (value (decimal n)) number_limit) (is_decimal-decimal n) (rw value-decimal (le-leb n number_limit h))

-- ---- the text of a text's value

value-text : (v : ℕ) (ds : List ℕ) → 0 < v → all is_digit ds ≡ true → decimal (value_from v ds) ≡ decimal v ++ ds
unfolding all value_from
value-text v [] p e = sym (append-nil (decimal v))
value-text v (d ∷ ds) p e =
    let l : zero_digit ≤ d = digit_low d (and_l (is_digit d) (all is_digit ds) e) in
    let h : d ≤ zero_digit + 9 = digit_high d (and_l (is_digit d) (all is_digit ds) e) in
    let q : zero_digit + (d - zero_digit) ≡ d = omega arith in
    value-text (v * 10 + (d - zero_digit)) ds (omega arith) (and_r (is_digit d) (all is_digit ds) e)
    ∙ ap (λ (l : List ℕ). l ++ ds) (decimal-push v (d - zero_digit) p (omega arith))
    ∙ ap (λ (k : ℕ). decimal v ++ k ∷ [] ++ ds) q
    ∙ append_assoc (decimal v) (d ∷ []) ds

pub decimal-value : (w : List ℕ) → is_decimal w ≡ true → decimal (value w) ≡ w
unfolding is_decimal value_from all
decimal-value [] e = absurd (let z : ◌≡◌ {A = ℕ} 0 1 = cc in omega arith)
decimal-value (d ∷ []) e =
    let l : zero_digit ≤ d = digit_low d e in
    let h : d ≤ zero_digit + 9 = digit_high d e in
    let q : zero_digit + (0 * 10 + (d - zero_digit)) ≡ d = omega arith in
    decimal_small (0 * 10 + (d - zero_digit)) (omega arith) ∙ ap (λ (k : ℕ). k ∷ []) q
decimal-value (d ∷ f ∷ ds) e =
    let first : is_digit d && not (eqb d zero_digit) ≡ true = and_l (is_digit d && not (eqb d zero_digit)) (all is_digit (f ∷ ds)) e in
    let l : zero_digit ≤ d = digit_low d (and_l (is_digit d) (not (eqb d zero_digit)) first) in
    let h : d ≤ zero_digit + 9 = digit_high d (and_l (is_digit d) (not (eqb d zero_digit)) first) in
    let z : d ≡ zero_digit → ⊥ = eqb-false d zero_digit (not-true (eqb d zero_digit) (and_r (is_digit d) (not (eqb d zero_digit)) first)) in
    let q : zero_digit + (0 * 10 + (d - zero_digit)) ≡ d = omega arith in
    value-text (0 * 10 + (d - zero_digit)) (f ∷ ds) (omega arith) (and_r (is_digit d && not (eqb d zero_digit)) (all is_digit (f ∷ ds)) e)
    ∙ ap (λ (l : List ℕ). l ++ f ∷ ds) (decimal_small (0 * 10 + (d - zero_digit)) (omega arith) ∙ ap (λ (k : ℕ). k ∷ []) q)
