-- The reader's state over a line's bytes comes to the line: `read-line`, for every line of any length.
-- In order: the numbers pushed one by one; what the state is after some words and a part of the next (`State`); a space, any
-- other byte, the line's end; the theorem.
use Prim.Native.Nat.{◌*◌, ◌+◌, ◌-◌, ◌<◌, ◌≤◌, ℕ}
use Rattle.lines.proofs.Bools.{all_snoc, and_both, and_l, and_r, bool_case, false_by, false-true}
use Rattle.lines.proofs.Decimal.{digit_high, digit_is, digit_low, is_number-one, is_number_snoc, value_snoc}
use Rattle.lines.proofs.Pieces.{pieces_byte, pieces_sep}
use Rattle.lines.proofs.Steps.{byte_bad, byte_digit, byte_high, byte_low, byte_space, digit_first, digit_more, digit_more_over, digit_zero, end_bad, end_early, end_good, end_short, space_early, space_ends, space_over}
use Rattle.lines.proofs.Texts.{judged, judged_bad, judged_good, line_by_words, list_of-call_of}
use Rattle.lines.specs.Lines.{all, are_numbers, call_of, field_count, is_decimal, is_digit, is_number, line_of, number_limit, pieces_from, space, value, value_from, zero_digit}
use Rattle.lines.specs.Scan.{byte_step, digit_step, line_of_scan, no_numbers, push, scanned, spoilt, start_of}
use Rattle.rules.specs.declared.Call.{Call}
use Rattle.lines.specs.declared.Scan.{Scan}
use Rattle.std.specs.Prelude.{Err, None, Ok, Option, Some}
use borrow.Author.Tests.{eq-eqb, eqb-false, eqb-true, leb-false, leb-true, ltb-false, ltb-true, not-true}
use lib.Dec.{eqb, leb, ltb}
use lib.ListN.{length, length-append, length-map}
use mathlib.Core.Bool.{Bool, ◌&&◌, false, not, true}
use mathlib.Core.List.{List, [], ◌++◌, ◌∷◌, append_assoc, map}
use mathlib.Core.Logic.{◌⊎◌, inl, inr}
use mathlib.Core.Path.{◌∙◌, ◌≡◌, ap, refl, sym}
use native.Mathlib.Nat.{zero-add}
use native.Mathlib.Omega.{arith}

-- ---- the numbers pushed one by one

unfoldable push_all : Call → List ℕ → Call
push_all x [] = x
push_all x (v ∷ vs) = push_all (push x v) vs

push_last : (x : Call) (vs : List ℕ) (v : ℕ) → push_all x (vs ++ v ∷ []) ≡ push (push_all x vs) v
unfolding push_all
push_last x [] v = refl
push_last x (u ∷ vs) v = push_last (push x u) vs v

push_eight : (ns : List ℕ) → length ns ≡ field_count → push_all no_numbers ns ≡ call_of ns
unfolding call_of push_all
push_eight ns e = ap (push_all no_numbers) (sym (list_of-call_of ns e))

map_snoc : (ws : List (List ℕ)) (w : List ℕ) → map value (ws ++ w ∷ []) ≡ map value ws ++ value w ∷ []
map_snoc [] w = refl
map_snoc (v ∷ ws) w = ap (λ (t : List ℕ). value v ∷ t) (map_snoc ws w)

-- ---- the state after the words ws and a part w of the next

-- the number that a part says so far
said : List ℕ → Option ℕ
said [] = None
said (a ∷ w) = Some (value (a ∷ w))

-- a part is empty or a number itself
starts_number : List ℕ → Bool
starts_number [] = true
starts_number (a ∷ w) = is_number (a ∷ w)

-- nothing is wrong so far
record Fine (ws : List (List ℕ)) (w : List ℕ) : Type 0 where
  each : all is_number ws ≡ true
  few : length ws < field_count
  part : starts_number w ≡ true

unfoldable reading : ℕ → List (List ℕ) → List ℕ → Scan
reading n ws w = record { line = n; bad = false; fields = length ws; call = push_all no_numbers (map value ws); number = said w }

-- the line is bad
record Lost (n : ℕ) (s : Scan) : Type 0 where
  number : s.line ≡ n
  bad : s.bad ≡ true

lost : (n : ℕ) (s t : Scan) → s.line ≡ n → spoilt s ≡ t → Lost n t
lost n s t e q = record { number = ap (λ (u : Scan). u.line) (sym q) ∙ e; bad = ap (λ (u : Scan). u.bad) (sym q) }

lost_byte : (n : ℕ) (s : Scan) (b : ℕ) → Lost n s → Lost n (byte_step s b)
lost_byte n s b l = rw (← byte_bad s b l.bad) l

abbrev State : ℕ → Scan → List (List ℕ) → List ℕ → Type 0
State n s ws w = ((s ≡ reading n ws w) × Fine ws w) ⊎ (Lost n s × (Fine ws w → ⊥))

at-start : (n : ℕ) → State n (start_of n) [] []
unfolding all push_all said reading starts_number value_from
at-start n = inl (refl, record { each = refl; few = omega arith; part = refl })

number_starts : (w : List ℕ) → is_number w ≡ true → starts_number w ≡ true
unfolding starts_number
number_starts [] e = refl
number_starts (a ∷ w) e = e

no_number : is_number [] ≡ true → ⊥
unfolding is_decimal is_number
no_number e = false-true e

-- ---- a space

each_before : (ws : List (List ℕ)) (w : List ℕ) → all is_number (ws ++ w ∷ []) ≡ true → all is_number ws ≡ true
each_before ws w e = and_l (all is_number ws) (is_number w) (sym (all_snoc is_number ws w) ∙ e)

each_last : (ws : List (List ℕ)) (w : List ℕ) → all is_number (ws ++ w ∷ []) ≡ true → is_number w ≡ true
each_last ws w e = and_r (all is_number ws) (is_number w) (sym (all_snoc is_number ws w) ∙ e)

each_with : (ws : List (List ℕ)) (w : List ℕ) → all is_number ws ≡ true → is_number w ≡ true → all is_number (ws ++ w ∷ []) ≡ true
each_with ws w p q = all_snoc is_number ws w ∙ and_both (all is_number ws) (is_number w) p q

length_snoc : (ws : List (List ℕ)) (w : List ℕ) → length (ws ++ w ∷ []) ≡ length ws + 1
length_snoc ws w = length-append ws (w ∷ [])

ok_before_space : (ws : List (List ℕ)) (w : List ℕ) → Fine (ws ++ w ∷ []) [] → Fine ws w
ok_before_space ws w ok =
    record {
      each = each_before ws w ok.each;
      few = omega (arith, ok.few, length_snoc ws w);
      part = number_starts w (each_last ws w ok.each);
    }

push-word : (ws : List (List ℕ)) (w : List ℕ) → push_all no_numbers (map value (ws ++ w ∷ [])) ≡ push (push_all no_numbers (map value ws)) (value w)
push-word ws w = ap (push_all no_numbers) (map_snoc ws w) ∙ push_last no_numbers (map value ws) (value w)

space_reading : (n : ℕ) (ws : List (List ℕ)) (w : List ℕ) → Fine ws w → State n (byte_step (reading n ws w) space) (ws ++ w ∷ []) []
unfolding reading said starts_number value_from
space_reading n ws [] ok =
    inr (
      lost n (reading n ws []) (byte_step (reading n ws []) space) refl
          (space_early (reading n ws []) refl ∙ byte_space (reading n ws []) space refl (omega arith) refl),
      λ no. no_number (each_last ws [] no.each),
    )
space_reading n ws (a ∷ w) ok =
    let s : Scan = reading n ws (a ∷ w) in
    bool_case (ltb (length ws) (field_count - 1))
    (λ l.
    let h : length ws < field_count - 1 = ltb-true (length ws) (field_count - 1) l in
    inl (
      sym (space_ends s (value (a ∷ w)) refl h ∙ byte_space s space refl (omega arith) refl)
          ∙ ap (λ (x : Call). record { line = n; bad = false; fields = length ws + 1; call = x; number = None }) (sym (push-word ws (a ∷ w)))
          ∙ ap (λ (k : ℕ). record { line = n; bad = false; fields = k; call = push_all no_numbers (map value (ws ++ (a ∷ w) ∷ [])); number = None }) (sym (length_snoc ws (a ∷ w))),
      record {
        each = each_with ws (a ∷ w) ok.each ok.part;
        few = omega (arith, length_snoc ws (a ∷ w));
        part = refl;
      },
    ))
    (λ l.
    let h : field_count - 1 ≤ length ws = ltb-false (length ws) (field_count - 1) l in
    inr (
      lost n s (byte_step s space) refl (space_over s (value (a ∷ w)) refl h ∙ byte_space s space refl (omega arith) refl),
      λ no. omega (arith, no.few, length_snoc ws (a ∷ w)),
    ))

after-space : (n : ℕ) (s : Scan) (ws : List (List ℕ)) (w : List ℕ) → State n s ws w → State n (byte_step s space) (ws ++ w ∷ []) []
after-space n s ws w (inl p) = rw p.0 (space_reading n ws w p.1)
after-space n s ws w (inr p) = inr (lost_byte n s space p.0, λ ok. p.1 (ok_before_space ws w ok))

-- ---- any other byte

-- what a number with one byte more says of that byte and of the number before it
abbrev More : ℕ → List ℕ → ℕ → Bool
More a w b = is_digit b && (not (eqb (value (a ∷ w)) 0) && leb (value (a ∷ w) * 10 + (b - zero_digit)) number_limit)

number_before : (a : ℕ) (w : List ℕ) (b : ℕ) → is_number (a ∷ w ++ b ∷ []) ≡ true → is_number (a ∷ w) ≡ true
number_before a w b e = and_l (is_number (a ∷ w)) (More a w b) (sym (is_number_snoc a w b) ∙ e)

number_more : (a : ℕ) (w : List ℕ) (b : ℕ) → is_number (a ∷ w ++ b ∷ []) ≡ true → More a w b ≡ true
number_more a w b e = and_r (is_number (a ∷ w)) (More a w b) (sym (is_number_snoc a w b) ∙ e)

last_digit : (w : List ℕ) (b : ℕ) → starts_number (w ++ b ∷ []) ≡ true → is_digit b ≡ true
unfolding starts_number
last_digit [] b e = sym (is_number-one b) ∙ e
last_digit (a ∷ w) b e = and_l (is_digit b) (not (eqb (value (a ∷ w)) 0) && leb (value (a ∷ w) * 10 + (b - zero_digit)) number_limit) (number_more a w b e)

more_value : (a : ℕ) (w : List ℕ) (b : ℕ) → is_number (a ∷ w ++ b ∷ []) ≡ true → eqb (value (a ∷ w)) 0 ≡ false
more_value a w b e =
    not-true (eqb (value (a ∷ w)) 0)
    (and_l (not (eqb (value (a ∷ w)) 0)) (leb (value (a ∷ w) * 10 + (b - zero_digit)) number_limit)
    (and_r (is_digit b) (not (eqb (value (a ∷ w)) 0) && leb (value (a ∷ w) * 10 + (b - zero_digit)) number_limit) (number_more a w b e)))

more_within : (a : ℕ) (w : List ℕ) (b : ℕ) → is_number (a ∷ w ++ b ∷ []) ≡ true → leb (value (a ∷ w) * 10 + (b - zero_digit)) number_limit ≡ true
more_within a w b e =
    and_r (not (eqb (value (a ∷ w)) 0)) (leb (value (a ∷ w) * 10 + (b - zero_digit)) number_limit)
    (and_r (is_digit b) (not (eqb (value (a ∷ w)) 0) && leb (value (a ∷ w) * 10 + (b - zero_digit)) number_limit) (number_more a w b e))

number_with : (a : ℕ) (w : List ℕ) (b : ℕ) → is_number (a ∷ w) ≡ true → is_digit b ≡ true → eqb (value (a ∷ w)) 0 ≡ false
    → leb (value (a ∷ w) * 10 + (b - zero_digit)) number_limit ≡ true → is_number (a ∷ w ++ b ∷ []) ≡ true
number_with a w b p d z f = is_number_snoc a w b ∙ rw (p, d, z, f)

part_before : (w : List ℕ) (b : ℕ) → starts_number (w ++ b ∷ []) ≡ true → starts_number w ≡ true
unfolding starts_number
part_before [] b e = refl
part_before (a ∷ w) b e = number_before a w b e

ok_before_byte : (ws : List (List ℕ)) (w : List ℕ) (b : ℕ) → Fine ws (w ++ b ∷ []) → Fine ws w
ok_before_byte ws w b ok = record { each = ok.each; few = ok.few; part = part_before w b ok.part }

digit_reading : (n : ℕ) (ws : List (List ℕ)) (w : List ℕ) (b : ℕ) → zero_digit ≤ b → b ≤ zero_digit + 9 → Fine ws w
    → State n (byte_step (reading n ws w) b) ws (w ++ b ∷ [])
unfolding reading said starts_number value_from
digit_reading n ws [] b l h ok =
    inl (
      sym (digit_first (reading n ws []) (b - zero_digit) refl ∙ byte_digit (reading n ws []) b refl l h)
          ∙ ap (λ (k : ℕ). record { line = n; bad = false; fields = length ws; call = push_all no_numbers (map value ws); number = Some k }) (sym (zero-add (b - zero_digit))),
      record { each = ok.each; few = ok.few; part = is_number-one b ∙ digit_is b l h },
    )
digit_reading n ws (a ∷ w) b l h ok =
    let s : Scan = reading n ws (a ∷ w) in
    let v : ℕ = value (a ∷ w) in
    let step : digit_step s (b - zero_digit) ≡ byte_step s b = byte_digit s b refl l h in
    bool_case (eqb v 0)
    (λ z.
    inr (
      lost n s (byte_step s b) refl (digit_zero s (b - zero_digit) (ap Some (eqb-true v 0 z)) ∙ step),
      λ no. false-true (sym (more_value a w b no.part) ∙ z),
    ))
    (λ z.
    bool_case (leb (v * 10 + (b - zero_digit)) number_limit)
    (λ f.
    inl (
      sym (digit_more s (b - zero_digit) v refl (eqb-false v 0 z) (leb-true (v * 10 + (b - zero_digit)) number_limit f) ∙ step)
          ∙ ap (λ (k : ℕ). record { line = n; bad = false; fields = length ws; call = s.call; number = Some k }) (sym (value_snoc 0 (a ∷ w) b)),
      record { each = ok.each; few = ok.few; part = number_with a w b ok.part (digit_is b l h) z f },
    ))
    (λ f.
    inr (
      lost n s (byte_step s b) refl (digit_more_over s (b - zero_digit) v refl (eqb-false v 0 z) (leb-false (v * 10 + (b - zero_digit)) number_limit f) ∙ step),
      λ no. false-true (sym f ∙ more_within a w b no.part),
    )))

byte_reading : (n : ℕ) (ws : List (List ℕ)) (w : List ℕ) (b : ℕ) → (b ≡ space → ⊥) → Fine ws w → State n (byte_step (reading n ws w) b) ws (w ++ b ∷ [])
unfolding reading
byte_reading n ws w b e ok =
    let s : Scan = reading n ws w in
    bool_case (ltb b zero_digit)
    (λ l.
    let h : b < zero_digit = ltb-true b zero_digit l in
    inr (lost n s (byte_step s b) refl (byte_low s b refl h e), λ no. omega (arith, digit_low b (last_digit w b no.part))))
    (λ l.
    let h : zero_digit ≤ b = ltb-false b zero_digit l in
    bool_case (ltb (zero_digit + 9) b)
    (λ k.
    let m : zero_digit + 9 < b = ltb-true (zero_digit + 9) b k in
    inr (lost n s (byte_step s b) refl (byte_high s b refl h m), λ no. omega (arith, digit_high b (last_digit w b no.part))))
    (λ k. digit_reading n ws w b h (ltb-false (zero_digit + 9) b k) ok))

after_byte : (n : ℕ) (s : Scan) (ws : List (List ℕ)) (w : List ℕ) (b : ℕ) → (b ≡ space → ⊥) → State n s ws w → State n (byte_step s b) ws (w ++ b ∷ [])
after_byte n s ws w b e (inl p) = rw p.0 (byte_reading n ws w b e p.1)
after_byte n s ws w b e (inr p) = inr (lost_byte n s b p.0, λ ok. p.1 (ok_before_byte ws w b ok))

-- ---- the line's end

all-numbers : (ws : List (List ℕ)) (w : List ℕ) → are_numbers (ws ++ w ∷ []) ≡ true → all is_number (ws ++ w ∷ []) ≡ true
unfolding are_numbers
all-numbers ws w e = and_r (eqb (length (ws ++ w ∷ [])) field_count) (all is_number (ws ++ w ∷ [])) e

count-numbers : (ws : List (List ℕ)) (w : List ℕ) → are_numbers (ws ++ w ∷ []) ≡ true → length ws + 1 ≡ field_count
unfolding are_numbers
count-numbers ws w e =
    sym (length_snoc ws w)
    ∙ eqb-true (length (ws ++ w ∷ [])) field_count (and_l (eqb (length (ws ++ w ∷ [])) field_count) (all is_number (ws ++ w ∷ [])) e)

ok_of_numbers : (ws : List (List ℕ)) (w : List ℕ) → are_numbers (ws ++ w ∷ []) ≡ true → Fine ws w
ok_of_numbers ws w e =
    record {
      each = each_before ws w (all-numbers ws w e);
      few = omega (arith, count-numbers ws w e);
      part = number_starts w (each_last ws w (all-numbers ws w e));
    }

end_reading : (n : ℕ) (ws : List (List ℕ)) (w : List ℕ) → Fine ws w → line_of_scan (reading n ws w) ≡ judged n (ws ++ w ∷ [])
unfolding are_numbers reading said starts_number
end_reading n ws [] ok =
    sym (end_early (reading n ws []) refl)
    ∙ sym (judged_bad n (ws ++ [] ∷ []) (false_by (are_numbers (ws ++ [] ∷ [])) (λ e. no_number (each_last ws [] (all-numbers ws [] e)))))
end_reading n ws (a ∷ w) ok =
    let s : Scan = reading n ws (a ∷ w) in
    let vs : List (List ℕ) = ws ++ (a ∷ w) ∷ [] in
    bool_case (eqb (length ws) (field_count - 1))
    (λ e.
    let h : length ws ≡ field_count - 1 = eqb-true (length ws) (field_count - 1) e in
    let k : length vs ≡ field_count = omega (arith, length_snoc ws (a ∷ w)) in
    sym (end_good s (value (a ∷ w)) refl refl h)
    ∙ ap Ok (sym (push-word ws (a ∷ w)) ∙ push_eight (map value vs) (length-map vs value ∙ k))
    ∙ sym (judged_good n vs (and_both (eqb (length vs) field_count) (all is_number vs) (eq-eqb (length vs) field_count k) (each_with ws (a ∷ w) ok.each ok.part))))
    (λ e.
    let h : length ws ≡ field_count - 1 → ⊥ = eqb-false (length ws) (field_count - 1) e in
    sym (end_short s (value (a ∷ w)) refl h)
    ∙ sym (judged_bad n vs (false_by (are_numbers vs) (λ f. h (let c : length ws + 1 ≡ field_count = count-numbers ws (a ∷ w) f in omega arith)))))

at_end : (n : ℕ) (s : Scan) (ws : List (List ℕ)) (w : List ℕ) → State n s ws w → line_of_scan s ≡ judged n (ws ++ w ∷ [])
at_end n s ws w (inl p) = rw p.0 (end_reading n ws w p.1)
at_end n s ws w (inr p) =
    sym (end_bad s p.0.bad)
    ∙ ap (λ (k : ℕ). Err (record { line = k })) p.0.number
    ∙ sym (judged_bad n (ws ++ w ∷ []) (false_by (are_numbers (ws ++ w ∷ [])) (λ e. p.1 (ok_of_numbers ws w e))))

-- ---- the theorem

read_rest : (n : ℕ) (s : Scan) (ws : List (List ℕ)) (w rest : List ℕ) → State n s ws w
    → line_of_scan (scanned s rest) ≡ judged n (ws ++ pieces_from space w rest)
unfolding pieces_from scanned
read_rest n s ws w [] p = at_end n s ws w p
read_rest n s ws w (b ∷ rest) p =
    bool_case (eqb b space)
    (λ e.
    let q : State n (byte_step s b) (ws ++ w ∷ []) [] = rw (eqb-true b space e) (after-space n s ws w p) in
    read_rest n (byte_step s b) (ws ++ w ∷ []) [] rest q
    ∙ ap (judged n) (append_assoc ws (w ∷ []) (pieces_from space [] rest) ∙ ap (λ (t : List (List ℕ)). ws ++ t) (sym (pieces_sep space w rest b e))))
    (λ e.
    read_rest n (byte_step s b) ws (w ++ b ∷ []) rest (after_byte n s ws w b (eqb-false b space e) p)
    ∙ ap (λ (t : List (List ℕ)). judged n (ws ++ t)) (sym (pieces_byte space w rest b e)))

-- the state over the bytes of line n, from its start to its end, comes to line n as the definition has it
pub read-line : (n : ℕ) (line : List ℕ) → line_of_scan (scanned (start_of n) line) ≡ line_of n line
read-line n line = read_rest n (start_of n) [] [] line (at-start n) ∙ sym (line_by_words n line)
