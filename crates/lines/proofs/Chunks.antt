-- An input that is fed in any chunks is read as the definition has it over the whole: `read_chunks`.
-- In order: the state keeps its line's number, and is not fresh after a byte; chunks one behind the other; the input from
-- inside a line on; the theorem; and what one call of `next_line` is to a chunk (`turn`), for a loop over it.
use Prim.Native.Nat.{◌*◌, ◌+◌, ◌-◌, ◌<◌, ◌≤◌, suc, ℕ}
use Rattle.lines.proofs.Bools.{bool_case}
use Rattle.lines.proofs.Pieces.{keeps_first, pieces_byte, pieces_sep}
use Rattle.lines.proofs.Reading.{read-line}
use Rattle.lines.proofs.Steps.{next_more, progress_byte, progress_newline}
use Rattle.lines.specs.Lines.{Line, field_count, line_of, lines_of, newline, number_limit, numbered, pieces_from, read_lines, space, without_empty_last, zero_digit}
use Rattle.lines.specs.Scan.{after, byte_step, digit_step, ended, fed, is_fresh, last_number, last_of, line_of_scan, next_of, progress_of, scanned, space_step, spoilt, start_of, whole}
use Rattle.lines.specs.declared.Progress.TheVariants.{Ended, More}
use Rattle.lines.specs.declared.Scan.{Scan}
use Rattle.std.specs.Prelude.{None, Option, Some}
use borrow.Author.Tests.{ne_eqb}
use lib.Dec.{eqb, leb, ltb}
use lib.ListN.{drop, length, length-drop}
use lib.Seq.{drop-drop}
use mathlib.Core.Bool.{Bool, ◌&&◌, and-false, cond, false, not, true}
use mathlib.Core.List.{List, [], ◌++◌, ◌∷◌, append_assoc}
use mathlib.Core.Path.{◌∙◌, ◌≡◌, ap, refl, sym}
use native.Mathlib.Numerals.{add-one}
use native.Mathlib.Omega.{arith}

-- ---- a byte keeps the line's number, and ends a fresh line

-- t is a state of line n, of which a byte is read
record Under (n : ℕ) (t : Scan) : Type 0 where
  number : t.line ≡ n
  unfresh : is_fresh t ≡ false

by_test : (P : Scan → Type 0) (b : Bool) (s t : Scan) → (b ≡ true → P s) → P t → P (cond b s t)
by_test P true s t p q = p refl
by_test P false s t p q = q

spoilt_under : (s : Scan) → Under s.line (spoilt s)
unfolding is_fresh
spoilt_under s = record { number = refl; unfresh = refl }

digit_under : (s : Scan) (d : ℕ) → Under s.line (digit_step s d)
unfolding digit_step is_fresh
digit_under s d = by s.number
  where
    by : (number : Option ℕ) → Under s.line (digit_step (record s { number = number }) d)
    by None = record { number = refl; unfresh = rw (and-false (not s.bad && eqb s.fields 0)) }
    by (Some v) =
        by_test (Under s.line) (not (eqb v 0) && leb (v * 10 + d) number_limit) _ _
        (λ _. record { number = refl; unfresh = rw (and-false (not s.bad && eqb s.fields 0)) })
        (spoilt_under (record s { number = Some v }))

space_under : (s : Scan) → Under s.line (space_step s)
unfolding is_fresh space_step
space_under s = by s.number
  where
    by : (number : Option ℕ) → Under s.line (space_step (record s { number = number }))
    by None = spoilt_under (record s { number = None })
    by (Some v) =
        by_test (Under s.line) (ltb s.fields (field_count - 1)) _ _
        (λ _. record { number = refl; unfresh = rw (ne_eqb (s.fields + 1) 0 (λ e. omega arith), and-false (not s.bad)) })
        (spoilt_under (record s { number = Some v }))

byte_under : (s : Scan) (b : ℕ) → Under s.line (byte_step s b)
unfolding byte_step is_fresh
byte_under s b =
    let P : Scan → Type 0 = Under s.line in
    by_test P s.bad s _
    (λ e. record { number = refl; unfresh = rw e })
    (by_test P (ltb b zero_digit) _ _
    (λ _. by_test P (eqb b space) (space_step s) _ (λ _. space_under s) (spoilt_under s))
    (by_test P (ltb (zero_digit + 9) b) _ _ (λ _. spoilt_under s) (digit_under s (b - zero_digit))))

scanned-number : (s : Scan) (bs : List ℕ) → (scanned s bs).line ≡ s.line
unfolding scanned
scanned-number s [] = refl
scanned-number s (b ∷ bs) = scanned-number (byte_step s b) bs ∙ (byte_under s b).number

scanned_unfresh : (s : Scan) (b : ℕ) (bs : List ℕ) → is_fresh (scanned s (b ∷ bs)) ≡ false
unfolding scanned
scanned_unfresh s b [] = (byte_under s b).unfresh
scanned_unfresh s b (d ∷ bs) = scanned_unfresh (byte_step s b) d bs

scanned_snoc : (s : Scan) (p : List ℕ) (b : ℕ) → scanned s (p ++ b ∷ []) ≡ byte_step (scanned s p) b
unfolding scanned
scanned_snoc s [] b = refl
scanned_snoc s (d ∷ p) b = scanned_snoc (byte_step s d) p b

-- ---- chunks one behind the other

ended-newline : (s : Scan) (b : ℕ) (bs : List ℕ) → eqb b newline ≡ true → ended s (b ∷ bs) ≡ line_of_scan s ∷ ended (next_of s) bs
unfolding ended
ended-newline s b bs e = rw (e, ended)

ended_byte : (s : Scan) (b : ℕ) (bs : List ℕ) → eqb b newline ≡ false → ended s (b ∷ bs) ≡ ended (byte_step s b) bs
unfolding ended
ended_byte s b bs e = rw (e, ended)

after-newline : (s : Scan) (b : ℕ) (bs : List ℕ) → eqb b newline ≡ true → after s (b ∷ bs) ≡ after (next_of s) bs
unfolding after
after-newline s b bs e = rw e

after_byte : (s : Scan) (b : ℕ) (bs : List ℕ) → eqb b newline ≡ false → after s (b ∷ bs) ≡ after (byte_step s b) bs
unfolding after
after_byte s b bs e = rw e

after_append : (s : Scan) (c d : List ℕ) → after s (c ++ d) ≡ after (after s c) d
unfolding after
after_append s [] d = refl
after_append s (b ∷ c) d = after_append (cond (eqb b newline) (next_of s) (byte_step s b)) c d

ended_append : (s : Scan) (c d : List ℕ) → ended s (c ++ d) ≡ ended s c ++ ended (after s c) d
unfolding after ended
ended_append s [] d = refl
ended_append s (b ∷ c) d =
    bool_case (eqb b newline)
    (λ e.
    rw (ended-newline s b (c ++ d) e, ended-newline s b c e, after-newline s b c e)
    (ap (λ (t : List Line). line_of_scan s ∷ t) (ended_append (next_of s) c d)))
    (λ e. rw (ended_byte s b (c ++ d) e, ended_byte s b c e, after_byte s b c e) (ended_append (byte_step s b) c d))

-- all lines of an input, and its last line where no newline ends it
unfoldable told : Scan → List ℕ → List Line
told s input = ended s input ++ last_of (after s input)

fed-whole : (s : Scan) (cs : List (List ℕ)) → fed s cs ≡ told s (whole cs)
unfolding after ended fed told whole
fed-whole s [] = refl
fed-whole s (c ∷ cs) =
    ap (λ (t : List Line). ended s c ++ t) (fed-whole (after s c) cs)
    ∙ sym (append_assoc (ended s c) (ended (after s c) (whole cs)) (last_of (after (after s c) (whole cs))))
    ∙ ap (λ (t : List Line). t ++ last_of (after (after s c) (whole cs))) (sym (ended_append s c (whole cs)))
    ∙ ap (λ (t : Scan). ended s (c ++ whole cs) ++ last_of t) (sym (after_append s c (whole cs)))

-- ---- the input from inside line n on, of which p is read

told_end : (n : ℕ) (p : List ℕ) → last_of (scanned (start_of n) p) ≡ numbered n (without_empty_last (p ∷ []))
unfolding is_fresh last_of numbered scanned without_empty_last
told_end n [] = refl
told_end n (b ∷ p) =
    rw (scanned_unfresh (start_of n) b p) (ap (λ (x : Line). x ∷ []) (read-line n (b ∷ p)))

told_newline : (s : Scan) (b : ℕ) (bs : List ℕ) → eqb b newline ≡ true → told s (b ∷ bs) ≡ line_of_scan s ∷ told (next_of s) bs
unfolding told
told_newline s b bs e = rw (ended-newline s b bs e, after-newline s b bs e)

told_byte : (s : Scan) (b : ℕ) (bs : List ℕ) → eqb b newline ≡ false → told s (b ∷ bs) ≡ told (byte_step s b) bs
unfolding told
told_byte s b bs e = rw (ended_byte s b bs e, after_byte s b bs e)

next_start : (n : ℕ) (p : List ℕ) → n < last_number → next_of (scanned (start_of n) p) ≡ start_of (suc n)
next_start n p h =
    let e : (scanned (start_of n) p).line ≡ n = scanned-number (start_of n) p in
    sym (next_more (scanned (start_of n) p) (omega arith)) ∙ ap start_of (ap (λ (k : ℕ). k + 1) e ∙ add-one n)

told_from : (n : ℕ) (p bs : List ℕ) → n + length (without_empty_last (pieces_from newline p bs)) ≤ last_number
    → told (scanned (start_of n) p) bs ≡ numbered n (without_empty_last (pieces_from newline p bs))
unfolding after ended numbered pieces_from scanned told
told_from n p [] h = told_end n p
told_from n p (b ∷ bs) h =
    bool_case (eqb b newline)
    (λ e.
    let rest : List (List ℕ) = without_empty_last (pieces_from newline [] bs) in
    let all : without_empty_last (pieces_from newline p (b ∷ bs)) ≡ p ∷ rest = ap without_empty_last (pieces_sep newline p bs b e) ∙ keeps_first newline p [] bs in
    let few : suc n + length rest ≤ last_number = omega (arith, h, ap length all) in
    told_newline (scanned (start_of n) p) b bs e
    ∙ ap (λ (x : Line). x ∷ told (next_of (scanned (start_of n) p)) bs) (read-line n p)
    ∙ ap (λ (s : Scan). line_of n p ∷ told s bs) (next_start n p (omega arith))
    ∙ ap (λ (t : List Line). line_of n p ∷ t) (told_from (suc n) [] bs few)
    ∙ ap (numbered n) (sym all))
    (λ e.
    let same : pieces_from newline p (b ∷ bs) ≡ pieces_from newline (p ++ b ∷ []) bs = pieces_byte newline p bs b e in
    told_byte (scanned (start_of n) p) b bs e
    ∙ ap (λ (s : Scan). told s bs) (sym (scanned_snoc (start_of n) p b))
    ∙ told_from n (p ++ b ∷ []) bs (rw same at h)
    ∙ ap (λ (t : List (List ℕ)). numbered n (without_empty_last t)) (sym same))

-- ---- the theorem

-- any input, in any chunks, is read as its lines, numbered from 1; it has fewer lines than the highest number
pub read_chunks : (cs : List (List ℕ)) → length (lines_of (whole cs)) < last_number → fed (start_of 1) cs ≡ read_lines (whole cs)
unfolding lines_of read_lines scanned
read_chunks cs h = fed-whole (start_of 1) cs ∙ told_from 1 [] (whole cs) (omega arith)

-- ---- one call of `next_line` on a chunk

-- from place i of l on, in state s: line x ends before place j, and t is the state there
pub record Turn (l : List ℕ) (i : ℕ) (s : Scan) (x : Line) (t : Scan) (j : ℕ) : Type 0 where
  pub forward : i < j
  pub inside : j ≤ length l
  pub lines : ended s (drop i l) ≡ x ∷ ended t (drop j l)
  pub state : after s (drop i l) ≡ after t (drop j l)

record First (bs : List ℕ) (i : ℕ) (s : Scan) (x : Line) (t : Scan) (j : ℕ) : Type 0 where
  forward : i < j
  inside : j ≤ i + length bs
  lines : ended s bs ≡ x ∷ ended t (drop (j - i) bs)
  state : after s bs ≡ after t (drop (j - i) bs)

first-newline : (b : ℕ) (bs : List ℕ) (i : ℕ) (s : Scan) (x : Line) (t : Scan) (j : ℕ) → eqb b newline ≡ true → Ended (line_of_scan s) (next_of s) (i + 1) ≡ Ended x t j
    → First (b ∷ bs) i s x t j
first-newline b bs i s x t j q p =
    let x' : line_of_scan s ≡ x = cc in
    let t' : next_of s ≡ t = cc in
    let j' : i + 1 ≡ j = cc in
    let k : j - i ≡ 1 = omega arith in
    record {
      forward = omega arith;
      inside = omega arith;
      lines = rw k (ended-newline s b bs q ∙ rw (x', t'));
      state = rw k (after-newline s b bs q ∙ rw t');
    }

first_byte : (b : ℕ) (bs : List ℕ) (i : ℕ) (s : Scan) (x : Line) (t : Scan) (j : ℕ) → eqb b newline ≡ false → First bs (i + 1) (byte_step s b) x t j → First (b ∷ bs) i s x t j
first_byte b bs i s x t j q r =
    let f : i + 1 < j = r.forward in
    let k : j - i ≡ suc (j - (i + 1)) = omega arith in
    record {
      forward = omega arith;
      inside = omega (arith, r.inside);
      lines = rw k (ended_byte s b bs q ∙ r.lines);
      state = rw k (after_byte s b bs q ∙ r.state);
    }

first : (bs : List ℕ) (i : ℕ) (s : Scan) (x : Line) (t : Scan) (j : ℕ) → progress_of i s bs ≡ Ended x t j → First bs i s x t j
unfolding progress_of
first [] i s x t j e = absurd (let z : ◌≡◌ {A = ℕ} 0 1 = cc in omega arith)
first (b ∷ bs) i s x t j e =
    bool_case (eqb b newline)
    (λ q. first-newline b bs i s x t j q (sym (progress_newline i s b bs q) ∙ e))
    (λ q. first_byte b bs i s x t j q (first bs (i + 1) (byte_step s b) x t j (sym (progress_byte i s b bs q) ∙ e)))

pub turn : (l : List ℕ) (i : ℕ) (s : Scan) (x : Line) (t : Scan) (j : ℕ) → progress_of i s (drop i l) ≡ Ended x t j → Turn l i s x t j
turn l i s x t j e =
    let r : First (drop i l) i s x t j = first (drop i l) i s x t j e in
    let f : i < j = r.forward in
    let k : i + (j - i) ≡ j = omega arith in
    let d : drop (j - i) (drop i l) ≡ drop j l = drop-drop (j - i) i l ∙ ap (λ (m : ℕ). drop m l) k in
    record {
      forward = f;
      inside = omega (arith, r.inside, length-drop i l);
      lines = r.lines ∙ ap (λ (m : List ℕ). x ∷ ended t m) d;
      state = r.state ∙ ap (after t) d;
    }

-- bytes in which no line ends: t is the state behind them
pub record Rest (bs : List ℕ) (s t : Scan) : Type 0 where
  pub lines : ended s bs ≡ []
  pub state : after s bs ≡ t

pub rest : (bs : List ℕ) (i : ℕ) (s t : Scan) → progress_of i s bs ≡ More t → Rest bs s t
unfolding after ended progress_of
rest [] i s t e = record { lines = refl; state = cc }
rest (b ∷ bs) i s t e =
    bool_case (eqb b newline)
    (λ q. absurd (let z : ◌≡◌ {A = ℕ} 0 1 = cc (progress_newline i s b bs q, e) in omega arith))
    (λ q.
    let r : Rest bs (byte_step s b) t = rest bs (i + 1) (byte_step s b) t (sym (progress_byte i s b bs q) ∙ e) in
    record { lines = ended_byte s b bs q ∙ r.lines; state = after_byte s b bs q ∙ r.state })
