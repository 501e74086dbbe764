-- Laws of a text put into a buffer. In order: a byte; one text behind another, and the buffer's length; a text fits; three
-- texts; a number; the room that a number takes, and a line of four; the text of a bad line as it is put.
use Prim.Native.Nat.{◌%◌, ◌+◌, ◌/◌, ◌<◌, ◌^◌, ◌≤◌, suc, ℕ}
use Rattle.lines.proofs.Decimal.{decimal_more, decimal_small, length-decimal, length_more}
use Rattle.lines.specs.Lines.{Put, bad_text, decimal, joined, newline, print_room, printed, space, spaced, zero_digit}
use lib.ListN.{drop, length, length-append, length-drop, set, take}
use lib.Seq.{drop_at, drop-drop, length-take-le, set_split, take_at}
use mathlib.Core.List.{List, [], ◌++◌, ◌∷◌, append_assoc}
use mathlib.Core.Path.{◌∙◌, ◌≡◌, ap, refl, sym}
use native.Mathlib.Numerals.{add-one}
use native.Mathlib.Omega.{arith}

put_byte : (l : List ℕ) (at b end : ℕ) → at < length l → end ≡ at + 1 → Put l at (b ∷ []) end (set l at b)
put_byte l at b end h e =
    record {
      place = e;
      bytes = set_split l at b h ∙ rw (add-one at) (sym (append_assoc (take at l) (b ∷ []) (drop (suc at) l)));
    }

module _ (l : List ℕ) (at : ℕ) (x : List ℕ) (end : ℕ) (m : List ℕ) (p : Put l at x end m) (h : at + length x ≤ length l) where
  length_head : length (take at l ++ x) ≡ end
  length_head = length-append (take at l) x ∙ ap (λ (n : ℕ). n + length x) (length-take-le at l (omega arith)) ∙ sym p.place

  take_put : take end m ≡ take at l ++ x
  take_put = ap (take end) p.bytes ∙ take_at (take at l ++ x) (drop (at + length x) l) end length_head

  drop-put : drop end m ≡ drop end l
  drop-put = ap (drop end) p.bytes ∙ drop_at (take at l ++ x) (drop (at + length x) l) end length_head ∙ ap (λ (n : ℕ). drop n l) (sym p.place)

  pub length-put : length m ≡ length l
  length-put =
      ap length p.bytes
      ∙ length-append (take at l ++ x) (drop (at + length x) l)
      ∙ omega (arith, length_head, length-drop (at + length x) l, p.place)

  -- a text, and a second behind it
  pub put_append : (y : List ℕ) (last : ℕ) (n : List ℕ) → Put m end y last n → Put l at (x ++ y) last n
  put_append y last n q =
      let e : at + length (x ++ y) ≡ end + length y = omega (arith, length-append x y, p.place) in
      record {
        place = q.place ∙ sym e;
        bytes =
            q.bytes
            ∙ ap (λ (k : List ℕ). k ++ y ++ drop (end + length y) m) take_put
            ∙ ap (λ (k : List ℕ). take at l ++ x ++ y ++ k) (sym (drop-drop (length y) end m) ∙ ap (drop (length y)) drop-put ∙ drop-drop (length y) end l)
            ∙ ap (λ (k : List ℕ). k ++ drop (end + length y) l) (append_assoc (take at l) x y)
            ∙ ap (λ (k : ℕ). take at l ++ (x ++ y) ++ drop k l) (sym e);
      }

  -- a text, and a byte behind it
  pub put_snoc : (b last : ℕ) → end < length l → last ≡ end + 1 → Put l at (x ++ b ∷ []) last (set m end b)
  put_snoc b last f e = put_append (b ∷ []) last (set m end b) (put_byte m end b last (rw length-put f) e)

-- a buffer that keeps its length holds the text
pub put-fits : (l : List ℕ) (at : ℕ) (x : List ℕ) (end : ℕ) (m : List ℕ) → Put l at x end m → at ≤ length l → length m ≡ length l → end ≤ length m
put-fits l at x end m p h e =
    omega (arith, p.place, ap length p.bytes, length-append (take at l ++ x) (drop (at + length x) l), length-append (take at l) x, length-take-le at l h, length-drop (at + length x) l)

put_three : (l : List ℕ) (at : ℕ) (x y z : List ℕ) (e₁ : ℕ) (l₁ : List ℕ) (e₂ : ℕ) (l₂ : List ℕ) (e₃ : ℕ) (l₃ : List ℕ)
    → at + (length x + length y) ≤ length l → Put l at x e₁ l₁ → Put l₁ e₁ y e₂ l₂ → Put l₂ e₂ z e₃ l₃ → Put l at (x ++ y ++ z) e₃ l₃
put_three l at x y z e₁ l₁ e₂ l₂ e₃ l₃ h p q r =
    put_append l at (x ++ y) e₂ l₂ (put_append l at x e₁ l₁ p (omega arith) y e₂ l₂ q) (omega (arith, length-append x y)) z e₃ l₃ r

-- ---- a number

module _ (l : List ℕ) (at n : ℕ) (room : at + length (decimal n) ≤ length l) where
  pub small_room : n < 10 → at < length l
  small_room h = omega (arith, ap length (decimal_small n h))

  pub put_small : n < 10 → Put l at (decimal n) (at + 1) (set l at (zero_digit + n))
  put_small h = rw (decimal_small n h) (put_byte l at (zero_digit + n) (at + 1) (small_room h) refl)

  pub more_room : 10 ≤ n → at + length (decimal (n / 10)) < length l
  more_room h = omega (arith, length_more n h)

  pub more_end : 10 ≤ n → (end : ℕ) (m : List ℕ) → Put l at (decimal (n / 10)) end m → end < length l
  more_end h end m p = omega (arith, more_room h, p.place)

  pub put_more : 10 ≤ n → (end : ℕ) (m : List ℕ) → Put l at (decimal (n / 10)) end m
      → Put l at (decimal n) (end + 1) (set m end (zero_digit + n % 10))
  put_more h end m p =
      let r : at + length (decimal (n / 10)) < length l = more_room h in
      rw (decimal_more n h)
      (put_snoc l at (decimal (n / 10)) end m p (omega arith) (zero_digit + n % 10) (end + 1) (more_end h end m p) refl)

-- ---- room, and the texts of printed lines

pub short : (n : ℕ) → n < 2 ^ 32 → length (decimal n) ≤ 10
short n h = length-decimal 9 n (omega arith)

pub long : (n : ℕ) → n < 2 ^ 64 → length (decimal n) ≤ 20
long n h = length-decimal 19 n (omega arith)

printed_four : (a b c d : ℕ)
    → printed (a ∷ b ∷ c ∷ d ∷ [])
    ≡ (decimal a ++ space ∷ []) ++ (decimal b ++ space ∷ []) ++ (decimal c ++ space ∷ []) ++ (decimal d ++ newline ∷ [])
unfolding joined printed spaced
printed_four a b c d = simp append_assoc

pub length-four : (a b c d : ℕ) → a < 2 ^ 32 → b < 2 ^ 32 → c < 2 ^ 32 → d < 2 ^ 32 → length (printed (a ∷ b ∷ c ∷ d ∷ [])) ≤ 44
length-four a b c d ha hb hc hd =
    rw (printed_four a b c d)
    (simp length-append (omega (arith, short a ha, short b hb, short c hc, short d hd)))

pub put_bad : (l : List ℕ) (at : ℕ) → at + print_room ≤ length l → (e₁ : ℕ) (l₁ : List ℕ) (e₂ : ℕ) (l₂ : List ℕ) (e₃ : ℕ) (l₃ : List ℕ) (n : ℕ) → n < 2 ^ 64
    → Put l at (108 ∷ 105 ∷ 110 ∷ 101 ∷ 32 ∷ []) e₁ l₁ → Put l₁ e₁ (decimal n) e₂ l₂ → Put l₂ e₂ (32 ∷ 98 ∷ 97 ∷ 100 ∷ newline ∷ []) e₃ l₃
    → Put l at (bad_text n) e₃ l₃
unfolding bad_text
put_bad l at room e₁ l₁ e₂ l₂ e₃ l₃ n h p q r =
    put_three l at (108 ∷ 105 ∷ 110 ∷ 101 ∷ 32 ∷ []) (decimal n) (32 ∷ 98 ∷ 97 ∷ 100 ∷ newline ∷ []) e₁ l₁ e₂ l₂ e₃ l₃ (omega (arith, long n h)) p q r
