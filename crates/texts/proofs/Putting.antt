-- Laws of a text put into a buffer of any length, with no condition: what has no room is left out. In order: a byte, with room and
-- without; the empty text; a text and a second behind it; the same of a writer; a text being written, part by part; a number.
-- Not here: what the texts say. Assumes nothing.
use Prim.Native.Nat.{◌+◌, ◌-◌, ◌<◌, ◌≤◌, min, suc, ℕ}
use Rattle.lines.proofs.Putting.{short}
use Rattle.lines.specs.Lines.{decimal, joined, newline, printed, spaced}
use Rattle.lines.specs.Lines.{Put as LinePut}
use Rattle.lists.proofs.Laws.{bool_case}
use Rattle.records.proofs.Laws.{sets_append}
use Rattle.texts.specs.Texts.{Put, Wrote, put}
use Rattle.texts.specs.declared.Writer.{Writer}
use borrow.Author.Tests.{leb-false, leb-true}
use lib.Dec.{leb}
use lib.ListN.{drop, get_or, length, length-append, set, take}
use lib.Seq.{length-sets, set_out, sets, take_at, take-suc}
use mathlib.Core.List.{List, [], ◌++◌, ◌∷◌, append_assoc, append-nil}
use mathlib.Core.Path.{◌∙◌, ◌≡◌, ap, refl, sym}
use native.Mathlib.Numerals.{add-one}
use native.Mathlib.Omega.{arith}

sets-out : (l : List ℕ) (p : ℕ) (xs : List ℕ) → length l ≤ p → sets l p xs ≡ l
sets-out l p [] h = refl
sets-out l p (x ∷ xs) h = rw (set_out l p x h) (sets-out l (suc p) xs (omega arith))

pub put_byte : (l : List ℕ) (at b : ℕ) → at < length l → Put l at (b ∷ []) (at + 1) (set l at b)
unfolding put
put_byte l at b h = record { place = omega arith; bytes = refl }

pub put_full : (l : List ℕ) (at b : ℕ) → length l ≤ at → Put l at (b ∷ []) at l
unfolding put
put_full l at b h = record { place = omega arith; bytes = sym (set_out l at b h) }

pub put_nothing : (l : List ℕ) (at : ℕ) → Put l at [] at l
unfolding put
put_nothing l at = record { place = omega arith; bytes = refl }

-- the end of two texts, one behind the other, in a buffer of n bytes
end_end : (n at a b : ℕ) → at + min a (n - at) + min b (n - (at + min a (n - at))) ≡ at + min (a + b) (n - at)
end_end n at a b = omega arith

module _ {l : List ℕ} {at : ℕ} {x : List ℕ} {end : ℕ} {m : List ℕ} (p : Put l at x end m) where
  pub length-put : length m ≡ length l
  unfolding put
  length-put = ap length p.bytes ∙ length-sets l at x

  behind : (y : List ℕ) → put (put l at x) end y ≡ put l at (x ++ y)
  unfolding put
  behind y =
      bool_case (leb (at + length x) (length l))
      (λ b.
      let e : end ≡ at + length x = omega (arith, p.place, leb-true (at + length x) (length l) b) in
      rw e (sets_append l at x y))
      (λ b.
      let beyond : length l < at + length x = leb-false (at + length x) (length l) b in
      sets-out (sets l at x) end y (omega (arith, p.place, length-sets l at x))
      ∙ sym (sym (sets_append l at x y) ∙ sets-out (sets l at x) (at + length x) y (omega (arith, length-sets l at x))))

  -- a text, and a second behind it
  pub put_append : {y : List ℕ} {last : ℕ} {n : List ℕ} → Put m end y last n → Put l at (x ++ y) last n
  put_append {y} {last} {n} q = record {
    place = q.place ∙ rw (length-put, p.place, length-append x y) (end_end (length l) at (length x) (length y));
    bytes = q.bytes ∙ ap (λ (b : List ℕ). put b end y) p.bytes ∙ behind y;
  }

-- the first k bytes of a text, and one more
pub put_turn : {l : List ℕ} {at : ℕ} (text : List ℕ) {end : ℕ} (k : ℕ) {m : List ℕ} {last : ℕ} {n : List ℕ} → k < length text → Put l at (take k text) end m → Put m end (get_or text k 0 ∷ []) last n
    → Put l at (take (k + 1) text) last n
put_turn text k h p q = rw (add-one k, take-suc text k 0 h) (put_append p q)

-- ---- the same of a writer

pub wrote_nothing : (w : Writer) → Wrote w [] w
wrote_nothing w = record { put = put_nothing _ _; same_buffer = refl }

module _ {w : Writer} {x : List ℕ} {v : Writer} (p : Wrote w x v) where
  -- a text, and a second behind it
  pub wrote_append : {y : List ℕ} {u : Writer} → Wrote v y u → Wrote w (x ++ y) u
  wrote_append q = record { put = put_append p.put q.put; same_buffer = q.same_buffer ∙ p.same_buffer }

  -- the same text, said otherwise
  pub wrote_as : {y : List ℕ} → x ≡ y → Wrote w y v
  wrote_as e = rw (← e) p

-- the first k bytes of a text, and one more
pub wrote_turn : {w : Writer} (text : List ℕ) (k : ℕ) {v u : Writer} → k < length text → Wrote w (take k text) v → Wrote v (get_or text k 0 ∷ []) u → Wrote w (take (k + 1) text) u
wrote_turn text k h p q = record { put = put_turn text k h p.put q.put; same_buffer = q.same_buffer ∙ p.same_buffer }

-- ---- a text being written, part by part: what is written, and what is left of the whole

pub record Joining (before now : Writer) (rest whole : List ℕ) : Type 0 where
  pub text : List ℕ
  pub wrote : Wrote before text now
  pub all : text ++ rest ≡ whole

pub joining_begin : (w : Writer) (whole : List ℕ) → Joining w w whole whole
joining_begin w whole = record { text = []; wrote = wrote_nothing w; all = refl }

module _ {w v : Writer} {rest whole : List ℕ} (j : Joining w v rest whole) where
  pub joining_turn : {x next : List ℕ} {u : Writer} → Wrote v x u → rest ≡ x ++ next → Joining w u next whole
  joining_turn {x} {next} q e = record {
    text = j.text ++ x;
    wrote = wrote_append j.wrote q;
    all = append_assoc j.text x next ∙ ap (λ (r : List ℕ). j.text ++ r) (sym e) ∙ j.all;
  }

  -- what is left, said otherwise
  pub joining_same : {next : List ℕ} → rest ≡ next → Joining w v next whole
  joining_same e = rw (← e) j

  pub joining_end : rest ≡ [] → Wrote w whole v
  joining_end e = wrote_as j.wrote (sym (append-nil j.text) ∙ ap (λ (r : List ℕ). j.text ++ r) (sym e) ∙ j.all)

-- ---- a number, by way of a line of its own (crate lines)

printed-one : (n : ℕ) → printed (n ∷ []) ≡ decimal n ++ newline ∷ []
unfolding joined printed spaced
printed-one n = refl

pub number-room : (n : ℕ) → n < 4294967296 → 0 + length (printed (n ∷ [])) ≤ 11
number-room n h = omega (arith, ap length (printed-one n), length-append (decimal n) (newline ∷ []), short n h)

pub record Taken (n end : ℕ) (line : List ℕ) : Type 0 where
  pub low : 1 ≤ end
  pub high : end ≤ length line
  pub text : take (end - 1) line ≡ decimal n

pub number-taken : {n : ℕ} {before : List ℕ} {end : ℕ} {line : List ℕ} → LinePut before 0 (printed (n ∷ [])) end line → Taken n end line
number-taken {n} {before} {end} {line} p =
    let text : line ≡ decimal n ++ (newline ∷ drop (0 + length (printed (n ∷ []))) before) =
    p.bytes ∙ rw (printed-one n) (append_assoc (decimal n) (newline ∷ []) _) in
    let long : end ≡ length (decimal n) + 1 = omega (arith, p.place, ap length (printed-one n), length-append (decimal n) (newline ∷ [])) in
    record {
      low = omega arith;
      high = omega (arith, ap length text, length-append (decimal n) (newline ∷ drop (0 + length (printed (n ∷ []))) before));
      text = rw text (take_at (decimal n) _ (end - 1) (omega arith));
    }
