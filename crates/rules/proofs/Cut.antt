-- A list that holds `f y` at a fixed place, whatever y is (`Cut`), and what a load, a store, a run of stores and a part of
-- it are: then how a cut is made of a cut of a part.
-- Not here: where the parts of a state stand in a table (Places.antt). Assumes nothing.
use Prim.Native.Nat.{◌+◌, ◌<◌, ◌≤◌, ℕ}
use borrow.Rule.Slice.PartMut.{put_mid}
use lib.ListN.{get_or-append, drop, get_or, length, length-append, set, take}
use lib.Seq.{drop_at, drop-drop, get_or-append-add, set-append_left, sets, sets-eq, take_at}
use mathlib.Core.List.{List, [], ◌++◌, ◌∷◌, append_assoc}
use mathlib.Core.Path.{◌∙◌, ◌≡◌, ap}
use native.Mathlib.Nat.{suc-add, zero-add}
use native.Mathlib.Omega.{arith}

pub record Cut {A : Type 0} (whole f : A → List ℕ) (at : ℕ) : Type 0 where
  pub front : List ℕ
  pub back : List ℕ
  pub front_length : length front ≡ at
  pub each : (y : A) → whole y ≡ front ++ (f y ++ back)

set_append_add : (xs ys : List ℕ) (n v : ℕ) → set (xs ++ ys) (length xs + n) v ≡ xs ++ set ys n v
set_append_add [] ys n v = rw zero-add
set_append_add (x ∷ xs) ys n v = rw suc-add (ap {B = List ℕ} (λ r. x ∷ r) (set_append_add xs ys n v))

module _ {A : Type 0} {whole f : A → List ℕ} {at : ℕ} (c : Cut whole f at) where
  pub cut_get : (y : A) (k : ℕ) → k < length (f y) → get_or (whole y) (at + k) 0 ≡ get_or (f y) k 0
  cut_get y k h =
      rw
      (c.each y, ← c.front_length, get_or-append-add c.front (f y ++ c.back) k 0)
      (get_or-append (f y) c.back 0 k h)

  pub cut_set : (y z : A) (k v : ℕ) → k < length (f y) → set (f y) k v ≡ f z → set (whole y) (at + k) v ≡ whole z
  cut_set y z k v h e =
      rw (
        c.each y,
        c.each z,
        ← c.front_length,
        set_append_add c.front (f y ++ c.back) k v,
        set-append_left (f y) c.back k v h,
        e,
      )

  -- all words of the part, one after the other
  pub cut_sets : (y z : A) → length (f y) ≡ length (f z) → sets (whole y) at (f z) ≡ whole z
  cut_sets y z h =
      let fits : at + length (f z) ≤ length (whole y) =
      rw (c.each y) (simp length-append (omega (arith, c.front_length))) in
      sets-eq (f z) (whole y) at fits
      ∙ rw (
        ← drop-drop (length (f z)) at (whole y),
        c.each y,
        c.each z,
        take_at c.front (f y ++ c.back) at c.front_length,
        drop_at c.front (f y ++ c.back) at c.front_length,
        drop_at (f y) c.back (length (f z)) h,
        append_assoc,
      )

  -- n words from `at` on
  pub cut_part : (y : A) (n : ℕ) → length (f y) ≡ n → take n (drop at (whole y)) ≡ f y
  cut_part y n h =
      rw (c.each y, drop_at c.front (f y ++ c.back) at c.front_length) (take_at (f y) c.back n h)

  -- the part lent, and given back with another value
  pub cut_paste : (y z : A) (n : ℕ) → length (f y) ≡ n → put_mid at n (whole y) (f z) ≡ whole z
  cut_paste y z n h =
      rw (
        c.each y,
        c.each z,
        take_at c.front (f y ++ c.back) at c.front_length,
        drop_at c.front (f y ++ c.back) at c.front_length,
        drop_at (f y) c.back n h,
      )

-- a cut of a part is a cut of the whole
pub cut_within : {A : Type 0} {whole mid f : A → List ℕ} (pre post : List ℕ) (b at : ℕ) → length pre ≡ b → ((y : A) → whole y ≡ pre ++ (mid y ++ post)) → Cut mid f at → Cut whole f (b + at)
cut_within pre post b at h e c =
    record {
      front = pre ++ c.front;
      back = c.back ++ post;
      front_length = length-append pre c.front ∙ omega (arith, c.front_length);
      each = λ y. e y ∙ rw (c.each y) (simp append_assoc);
    }

-- the part itself
pub cut_here : {A : Type 0} {whole f : A → List ℕ} (pre post : List ℕ) (b : ℕ) → length pre ≡ b → ((y : A) → whole y ≡ pre ++ (f y ++ post)) → Cut whole f b
cut_here pre post b h e = record { front = pre; back = post; front_length = h; each = e }

pub cut_move : {A : Type 0} {whole f : A → List ℕ} {a b : ℕ} → Cut whole f a → a ≡ b → Cut whole f b
cut_move c e = record { front = c.front; back = c.back; front_length = c.front_length ∙ e; each = c.each }

-- the same place, for some of the values
pub cut_along : {A B : Type 0} {whole f : A → List ℕ} {at : ℕ} (g : B → A) → Cut whole f at → Cut (λ y. whole (g y)) (λ y. f (g y)) at
cut_along g c = record { front = c.front; back = c.back; front_length = c.front_length; each = λ y. c.each (g y) }
