-- Parts of a slice as the code lends them: from a to a + n, and from k to the end. Assumes nothing.
use Prim.Native.Nat.{◌+◌, ◌-◌, ◌≤◌, ℕ}
use Rattle.rules.proofs.Written.{length_part}
use lib.ListN.{drop, length, length-drop, take}
use lib.Seq.{take_all}
use mathlib.Core.List.{List}
use mathlib.Core.Path.{◌∙◌, ◌≡◌, ap}
use native.Mathlib.Omega.{arith}

pub so_many : (a n : ℕ) (t : List ℕ) → take (a + n - a) (drop a t) ≡ take n (drop a t)
so_many a n t = let e : a + n - a ≡ n = omega arith in ap (λ (k : ℕ). take k (drop a t)) e

pub to_end : (k : ℕ) (t : List ℕ) → take (length t - k) (drop k t) ≡ drop k t
to_end k t = take_all (length t - k) (drop k t) (rw (length-drop k t) (omega arith))

-- n words, where there are so many
pub lent-long : (t : List ℕ) (a n : ℕ) → a + n ≤ length t → length (take (a + n - a) (drop a t)) ≡ n
lent-long t a n h = ap length (so_many a n t) ∙ length_part t a n h
