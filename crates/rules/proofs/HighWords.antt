-- The high words of a table of edition 2, and refusal 9. In order: the test of a word in each of some records; where it fails; a move
-- back is refused with 9 exactly if some high word isn't 0 (`nine_only`, `nine_always`), and a move up never is.
-- Not here: refusals 1 and 2 of a move, and what it leaves (Editions.antt). Assumes nothing.
use Prim.Native.Nat.{◌%◌, ◌*◌, ◌+◌, ◌/◌, ◌<◌, suc, zero, ℕ}
use Rattle.lists.proofs.Laws.{bool_case}
use Rattle.rules.proofs.Editions.{passed_to, tested}
use Rattle.rules.proofs.Tests.{Tests, t_all, t_eq}
use Rattle.rules.specs.Editions.{down_refusal, high_zero, up_refusal, zeros_at}
use Rattle.rules.specs.Refusals.{need}
use Rattle.rules.specs.Table.{one, size, store_size, stores_at, task_size, tasks_at, two}
use Rattle.rules.specs.WellFormed.{for_all, well_formed_in}
use borrow.Author.Tests.{eq-eqb, eqb-false}
use lib.Dec.{eqb}
use lib.ListN.{get_or, length}
use mathlib.Core.Bool.{and-false, false, false≢true, true}
use mathlib.Core.List.{List}
use mathlib.Core.Path.{◌∙◌, ◌≡◌, ap, refl, sym}
use native.Mathlib.Nat.{div-add-mod, mod-lt}
use native.Mathlib.Numerals.{add-one}
use native.Mathlib.Omega.{arith}

-- ---- a word of each of some records

module _ (at wide f : ℕ) (t : List ℕ) where
  -- it says that each is 0
  pub zeros-each : (n : ℕ) → Tests (zeros_at at wide n f t) ((i : ℕ) → i < n → get_or t (at + i * wide + f) 0 ≡ 0)
  unfolding zeros_at
  zeros-each n =
      t_all (λ i. get_or t (at + i * wide + f) 0 ≡ 0) (λ i. eqb (get_or t (at + i * wide + f) 0) 0)
      (λ i. t_eq (get_or t (at + i * wide + f) 0) 0) n

  pub zeros-not : (n i : ℕ) → i < n → (get_or t (at + i * wide + f) 0 ≡ 0 → ⊥) → zeros_at at wide n f t ≡ false
  zeros-not n i h d = bool_case (zeros_at at wide n f t) (λ b. absurd (d ((zeros-each n).yes b i h))) (λ b. b)

  pub zeros-none : zeros_at at wide 0 f t ≡ true
  unfolding for_all zeros_at
  zeros-none = refl

  pub zeros_more : (i : ℕ) → zeros_at at wide i f t ≡ true → get_or t (at + i * wide + f) 0 ≡ 0 → zeros_at at wide (i + 1) f t ≡ true
  unfolding for_all zeros_at
  zeros_more i e z = rw (add-one, eq-eqb (get_or t (at + i * wide + f) 0) 0 z) e

-- where one is not 0
pub record Other (at wide f : ℕ) (t : List ℕ) (n : ℕ) : Type 0 where
  pub place : ℕ
  pub below : place < n
  pub other : get_or t (at + place * wide + f) 0 ≡ 0 → ⊥

pub zeros_found : (at wide f : ℕ) (t : List ℕ) (n : ℕ) → zeros_at at wide n f t ≡ false → Other at wide f t n
unfolding for_all zeros_at
zeros_found at wide f t zero e = absurd (false≢true (sym e))
zeros_found at wide f t (suc n) e =
    bool_case (eqb (get_or t (at + n * wide + f) 0) 0)
    (λ b. let r = zeros_found at wide f t n (rw b at e) in record { place = r.place; below = omega (arith, r.below); other = r.other })
    (λ b. record { place = n; below = omega arith; other = eqb-false (get_or t (at + n * wide + f) 0) 0 b })

-- ---- "refused with new number 9 exactly if some high word isn't 0"

-- word 7 of a task record, or an odd word of a hub's store
pub data HighWord (t : List ℕ) : Type 0 where
  in_task : (i : ℕ) → i < 16 → (get_or t (tasks_at + i * task_size two + 7) 0 ≡ 0 → ⊥) → HighWord t
  in_store : (h j : ℕ) → h < 16 → j < 8 → (get_or t (stores_at two + h * store_size two + (2 * j + 1)) 0 ≡ 0 → ⊥) → HighWord t

high-some : (t : List ℕ) → high_zero t ≡ false → HighWord t
unfolding high_zero
high-some t e =
    bool_case (zeros_at tasks_at (task_size two) 16 7 t)
    (λ b.
    let f = zeros_found (stores_at two) two.width 1 t 128 (rw b at e) in
    let k = f.place in
    let part = div-add-mod k 8 in
    let rest : k % 8 < 8 = mod-lt k (omega arith) in
    let p : stores_at two + k / 8 * store_size two + (2 * (k % 8) + 1) ≡ stores_at two + k * 2 + 1 = omega (arith, part) in
    in_store (k / 8) (k % 8) (omega (arith, part, f.below)) rest (λ z. f.other (ap (λ (n : ℕ). get_or t n 0) (sym p) ∙ z)))
    (λ b. let f = zeros_found tasks_at (task_size two) 7 t 16 b in in_task f.place f.below f.other)

high-not : (t : List ℕ) → HighWord t → high_zero t ≡ false
unfolding high_zero
high-not t (in_task i h d) = rw (zeros-not tasks_at (task_size two) 7 t 16 i h d) refl
high-not t (in_store h j lh lj d) =
    let p : stores_at two + (h * 8 + j) * 2 + 1 ≡ stores_at two + h * store_size two + (2 * j + 1) = omega arith in
    rw (zeros-not (stores_at two) two.width 1 t 128 (h * 8 + j) (omega arith) (λ z. d (ap (λ (n : ℕ). get_or t n 0) (sym p) ∙ z))) (and-false (zeros_at tasks_at (task_size two) 16 7 t))

pub record Nine (from : List ℕ) (room : ℕ) : Type 0 where
  pub source : length from ≡ size two
  pub destination : room ≡ size one
  pub formed : well_formed_in two from ≡ true
  pub high : HighWord from

module _ (from : List ℕ) (room : ℕ) where
  pub nine_only : down_refusal from room ≡ 9 → Nine from room
  unfolding down_refusal need
  nine_only e =
      let p = passed_to two one from room _ 9 e (λ q. omega (arith, q)) (λ q. omega (arith, q)) in
      let high = bool_case (high_zero from) (λ b. absurd (let q : ◌≡◌ {A = ℕ} 0 9 = rw b at p.1 in omega (arith, q))) (high-some from) in
      record { source = p.0.long; destination = p.0.fits; formed = p.0.formed; high = high }

  pub nine_always : Nine from room → down_refusal from room ≡ 9
  unfolding down_refusal need
  nine_always n =
      sym (tested two one from room _ n.source n.destination n.formed) ∙ rw (high-not from n.high) refl

-- a move up is never refused with 9
pub up_never_9 : (from : List ℕ) (room : ℕ) → up_refusal from room ≡ 9 → ⊥
unfolding up_refusal
up_never_9 from room e =
    let p = passed_to one two from room 0 9 e (λ q. omega (arith, q)) (λ q. omega (arith, q)) in omega (arith, p.1)
