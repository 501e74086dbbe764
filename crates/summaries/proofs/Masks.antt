-- The laws of masks. In order: the bit of an entry; a turn of the loop over a list; the mask of a list in which just the
-- numbers that pass a test stand, once each; the size and the digits of a mask; the waiting list of a hub that is found.
-- Not here: what a summary promises (Promise.antt). Assumes nothing.
use Prim.Native.Nat.{◌%◌, ◌*◌, ◌+◌, ◌-◌, ◌/◌, ◌<◌, ◌^◌, ◌≤◌, suc, zero, ℕ}
use Rattle.lists.proofs.Counting.{occ_here, occ-without}
use Rattle.lists.proofs.Laws.{bool_case}
use Rattle.lists.proofs.Padding.{all_zero-numbers, packed_tail}
use Rattle.lists.specs.Lists.{bit, numbers, occ, packed, without}
use Rattle.records.specs.declared.HubNo.{HubNo}
use Rattle.refusals.proofs.Found.{hub_found, hub_in_use, hub-number}
use Rattle.refusals.specs.Lookup.{found_hub}
use Rattle.rules.proofs.After.{long_in, valid_in}
use Rattle.rules.proofs.Cases.{and_l}
use Rattle.rules.proofs.Changes.{in_use}
use Rattle.rules.proofs.Coded.{on_table_ok}
use Rattle.rules.proofs.Reading.{read-hub, read-hubs}
use Rattle.rules.proofs.Standing.{listed-waits}
use Rattle.rules.proofs.Valid.{Valid}
use Rattle.rules.proofs.Written.{written-says}
use Rattle.rules.specs.Refusals.{on_table}
use Rattle.rules.specs.Reply.{mask_below}
use Rattle.rules.specs.Table.{Hub, Layout, State, hub, hub_at, read, size, wait_part}
use Rattle.rules.specs.WellFormed.{waits_for, well_formed_in}
use Rattle.summaries.specs.Mask.{bit_of, mask_of}
use Rattle.rules.specs.declared.Refusal.TheVariants.{NotInUse}
use Rattle.std.specs.Option.{ok_or}
use Rattle.std.specs.Prelude.{Ok, Some}
use borrow.Author.Tests.{eqb-false, eqb-true, ltb-false, ltb-true, ne_eqb}
use lib.Dec.{eqb, lit<, ltb}
use lib.ListN.{drop, get_or, length}
use lib.Pow.{field, high, low, mod-mod-pow, pow_mono, shl_exact}
use lib.Seq.{drop-cons}
use mathlib.Core.Bool.{Bool, false, true}
use mathlib.Core.List.{List, [], ◌∷◌}
use mathlib.Core.Path.{◌∙◌, ◌≡◌, ap, refl, sym}
use native.Mathlib.Nat.{add-mul, mul-div_cancel, one-mul, pow-suc, zero-mul}
use native.Mathlib.Omega.{arith}

-- ---- the bit of an entry

pub bit_shift : (e : ℕ) → e ≤ 16 → 1 * 2 ^ e % 2 ^ 32 / 2 ≡ bit_of e
unfolding bit_of
bit_shift zero h = refl
bit_shift (suc i) h =
    rw (shl_exact {a = 1} 1 (suc i) 32 (lit< tt) (omega arith), one-mul (2 ^ suc i), pow-suc 2 i) (mul-div_cancel (2 ^ i) (lit< tt))

-- a bit of a mask of 16 is that of an entry 1 to 16, or of an empty one
bit_entry : (e : ℕ) → bit_of e < 65536 → e ≤ 16
unfolding bit_of
bit_entry zero h = omega arith
bit_entry (suc i) h = bool_case (ltb i 16) (λ b. omega (arith, ltb-true i 16 b)) (λ b. let k : 2 ^ 16 ≤ 2 ^ i = pow_mono (ltb-false i 16 b) in absurd (omega arith))

-- ---- a turn of a loop over a list of words

mask_cons : (x : ℕ) (xs : List ℕ) → packed (x ∷ xs) ≡ true → mask_of (numbers (x ∷ xs)) ≡ bit_of x + mask_of (numbers xs)
unfolding bit_of mask_of numbers packed
mask_cons zero xs e = rw (all_zero-numbers xs e)
mask_cons (suc i) xs e = rw (ne_eqb (suc i) 0 (λ z. omega arith))

-- the entry at place k, and what is left behind it, where m is the mask of what is before it
pub record Turn (l : List ℕ) (k m : ℕ) : Type 0 where
  pub entry : get_or l k 0 ≤ 16
  pub fits : m + bit_of (get_or l k 0) < 65536
  pub packed : packed (drop (suc k) l) ≡ true
  pub mask : m + bit_of (get_or l k 0) + mask_of (numbers (drop (suc k) l)) ≡ mask_of (numbers l)

pub next_turn : (l : List ℕ) (k m : ℕ) → mask_of (numbers l) < 65536 → k < length l → packed (drop k l) ≡ true → m + mask_of (numbers (drop k l)) ≡ mask_of (numbers l) → Turn l k m
next_turn l k m small h p e =
    let here : packed (get_or l k 0 ∷ drop (suc k) l) ≡ true = rw (drop-cons l k 0 h) at p in
    let cons = mask_cons (get_or l k 0) (drop (suc k) l) here in
    let sum : m + mask_of (numbers (get_or l k 0 ∷ drop (suc k) l)) ≡ mask_of (numbers l) = rw (drop-cons l k 0 h) at e in
    record {
      entry = bit_entry (get_or l k 0) (omega arith);
      fits = omega arith;
      packed = packed_tail (get_or l k 0) (drop (suc k) l) here;
      mask = omega arith;
    }

-- from an empty entry on nothing stands in the list
pub mask_ended : (l : List ℕ) (k : ℕ) → k < length l → get_or l k 0 ≡ 0 → mask_of (numbers (drop k l)) ≡ 0
unfolding mask_of numbers
mask_ended l k h e = rw (drop-cons l k 0 h, e)

-- ---- the mask of a list, and of a test

-- all of a number's occurrences taken out
mask_without : (n : ℕ) (l : List ℕ) → mask_of l ≡ occ n l * 2 ^ n + mask_of (without n l)
unfolding mask_of occ without
mask_without n [] = omega (arith, zero-mul (2 ^ n))
mask_without n (x ∷ xs) =
    bool_case (eqb x n)
    (λ b. rw b (omega (arith, ap (λ (k : ℕ). 2 ^ k) (eqb-true x n b), add-mul 1 (occ n xs) (2 ^ n), one-mul (2 ^ n), mask_without n xs)))
    (λ b. rw b (omega (arith, mask_without n xs)))

-- just the numbers below n that pass the test stand in the list, once each
mask_below_lem : (n : ℕ) (p : ℕ → Bool) (l : List ℕ) → ((i : ℕ) → i < n → occ i l ≡ bit (p i)) → ((i : ℕ) → 1 ≤ occ i l → i < n) → mask_of l ≡ mask_below n p
unfolding mask_below mask_of
mask_below_lem zero p [] exact below = refl
mask_below_lem zero p (x ∷ xs) exact below = absurd (omega (arith, below x (occ_here x xs)))
mask_below_lem (suc n) p l exact below =
    rw (mask_without n l, exact n (omega arith), mask_below_lem n p (without n l) exact' below')
  where
    exact' : (i : ℕ) → i < n → occ i (without n l) ≡ bit (p i)
    exact' i h = rw (occ-without n i l, ne_eqb n i (λ e. omega arith)) (exact i (omega arith))

    below' : (i : ℕ) → 1 ≤ occ i (without n l) → i < n
    below' i h =
        bool_case (eqb n i)
        (λ b. absurd (omega (arith, rw b at (occ-without n i l))))
        (λ b. let e : n ≡ i → ⊥ = eqb-false n i b in omega (arith, below i (omega (arith, rw b at (occ-without n i l)))))

-- ---- a mask is as many digits as there are numbers, each what the test says

pub mask_lt : (n : ℕ) (p : ℕ → Bool) → mask_below n p < 2 ^ n
unfolding mask_below
mask_lt zero p = omega arith
mask_lt (suc n) p =
    bool_case (p n)
    (λ b. rw b (omega (arith, one-mul (2 ^ n), pow-suc 2 n, mask_lt n p)))
    (λ b. rw b (omega (arith, zero-mul (2 ^ n), pow-suc 2 n, mask_lt n p)))

-- a digit is not changed by what stands above it
digit_below : (a r n i : ℕ) → i < n → r < 2 ^ n → (a * 2 ^ n + r) / 2 ^ i % 2 ≡ r / 2 ^ i % 2
digit_below a r n i h lt =
    sym (field (a * 2 ^ n + r) 1 i)
    ∙ ap (λ (x : ℕ). x / 2 ^ i) (low-digits (n - (1 + i)) (omega arith))
    ∙ field r 1 i
  where
    low-digits : (j : ℕ) → j + (1 + i) ≡ n → (a * 2 ^ n + r) % 2 ^ (1 + i) ≡ r % 2 ^ (1 + i)
    low-digits j e =
        sym (mod-mod-pow (a * 2 ^ n + r) j (1 + i))
        ∙ ap (λ (x : ℕ). x % 2 ^ (1 + i)) (ap (λ (m : ℕ). (a * 2 ^ n + r) % 2 ^ m) e ∙ low a n lt)

bit_mod : (b : Bool) → bit b % 2 ≡ bit b
bit_mod true = refl
bit_mod false = refl

pub mask_digit : (n : ℕ) (p : ℕ → Bool) (i : ℕ) → i < n → mask_below n p / 2 ^ i % 2 ≡ bit (p i)
unfolding mask_below
mask_digit zero p i h = absurd (omega arith)
mask_digit (suc n) p i h =
    bool_case (eqb i n)
    (λ b. rw (eqb-true i n b, high (bit (p n)) n (mask_lt n p)) (bit_mod (p n)))
    (λ b. let e : i ≡ n → ⊥ = eqb-false i n b in
    let lt : i < n = omega arith in
    digit_below (bit (p n)) (mask_below n p) n i lt (mask_lt n p) ∙ mask_digit n p i lt)

-- ---- a hub's waiting list

waiters_mask : (s : State) → Valid s → (h : ℕ) → mask_of (hub s h).waiters ≡ mask_below 16 (waits_for s h)
waiters_mask s v h =
    mask_below_lem 16 (waits_for s h) (hub s h).waiters
    (λ i lt. v.listed.waiters h i)
    (λ i k. omega (arith, in_use s i 1 (listed-waits s v.listed h i k).0, v.tasks))

-- a hub that is found in a table: that it is in use, where its list stands, and the list's mask
pub record FoundIn (L : Layout) (t : List ℕ) (n h : ℕ) : Type 0 where
  pub used : n < get_or t 2 0
  pub below : h < 16
  pub long : length t ≡ size L
  pub packed : packed (wait_part L t h) ≡ true
  pub mask : mask_of (numbers (wait_part L t h)) ≡ mask_below 16 (waits_for (read L t) n)

pub found_in : (L : Layout) (t : List ℕ) (n : ℕ) (h : HubNo) → well_formed_in L t ≡ true → Some h ≡ found_hub t n → FoundIn L t n h.0
unfolding found_hub hub_at well_formed_in
found_in L t n h w e =
    let b = hub_in_use t n h e in
    let same = hub-number t n h e in
    let used : n < get_or t 2 0 = ltb-true n (get_or t 2 0) b in
    record {
      used = used;
      below = rw same (omega (arith, (valid_in L t w).hubs, read-hubs L t));
      long = long_in L t w;
      packed = rw same ((written-says L t (and_l _ _ w)).waiters n used);
      mask = rw same (ap (λ (x : Hub). mask_of x.waiters) (sym (read-hub L t n used)) ∙ waiters_mask (read L t) (valid_in L t w) n);
    }

-- the same, where the tests of the table and of the hub passed
pub found_here : (L : Layout) (t : List ℕ) (n : ℕ) (h : HubNo) → 0 ≡ on_table L t 0 → Ok h ≡ ok_or (found_hub t n) NotInUse → FoundIn L t n h.0
found_here L t n h good e = found_in L t n h (on_table_ok L t good).1 (hub_found t n h e)
