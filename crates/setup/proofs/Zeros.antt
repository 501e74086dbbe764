-- A table of zeros, and the contents written into it, is the words of a blank state. Not here: how it is cleared. Assumes
-- nothing.
use Prim.Native.Nat.{◌*◌, ◌+◌, suc, ℕ}
use Rattle.lists.specs.Lists.{entries}
use Rattle.records.specs.Records.{Table, hubs_at as hubs_from, ready_at as ready_from, stores_at as stores_from, waits_at as waits_from, width}
use Rattle.rules.proofs.Layouts.{Laid}
use Rattle.rules.proofs.Rows.{rows_none}
use Rattle.rules.specs.Calls.{blank}
use Rattle.rules.specs.Table.{Layout, contents, hub_words, hubs_at, ready_at, store_of, store_size, stores_at, task_size, task_words, wait_words, waits_at, words}
use lib.ListN.{length, replicate, replicate-append-replicate, set}
use mathlib.Core.List.{List, ◌∷◌}
use mathlib.Core.Path.{◌∙◌, ◌≡◌, ap, sym}
use native.Mathlib.Omega.{arith}

module _ {ts : ℕ} {L : Layout} (y : Laid ts L) where
  -- how many words stand behind the contents
  behind : ℕ
  behind = 16 * task_size L + (16 * 4 + (16 + (16 * 16 + 16 * store_size L)))

  words-blank : words L blank ≡ L.edition ∷ 0 ∷ 0 ∷ 8 ∷ hubs_at L ∷ ready_at L ∷ waits_at L ∷ stores_at L ∷ replicate behind 0
  unfolding behind blank contents entries words
  words-blank =
      rw (
        rows_none (task_size L) (task_words L) 16,
        rows_none 4 hub_words 16,
        rows_none 16 wait_words 16,
        rows_none (store_size L) (store_of L) 16,
        ← replicate-append-replicate {A = ℕ} (16 * task_size L) (16 * 4 + (16 + (16 * 16 + 16 * store_size L))) 0,
        ← replicate-append-replicate {A = ℕ} (16 * 4) (16 + (16 * 16 + 16 * store_size L)) 0,
        ← replicate-append-replicate {A = ℕ} 16 (16 * 16 + 16 * store_size L) 0,
        ← replicate-append-replicate {A = ℕ} (16 * 16) (16 * store_size L) 0,
      )

  module _ (t z : List ℕ) (fits : Table ts t) (clear : z ≡ replicate (length t) 0) where
    zeros : z ≡ replicate (suc (suc (suc (suc (suc (suc (suc (suc behind)))))))) 0
    unfolding behind
    zeros =
        let many : length t ≡ suc (suc (suc (suc (suc (suc (suc (suc behind))))))) = omega (arith, y.size, fits.long) in
        clear ∙ ap (λ (n : ℕ). replicate {A = ℕ} n 0) many

    pub blank-words : (e a b c d : ℕ) → e ≡ width ts → a ≡ hubs_from ts → b ≡ ready_from ts → c ≡ waits_from ts + 0 * 16 → d ≡ stores_from ts
        → set (set (set (set (set (set z 0 e) 3 8) 4 a) 5 b) 6 c) 7 d ≡ words L blank
    blank-words e a b c d pe pa pb pc pd =
        let e1 : e ≡ L.edition = omega (arith, y.size, y.edition) in
        let a1 : a ≡ hubs_at L = omega (arith, y.size) in
        let b1 : b ≡ ready_at L = omega (arith, y.size) in
        let c1 : c ≡ waits_at L = omega (arith, y.size) in
        let d1 : d ≡ stores_at L = omega (arith, y.size) in
        rw (zeros, e1, a1, b1, c1, d1) (sym words-blank)
