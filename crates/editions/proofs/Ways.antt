-- The two ways, up and down. In order: a message of one word, by its high word; the messages of a state whose words are of 32 bits, and
-- those of one whose high words are 0; each way out of a move.
-- Not here: what the moves promise of a table (Promise.antt), and any two editions (Bodies.antt). Assumes nothing.
use Prim.Native.Nat.{◌%◌, ◌*◌, ◌+◌, ◌/◌, ◌<◌, ◌≤◌, ℕ}
use Rattle.editions.proofs.Bodies.{message-place, placed, placed_word, task-place}
use Rattle.rules.proofs.Editions.{passed, refused_before, tested}
use Rattle.rules.proofs.HighWords.{zeros-each}
use Rattle.editions.specs.Editions.{Below, stored}
use Rattle.rules.specs.Editions.{Moved, down_refusal, high_zero, move_refusal, moved_down, moved_up, up_refusal, zeros_at}
use Rattle.messages.specs.Messages.{messages}
use Rattle.records.specs.Records.{Table, width}
use Rattle.rules.proofs.After.{words_in}
use Rattle.rules.proofs.Layouts.{Laid, one_laid, two_laid}
use Rattle.rules.proofs.Tests.{Tests, t_and, t_iff}
use Rattle.lists.proofs.Laws.{bool_case}
use Rattle.rules.specs.Refusals.{need, on_table}
use Rattle.rules.specs.Table.{Layout, State, one, read, size, stores_at, task_size, tasks_at, two, words}
use borrow.Author.Tests.{ne_eqb}
use lib.Dec.{eqb}
use lib.ListN.{get_or, length}
use mathlib.Core.Bool.{false, true}
use mathlib.Core.List.{List}
use mathlib.Core.Path.{◌∙◌, ◌≡◌, refl, sym}
use native.Mathlib.Nat.{div-add-mod, div-eq_of_lt, mod-lt}
use native.Mathlib.Omega.{arith}

-- words of 32 bits
abbrev pub Low : List ℕ → Type 0
Low t = (k : ℕ) → get_or t k 0 < 4294967296

-- ---- a message of one word

high-none : (m : ℕ) → m / 4294967296 ≡ 0 → m < 4294967296
high-none m e = let rest : m % 4294967296 < 4294967296 = mod-lt m (omega arith) in omega (arith, e, div-add-mod m 4294967296)

none-high : (m : ℕ) → m < 4294967296 → m / 4294967296 ≡ 0
none-high m h = div-eq_of_lt h

-- ---- the messages of a state

pub below_more : {m n : ℕ} {s : State} → m ≤ n → Below m s → Below n s
below_more h b = record { tasks = λ i l. omega (arith, b.tasks i l); stores = λ k l. omega (arith, b.stores k l) }

-- in edition 1 they are words
pub below_one : (s : State) → Low (words one s) → Below 4294967296 s
below_one s low = record {
  tasks = λ i h. omega (arith, low (8 + i * 8 + 6), task-place one one_laid s i 6 h (omega arith), placed_word s i);
  stores = λ k h. omega (arith, low (stores_at one + k * 1 + 0), message-place one one_laid s k 0 h (omega arith));
}

-- in edition 2 they are words exactly if the high words are 0
pub high_zero_lem : (s : State) → Tests (high_zero (words two s)) (Below 4294967296 s)
unfolding high_zero
high_zero_lem s =
    t_iff (high_zero t) (t_and (zeros_at tasks_at (task_size two) 16 7 t) (zeros_at (stores_at two) two.width 128 1 t) (zeros-each tasks_at (task_size two) 7 t 16) (zeros-each (stores_at two) two.width 1 t 128))
    (λ p. record {
      tasks = λ i h. rw (← placed_word s i) (high-none (placed s i).word (sym (of_task i h) ∙ p.0 i h));
      stores = λ k h. high-none (get_or (stored s) k 0) (sym (of_store k h) ∙ p.1 k h);
    })
    (λ b. (
      λ i h. of_task i h ∙ none-high (placed s i).word (rw (placed_word s i) (b.tasks i h)),
      λ k h. of_store k h ∙ none-high (get_or (stored s) k 0) (b.stores k h),
    ))
  where
    t : List ℕ
    t = words two s

    of_task : (i : ℕ) → i < 16 → get_or t (tasks_at + i * task_size two + 7) 0 ≡ (placed s i).word / 4294967296
    of_task i h = task-place two two_laid s i 7 h (omega arith)

    of_store : (k : ℕ) → k < 128 → get_or t (stores_at two + k * two.width + 1) 0 ≡ get_or (stored s) k 0 / 4294967296
    of_store k h = message-place two two_laid s k 1 h (omega arith)

-- ---- the ways out

moved_refused : {refusal : ℕ} (done to : List ℕ) (n : ℕ) → n ≡ refusal → (n ≡ 0 → ⊥) → Moved refusal done to n to
moved_refused done to n e d = record { number = e; table = rw (← e, ne_eqb n 0 d) refl }

moved_done : {refusal : ℕ} (done to to' : List ℕ) → 0 ≡ refusal → to' ≡ done → Moved refusal done to 0 to'
moved_done done to to' e d = record { number = e; table = rw (← e) d }

-- what `refusal_of` and `copy` ensure
abbrev pub Tested : ℕ → ℕ → List ℕ → ℕ → ℕ → Type 0
Tested fs ts from room r = (L M : Layout) → Laid fs L → Laid ts M → r ≡ move_refusal L M from room 0

abbrev pub Copied : ℕ → ℕ → List ℕ → List ℕ → Type 0
Copied fs ts from to' = (L M : Layout) (s : State) → Laid fs L → Laid ts M → Below (messages (width ts)) s → from ≡ words L s → to' ≡ words M s

module _ (from to : List ℕ) (r : ℕ) where
  abbrev Up : ℕ → List ℕ → Type 0
  Up n to' = Moved (up_refusal from (length to)) (moved_up from) to n to'

  abbrev Down : ℕ → List ℕ → Type 0
  Down n to' = Moved (down_refusal from (length to)) (moved_down from) to n to'

  module _ (e : Tested 8 9 from (length to) r) where
    pub up_refused : (r ≡ 0 → ⊥) → Up r to
    unfolding up_refusal
    up_refused d = moved_refused (moved_up from) to r (e one two one_laid two_laid) d

    module _ (z : r ≡ 0) where
      pub up_tables : Table 8 from × Table 9 to
      up_tables =
          let p = (passed one two from (length to) 0 (sym (e one two one_laid two_laid) ∙ z)).0 in
          (record { low = omega arith; high = omega arith; long = p.long }, record { low = omega arith; high = omega arith; long = p.fits })

      pub up_done : Low from → (to' : List ℕ) → Copied 8 9 from to' → Up 0 to'
      unfolding up_refusal
      up_done low to' copied =
          let p = (passed one two from (length to) 0 (sym (e one two one_laid two_laid) ∙ z)).0 in
          let table : from ≡ words one (read one from) = words_in one from p.formed one_laid low in
          let below = below_one (read one from) (λ k. rw (← table) (low k)) in
          moved_done (moved_up from) to to' (sym z ∙ e one two one_laid two_laid) (copied one two (read one from) one_laid two_laid (below_more (omega arith) below) table)

  module _ (e : Tested 9 8 from (length to) r) where
    pub down_refused : (r ≡ 0 → ⊥) → Down r to
    unfolding down_refusal
    down_refused d =
        moved_refused (moved_down from) to r (refused_before two one from (length to) _ r (e two one two_laid one_laid) d) d

    module _ (z : r ≡ 0) where
      pub down_tables : Table 9 from × Table 8 to
      down_tables =
          let p = (passed two one from (length to) 0 (sym (e two one two_laid one_laid) ∙ z)).0 in
          (record { low = omega arith; high = omega arith; long = p.long }, record { low = omega arith; high = omega arith; long = p.fits })

      -- 1 and 2 are behind
      down_tested : need (high_zero from) 9 0 ≡ down_refusal from (length to)
      unfolding down_refusal
      down_tested =
          let p = (passed two one from (length to) 0 (sym (e two one two_laid one_laid) ∙ z)).0 in
          tested two one from (length to) (need (high_zero from) 9 0) p.long p.fits p.formed

      pub down_high : high_zero from ≡ false → Down 9 to
      unfolding need
      down_high h = moved_refused (moved_down from) to 9 (rw h at down_tested) (λ q. omega (arith, q))

      pub down_done : high_zero from ≡ true → Low from → (to' : List ℕ) → Copied 9 8 from to' → Down 0 to'
      unfolding need
      down_done h low to' copied =
          let p = (passed two one from (length to) 0 (sym (e two one two_laid one_laid) ∙ z)).0 in
          let table : from ≡ words two (read two from) = words_in two from p.formed two_laid low in
          let below = (high_zero_lem (read two from)).yes (rw (← table) h) in
          moved_done (moved_down from) to to' (rw h at down_tested) (copied two one (read two from) two_laid one_laid below table)

-- ---- the tests of a move, where the destination has the right size: those of the source

pub room_right : (L M : Layout) (from : List ℕ) (room rest : ℕ) → eqb room (size M) ≡ true → on_table L from rest ≡ move_refusal L M from room rest
unfolding move_refusal need
room_right L M from room rest e = bool_case (eqb (length from) (size L)) (λ b. rw (b, e)) (λ b. rw b)
