-- The paper's tables of names, by number: a number that names no kind, stage, mode or service, the kinds that bear a word, the Resource, and the
-- services that bear an answer.
-- Not here: a single number, of which the rules compute the name. Assumes nothing.
use Prim.Native.Nat.{◌<◌, ◌≤◌, suc, zero, ℕ}
use Rattle.rules.proofs.Tests.{t_below_all}
use Rattle.rules.specs.Calls.{AddHub, AddTask, Blank, HubRequest, Resume, Sleep, Start, Stop, Suspend, Tick, Unknown, Yield, service_of}
use Rattle.rules.specs.Refusals.{NW, NoMode, W, WT, last_side, mode_of}
use Rattle.rules.specs.Reply.{bears_answer}
use Rattle.rules.specs.Table.{Board, Event, Fifo, Inactive, Memory, NoKind, NoStage, Port, Ready, Resource, Semaphore, Sleeping, Waiting, is_resource, kind_of, stage_of, stored}
use Rattle.rules.specs.WellFormed.{bears_word, for_all}
use borrow.Author.Tests.{ne_eqb}
use lib.Dec.{eqb}
use lib.ListN.{get_or-eq_default, get_or, length}
use mathlib.Core.Bool.{◌||◌, cond, true}
use mathlib.Core.List.{List, [], ◌∷◌}
use mathlib.Core.Path.{◌≡◌, refl}
use native.Mathlib.Nat.{not-suc-le-zero}
use native.Mathlib.Omega.{arith}

-- a table of names whose entry 0 is the default: only 1 to its length name anything
unnamed : {A : Type 0} (d : A) (xs : List A) (n : ℕ) → (1 ≤ n → length xs < n) → get_or (d ∷ xs) n d ≡ d
unnamed d xs zero h = refl
unnamed d xs (suc n) h = get_or-eq_default xs d (omega (arith, h (omega arith)))

pub no_kind : (n : ℕ) → (1 ≤ n → 7 < n) → kind_of n ≡ NoKind
unfolding kind_of
no_kind = unnamed NoKind (Event ∷ Semaphore ∷ Port ∷ Fifo ∷ Resource ∷ Board ∷ Memory ∷ [])

-- none of the seven
past : (n : ℕ) → 7 < (suc (suc (suc (suc (suc (suc (suc (suc n))))))))
past n = omega arith

pub past_kinds : (n : ℕ) → 1 ≤ n → (n ≡ 1 → ⊥) → (n ≡ 2 → ⊥) → (n ≡ 3 → ⊥) → (n ≡ 4 → ⊥) → (n ≡ 5 → ⊥) → (n ≡ 6 → ⊥) → (n ≡ 7 → ⊥) → 7 < n
past_kinds zero h a b c d e f g = absurd (not-suc-le-zero h)
past_kinds (suc zero) h a b c d e f g = absurd (a refl)
past_kinds (suc (suc zero)) h a b c d e f g = absurd (b refl)
past_kinds (suc (suc (suc zero))) h a b c d e f g = absurd (c refl)
past_kinds (suc (suc (suc (suc zero)))) h a b c d e f g = absurd (d refl)
past_kinds (suc (suc (suc (suc (suc zero))))) h a b c d e f g = absurd (e refl)
past_kinds (suc (suc (suc (suc (suc (suc zero)))))) h a b c d e f g = absurd (f refl)
past_kinds (suc (suc (suc (suc (suc (suc (suc zero))))))) h a b c d e f g = absurd (g refl)
past_kinds (suc (suc (suc (suc (suc (suc (suc (suc n)))))))) h a b c d e f g = past n

pub no_stage : (n : ℕ) → (1 ≤ n → 4 < n) → stage_of n ≡ NoStage
unfolding stage_of
no_stage = unnamed NoStage (Inactive ∷ Ready ∷ Waiting ∷ Sleeping ∷ [])

pub no_mode : (n : ℕ) → (1 ≤ n → 3 < n) → mode_of n ≡ NoMode
unfolding mode_of
no_mode = unnamed NoMode (W ∷ NW ∷ WT ∷ [])

-- "service above 10"
pub no_service : (n : ℕ) → 10 < n → service_of n ≡ Unknown
unfolding service_of
no_service n h =
    get_or-eq_default (Blank ∷ HubRequest ∷ Start ∷ Stop ∷ Suspend ∷ Resume ∷ Yield ∷ Sleep ∷ Tick ∷ AddTask ∷ AddHub ∷ []) Unknown (omega (arith, h))

-- Port, FIFO, Board and Memory by their numbers
pub bears_number : (n : ℕ) → bears_word (kind_of n) ≡ (eqb n 3 || (eqb n 4 || (eqb n 6 || eqb n 7)))
unfolding bears_word kind_of
bears_number zero = refl
bears_number (suc zero) = refl
bears_number (suc (suc zero)) = refl
bears_number (suc (suc (suc zero))) = refl
bears_number (suc (suc (suc (suc zero)))) = refl
bears_number (suc (suc (suc (suc (suc zero))))) = refl
bears_number (suc (suc (suc (suc (suc (suc zero)))))) = refl
bears_number (suc (suc (suc (suc (suc (suc (suc zero))))))) = refl
bears_number (suc (suc (suc (suc (suc (suc (suc (suc n)))))))) =
    let m : ℕ = suc (suc (suc (suc (suc (suc (suc (suc n))))))) in
    rw (ne_eqb m 3 (λ e. omega arith), ne_eqb m 4 (λ e. omega arith), ne_eqb m 6 (λ e. omega arith), ne_eqb m 7 (λ e. omega arith))

-- the Resource by its number
pub resource-number : (n : ℕ) → is_resource (kind_of n) ≡ eqb n 5
unfolding is_resource kind_of
resource-number zero = refl
resource-number (suc zero) = refl
resource-number (suc (suc zero)) = refl
resource-number (suc (suc (suc zero))) = refl
resource-number (suc (suc (suc (suc zero)))) = refl
resource-number (suc (suc (suc (suc (suc zero))))) = refl
resource-number (suc (suc (suc (suc (suc (suc zero)))))) = refl
resource-number (suc (suc (suc (suc (suc (suc (suc zero))))))) = refl
resource-number (suc (suc (suc (suc (suc (suc (suc (suc n)))))))) = rw (ne_eqb (suc (suc (suc (suc (suc (suc (suc (suc n)))))))) 5 (λ e. omega arith))

-- the stores that hold nothing: not a FIFO's, a Board's or a Memory hub's
pub stored-none : (n count limit : ℕ) → (n ≡ 4 → ⊥) → (n ≡ 6 → ⊥) → (n ≡ 7 → ⊥) → stored (kind_of n) count limit ≡ 0
unfolding kind_of stored
stored-none zero count limit a b c = refl
stored-none (suc zero) count limit a b c = refl
stored-none (suc (suc zero)) count limit a b c = refl
stored-none (suc (suc (suc zero))) count limit a b c = refl
stored-none (suc (suc (suc (suc zero)))) count limit a b c = absurd (a refl)
stored-none (suc (suc (suc (suc (suc zero))))) count limit a b c = refl
stored-none (suc (suc (suc (suc (suc (suc zero)))))) count limit a b c = absurd (b refl)
stored-none (suc (suc (suc (suc (suc (suc (suc zero))))))) count limit a b c = absurd (c refl)
stored-none (suc (suc (suc (suc (suc (suc (suc (suc n)))))))) count limit a b c = refl

-- the last side by the kind's number: a Board's is 3
pub last_side_lem : (n : ℕ) → last_side (kind_of n) ≡ cond (eqb n 6) 3 2
unfolding kind_of last_side
last_side_lem zero = refl
last_side_lem (suc zero) = refl
last_side_lem (suc (suc zero)) = refl
last_side_lem (suc (suc (suc zero))) = refl
last_side_lem (suc (suc (suc (suc zero)))) = refl
last_side_lem (suc (suc (suc (suc (suc zero))))) = refl
last_side_lem (suc (suc (suc (suc (suc (suc zero)))))) = refl
last_side_lem (suc (suc (suc (suc (suc (suc (suc zero))))))) = refl
last_side_lem (suc (suc (suc (suc (suc (suc (suc (suc n)))))))) = rw (ne_eqb (suc (suc (suc (suc (suc (suc (suc (suc n)))))))) 6 (λ e. omega arith))

-- "For services 1 to 7 the answer is the caller's answer word after the call; for 0, 8, 9 and 10 it is 0."
pub bears_answer_lem : (n : ℕ) → 1 ≤ n → n ≤ 7 → bears_answer (service_of n) ≡ true
unfolding bears_answer for_all service_of
bears_answer_lem zero lo hi = absurd (omega arith)
bears_answer_lem (suc n) lo hi = (t_below_all (λ k. bears_answer (service_of (suc k))) 7).yes refl n hi
