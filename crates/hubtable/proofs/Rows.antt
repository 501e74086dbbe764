-- The rows of the hub table by what the code tests: a FIFO that holds words or not; an Event as a Semaphore of limit 1.
-- Not here: the paths of each function (its own folder). Assumes nothing.
use Prim.Native.Nat.{◌-◌, ◌≤◌, pred, suc, zero, ℕ}
use Rattle.hubtable.specs.Says.{met_with}
use Rattle.rules.proofs.Valid.{Held, Range}
use Rattle.rules.specs.HubTable.{fail, get_board, get_event, get_fifo, get_semaphore, met, not_now, on_wipe, put_event, put_semaphore}
use Rattle.rules.specs.Table.{Board, Hub, State, kind_of, stored, task}
use lib.Dec.{eqb, eqb-suc-suc}
use lib.ListN.{drop, get_or, length}
use mathlib.Core.List.{List, [], ◌++◌, ◌∷◌}
use mathlib.Core.Logic.{◌⊎◌, inl, inr, ⊎_elim}
use mathlib.Core.Option.{Option, none, some}
use mathlib.Core.Path.{◌≡◌, refl, sym}
use native.Mathlib.Numerals.{sub-one}
use native.Mathlib.Omega.{arith}

-- ---- a Resource's owner

pub eqb-pred : (n m : ℕ) → (n ≡ 0 → ⊥) → eqb (n - 1) m ≡ eqb n (suc m)
eqb-pred zero m h = absurd (h refl)
eqb-pred (suc n) m h = rw sub-one (sym (eqb-suc-suc n m))

-- ---- a FIFO, by the words held

pub fifo_empty : (s : State) (l : List ℕ) (f : Option ℕ) (x : Hub) → length l ≡ 0 → not_now ≡ get_fifo s l f x
unfolding get_fifo
fifo_empty s [] f x e = refl
fifo_empty s (y ∷ l) f x e = absurd (omega (arith, e))

pub fifo-alone : (s : State) (l : List ℕ) (x : Hub) → (length l ≡ 0 → ⊥) → met (pred x.count) (drop 1 l) (get_or l 0 0) [] ≡ get_fifo s l none x
unfolding get_fifo
fifo-alone s [] x h = absurd (h refl)
fifo-alone s (y ∷ l) x h = refl

pub fifo-pair : (s : State) (l : List ℕ) (w : ℕ) (x : Hub) → (length l ≡ 0 → ⊥) → met x.count (drop 1 l ++ (task s w).word ∷ []) (get_or l 0 0) (met_with (some w) 0) ≡ get_fifo s l (some w) x
unfolding get_fifo met_with
fifo-pair s [] w x h = absurd (h refl)
fifo-pair s (y ∷ l) w x h = refl

-- ---- the kinds

-- a kind that is no Board's number is not a Board
pub no_wipe : (n : ℕ) → (n ≡ 6 → ⊥) → fail ≡ on_wipe (kind_of n)
unfolding kind_of on_wipe
no_wipe zero h = refl
no_wipe (suc zero) h = refl
no_wipe (suc (suc zero)) h = refl
no_wipe (suc (suc (suc zero))) h = refl
no_wipe (suc (suc (suc (suc zero)))) h = refl
no_wipe (suc (suc (suc (suc (suc zero))))) h = refl
no_wipe (suc (suc (suc (suc (suc (suc zero)))))) h = absurd (h refl)
no_wipe (suc (suc (suc (suc (suc (suc (suc zero))))))) h = refl
no_wipe (suc (suc (suc (suc (suc (suc (suc (suc n)))))))) h = refl

-- ---- a Board, by the words held

pub board-one : (x : Hub) (T : ℕ) → Range Board T x → Held Board x → length x.held ≤ 1
unfolding Held Range stored
board-one x T r e = omega (arith, r.0, e)

-- of at most one word nothing is left when the oldest goes
pub at_most_none : (l : List ℕ) → length l ≤ 1 → drop 1 l ≡ []
at_most_none [] h = refl
at_most_none (x ∷ []) h = refl
at_most_none (x ∷ (y ∷ l)) h = absurd (omega arith)

pub board_empty : (l : List ℕ) (x : Hub) → length l ≡ 0 → not_now ≡ get_board l x
unfolding get_board
board_empty [] x e = refl
board_empty (y ∷ l) x e = absurd (omega (arith, e))

pub board-written : (l : List ℕ) (x : Hub) → (length l ≡ 0 → ⊥) → met x.count x.held (get_or l 0 0) [] ≡ get_board l x
unfolding get_board
board-written [] x h = absurd (h refl)
board-written (y ∷ l) x h = refl

-- ---- the kinds that count: 1 Event, 2 Semaphore

at_most_one : (n : ℕ) → n ≤ 1 → (n ≡ 0) ⊎ (n ≡ 1)
at_most_one zero h = inl refl
at_most_one (suc zero) h = inr refl
at_most_one (suc (suc n)) h = absurd (omega arith)

pub counted_empty : (f : Option ℕ) (x : Hub) → x.count ≡ 0 → not_now ≡ get_semaphore f x
unfolding get_semaphore
counted_empty (some w) x e = rw e
counted_empty none x e = rw e

pub event-put : (f : Option ℕ) (x : Hub) → x.count ≤ 1 → x.limit ≡ 1 → put_semaphore f x ≡ put_event f x
unfolding put_event put_semaphore
event-put (some w) x few e = refl
event-put none x few e = rw e (⊎_elim (λ z. rw z) (λ z. rw z) (at_most_one x.count few))

pub event_get : (f : Option ℕ) (x : Hub) → x.count ≤ 1 → get_semaphore f x ≡ get_event f x
unfolding get_event get_semaphore
event_get (some w) x few = ⊎_elim (λ z. rw z) (λ z. rw z) (at_most_one x.count few)
event_get none x few = ⊎_elim (λ z. rw z) (λ z. rw z) (at_most_one x.count few)
