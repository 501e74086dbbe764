-- Who owns a hub, as the code reads it; and the states in between, as the locks pass on one after the other. Assumes nothing.
use Prim.Native.Nat.{◌*◌, ◌+◌, ◌<◌, ◌≤◌, suc, ℕ}
use Rattle.moves.proofs.Laws.{hub-number, waiter_in}
use Rattle.records.specs.Records.{hub_at, hubs_at as hubs_from}
use Rattle.rules.proofs.Changes.{length-set_hub}
use Rattle.rules.proofs.Handed.{one_none, one-some}
use Rattle.rules.proofs.Hubs.{many_pass}
use Rattle.rules.proofs.Layouts.{Laid, sized}
use Rattle.rules.proofs.Listed.{listed-hold, listed-pass}
use Rattle.rules.proofs.Numbers.{resource-number}
use Rattle.rules.proofs.Passing.{length-pass}
use Rattle.rules.proofs.Places.{same_hub, set-count}
use Rattle.rules.proofs.Standing.{first-waits}
use Rattle.rules.proofs.Valid.{Sound}
use Rattle.rules.specs.Calls.{heir, hold, pass_all, pass_one}
use Rattle.rules.specs.Lists.{holding, wake}
use Rattle.rules.specs.Table.{Layout, State, hub, hubs_at, owns, set_hub, words}
use lib.Dec.{eqb}
use lib.ListN.{get_or, length, set}
use mathlib.Core.Bool.{◌&&◌, true}
use mathlib.Core.Option.{none, some}
use mathlib.Core.Path.{◌∙◌, ◌≡◌, ap, sym}
use native.Mathlib.Nat.{add-zero}
use native.Mathlib.Numerals.{add-one}
use native.Mathlib.Omega.{arith}

pub owner-read : {ts : ℕ} (L : Layout) (s : State) → Laid ts L → length s.hubs ≤ 16 → (i h : ℕ) → h < length s.hubs
    → (eqb (hub_at (hubs_from ts) (words L s) h).kind 5 && eqb (hub_at (hubs_from ts) (words L s) h).count (i + 1)) ≡ owns i (hub s h)
unfolding hub_at owns
owner-read {ts} L s y fits i h used =
    let kind : get_or (words L s) (hubs_from ts + h * 4) 0 ≡ (hub s h).kind = rw add-zero at (hub-number L s y fits h used 0 (omega arith)) in
    rw (kind, hub-number L s y fits h used 1 (omega arith), add-one, resource-number (hub s h).kind)

-- the hub's count, n, is its new owner plus 1, or 0
pub count_set : {ts : ℕ} (L : Layout) (s : State) → Laid ts L → (h n : ℕ) → h < 16 → h < length s.hubs
    → set (words L s) (hubs_at L + h * 4 + 1) n ≡ words L (hold h n (hub s h).held s)
unfolding hold holding
count_set L s y h n low used =
    ap (λ (z : State). set (words L z) (hubs_at L + h * 4 + 1) n) (sym (same_hub s h))
    ∙ set-count L (sized y) s h low used (hub s h).count n (hub s h).held (hub s h)

module _ (key : ℕ → ℕ) (i h : ℕ) (s : State) (o : owns i (hub s h) ≡ true) where
  pub passed-some : (n w : ℕ) → n ≡ suc w → heir s h ≡ some w → wake key w 1 0 (hold h n (hub s h).held s) ≡ pass_one key i h s
  passed-some n w is q = rw is (sym (one-some key i h s o w q))

  pub passed_none : heir s h ≡ none → hold h 0 (hub s h).held s ≡ pass_one key i h s
  passed_none q = sym (one_none key i h s o q)

-- the first waiter is in use
pub heir-used : (s : State) → Sound s → (h w : ℕ) → heir s h ≡ some w → w < length s.tasks
heir-used s sound h w q = waiter_in s sound.listed h w (first-waits s 2 (hub s h).waiters w q).0

pub sound_hold : (h n : ℕ) (s : State) → Sound s → Sound (hold h n (hub s h).held s)
sound_hold h n s sound = record {
  tasks = unfold hold set_hub in sound.tasks;
  hubs = unfold hold in rw (length-set_hub s h (holding n (hub s h).held (hub s h))) sound.hubs;
  listed = listed-hold h n (hub s h).held s sound.listed;
}

-- some hubs have passed
pub sound_pass : (key : ℕ → ℕ) (i n : ℕ) (s : State) → Sound s → Sound (pass_all key i n s)
sound_pass key i n s sound = record {
  tasks = rw (length-pass key i n s) sound.tasks;
  hubs = rw (many_pass key i n s) sound.hubs;
  listed = listed-pass key i n s sound.listed;
}
