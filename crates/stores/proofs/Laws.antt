-- What a hub's record reads, and when its store can take what a meeting does to it. Not here: the store's words (Stores.antt), where
-- a state's parts stand (rules, Places). Assumes nothing.
use Prim.Native.Nat.{◌*◌, ◌+◌, ◌<◌, ◌≤◌, ℕ}
use Rattle.hubtable.specs.Says.{RecordOf, store_after}
use Rattle.hubtable.specs.declared.Store.TheVariants.{Append, Back, Keep, Out, Take, TakeAppend}
use Rattle.hubtable.specs.declared.Store.{Store}
use Rattle.moves.proofs.Laws.{hub-number}
use Rattle.records.specs.Records.{hub_at, hubs_at as hubs_from}
use Rattle.rules.proofs.Layouts.{Laid}
use Rattle.rules.proofs.Room.{store_le}
use Rattle.rules.proofs.Valid.{Held, Range}
use Rattle.rules.specs.Lists.{holding}
use Rattle.rules.specs.Table.{Hub, Kind, Layout, State, hub, hub_words, words}
use Rattle.stores.specs.Fits.{StoreFits}
use lib.ListN.{get_or, length, length-append}
use mathlib.Core.List.{[], ◌++◌, ◌∷◌}
use mathlib.Core.Path.{◌≡◌}
use native.Mathlib.Nat.{add-zero}
use native.Mathlib.Omega.{arith}

module _ {ts : ℕ} (L : Layout) (s : State) (y : Laid ts L) (fits : length s.hubs ≤ 16) (h : ℕ) (used : h < length s.hubs) where
  word : (k : ℕ) → k < 4 → get_or (words L s) (hubs_from ts + h * 4 + k) 0 ≡ get_or (hub_words (hub s h)) k 0
  word = hub-number L s y fits h used

  pub hub-read : RecordOf (hub_at (hubs_from ts) (words L s) h) (hub s h)
  unfolding hub_at
  hub-read = record {
    kind = rw add-zero at (word 0 (omega arith));
    count = word 1 (omega arith);
    limit = word 2 (omega arith);
    start = word 3 (omega arith);
  }

module _ (k : Kind) (T n : ℕ) (x : Hub) where
  -- the count and store that the verdict gives are in the kind's range again, so the store can take the change
  pub store_fits : (st : Store) → Range k T x → Held k x → Range k T (holding n (store_after st x.held) x) → Held k (holding n (store_after st x.held) x) → StoreFits st x.held
  unfolding StoreFits holding store_after
  store_fits Keep r e r' e' = tt
  store_fits (Append w) r e r' e' = omega (arith, length-append x.held (w ∷ []), store_le k T (holding n (x.held ++ w ∷ []) x) r' e')
  store_fits Take r e r' e' = store_le k T x r e
  store_fits (TakeAppend w) r e r' e' = store_le k T x r e
  store_fits (Out b) r e r' e' = store_le k T x r e
  store_fits (Back b) r e r' e' = store_le k T x r e
