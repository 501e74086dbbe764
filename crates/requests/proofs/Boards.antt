-- The update of a Board: its readers are met one after the other, each the first of those that are left, and that is meeting
-- them all, in list order. Not here: the store (Stores.antt), what a met request rests on (Laws.antt). Assumes nothing.
use Prim.Native.Nat.{◌<◌, ◌≤◌, suc, zero, ℕ}
use Rattle.hubtable.specs.Says.{store_after}
use Rattle.hubtable.specs.declared.Store.TheVariants.{TakeAppend}
use Rattle.hubtable.specs.declared.Store.{Store}
use Rattle.lists.proofs.Counting.{occ_here}
use Rattle.lists.proofs.Laws.{without-none}
use Rattle.lists.specs.Lists.{entries, occ, without}
use Rattle.moves.proofs.Laws.{waiter_in}
use Rattle.verdicts.proofs.Laws.{held, range}
use Rattle.records.specs.Records.{first}
use Rattle.requests.specs.Requests.{meet_one, meetings}
use Rattle.stores.specs.Fits.{StoreFits}
use Rattle.rules.proofs.Changes.{hub-set_keeps}
use Rattle.rules.proofs.Hubs.{hubs-wake}
use Rattle.rules.proofs.Listed.{listed-wake}
use Rattle.rules.proofs.Room.{waits-once}
use Rattle.rules.proofs.Settled.{hub-wake, length-wake}
use Rattle.rules.proofs.Standing.{listed-waiting}
use Rattle.rules.proofs.Valid.{Held, MayWait, PutWaits, Range, Sound, Valid}
use Rattle.rules.proofs.Verdicts.{side_get}
use Rattle.rules.specs.Calls.{HubRequest, hold, meet_all, serve, settle}
use Rattle.rules.specs.HubTable.{message, on_put, on_side, put_board, readers, verdict}
use Rattle.rules.specs.Lists.{answer, holding, queued, unqueue, wake}
use Rattle.rules.specs.Refusals.{refusal_for}
use Rattle.rules.specs.Table.{Board, Get, Hub, NoSide, Put, Side, State, Wipe, hub, kind_of, set_task, side_of, stored, task}
use Rattle.rules.specs.declared.Call.{Call}
use borrow.Author.Tests.{eq-eqb}
use lib.ListN.{drop, get_or, length}
use mathlib.Core.List.{List, [], ◌++◌, ◌∷◌}
use mathlib.Core.Option.{none, some}
use mathlib.Core.Path.{◌∙◌, ◌≡◌, ap, refl}
use native.Mathlib.Omega.{arith}

-- ---- the first of a list, by the task that its first entry names

abbrev head_entry : List ℕ → ℕ
head_entry l = get_or (entries 16 l) 0 0

pub first_stands : (l : List ℕ) (i : ℕ) → some i ≡ first (head_entry l) → 1 ≤ occ i l
unfolding entries first
first_stands [] i q = absurd (let z : ◌≡◌ {A = ℕ} 0 1 = cc in omega arith)
first_stands (j ∷ js) i q = let is : i ≡ j = cc in rw is (occ_here j js)

module _ (key : ℕ → ℕ) (w : ℕ) (s : State) where
  pub first-met : (l : List ℕ) (i : ℕ) → some i ≡ first (head_entry l) → wake key i 1 w s ≡ meet_one key w l s
  unfolding entries first meet_one
  first-met [] i q = absurd (let z : ◌≡◌ {A = ℕ} 0 1 = cc in omega arith)
  first-met (j ∷ js) i q = let is : i ≡ j = cc in rw is refl

  pub none-met : (l : List ℕ) → none ≡ first (head_entry l) → s ≡ meet_one key w l s
  unfolding entries first meet_one
  none-met [] q = refl
  none-met (j ∷ js) q = absurd (let z : ◌≡◌ {A = ℕ} 0 1 = cc in omega arith)

-- ---- one after the other

module _ (key : ℕ → ℕ) (w h : ℕ) where
  -- the first of hub h's list is met
  abbrev step : State → State
  step s = meet_one key w (hub s h).waiters s

  unfoldable pub steps : ℕ → State → State
  steps zero s = s
  steps (suc k) s = steps k (step s)

  pub steps_last : (k : ℕ) (s : State) → steps (suc k) s ≡ step (steps k s)
  unfolding steps
  steps_last zero s = refl
  steps_last (suc k) s = steps_last k (step s)

  -- what a meeting rests on
  abbrev pub Ready : State → Type 0
  Ready s = Sound s × (h < length s.hubs)

  step-ready : (s : State) → Ready s → Ready (step s)
  unfolding meet_one
  step-ready s r = by (hub s h).waiters refl
    where
      by : (l : List ℕ) → (hub s h).waiters ≡ l → Ready (meet_one key w l s)
      by [] e = r
      by (j ∷ js) e =
          let used = waiter_in s r.0.listed h j (rw e (occ_here j js)) in (
            record {
              tasks = rw (length-wake key s j 1 w) r.0.tasks;
              hubs = rw (hubs-wake key j 1 w s).many r.0.hubs;
              listed = listed-wake key j 1 w s r.0.listed used;
            },
            rw (hubs-wake key j 1 w s).many r.1,
          )

  pub steps_ready : (k : ℕ) (s : State) → Ready s → Ready (steps k s)
  unfolding steps
  steps_ready zero s r = r
  steps_ready (suc k) s r = steps_ready k (step s) (step-ready s r)

  nobody_left : (k : ℕ) (s : State) → (hub s h).waiters ≡ [] → steps k s ≡ s
  unfolding meet_one steps
  nobody_left zero s e = refl
  nobody_left (suc k) s e = rw e (nobody_left k s e)

  -- whoever is met leaves the list, so the next stands first
  pub all-met : (l : List ℕ) (k : ℕ) (s : State) → Ready s → (hub s h).waiters ≡ l → length l ≤ k → steps k s ≡ meet_all key (meetings w l) s
  unfolding meet_all meetings occ steps without
  all-met [] k s r e n = nobody_left k s e
  all-met (j ∷ js) zero s r e n = absurd (omega arith)
  all-met (j ∷ js) (suc k) s r e n =
      let is : step s ≡ wake key j 1 w s = unfold meet_one in rw e refl in
      let left : (hub (wake key j 1 w s) h).waiters ≡ js =
      ap (λ (x : Hub). x.waiters) (hub-wake key s j 1 w h) ∙ (unfold queued unqueue in rw e (first_leaves j js (rw e at (waits-once s r.0.listed h j)))) in
      rw is (all-met js k (wake key j 1 w s) (rw is at (step-ready s r)) left (omega arith))
    where
      first_leaves : (j : ℕ) (js : List ℕ) → occ j (j ∷ js) ≤ 1 → without j (j ∷ js) ≡ js
      first_leaves j js o = let b = eq-eqb j j refl in rw b (without-none j js (omega (arith, rw b at o)))

-- ---- the readers of a Board are all that wait there

module _ (s : State) (w : ℕ) where
  pub all_read : (l : List ℕ) → ((j : ℕ) → 1 ≤ occ j l → (task s j).side ≡ 2) → readers s l w ≡ meetings w l
  unfolding meetings occ readers
  all_read [] r = refl
  all_read (j ∷ js) r =
      rw (eq-eqb (task s j).side 2 (r j (occ_here j js)), all_read js (λ i o. r i (omega (arith, o)))) refl

pub only-readers : (s : State) → Valid s → (h : ℕ) → kind_of (hub s h).kind ≡ Board → (j : ℕ) → 1 ≤ occ j (hub s h).waiters → (task s j).side ≡ 2
unfolding MayWait PutWaits
only-readers s g h b j o = by (side_of (task s j).side) refl (rw b at (g.waits.may h j (listed-waiting s g.listed h j o)))
  where
    by : (d : Side) → side_of (task s j).side ≡ d → MayWait d Board (hub s h) j → (task s j).side ≡ 2
    by NoSide e m = absurd m
    by Put e m = absurd m
    by Get e m = side_get _ e
    by Wipe e m = absurd m

-- ---- the update whole

module _ (s : State) (g : Valid s) (c : Call) (a : refusal_for HubRequest s c ≡ 0) (b : (hub s c.target).kind ≡ 6) where
  is_board : kind_of (hub s c.target).kind ≡ Board
  unfolding kind_of
  is_board = rw b refl

  one-held : length (hub s c.target).held ≤ 1
  unfolding Held Range stored
  one-held =
      let h : Held Board (hub s c.target) = rw is_board at (held s g c a) in
      let r : Range Board (length s.tasks) (hub s c.target) = rw is_board at (range s g c a) in
      omega (arith, h, r.0)

  -- the word before goes out, if there is one, and the new one in
  abbrev pub written : Store
  written = TakeAppend (message c)

  pub update-fits : StoreFits written (hub s c.target).held
  unfolding StoreFits
  update-fits = omega (arith, one-held)

  holds_it : store_after written (hub s c.target).held ≡ message c ∷ []
  unfolding store_after
  holds_it = by (hub s c.target).held one-held
    where
      by : (l : List ℕ) → length l ≤ 1 → drop 1 l ++ message c ∷ [] ≡ message c ∷ []
      by [] n = refl
      by (x ∷ []) n = refl
      by (x ∷ (y ∷ l)) n = absurd (omega arith)

  abbrev pub told : State
  told = answer c.caller 1 0 (hold c.target 1 (store_after written (hub s c.target).held) s)

  pub update-state : (key : ℕ → ℕ) → c.side ≡ 1 → meet_all key (meetings (message c) (hub told c.target).waiters) told ≡ serve key HubRequest s c
  unfolding on_put on_side put_board serve settle side_of verdict
  update-state key d =
      let same : (hub told c.target).waiters ≡ (hub s c.target).waiters =
      unfold answer hold set_task in hub-set_keeps s c.target (holding 1 (store_after written (hub s c.target).held) (hub s c.target)) (λ (x : Hub). x.waiters) (unfold holding in refl) c.target in
      rw (same, d, is_board, all_read s (message c) (hub s c.target).waiters (only-readers s g c.target is_board), holds_it) refl
