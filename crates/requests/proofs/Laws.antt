-- What the functions of this crate read off a table and write into it, in the terms of the rules. In order: what a met request
-- rests on; a verdict that meets nobody; whether a request updates a Board; how many are ahead of the caller.
-- Not here: what every request rests on (verdicts, Laws), the store (stores), the moves (moves, Laws). Assumes nothing.
use Prim.Native.Nat.{◌<◌, ◌≤◌, ℕ}
use Rattle.hubtable.specs.Says.{met_with, says, store_after}
use Rattle.hubtable.specs.declared.Meeting.{Meeting}
use Rattle.hubtable.specs.declared.Verdict.TheVariants.{Met}
use Rattle.lists.proofs.Counting.{length_without}
use Rattle.lists.specs.Lists.{without}
use Rattle.records.specs.Entries.{numbered}
use Rattle.rules.proofs.Ahead.{ahead_told}
use Rattle.rules.proofs.Cases.{and_l, and_r}
use Rattle.rules.proofs.Changes.{hub-leave, length-set_hub}
use Rattle.rules.proofs.Listed.{listed_answer, listed-hold}
use Rattle.rules.proofs.Room.{waiters-room}
use Rattle.rules.proofs.Settled.{InUse, length-answer, partners, partners_in}
use Rattle.rules.proofs.Valid.{Held, Range, Sound, Valid}
use Rattle.rules.proofs.Verdicts.{Each, held-side, hub_after, range-side, update-row, waiters_met}
use Rattle.rules.specs.Calls.{HubRequest, hold, meet_all, serve, settle, wait}
use Rattle.rules.specs.HubTable.{Verdict, fail, not_now, verdict}
use Rattle.rules.specs.Lists.{answer, holding, leave, queued, unqueue}
use Rattle.rules.specs.Refusals.{refusal_for}
use Rattle.rules.specs.Reply.{ahead_for}
use Rattle.rules.specs.Table.{Hub, State, hub, kind_of, set_hub, set_task, side_of}
use Rattle.rules.specs.declared.Call.{Call}
use Rattle.stores.proofs.Laws.{store_fits}
use Rattle.stores.specs.Fits.{StoreFits}
use Rattle.verdicts.proofs.Laws.{asked, caller-used, first-used, held, range}
use borrow.Author.Tests.{eq-eqb, eqb-true, ne_eqb}
use lib.Dec.{eqb}
use lib.ListN.{length}
use mathlib.Core.Bool.{◌&&◌, false, false≢true, true}
use mathlib.Core.List.{List}
use mathlib.Core.Option.{Option, some}
use mathlib.Core.Path.{◌∙◌, ◌≡◌, ap, refl, subst, sym}
use native.Mathlib.Omega.{arith}

-- ---- what a met request rests on

module _ (s : State) (g : Valid s) (c : Call) (a : refusal_for HubRequest s c ≡ 0) where
  -- the caller told, and the hub with another count and store: what the moves rest on stays
  module _ (n x : ℕ) (ws : List ℕ) where
    pub told_sound : Sound (answer c.caller 1 x (hold c.target n ws s))
    told_sound = record {
      tasks = rw (length-answer (hold c.target n ws s) c.caller 1 x) (unfold hold set_hub in g.tasks);
      hubs = unfold answer hold set_task in rw (length-set_hub s c.target (holding n ws (hub s c.target))) g.hubs;
      listed = listed_answer c.caller 1 x _ (listed-hold c.target n ws s g.listed);
    }

    pub told_used : c.target < length (answer c.caller 1 x (hold c.target n ws s)).hubs
    unfolding answer hold set_task
    told_used = rw (length-set_hub s c.target (holding n ws (hub s c.target))) (asked s g c a).named

  module _ (m : Meeting) (e : says (hub s c.target).held (Met m) ≡ verdict s c) where
    pub meeting_fits : StoreFits m.store (hub s c.target).held
    unfolding hub_after says verdict
    meeting_fits =
        let x = hub s c.target in
        let k = kind_of x.kind in
        let T = length s.tasks in
        store_fits k T m.count x m.store (range s g c a) (held s g c a)
        (subst (λ (v : Verdict). Range k T (hub_after x v)) (sym e) (range-side (side_of c.side) T s x c (caller-used s g c a) (first-used s g c a 2) (range s g c a)))
        (subst (λ (v : Verdict). Held k (hub_after x v)) (sym e) (held-side (side_of c.side) s x c (held s g c a)))

    pub waiter-used : (w : ℕ) → numbered m.waiter ≡ some w → w < length s.tasks
    unfolding Each met_with says waiters_met
    waiter-used w q =
        let ms : InUse s (met_with (numbered m.waiter) m.its) = subst (λ (v : Verdict). InUse s (waiters_met v)) (sym e) (partners_in s c (waiters_met (verdict s c)) (partners s g.listed c)) in
        (subst (λ (f : Option ℕ). InUse s (met_with f m.its)) q ms).0

    -- the state that a met request leaves, waiter by waiter
    pub met-state : (key : ℕ → ℕ) → meet_all key (met_with (numbered m.waiter) m.its) (answer c.caller 1 m.word (hold c.target m.count (store_after m.store (hub s c.target).held) s)) ≡ serve key HubRequest s c
    unfolding says serve settle
    met-state key = ap (λ (v : Verdict). settle key v s c) e

-- an answer keeps the tasks in use
pub told_in : (s : State) (c : Call) (x : ℕ) (s₁ : State) → s₁.tasks ≡ s.tasks → {w : ℕ} → w < length s.tasks → w < length (answer c.caller 1 x s₁).tasks
told_in s c x s₁ e h = rw (length-answer s₁ c.caller 1 x, e) h

-- ---- a verdict that meets nobody

module _ (key : ℕ → ℕ) (s : State) (c : Call) where
  pub failed_state : fail ≡ verdict s c → answer c.caller 2 0 s ≡ serve key HubRequest s c
  unfolding serve settle
  failed_state e = ap (λ (v : Verdict). settle key v s c) e

  pub refused_state : not_now ≡ verdict s c → c.mode ≡ 2 → answer c.caller 2 0 s ≡ serve key HubRequest s c
  unfolding serve settle
  refused_state e m = sym (rw (eq-eqb c.mode 2 m) refl) ∙ ap (λ (v : Verdict). settle key v s c) e

  pub waiting-state : not_now ≡ verdict s c → (c.mode ≡ 2 → ⊥) → wait key s c ≡ serve key HubRequest s c
  unfolding serve settle
  waiting-state e m = sym (rw (ne_eqb c.mode 2 m) refl) ∙ ap (λ (v : Verdict). settle key v s c) e

-- ---- whether a request is the update of a Board

module _ (k d : ℕ) where
  pub board-put : (eqb k 6 && eqb d 1) ≡ true → (k ≡ 6) × (d ≡ 1)
  board-put e = (eqb-true k 6 (and_l _ _ e), eqb-true d 1 (and_r (eqb k 6) _ e))

  pub not-update : (eqb k 6 && eqb d 1) ≡ false → k ≡ 6 → d ≡ 1 → ⊥
  not-update n e f = false≢true (sym n ∙ rw (e, f) refl)

-- ---- how many are ahead of the caller

-- nobody, where it need not wait
module _ (key : ℕ → ℕ) (s : State) (g : Valid s) (c : Call) (a : refusal_for HubRequest s c ≡ 0) where
  nobody : (verdict s c ≡ not_now → c.mode ≡ 2) → 0 ≡ ahead_for HubRequest (serve key HubRequest s c) c
  nobody w = sym (ahead_told key s g.listed c (asked s g c a).run w)

  pub met-ahead : (m : Meeting) → says (hub s c.target).held (Met m) ≡ verdict s c → 0 ≡ ahead_for HubRequest (serve key HubRequest s c) c
  unfolding says
  met-ahead m e = nobody (λ q. absurd (false≢true cc))

  pub failed_ahead : fail ≡ verdict s c → 0 ≡ ahead_for HubRequest (serve key HubRequest s c) c
  failed_ahead e = nobody (λ q. absurd (false≢true cc))

  pub refused_ahead : c.mode ≡ 2 → 0 ≡ ahead_for HubRequest (serve key HubRequest s c) c
  refused_ahead m = nobody (λ q. m)

  pub update-ahead : (hub s c.target).kind ≡ 6 → c.side ≡ 1 → 0 ≡ ahead_for HubRequest (serve key HubRequest s c) c
  unfolding kind_of
  update-ahead k d = nobody (λ q. absurd (let e = update-row s c (ap kind_of k) d in false≢true cc))

-- the others in the list that it joins, where it waits
module _ (s : State) (i h : ℕ) where
  pub left_list : (hub (leave i s) h).waiters ≡ without i (hub s h).waiters
  unfolding queued unqueue
  left_list = ap (λ (x : Hub). x.waiters) (hub-leave i s h)

  pub left_room : Sound s → length (hub (leave i s) h).waiters ≤ 16
  left_room sound =
      rw left_list
      (omega (arith, length_without i (hub s h).waiters, waiters-room s sound.listed h, sound.tasks))
