-- "How many requests stand before it in that list" (M-104). In order: a number's place in a list, and where it joins; the number
-- ahead on states, by what the hub says; by service; over tables of words, after any accepted call (`ahead_after`). There it is
-- how many stand before the caller in that hub's list (`ahead_before`, `ahead_entry`), and the place at which it joined
-- (`ahead-place`); 0 in every other case (`ahead_else`, `ahead-ready`; of a refused call `refused_leaves`, Promise.antt).
-- Assumes nothing.
use Prim.Native.Nat.{◌<◌, ◌≤◌, suc, zero, ℕ}
use Rattle.lists.proofs.Counting.{occ-insert, occ-without}
use Rattle.lists.proofs.Laws.{bool_case, without-none}
use Rattle.lists.specs.Lists.{index_of, insert, occ, place_of, without}
use Rattle.rules.proofs.Accepted.{Asked, request_tests}
use Rattle.rules.proofs.After.{accepted, accepted-formed, valid_in}
use Rattle.rules.proofs.Changes.{hub-leave, hub-set_same, in_use, set_same}
use Rattle.rules.proofs.Inherited.{kept-reordered, members_reordered}
use Rattle.rules.proofs.Kept.{unsorted_serve, unsorted_sound, valid_unsorted}
use Rattle.rules.proofs.Overtaken.{wait-ahead}
use Rattle.rules.proofs.Promise.{read-after}
use Rattle.rules.proofs.Reordered.{kept-task}
use Rattle.rules.proofs.Settled.{Partners, met-caller, partners, told_caller}
use Rattle.rules.proofs.Valid.{Listed, Sound, Valid}
use Rattle.rules.proofs.Verdicts.{waiters_met}
use Rattle.rules.specs.Calls.{HubRequest, kept, serve, served, service_of, settle, wait}
use Rattle.rules.specs.Effective.{effective}
use Rattle.rules.specs.HubTable.{Verdict, fail, met, not_now, verdict}
use Rattle.rules.specs.Lists.{answered, join_hub, leave, queued, unqueue, waits}
use Rattle.rules.specs.Refusals.{refusal, refusal_for, refusal_of}
use Rattle.rules.specs.Reorder.{reordered}
use Rattle.rules.specs.Reply.{ahead, ahead_for, reply_by, reply_in, reply_to, table_after}
use Rattle.rules.specs.Table.{Hub, State, Task, edition_of, hub, set_hub, set_task, state_of, task}
use Rattle.rules.specs.declared.Call.{Call}
use borrow.Author.Tests.{eq-eqb, eqb-false, eqb-true, ne_eqb}
use lib.Dec.{eqb, ltb}
use lib.ListN.{get_or, length, length-map}
use mathlib.Core.Bool.{false≢true}
use mathlib.Core.List.{List, [], ◌∷◌}
use mathlib.Core.Logic.{◌≢◌}
use mathlib.Core.Path.{◌∙◌, ◌≡◌, ap, refl, subst, sym}
use native.Mathlib.Omega.{arith}

-- ---- a number's place in a list

-- who stands in a list stands behind just that many
place_entry : (i d : ℕ) (l : List ℕ) → 1 ≤ occ i l → get_or l (index_of i l) d ≡ i
unfolding index_of occ
place_entry i d [] h = absurd (omega arith)
place_entry i d (x ∷ xs) h =
    bool_case (eqb x i)
    (λ b. rw b (eqb-true x i b))
    (λ b. let k : 1 ≤ occ i xs = omega (arith, rw b at h) in rw b (place_entry i d xs k))

-- who joins stands at the place of its key
joined-place : (key : ℕ → ℕ) (i : ℕ) (l : List ℕ) → occ i l ≡ 0 → index_of i (insert key i l) ≡ place_of key (key i) l
unfolding index_of insert occ place_of
joined-place key i [] z = rw (eq-eqb i i refl)
joined-place key i (x ∷ xs) z =
    bool_case (ltb (key i) (key x))
    (λ b. rw (b, eq-eqb i i refl))
    (λ b. bool_case (eqb x i)
    (λ d. absurd (omega (arith, rw d at z)))
    (λ d. rw (b, d) (ap suc (joined-place key i xs (omega (arith, rw d at z))))))

occ_left : (i : ℕ) (l : List ℕ) → occ i (without i l) ≡ 0
occ_left i l = occ-without i i l ∙ rw (eq-eqb i i refl) refl

-- ---- on states

-- who does not wait has nobody ahead
pub ahead_none : (s : State) (c : Call) → (task s c.caller).state ≢ 3 → ahead_for HubRequest s c ≡ 0
unfolding ahead_for
ahead_none s c n = rw (ne_eqb (task s c.caller).state 3 n)

-- who has to wait has those ahead behind whom it joins: the others in the hub's list, by their keys
module _ (key : ℕ → ℕ) (s : State) (c : Call) (used : c.caller < length s.tasks) (named : c.target < length s.hubs) where
  abbrev pub others : List ℕ
  others = without c.caller (hub s c.target).waiters

  list-after : (hub (wait key s c) c.target).waiters ≡ insert key c.caller others
  unfolding join_hub queued set_task unqueue wait
  list-after =
      ap (λ (x : Hub). x.waiters) (hub-set_same s₁ c.target _ (unfold leave in rw (length-map s.hubs (unqueue c.caller)) named))
      ∙ ap (λ (x : Hub). insert key c.caller x.waiters) (hub-leave c.caller s c.target)
    where
      s₁ : State
      s₁ = set_task c.caller (waits c.target c.ticks c.side (kept (hub s c.target) c) (task s c.caller)) (leave c.caller s)

  state-after : (task (wait key s c) c.caller).state ≡ 3
  unfolding join_hub leave set_hub waits wait
  state-after = ap (λ (t : Task). t.state) (set_same (leave c.caller s) c.caller _ used)

  pub ahead-wait : ahead_for HubRequest (wait key s c) c ≡ place_of key (key c.caller) others
  unfolding ahead_for
  ahead-wait = rw (eq-eqb _ 3 state-after, list-after) (joined-place key c.caller others (occ_left c.caller (hub s c.target).waiters))

-- a request that need not wait: met, failed, or not now under NW; the caller stays ready
module _ (key : ℕ → ℕ) (s : State) (l : Listed s) (c : Call) (run : (task s c.caller).state ≡ 2) where
  stays_ready : (v : Verdict) → Partners s c (waiters_met v) → (v ≡ not_now → c.mode ≡ 2) → (task (settle key v s c) c.caller).state ≡ 2
  unfolding answered settle waiters_met
  stays_ready (met n ws x ms) p w = ap (λ (t : Task). t.state) (met-caller key s c run n ws x ms p) ∙ run
  stays_ready not_now p w = rw (eq-eqb c.mode 2 (w refl)) (ap (λ (t : Task). t.state) (told_caller s c run 2 0 s refl) ∙ run)
  stays_ready fail p w = ap (λ (t : Task). t.state) (told_caller s c run 2 0 s refl) ∙ run

  pub ahead_told : (verdict s c ≡ not_now → c.mode ≡ 2) → ahead_for HubRequest (serve key HubRequest s c) c ≡ 0
  unfolding serve
  ahead_told w = ahead_none _ c (λ e. omega (arith, e, stays_ready (verdict s c) (partners s l c) w))

  -- a caller that waits after its request has been told to
  pub has_to_wait : (task (serve key HubRequest s c) c.caller).state ≡ 3 → serve key HubRequest s c ≡ wait key s c
  unfolding serve settle
  has_to_wait = by (verdict s c) (partners s l c)
    where
      by : (v : Verdict) → Partners s c (waiters_met v) → (task (settle key v s c) c.caller).state ≡ 3 → settle key v s c ≡ wait key s c
      by (met n ws x ms) p h = absurd (omega (arith, h, stays_ready (met n ws x ms) p (λ q. absurd (false≢true cc))))
      by not_now p h =
          bool_case (eqb c.mode 2)
          (λ b. absurd (omega (arith, h, stays_ready not_now p (λ q. eqb-true c.mode 2 b))))
          (λ b. rw b refl)
      by fail p h = absurd (omega (arith, h, stays_ready fail p (λ q. absurd (false≢true cc))))

  -- before the call it waited nowhere
  ready-apart : without c.caller (hub s c.target).waiters ≡ (hub s c.target).waiters
  ready-apart = without-none c.caller (hub s c.target).waiters (l.waiters c.target c.caller ∙ rw run refl)

  module _ (named : c.target < length s.hubs) (waiting : (task (serve key HubRequest s c) c.caller).state ≡ 3) where
    used : c.caller < length s.tasks
    used = in_use s c.caller 0 run

    pub ahead-listed : 1 ≤ occ c.caller (hub (serve key HubRequest s c) c.target).waiters
    ahead-listed =
        rw (has_to_wait waiting, list-after key s c used named)
        (omega (arith, rw (eq-eqb c.caller c.caller refl) at (occ-insert key c.caller c.caller (others key s c used named))))

    pub ahead-joined : ahead_for HubRequest (serve key HubRequest s c) c ≡ place_of key (key c.caller) (hub s c.target).waiters
    ahead-joined =
        ap (λ (s' : State). ahead_for HubRequest s' c) (has_to_wait waiting)
        ∙ ahead-wait key s c used named
        ∙ ap (place_of key (key c.caller)) ready-apart

-- M-108: the number is "read after this", the reordering, which leaves the caller at its place, and at none that does not wait
module _ (s : State) (v : Valid s) (c : Call) (ok : refusal_for HubRequest s c ≡ 0) where
  abbrev done : State
  done = serve (effective s) HubRequest s c

  asks : Asked s c
  asks = request_tests s v.listed c ok

  kept-state : task (reordered s done) c.caller ≡ task done c.caller
  kept-state = kept-task done (reordered s done) (kept-reordered s done) c.caller

  ahead_stood : (task done c.caller).state ≡ 3
      → ahead_for HubRequest (reordered s done) c ≡ place_of (effective s) (effective s c.caller) (hub s c.target).waiters
  unfolding ahead_for
  ahead_stood w =
      let same = has_to_wait (effective s) s v.listed c asks.run w in
      rw (kept-state, w) (ap (λ (z : State). index_of c.caller (hub (reordered s z) c.target).waiters) same ∙ wait-ahead s c v ok same)

  pub ahead-reordered : ahead_for HubRequest (reordered s done) c ≡ ahead_for HubRequest done c
  ahead-reordered =
      bool_case (eqb (task done c.caller).state 3)
      (λ b. let w = eqb-true (task done c.caller).state 3 b in
      ahead_stood w ∙ sym (ahead-joined (effective s) s v.listed c asks.run asks.named w))
      (λ b. let n = eqb-false (task done c.caller).state 3 b in
      ahead_none (reordered s done) c (λ e. n (ap (λ (t : Task). t.state) (sym kept-state) ∙ e)) ∙ sym (ahead_none done c n))

-- ---- by service: 0 for all but 1

module _ (s : State) (c : Call) where
  pub ahead_request : c.service ≡ 1 → ahead s c ≡ ahead_for HubRequest s c
  unfolding ahead service_of
  ahead_request e = ap (λ (n : ℕ). ahead_for (service_of n) s c) e

  pub ahead_other : c.service ≢ 1 → ahead s c ≡ 0
  unfolding ahead ahead_for service_of
  ahead_other = by c.service
    where
      by : (n : ℕ) → n ≢ 1 → ahead_for (service_of n) s c ≡ 0
      by zero h = refl
      by (suc zero) h = absurd (h refl)
      by (suc (suc zero)) h = refl
      by (suc (suc (suc zero))) h = refl
      by (suc (suc (suc (suc zero)))) h = refl
      by (suc (suc (suc (suc (suc zero))))) h = refl
      by (suc (suc (suc (suc (suc (suc zero)))))) h = refl
      by (suc (suc (suc (suc (suc (suc (suc zero))))))) h = refl
      by (suc (suc (suc (suc (suc (suc (suc (suc zero)))))))) h = refl
      by (suc (suc (suc (suc (suc (suc (suc (suc (suc zero))))))))) h = refl
      by (suc (suc (suc (suc (suc (suc (suc (suc (suc (suc zero)))))))))) h = refl
      by (suc (suc (suc (suc (suc (suc (suc (suc (suc (suc (suc n))))))))))) h = refl

-- ---- over tables of words, after an accepted call

module _ (t : List ℕ) (c : Call) (e : refusal_of t c ≡ 0) where
  abbrev pub before : State
  before = state_of t

  abbrev pub after : State
  after = state_of (table_after t c)

  pub ahead_after : (reply_to t c).ahead ≡ ahead after c
  unfolding reply_by reply_in
  ahead_after = rw (e, read-after t c e)

  -- "In every other case the new fourth number is 0": any service but 1, and a caller that need not wait
  pub ahead_else : c.service ≢ 1 → (reply_to t c).ahead ≡ 0
  ahead_else n = ahead_after ∙ ahead_other after c n

  module _ (request : c.service ≡ 1) where
    pub ahead-ready : (task after c.caller).state ≢ 3 → (reply_to t c).ahead ≡ 0
    ahead-ready n = ahead_after ∙ ahead_request after c request ∙ ahead_none after c n

    -- the request, on the state that stood in the table
    formed : Valid before
    formed = valid_in (edition_of t) t (accepted-formed (edition_of t) t c e (ne_eqb c.service 0 (λ z. omega (arith, z, request))))

    passed : refusal_for HubRequest before c ≡ 0
    unfolding refusal service_of
    passed = subst (λ (n : ℕ). refusal_for (service_of n) before c ≡ 0) request (accepted (edition_of t) t c e).1

    asked : Asked before c
    asked = request_tests before formed.listed c passed

    is_served : after ≡ reordered before (serve (effective before) HubRequest before c)
    unfolding served service_of
    is_served = read-after t c e ∙ ap (λ (n : ℕ). reordered before (serve (effective before) (service_of n) before c)) request

    module _ (waiting : (task after c.caller).state ≡ 3) where
      -- "how many requests stand before it in that list"
      pub ahead_before : (reply_to t c).ahead ≡ index_of c.caller (hub after c.target).waiters
      unfolding ahead_for
      ahead_before = ahead_after ∙ ahead_request after c request ∙ rw waiting refl

      -- when its service is done, before the reordering, the caller waits
      waited : (task (serve (effective before) HubRequest before c) c.caller).state ≡ 3
      waited = ap (λ (t : Task). t.state) (sym (kept-state before formed c passed)) ∙ rw is_served at waiting

      -- and there the caller stands
      pub ahead_entry : get_or (hub after c.target).waiters (reply_to t c).ahead 0 ≡ c.caller
      ahead_entry =
          rw ahead_before
          (place_entry c.caller 0 (hub after c.target).waiters
          (rw (is_served, (members_reordered before _ sound).waiters c.target c.caller)
          (ahead-listed (effective before) before formed.listed c asked.run asked.named waited)))
        where
          sound : Sound (serve (effective before) HubRequest before c)
          sound = unsorted_sound _ (unsorted_serve (effective before) HubRequest before c (valid_unsorted before formed) passed)

      -- "Joining the list must itself promise where the entry went": the place, by the keys and the list before the call
      pub ahead-place : (reply_to t c).ahead ≡ place_of (effective before) (effective before c.caller) (hub before c.target).waiters
      ahead-place =
          ahead_after ∙ ahead_request after c request
          ∙ ap (λ (s' : State). ahead_for HubRequest s' c) is_served
          ∙ ahead_stood before formed c passed waited
