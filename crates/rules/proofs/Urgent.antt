-- M-108 for its users, over tables of words, after any accepted call. In order: what an effective priority is; who runs
-- (`running_after`); an owner stands before all who are less urgent than who waits for it (`owner-ahead`), and none of them runs
-- in its place (`owner_runs`); who keeps its place: all whose effective priority did not change, among themselves
-- (`unchanged_stay`), and a failed caller (`fail_still`, `nw_still`).
-- Not here: the same on states (Inherited.antt, Still.antt). Assumes nothing.
use Prim.Native.Nat.{◌<◌, ◌≤◌, suc, ℕ}
use Rattle.lists.proofs.Counting.{occ_tail}
use Rattle.lists.specs.Lists.{index_of, occ, only}
use Rattle.rules.proofs.After.{accepted, accepted-formed, after-valid, valid_in}
use Rattle.rules.proofs.Cases.{same_or}
use Rattle.rules.proofs.Inherited.{below_listed, inherits, owner-first, reordering, running_least}
use Rattle.rules.proofs.Kept.{unsorted_low, unsorted_serve, unsorted_sound, valid_unsorted}
use Rattle.rules.proofs.Meaning.{OwnersLow, ranges_low, valid_means, valid_sound}
use Rattle.rules.proofs.Promise.{read-after}
use Rattle.rules.proofs.Still.{answer_still}
use Rattle.rules.proofs.Valid.{Sorted, Sound, Valid}
use Rattle.rules.specs.Calls.{HubRequest, Service, serve, served, service_of, settle}
use Rattle.rules.specs.Effective.{effective}
use Rattle.rules.specs.HubTable.{fail, not_now, verdict}
use Rattle.rules.specs.Lists.{answer, next}
use Rattle.rules.specs.Meaning.{Smallest, WaitsFor}
use Rattle.rules.specs.Refusals.{refusal, refusal_of}
use Rattle.rules.specs.Reorder.{changed, reordered}
use Rattle.rules.specs.Reply.{reply_by, reply_in, reply_to, table_after}
use Rattle.rules.specs.Table.{State, edition_of, is_suspended, state_of, task}
use Rattle.rules.specs.declared.Call.{Call}
use borrow.Author.Tests.{eq-eqb, ne_eqb}
use mathlib.Core.Bool.{false, not}
use mathlib.Core.List.{List, [], ◌∷◌}
use mathlib.Core.Logic.{◌≢◌}
use mathlib.Core.Path.{◌∙◌, ◌≡◌, ap, sym}
use native.Mathlib.Omega.{arith}

-- in a list by rising key the more urgent of two stands first
index_below : (key : ℕ → ℕ) (l : List ℕ) (i k : ℕ) → Sorted key l → 1 ≤ occ i l → 1 ≤ occ k l → key i < key k → index_of i l < index_of k l
unfolding Sorted index_of
index_below key [] i k o p q h = absurd (unfold occ in omega (arith, p))
index_below key (x ∷ xs) i k o p q h =
    same_or x k
    (λ e. same_or x i
    (λ d. absurd (omega (arith, h, ap key (sym d ∙ e))))
    (λ d. absurd (omega (arith, h, ap key e, below_listed key (key x) xs o.0 i (occ_tail i x xs d p)))))
    (λ n. same_or x i
    (λ d. rw (eq-eqb x i d, ne_eqb x k n) (omega arith))
    (λ d. rw (ne_eqb x i d, ne_eqb x k n) (let r = index_below key xs i k o.1 (occ_tail i x xs d p) (occ_tail k x xs n q) h in omega (arith, r))))

-- ---- a caller that fails keeps its ready place, and so does everybody else

module _ (s : State) (v : Valid s) (c : Call) (request : service_of c.service ≡ HubRequest) where
  -- a request that only answers its caller
  told_still : settle (effective s) (verdict s c) s c ≡ answer c.caller 2 0 s → served s c ≡ answer c.caller 2 0 s
  unfolding serve served
  told_still e =
      ap (λ (u : Service). reordered s (serve (effective s) u s c)) request
      ∙ ap (reordered s) e
      ∙ answer_still c.caller 2 0 s (valid_sound s v) (ranges_low s v.ranges)

  pub fail_still : verdict s c ≡ fail → served s c ≡ answer c.caller 2 0 s
  unfolding settle
  fail_still e = told_still (rw e)

  -- "'Not now' under NW"
  pub nw_still : verdict s c ≡ not_now → c.mode ≡ 2 → served s c ≡ answer c.caller 2 0 s
  unfolding settle
  nw_still e m = told_still (rw (e, eq-eqb c.mode 2 m))

-- ---- over tables of words, after an accepted call

module _ (t : List ℕ) (c : Call) (e : refusal_of t c ≡ 0) where
  abbrev pub after : State
  after = state_of (table_after t c)

  formed : Valid after
  formed = rw (read-after t c e) (after-valid (edition_of t) t c e)

  exact : Sound after
  exact = valid_sound after formed

  low : OwnersLow after
  low = ranges_low after formed.ranges

  stands : (j : ℕ) → (task after j).state ≡ 2 → 1 ≤ occ j after.ready
  stands j r = rw (formed.listed.ready j, r) (omega arith)

  -- "the smallest own priority among itself and all tasks that wait, directly or through others, for a Resource it owns"
  pub effective-after : (i : ℕ) → Smallest after i (effective after i)
  effective-after = valid_means after formed

  next-after : (reply_to t c).next ≡ next after
  unfolding reply_by reply_in
  next-after = rw (e, read-after t c e)

  -- the running task's effective priority is least among the ready tasks that aren't suspended
  pub running_after : (i : ℕ) → (reply_to t c).next ≡ suc i → (j : ℕ) → (task after j).state ≡ 2 → is_suspended (task after j) ≡ false
      → effective after i ≤ effective after j
  running_after i n j r f = running_least after exact low formed.ordered i (sym next-after ∙ n) j (stands j r) f

  -- a ready owner of a lock for which task j waits stands before every ready task less urgent than j, suspended or not
  pub owner-ahead : (i j k : ℕ) → WaitsFor after j i → (task after i).state ≡ 2 → (task after k).state ≡ 2
      → effective after j < effective after k → index_of i after.ready < index_of k after.ready
  owner-ahead i j k w r q h =
      index_below (effective after) after.ready i k formed.ordered.ready (stands i r) (stands k q) (omega (arith, h, inherits after exact low j i w))

  -- and where it isn't suspended, none of these runs
  pub owner_runs : (i j k : ℕ) → WaitsFor after j i → (task after i).state ≡ 2 → is_suspended (task after i) ≡ false
      → effective after j < effective after k → (reply_to t c).next ≢ suc k
  owner_runs i j k w r f h n = owner-first after exact low formed.ordered i j k w (stands i r) f h (sym next-after ∙ n)

  -- all whose effective priority the call did not change stand in the order in which its service left them
  module _ (later : c.service ≢ 0) where
    abbrev pub before : State
    before = state_of t

    abbrev pub done : State
    done = serve (effective before) (service_of c.service) before c

    pub unchanged_stay : only (λ i. not (changed before done i)) after.ready ≡ only (λ i. not (changed before done i)) done.ready
    unfolding refusal served
    unchanged_stay =
        let v = valid_in (edition_of t) t (accepted-formed (edition_of t) t c e (ne_eqb c.service 0 later)) in
        let g = unsorted_serve (effective before) (service_of c.service) before c (valid_unsorted before v) (accepted (edition_of t) t c e).1 in
        ap (λ (s : State). only (λ i. not (changed before done i)) s.ready) (read-after t c e)
        ∙ (reordering before done (unsorted_sound done g) (unsorted_low done g)).stays.ready
