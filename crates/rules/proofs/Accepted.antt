-- What the tests of an accepted call say: who the caller is, that the target is in use, and the arguments' ranges.
use Prim.Native.Nat.{◌<◌, ◌≤◌, suc, ℕ}
use Rattle.lists.proofs.Laws.{bool_case}
use Rattle.rules.proofs.Cases.{and_l, and_r}
use Rattle.rules.proofs.Standing.{running_ready}
use Rattle.rules.proofs.Valid.{Listed}
use Rattle.rules.specs.Calls.{AddHub, AddTask, Blank, HubRequest, Resume, Service, Sleep, Start, Stop, Suspend, Tick, Unknown, Yield}
use Rattle.rules.specs.Lists.{next}
use Rattle.rules.specs.Refusals.{Mode, NW, NoMode, W, WT, by_running, good_hub, good_request, good_wait, last_side, mode_of, need, on_task, refusal_for}
use Rattle.rules.specs.Reply.{bears_answer}
use Rattle.rules.specs.Table.{Board, Event, Fifo, Kind, Memory, NoKind, Port, Resource, Semaphore, State, hub, kind_of, task}
use Rattle.rules.specs.WellFormed.{within}
use Rattle.rules.specs.declared.Call.{Call}
use borrow.Author.Tests.{eqb-false, eqb-true, le-leb, leb-true, ltb-true}
use lib.Dec.{eqb, leb, ltb}
use lib.ListN.{length}
use mathlib.Core.Bool.{Bool, ◌&&◌, false, false≢true, true}
use mathlib.Core.Logic.{◌≢◌, ◌⊎◌, inl, inr}
use mathlib.Core.Path.{◌≡◌, refl}
use native.Mathlib.Omega.{arith}

pub need-zero : (b : Bool) (r rest : ℕ) → need b (suc r) rest ≡ 0 → (b ≡ true) × (rest ≡ 0)
unfolding need
need-zero true r rest e = (refl, e)
need-zero false r rest e = absurd (omega (arith, e))

pub within-true : (lo hi n : ℕ) → within lo hi n ≡ true → (lo ≤ n) × (n ≤ hi)
within-true lo hi n e = (leb-true lo n (and_l _ _ e), leb-true n hi (and_r (leb lo n) _ e))

-- ---- services 1 to 7: the caller is ready

module _ (s : State) (l : Listed s) (c : Call) where
  pub by_running_lem : (rest : ℕ) → by_running s c rest ≡ 0 → ((task s c.caller).state ≡ 2) × (rest ≡ 0)
  unfolding by_running
  by_running_lem rest e =
      let q = need-zero (eqb (next s) (suc c.caller)) 3 rest e in
      (running_ready s l c.caller (eqb-true _ _ q.0), q.1)

  pub on_task_lem : on_task s c ≡ 0 → ((task s c.caller).state ≡ 2) × (c.target < length s.tasks)
  unfolding on_task
  on_task_lem e =
      let p = by_running_lem _ e in
      (p.0, ltb-true _ _ (need-zero (ltb c.target (length s.tasks)) 4 0 p.1).0)

  pub caller-ready : (v : Service) → refusal_for v s c ≡ 0 → bears_answer v ≡ true → (task s c.caller).state ≡ 2
  unfolding bears_answer on_task refusal_for
  caller-ready Blank e b = absurd (false≢true b)
  caller-ready HubRequest e b = (by_running_lem _ e).0
  caller-ready Start e b = (by_running_lem _ e).0
  caller-ready Stop e b = (by_running_lem _ e).0
  caller-ready Suspend e b = (by_running_lem _ e).0
  caller-ready Resume e b = (by_running_lem _ e).0
  caller-ready Yield e b = (by_running_lem _ e).0
  caller-ready Sleep e b = (by_running_lem _ e).0
  caller-ready Tick e b = absurd (false≢true b)
  caller-ready AddTask e b = absurd (false≢true b)
  caller-ready AddHub e b = absurd (false≢true b)
  caller-ready Unknown e b = absurd (false≢true b)

-- ---- a hub request

-- put or get, or the wipe of a Board
abbrev pub Sided : Kind → ℕ → Type 0
Sided k n = (n ≡ 1) ⊎ ((n ≡ 2) ⊎ ((n ≡ 3) × (k ≡ Board)))

one_or_two : (n : ℕ) → within 1 2 n ≡ true → (n ≡ 1) ⊎ (n ≡ 2)
one_or_two n e =
    let r = within-true 1 2 n e in
    bool_case (eqb n 1)
    (λ q. inl (eqb-true n 1 q))
    (λ q. inr (let d : n ≢ 1 = eqb-false n 1 q in omega (arith, r.0, r.1)))

two_sided : (k : Kind) (n : ℕ) → (n ≡ 1) ⊎ (n ≡ 2) → Sided k n
two_sided k n (inl e) = inl e
two_sided k n (inr e) = inr (inl e)

sided : (k : Kind) (n : ℕ) → within 1 (last_side k) n ≡ true → Sided k n
unfolding last_side
sided NoKind n e = two_sided NoKind n (one_or_two n e)
sided Event n e = two_sided Event n (one_or_two n e)
sided Semaphore n e = two_sided Semaphore n (one_or_two n e)
sided Port n e = two_sided Port n (one_or_two n e)
sided Fifo n e = two_sided Fifo n (one_or_two n e)
sided Resource n e = two_sided Resource n (one_or_two n e)
sided Board n e =
    let r = within-true 1 3 n e in
    bool_case (eqb n 3)
    (λ q. inr (inr (eqb-true n 3 q, refl)))
    (λ q. two_sided Board n (one_or_two n (let d : n ≢ 3 = eqb-false n 3 q in rw (le-leb 1 n r.0, le-leb n 2 (omega (arith, r.1))))))
sided Memory n e = two_sided Memory n (one_or_two n e)

wait-ticks : (m : Mode) (n : ℕ) → good_wait m n ≡ true → n ≤ 1000000
unfolding good_wait
wait-ticks NoMode n e = absurd (false≢true e)
wait-ticks W n e = omega (arith, eqb-true n 0 e)
wait-ticks NW n e = omega (arith, eqb-true n 0 e)
wait-ticks WT n e = (within-true 1 1000000 n e).1

pub record Asked (s : State) (c : Call) : Type 0 where
  pub run : (task s c.caller).state ≡ 2
  pub named : c.target < length s.hubs
  pub side : Sided (kind_of (hub s c.target).kind) c.side
  pub ticks : c.ticks ≤ 1000000

pub request_tests : (s : State) → Listed s → (c : Call) → refusal_for HubRequest s c ≡ 0 → Asked s c
unfolding refusal_for
request_tests s l c e =
    let p = by_running_lem s l c _ e in
    let q = need-zero (ltb c.target (length s.hubs)) 4 _ p.1 in
    let k = kind_of (hub s c.target).kind in
    let r = need-zero (good_request k c) 5 0 q.1 in
    record {
      run = p.0;
      named = ltb-true _ _ q.0;
      side = sided k c.side (and_l _ _ r.0);
      ticks = wait-ticks (mode_of c.mode) c.ticks (and_r (within 1 (last_side k) c.side) _ r.0);
    }

-- ---- Sleep, Add task, Add hub

pub sleep_ticks : (s : State) → Listed s → (c : Call) → refusal_for Sleep s c ≡ 0 → (1 ≤ c.ticks) × (c.ticks ≤ 1000000)
unfolding refusal_for
sleep_ticks s l c e = within-true 1 1000000 c.ticks (need-zero (within 1 1000000 c.ticks) 5 0 (by_running_lem s l c _ e).1).0

pub task_tests : (s : State) (c : Call) → refusal_for AddTask s c ≡ 0 → (c.target ≤ 255) × (length s.tasks < 16)
unfolding refusal_for
task_tests s c e =
    let q = need-zero (leb c.target 255 && leb c.side 1) 5 (need (ltb (length s.tasks) 16) 7 0) e in
    (leb-true c.target 255 (and_l _ _ q.0), ltb-true (length s.tasks) 16 (need-zero (ltb (length s.tasks) 16) 6 0 q.1).0)

pub hub_tests : (s : State) (c : Call) → refusal_for AddHub s c ≡ 0
    → (good_hub (kind_of c.target) c.ticks c.word ≡ true) × (length s.hubs < 16)
unfolding refusal_for
hub_tests s c e =
    let q = need-zero (good_hub (kind_of c.target) c.ticks c.word) 5 (need (ltb (length s.hubs) 16) 7 0) e in
    (q.0, ltb-true (length s.hubs) 16 (need-zero (ltb (length s.hubs) 16) 6 0 q.1).0)
