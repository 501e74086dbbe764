-- What a row's first test, whether the caller runs, says of the whole row; the kind of a hub asked.
-- Not here: the other tests, which the rules compute. Assumes nothing.
use Prim.Native.Nat.{◌≤◌, ℕ}
use Rattle.lists.proofs.Laws.{bool_case}
use Rattle.refusals.specs.Lookup.{kind_in}
use Rattle.rules.proofs.Coded.{need_err, need_ok}
use Rattle.rules.proofs.Layouts.{Laid, sized}
use Rattle.rules.proofs.Places.{hub-word}
use Rattle.rules.specs.Refusals.{by_running, good_request, need}
use Rattle.rules.specs.Reply.{code}
use Rattle.rules.specs.Table.{Layout, State, hub, kind_of, words}
use Rattle.rules.specs.declared.Call.{Call}
use Rattle.rules.specs.declared.Refusal.{Refusal}
use borrow.Author.Tests.{ltb-true}
use lib.Dec.{ltb}
use lib.ListN.{length}
use mathlib.Core.Path.{◌≡◌}
use native.Mathlib.Nat.{add-zero}
use native.Mathlib.Omega.{arith}

module _ (s : State) (c : Call) where
  pub running_err : (r : Refusal) (rest : ℕ) → code r ≡ by_running s c 0 → code r ≡ by_running s c rest
  unfolding by_running
  running_err r rest h = need_err r _ 4 rest h

  pub running_ok : (n rest : ℕ) → 0 ≡ by_running s c 0 → n ≡ rest → n ≡ by_running s c rest
  unfolding by_running
  running_ok n rest h e = need_ok n _ 3 rest h e

-- a request's tests look at its hub's kind only where the hub is in use, and there the table has it
pub kind-asked : {ts : ℕ} (L : Layout) (s : State) → Laid ts L → length s.hubs ≤ 16 → (c : Call)
    → need (ltb c.target (length s.hubs)) 5 (need (good_request (kind_of (kind_in ts (words L s) c.target)) c) 6 0)
    ≡ need (ltb c.target (length s.hubs)) 5 (need (good_request (kind_of (hub s c.target).kind) c) 6 0)
unfolding need
kind-asked {ts} L s y fits c =
    bool_case (ltb c.target (length s.hubs))
    (λ b. let used = ltb-true c.target (length s.hubs) b in
    let kind : kind_in ts (words L s) c.target ≡ (hub s c.target).kind = rw y.size (rw add-zero at (hub-word L (sized y) s c.target (omega arith) used 0 (omega arith))) in
    rw (b, kind))
    (λ b. rw b)
