-- What a hub request that is not refused rests on, on a valid state: its caller and hub are in use, and so is whoever waits there;
-- the hub's count and store are in its kind's range. Not here: the store's words (stores), the verdict itself (hubtable).
-- Assumes nothing.
use Prim.Native.Nat.{◌<◌, ◌≤◌, ℕ}
use Rattle.moves.proofs.Laws.{waiter_in}
use Rattle.rules.proofs.Accepted.{Asked, request_tests}
use Rattle.rules.proofs.Changes.{in_use}
use Rattle.rules.proofs.Room.{store_le}
use Rattle.rules.proofs.Standing.{first-waits}
use Rattle.rules.proofs.Valid.{Held, Range, Valid}
use Rattle.rules.specs.Calls.{HubRequest}
use Rattle.rules.specs.Lists.{first_waiting}
use Rattle.rules.specs.Refusals.{refusal_for}
use Rattle.rules.specs.Table.{State, hub, kind_of}
use Rattle.rules.specs.declared.Call.{Call}
use lib.ListN.{length}
use mathlib.Core.Option.{some}
use mathlib.Core.Path.{◌≡◌}

module _ (s : State) (g : Valid s) (c : Call) (a : refusal_for HubRequest s c ≡ 0) where
  pub asked : Asked s c
  asked = request_tests s g.listed c a

  pub caller-used : c.caller < length s.tasks
  caller-used = in_use s c.caller 0 asked.run

  pub first-used : (d w : ℕ) → first_waiting s d (hub s c.target).waiters ≡ some w → w < length s.tasks
  first-used d w q = waiter_in s g.listed c.target w (first-waits s d (hub s c.target).waiters w q).0

  pub range : Range (kind_of (hub s c.target).kind) (length s.tasks) (hub s c.target)
  range = g.ranges.range c.target asked.named

  pub held : Held (kind_of (hub s c.target).kind) (hub s c.target)
  held = g.ranges.held c.target asked.named

  pub held_few : length (hub s c.target).held ≤ 8
  held_few = store_le (kind_of (hub s c.target).kind) (length s.tasks) (hub s c.target) range held
