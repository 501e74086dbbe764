-- `editions::set_stores` meets its contract: the messages so far are one run of stores. Assumes nothing.
use Prim.Native.Nat.{◌*◌, ◌+◌}
use Rattle.editions.specs.Editions.{joined}
use Rattle.messages.specs.Messages.{message_at, message_words}
use lib.Seq.{sets}
use mathlib.Core.Path.{◌≡◌}
use Rattle.editions.proofs.set_stores.Given as goal

abbrev pub invariant-loop-k : goal.invariant-loop-k
invariant-loop-k l = l.to ≡ sets l.initial.to l.b (joined l.k (λ j. message_words l.w (message_at l.v l.from (l.a + j * l.v))))
