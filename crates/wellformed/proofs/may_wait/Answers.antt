-- `wellformed::may_wait` meets its contract, kind by kind. Assumes nothing.
use Rattle.rules.proofs.KindNumbers.{number_of, same_kind}
use Rattle.rules.specs.Table.{Board, Event, Fifo, Memory, Port, Resource, Semaphore}
use Rattle.rules.specs.declared.kinds.Kind.TheVariants.{Board as ABoard, Memory as AMemory, Resource as AResource}
use Rattle.std.specs.Prelude.{None}
use lib.Dec.{eqb}
use mathlib.Core.Bool.{and-false, false, or-false}
use mathlib.Core.Logic.{inl, inr}
use mathlib.Core.Path.{◌≡◌, refl, sym}
use Rattle.wellformed.proofs.may_wait.Goals as goal

pub returns-in_default : goal.returns-in_default
returns-in_default c =
    let n = c.args.kind in
    let owned : eqb n 5 ≡ false = sym (same_kind None AResource n c.in_default.ensures) in
    let board : eqb n 6 ≡ false = sym (same_kind None ABoard n c.in_default.ensures) in
    let memory : eqb n 7 ≡ false = sym (same_kind None AMemory n c.in_default.ensures) in
    rw (owned, board, memory) refl

pub returns-in-Resource : goal.returns-in-Resource
returns-in-Resource c =
    rw (number_of Resource _ (rw c.in-Resource.is at c.in-Some.ensures) (λ z. cc), and-false, or-false)

pub returns-in-Board : goal.returns-in-Board
returns-in-Board c =
    elim c.in-Board.is [
      | inl e ↦ rw (number_of Board _ (rw e at c.in-Some.ensures) (λ z. cc), and-false)
      | inr e ↦ rw (number_of Memory _ (rw e at c.in-Some.ensures) (λ z. cc), and-false)
    ]

pub returns-in-Event : goal.returns-in-Event
returns-in-Event c =
    elim c.in-Event.is [
      | inl e ↦ rw (number_of Event _ (rw e at c.in-Some.ensures) (λ z. cc))
      | inr (inl e) ↦ rw (number_of Semaphore _ (rw e at c.in-Some.ensures) (λ z. cc))
      | inr (inr (inl e)) ↦ rw (number_of Port _ (rw e at c.in-Some.ensures) (λ z. cc))
      | inr (inr (inr e)) ↦ rw (number_of Fifo _ (rw e at c.in-Some.ensures) (λ z. cc))
    ]
