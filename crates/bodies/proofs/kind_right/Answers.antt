-- `bodies::kind_right` meets its contract: an arm for each kind of the kinds table. Assumes nothing.
use Prim.Native.Nat.{◌*◌, ◌+◌}
use Rattle.bodies.proofs.Hubs.{kind_as, memory_arm}
use Rattle.rules.proofs.KindNumbers.{number_of}
use Rattle.rules.specs.Table.{Board, Event, Fifo, Memory, NoKind, Port, Resource, Semaphore}
use Rattle.rules.specs.WellFormed.{kind_right}
use mathlib.Core.Logic.{inl, inr}
use mathlib.Core.Path.{◌∙◌, sym}
use native.Mathlib.Omega.{arith}
use Rattle.bodies.proofs.kind_right.Goals as goal

pub returns-in_default : goal.returns-in_default
unfolding kind_right
returns-in_default c L y =
    let p = c.hubs_at in
    sym (kind_as L c.args.t.now.words.now c.args.h c.requires.h_bound (p.result + c.args.h * 4) (omega (arith, p.ensures)) NoKind c.in_default.ensures)

pub returns-in-Event : goal.returns-in-Event
unfolding kind_right
returns-in-Event c L y =
    let p = c.hubs_at in
    elim c.in-Event.is [
      | inl e ↦ sym (kind_as L c.args.t.now.words.now c.args.h c.requires.h_bound (p.result + c.args.h * 4) (omega (arith, p.ensures)) Event (rw e at c.in-Some.ensures))
      | inr e ↦ sym (kind_as L c.args.t.now.words.now c.args.h c.requires.h_bound (p.result + c.args.h * 4) (omega (arith, p.ensures)) Board (rw e at c.in-Some.ensures))
    ]

pub returns-in-Semaphore : goal.returns-in-Semaphore
unfolding kind_right
returns-in-Semaphore c L y =
    let p = c.hubs_at in
    sym (kind_as L c.args.t.now.words.now c.args.h c.requires.h_bound (p.result + c.args.h * 4) (omega (arith, p.ensures)) Semaphore (rw c.in-Semaphore.is at c.in-Some.ensures))

pub returns-in-Port : goal.returns-in-Port
unfolding kind_right
returns-in-Port c L y =
    let p = c.hubs_at in
    sym (kind_as L c.args.t.now.words.now c.args.h c.requires.h_bound (p.result + c.args.h * 4) (omega (arith, p.ensures)) Port (rw c.in-Port.is at c.in-Some.ensures))

pub returns-in-Fifo : goal.returns-in-Fifo
unfolding kind_right
returns-in-Fifo c L y =
    let p = c.hubs_at in
    sym (kind_as L c.args.t.now.words.now c.args.h c.requires.h_bound (p.result + c.args.h * 4) (omega (arith, p.ensures)) Fifo (rw c.in-Fifo.is at c.in-Some.ensures))

pub returns-in-Resource : goal.returns-in-Resource
unfolding kind_right
returns-in-Resource c L y =
    let p = c.hubs_at in
    sym (kind_as L c.args.t.now.words.now c.args.h c.requires.h_bound (p.result + c.args.h * 4) (omega (arith, p.ensures)) Resource (rw c.in-Resource.is at c.in-Some.ensures))

pub returns-in-Memory : goal.returns-in-Memory
returns-in-Memory c L y =
    let p = c.hubs_at in
    c.memory_right.ensures L y
    ∙ sym (memory_arm L c.args.t.now.words.now c.args.h c.requires.h_bound (p.result + c.args.h * 4) (omega arith) (number_of Memory _ (rw c.in-Memory.is at c.in-Some.ensures) (λ z. cc)))
