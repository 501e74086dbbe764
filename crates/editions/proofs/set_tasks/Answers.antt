-- `editions::set_tasks` meets its contract: the records so far are one run of stores. Assumes nothing.
use Prim.Native.Nat.{ℕ}
use Rattle.editions.proofs.Bodies.{length_record}
use Rattle.editions.proofs.Joined.{joined_turn}
use Rattle.editions.specs.Editions.{joined}
use Rattle.records.specs.Records.{task_at, task_words}
use lib.ListN.{length}
use lib.Seq.{length-sets}
use mathlib.Core.Path.{◌∙◌, ◌≡◌, ap, refl}
use native.Mathlib.Omega.{arith}
use Rattle.editions.proofs.set_tasks.Goals as goal

pub loop-i-init : goal.loop-i-init
loop-i-init c = unfold joined in refl

pub loop-i-preserved : goal.loop-i-preserved
loop-i-preserved c =
    let a = c.args in
    let l = c.loop-i in
    let wide : (j : ℕ) → length (task_words a.ts.words (task_at a.fs.words a.from.now j)) ≡ a.ts.words = λ j. length_record a.ts.words c.args.ts.low c.args.ts.high (task_at a.fs.words a.from.now j) in
    (c.set_task.ensures ∙ joined_turn a.ts.words (λ j. task_words a.ts.words (task_at a.fs.words a.from.now j)) wide a.to.now l.to _ 8 l.i l.invariant (ap (task_words a.ts.words) c.task-x.ensures.value))

pub shape_of-to : goal.shape_of-to
shape_of-to c = rw c.loop-i.invariant (simp length-sets)

pub returns : goal.returns
returns c = let e : c.loop-i.i ≡ 16 = omega arith in rw e at c.loop-i.invariant
