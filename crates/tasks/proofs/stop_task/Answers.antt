-- `tasks::stop_task` meets its contract. Assumes nothing.
use Prim.Native.Nat.{ℕ}
use Rattle.moves.proofs.Laws.{valid_sound}
use Rattle.moves.specs.Moves.{key_of}
use Rattle.rules.proofs.Hubs.{hubs-deactivate}
use Rattle.rules.proofs.Passing.{length-stop}
use Rattle.rules.proofs.Places.{hubs-word}
use Rattle.rules.proofs.Room.{sound_stands}
use Rattle.rules.specs.Calls.{deactivate, may_stop, pass_all, serve, stop}
use Rattle.rules.specs.Lists.{leave}
use Rattle.rules.specs.Table.{Task, inactive, set_task, words}
use Rattle.tasks.proofs.Laws.{failed, good_out, granted, sound_out}
use borrow.Author.Rules.{rules}
use lib.ListN.{get_or, length}
use mathlib.Core.Path.{◌∙◌, ◌≡◌, ap, sym}
use native.Mathlib.Omega.{arith}
use Rattle.tasks.proofs.stop_task.Goals as goal

pub returns-then-not-may_stop : goal.returns-then-not-may_stop
unfolding serve
returns-then-not-may_stop c =
    λ L s y g caller target e.
    let a = c.args.c in
    let x = c.task_at-x.ensures.value L s y g.tasks target e in
    let no = sym (c.may_stop.ensures ∙ ap (λ (t : Task). may_stop t a) x) ∙ c.if-not-may_stop.true in
    c.give_answer.ensures L s y g.tasks caller e ∙ ap (words L) (failed _ _ s a no)

pub give_answer-requires-2 : goal.give_answer-requires-2
give_answer-requires-2 c = let p = c.requires in record { table = record { low = p.table.low; high = p.table.high; long = search rules }; i_bound = p.caller_bound; w_bound = omega arith }

pub returns : goal.returns
unfolding deactivate leave serve stop
returns c =
    λ L s y g caller target e.
    let a = c.args.c in
    let key = key_of c.args.keys.now in
    let i = a.target in
    let x = c.task_at-x.ensures.value L s y g.tasks target e in
    let yes = sym (c.may_stop.ensures ∙ ap (λ (t : Task). may_stop t a) x) ∙ c.if-not-may_stop.false in
    let left = c.leave_list.ensures L s y (sound_stands s (valid_sound s g) i) target e in
    let made = c.make_inactive.ensures L (leave i s) y g.tasks target left in
    let out = made ∙ ap (λ (t : Task). words L (set_task i (inactive t.priority) (leave i s))) x in
    let many : get_or c.args.t.now 2 0 ≡ length s.hubs = rw e (hubs-word L s) in
    let passed = c.pass_all.ensures L (deactivate i s) y (sound_out i s g target) (good_out i s g target) (many ∙ sym (hubs-deactivate i s).many) out in
    let stopped = passed ∙ ap (λ (n : ℕ). words L (pass_all key i n (deactivate i s))) many in
    let tasks = length-stop key i s in
    c.give_answer-2.ensures L (stop key i s) y (omega (arith, tasks, g.tasks)) (omega (arith, tasks, caller)) stopped
    ∙ ap (words L) (granted _ _ s a yes)
