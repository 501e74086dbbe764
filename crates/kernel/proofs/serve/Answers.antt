-- `kernel::serve` meets its contract, service by service: what an accepted call knows meets what the service's function asks.
-- Assumes nothing.
use Rattle.kernel.proofs.Laws.{asks, fits-table, known_as, message-fits, named_is, on_a_task, runs}
use Rattle.moves.proofs.Laws.{valid_sound}
use Rattle.moves.specs.Moves.{key_of}
use Rattle.rules.proofs.Accepted.{hub_tests, request_tests, task_tests}
use Rattle.rules.proofs.After.{accepted-message}
use Rattle.rules.proofs.Places.{hubs-word, tasks-word}
use Rattle.rules.proofs.ServiceNumbers.{service_number_of}
use Rattle.rules.specs.Calls.{AddHub, AddTask, HubRequest, Resume, Sleep, Start, Stop, Suspend, Tick, Yield, new_hub, serve}
use Rattle.rules.specs.Refusals.{refusal_for}
use Rattle.rules.specs.Reply.{ahead, ahead_for, bears_answer}
use Rattle.rules.specs.Table.{read}
use borrow.Author.Rules.{rules}
use mathlib.Core.Path.{refl, sym}
use native.Mathlib.Omega.{arith}
use Rattle.kernel.proofs.serve.Goals as goal

pub blank-requires : goal.blank-requires
blank-requires c =
    let p = c.requires in
    fits-table p.accepts.edition.laid c.args.ts.low c.args.ts.high _ _ p.accepts.none

pub returns-in-Blank : goal.returns-in-Blank
unfolding ahead ahead_for serve
returns-in-Blank c =
    λ L y a.
    let v = named_is c.args.c _ _ c.requires.named c.in-Blank.is in
    record { table = rw v (c.blank.ensures L y); ahead = rw v refl }

pub request-requires : goal.request-requires
unfolding bears_answer
request-requires c =
    let p = c.requires in
    let k = c.args.c in
    let e = p.accepts in
    let s = read e.edition.layout c.args.t.now in
    let v = named_is k _ _ p.named c.in-HubRequest.is in
    let q = known_as e.edition.laid c.args.ts.low c.args.ts.high c.args.t.now k e.none c.slice_known-1.given HubRequest v (λ z. cc) in
    record { table = q.fits; caller_bound = omega (arith, runs q (rw v refl), q.valid.tasks); target_bound = omega (arith, (request_tests s q.valid.listed k (asks q HubRequest v)).named, q.valid.hubs); c_bound = message-fits _ _ e.edition.laid c.args.ts.low c.args.ts.high k (accepted-message e.edition.layout c.args.t.now k e.none) (service_number_of HubRequest k.service (sym v) (λ z. cc)) (search rules) (search rules) }

pub returns-in-HubRequest : goal.returns-in-HubRequest
unfolding ahead
returns-in-HubRequest c =
    λ L y a.
    let p = c.requires in
    let k = c.args.c in
    let s = read L c.args.t.now in
    let v = named_is k _ _ p.named c.in-HubRequest.is in
    let q = known_as y c.args.ts.low c.args.ts.high c.args.t.now k a c.slice_known-1.given HubRequest v (λ z. cc) in
    record { table = rw v ((c.request.ensures L s y q.valid (asks q HubRequest v) q.table).table); ahead = rw v (c.request.ensures L s y q.valid (asks q HubRequest v) q.table).ahead }

pub start_task-requires : goal.start_task-requires
unfolding bears_answer refusal_for
start_task-requires c =
    let p = c.requires in
    let k = c.args.c in
    let e = p.accepts in
    let s = read e.edition.layout c.args.t.now in
    let v = named_is k _ _ p.named c.in-Start.is in
    let q = known_as e.edition.laid c.args.ts.low c.args.ts.high c.args.t.now k e.none c.slice_known-1.given Start v (λ z. cc) in
    record { table = q.fits; caller_bound = omega (arith, runs q (rw v refl), q.valid.tasks); target_bound = omega (arith, on_a_task q (rw v refl), q.valid.tasks) }

pub returns-in-Start : goal.returns-in-Start
unfolding ahead ahead_for bears_answer refusal_for
returns-in-Start c =
    λ L y a.
    let p = c.requires in
    let k = c.args.c in
    let s = read L c.args.t.now in
    let v = named_is k _ _ p.named c.in-Start.is in
    let q = known_as y c.args.ts.low c.args.ts.high c.args.t.now k a c.slice_known-1.given Start v (λ z. cc) in
    record { table = rw v (c.start_task.ensures L s y (valid_sound s q.valid) (runs q (rw v refl)) (on_a_task q (rw v refl)) q.table); ahead = rw v refl }

pub stop_task-requires : goal.stop_task-requires
unfolding bears_answer refusal_for
stop_task-requires c =
    let p = c.requires in
    let k = c.args.c in
    let e = p.accepts in
    let s = read e.edition.layout c.args.t.now in
    let v = named_is k _ _ p.named c.in-Stop.is in
    let q = known_as e.edition.laid c.args.ts.low c.args.ts.high c.args.t.now k e.none c.slice_known-1.given Stop v (λ z. cc) in
    record { table = q.fits; caller_bound = omega (arith, runs q (rw v refl), q.valid.tasks); target_bound = omega (arith, on_a_task q (rw v refl), q.valid.tasks); t_bound = rw q.table (rw (hubs-word e.edition.layout s) q.valid.hubs) }

pub returns-in-Stop : goal.returns-in-Stop
unfolding ahead ahead_for bears_answer refusal_for
returns-in-Stop c =
    λ L y a.
    let p = c.requires in
    let k = c.args.c in
    let s = read L c.args.t.now in
    let v = named_is k _ _ p.named c.in-Stop.is in
    let q = known_as y c.args.ts.low c.args.ts.high c.args.t.now k a c.slice_known-1.given Stop v (λ z. cc) in
    record { table = rw v (c.stop_task.ensures L s y q.valid (runs q (rw v refl)) (on_a_task q (rw v refl)) q.table); ahead = rw v refl }

pub suspend_task-requires : goal.suspend_task-requires
unfolding bears_answer refusal_for
suspend_task-requires c =
    let p = c.requires in
    let k = c.args.c in
    let e = p.accepts in
    let s = read e.edition.layout c.args.t.now in
    let v = named_is k _ _ p.named c.in-Suspend.is in
    let q = known_as e.edition.laid c.args.ts.low c.args.ts.high c.args.t.now k e.none c.slice_known-1.given Suspend v (λ z. cc) in
    record { table = q.fits; caller_bound = omega (arith, runs q (rw v refl), q.valid.tasks); target_bound = omega (arith, on_a_task q (rw v refl), q.valid.tasks) }

pub returns-in-Suspend : goal.returns-in-Suspend
unfolding ahead ahead_for bears_answer refusal_for
returns-in-Suspend c =
    λ L y a.
    let p = c.requires in
    let k = c.args.c in
    let s = read L c.args.t.now in
    let v = named_is k _ _ p.named c.in-Suspend.is in
    let q = known_as y c.args.ts.low c.args.ts.high c.args.t.now k a c.slice_known-1.given Suspend v (λ z. cc) in
    record { table = rw v (c.suspend_task.ensures L (key_of c.args.keys.now) s y (valid_sound s q.valid) (runs q (rw v refl)) (on_a_task q (rw v refl)) q.table); ahead = rw v refl }

pub resume_task-requires : goal.resume_task-requires
unfolding bears_answer refusal_for
resume_task-requires c =
    let p = c.requires in
    let k = c.args.c in
    let e = p.accepts in
    let s = read e.edition.layout c.args.t.now in
    let v = named_is k _ _ p.named c.in-Resume.is in
    let q = known_as e.edition.laid c.args.ts.low c.args.ts.high c.args.t.now k e.none c.slice_known-1.given Resume v (λ z. cc) in
    record { table = q.fits; caller_bound = omega (arith, runs q (rw v refl), q.valid.tasks); target_bound = omega (arith, on_a_task q (rw v refl), q.valid.tasks) }

pub returns-in-Resume : goal.returns-in-Resume
unfolding ahead ahead_for bears_answer refusal_for
returns-in-Resume c =
    λ L y a.
    let p = c.requires in
    let k = c.args.c in
    let s = read L c.args.t.now in
    let v = named_is k _ _ p.named c.in-Resume.is in
    let q = known_as y c.args.ts.low c.args.ts.high c.args.t.now k a c.slice_known-1.given Resume v (λ z. cc) in
    record { table = rw v (c.resume_task.ensures L (key_of c.args.keys.now) s y (valid_sound s q.valid) (runs q (rw v refl)) (on_a_task q (rw v refl)) q.table); ahead = rw v refl }

pub yield_turn-requires : goal.yield_turn-requires
unfolding bears_answer
yield_turn-requires c =
    let p = c.requires in
    let k = c.args.c in
    let e = p.accepts in
    let s = read e.edition.layout c.args.t.now in
    let v = named_is k _ _ p.named c.in-Yield.is in
    let q = known_as e.edition.laid c.args.ts.low c.args.ts.high c.args.t.now k e.none c.slice_known-1.given Yield v (λ z. cc) in
    record { table = q.fits; caller_bound = omega (arith, runs q (rw v refl), q.valid.tasks) }

pub returns-in-Yield : goal.returns-in-Yield
unfolding ahead ahead_for bears_answer
returns-in-Yield c =
    λ L y a.
    let p = c.requires in
    let k = c.args.c in
    let s = read L c.args.t.now in
    let v = named_is k _ _ p.named c.in-Yield.is in
    let q = known_as y c.args.ts.low c.args.ts.high c.args.t.now k a c.slice_known-1.given Yield v (λ z. cc) in
    record { table = rw v (c.yield_turn.ensures L s y (valid_sound s q.valid) (runs q (rw v refl)) q.table); ahead = rw v refl }

pub sleep_task-requires : goal.sleep_task-requires
unfolding bears_answer
sleep_task-requires c =
    let p = c.requires in
    let k = c.args.c in
    let e = p.accepts in
    let s = read e.edition.layout c.args.t.now in
    let v = named_is k _ _ p.named c.in-Sleep.is in
    let q = known_as e.edition.laid c.args.ts.low c.args.ts.high c.args.t.now k e.none c.slice_known-1.given Sleep v (λ z. cc) in
    record { table = q.fits; caller_bound = omega (arith, runs q (rw v refl), q.valid.tasks) }

pub returns-in-Sleep : goal.returns-in-Sleep
unfolding ahead ahead_for bears_answer
returns-in-Sleep c =
    λ L y a.
    let p = c.requires in
    let k = c.args.c in
    let s = read L c.args.t.now in
    let v = named_is k _ _ p.named c.in-Sleep.is in
    let q = known_as y c.args.ts.low c.args.ts.high c.args.t.now k a c.slice_known-1.given Sleep v (λ z. cc) in
    record { table = rw v (c.sleep_task.ensures L (key_of c.args.keys.now) s y (valid_sound s q.valid) (runs q (rw v refl)) q.table); ahead = rw v refl }

pub tick-requires : goal.tick-requires
tick-requires c =
    let p = c.requires in
    let k = c.args.c in
    let e = p.accepts in
    let s = read e.edition.layout c.args.t.now in
    let v = named_is k _ _ p.named c.in-Tick.is in
    let q = known_as e.edition.laid c.args.ts.low c.args.ts.high c.args.t.now k e.none c.slice_known-1.given Tick v (λ z. cc) in
    record { table = q.fits; t_bound = rw q.table (rw (tasks-word e.edition.layout s) q.valid.tasks) }

pub returns-in-Tick : goal.returns-in-Tick
unfolding ahead ahead_for serve
returns-in-Tick c =
    λ L y a.
    let p = c.requires in
    let k = c.args.c in
    let s = read L c.args.t.now in
    let v = named_is k _ _ p.named c.in-Tick.is in
    let q = known_as y c.args.ts.low c.args.ts.high c.args.t.now k a c.slice_known-1.given Tick v (λ z. cc) in
    record { table = rw v (c.tick.ensures L s y (valid_sound s q.valid) q.table); ahead = rw v refl }

pub serve_add_task-requires : goal.serve_add_task-requires
serve_add_task-requires c =
    let p = c.requires in
    let k = c.args.c in
    let e = p.accepts in
    let s = read e.edition.layout c.args.t.now in
    let v = named_is k _ _ p.named c.in-AddTask.is in
    let q = known_as e.edition.laid c.args.ts.low c.args.ts.high c.args.t.now k e.none c.slice_known-1.given AddTask v (λ z. cc) in
    record { table = q.fits; t_bound = rw q.table (rw (tasks-word e.edition.layout s) (task_tests s k (asks q AddTask v)).1) }

pub returns-in-AddTask : goal.returns-in-AddTask
unfolding ahead ahead_for
returns-in-AddTask c =
    λ L y a.
    let p = c.requires in
    let k = c.args.c in
    let s = read L c.args.t.now in
    let v = named_is k _ _ p.named c.in-AddTask.is in
    let q = known_as y c.args.ts.low c.args.ts.high c.args.t.now k a c.slice_known-1.given AddTask v (λ z. cc) in
    record { table = rw v (c.serve_add_task.ensures L s y (task_tests s k (asks q AddTask v)).1 q.table); ahead = rw v refl }

pub add_hub-requires : goal.add_hub-requires
add_hub-requires c =
    let p = c.requires in
    let k = c.args.c in
    let e = p.accepts in
    let s = read e.edition.layout c.args.t.now in
    let v = named_is k _ _ p.named c.in-AddHub.is in
    let q = known_as e.edition.laid c.args.ts.low c.args.ts.high c.args.t.now k e.none c.slice_known-1.given AddHub v (λ z. cc) in
    record { table = q.fits; t_bound = rw q.table (rw (hubs-word e.edition.layout s) (hub_tests s k (asks q AddHub v)).1) }

pub returns-in-AddHub : goal.returns-in-AddHub
unfolding ahead ahead_for new_hub serve
returns-in-AddHub c =
    λ L y a.
    let p = c.requires in
    let k = c.args.c in
    let s = read L c.args.t.now in
    let v = named_is k _ _ p.named c.in-AddHub.is in
    let q = known_as y c.args.ts.low c.args.ts.high c.args.t.now k a c.slice_known-1.given AddHub v (λ z. cc) in
    record { table = rw v (c.add_hub.ensures L s y (hub_tests s k (asks q AddHub v)).1 q.table); ahead = rw v refl }
