-- `refusals::by_service` meets its contract: `by_running` decides the rules' first test of services 1 to 7, and each service's
-- function the rest of its row. Assumes nothing.
use Rattle.refusals.proofs.Numbers.{kind-asked, running_err, running_ok}
use Rattle.rules.proofs.Coded.{handed_on}
use Rattle.rules.proofs.Places.{hubs-word, tasks-word}
use Rattle.rules.specs.Refusals.{on_task, refusal, refusal_for}
use mathlib.Core.Logic.{inl, inr}
use mathlib.Core.Path.{◌∙◌, refl}
use Rattle.refusals.proofs.by_service.Goals as goal

pub returns-in_default : goal.returns-in_default
unfolding refusal refusal_for
returns-in_default c L s y valid room e = rw (← c.in_default.ensures) refl

pub returns-in-Blank : goal.returns-in-Blank
unfolding refusal refusal_for
returns-in-Blank c L s y valid room e =
    elim c.in-Blank.is [ inl k ↦ rw (← c.in-Some.ensures, k) refl | inr k ↦ rw (← c.in-Some.ensures, k) refl ]

pub returns-in_err-by_running-in-HubRequest : goal.returns-in_err-by_running-in-HubRequest
unfolding refusal refusal_for
returns-in_err-by_running-in-HubRequest c L s y valid room e =
    let refused = c.in_err-by_running-in-HubRequest.ensures L s y room valid.listed e in
    handed_on _ _ c.from_residual.ensures.1 ∙ rw (← c.in-Some.ensures, c.in-HubRequest.is) (running_err s c.args.c _ _ refused)

pub returns-in_ok-by_running-in-HubRequest : goal.returns-in_ok-by_running-in-HubRequest
unfolding refusal refusal_for
returns-in_ok-by_running-in-HubRequest c L s y valid room e =
    let runs = c.in_ok-by_running-in-HubRequest.ensures L s y room valid.listed e in
    rw (← c.in-Some.ensures, c.in-HubRequest.is)
    (running_ok s c.args.c _ _ runs (c.for_request.ensures ∙ rw (e, hubs-word L s) (kind-asked L s y room.hubs c.args.c)))

pub returns-in_err-by_running-in-Start : goal.returns-in_err-by_running-in-Start
unfolding on_task refusal refusal_for
returns-in_err-by_running-in-Start c L s y valid room e =
    let told = handed_on _ _ c.from_residual-in_err-by_running-in-Start.ensures.1 in
    let refused = c.in_err-by_running-in-Start.ensures L s y room valid.listed e in
    elim c.in-Start.is [
      | inl k ↦ told ∙ rw (← c.in-Some.ensures, k) (running_err s c.args.c _ _ refused)
      | inr (inl k) ↦ told ∙ rw (← c.in-Some.ensures, k) (running_err s c.args.c _ _ refused)
      | inr (inr (inl k)) ↦ told ∙ rw (← c.in-Some.ensures, k) (running_err s c.args.c _ _ refused)
      | inr (inr (inr k)) ↦ told ∙ rw (← c.in-Some.ensures, k) (running_err s c.args.c _ _ refused)
    ]

pub returns-in_ok-by_running-in-Start : goal.returns-in_ok-by_running-in-Start
unfolding on_task refusal refusal_for
returns-in_ok-by_running-in-Start c L s y valid room e =
    let runs = c.in_ok-by_running-in-Start.ensures L s y room valid.listed e in
    let row = running_ok s c.args.c _ _ runs (c.for_task.ensures ∙ rw (e, tasks-word L s) refl) in
    elim c.in-Start.is [
      | inl k ↦ rw (← c.in-Some.ensures, k) row
      | inr (inl k) ↦ rw (← c.in-Some.ensures, k) row
      | inr (inr (inl k)) ↦ rw (← c.in-Some.ensures, k) row
      | inr (inr (inr k)) ↦ rw (← c.in-Some.ensures, k) row
    ]

pub returns-in-Yield : goal.returns-in-Yield
unfolding refusal refusal_for
returns-in-Yield c L s y valid room e = rw (← c.in-Some.ensures, c.in-Yield.is) (c.by_running-in-Yield.ensures L s y room valid.listed e)

pub returns-in_err-by_running-in-Sleep : goal.returns-in_err-by_running-in-Sleep
unfolding refusal refusal_for
returns-in_err-by_running-in-Sleep c L s y valid room e =
    let refused = c.in_err-by_running-in-Sleep.ensures L s y room valid.listed e in
    handed_on _ _ c.from_residual-in_err-by_running-in-Sleep.ensures.1
    ∙ rw (← c.in-Some.ensures, c.in-Sleep.is) (running_err s c.args.c _ _ refused)

pub returns-in_ok-by_running-in-Sleep : goal.returns-in_ok-by_running-in-Sleep
unfolding refusal refusal_for
returns-in_ok-by_running-in-Sleep c L s y valid room e =
    let runs = c.in_ok-by_running-in-Sleep.ensures L s y room valid.listed e in
    rw (← c.in-Some.ensures, c.in-Sleep.is) (running_ok s c.args.c _ _ runs c.for_sleep.ensures)

pub returns-in-AddTask : goal.returns-in-AddTask
unfolding refusal refusal_for
returns-in-AddTask c L s y valid room e = rw (← c.in-Some.ensures, c.in-AddTask.is, c.for_add_task.ensures, e, tasks-word L s) refl

pub returns-in-AddHub : goal.returns-in-AddHub
unfolding refusal refusal_for
returns-in-AddHub c L s y valid room e = rw (← c.in-Some.ensures, c.in-AddHub.is, c.for_add_hub.ensures, e, hubs-word L s) refl
