-- `refusals::for_request` meets its contract: the lookup's answer is the test of the hub, and then comes `good_request`.
-- Assumes nothing.
use Prim.Native.Nat.{ℕ}
use mathlib.Core.List.{List}
use Rattle.records.specs.Records.{hub_at, hubs_at}
use Rattle.records.specs.declared.HubRecord.{HubRecord}
use Rattle.refusals.specs.Lookup.{kind_in}
use Rattle.refusals.proofs.Found.{hub_found, hub_in_use, hub_missing, hub-number}
use Rattle.rules.proofs.Coded.{handed_on}
use Rattle.rules.specs.Refusals.{need}
use mathlib.Core.Path.{◌∙◌, ◌≡◌, ap, refl}
use native.Mathlib.Omega.{arith}
use Rattle.refusals.proofs.for_request.Goals as goal

-- its kind stands where the contract says
kind : (ts : ℕ) (t : List ℕ) (n at h : ℕ) (x : HubRecord) → x ≡ hub_at at t h → at ≡ hubs_at ts → h ≡ n → x.kind ≡ kind_in ts t n
unfolding hub_at
kind ts t n at h x e place number = ap (λ (r : HubRecord). r.kind) e ∙ rw (place, number) refl

pub returns-in_err-h : goal.returns-in_err-h
unfolding need
returns-in_err-h c =
    let missing = hub_missing c.args.t.now c.args.c.target _ (c.in_err-h.ensures.value ∙ rw c.find_hub.ensures refl) in
    handed_on _ _ c.from_residual.ensures.1 ∙ missing.1 ∙ rw missing.0

pub hub-x-requires-clause-h_bound : goal.hub-x-requires-clause-h_bound
hub-x-requires-clause-h_bound c =
    let looked = hub_found c.args.t.now c.args.c.target _ (c.in_ok-h.ensures.value ∙ rw c.find_hub.ensures refl) in
    omega (arith, hub-number _ _ _ looked)

pub returns : goal.returns
unfolding need
returns c =
    -- the hub is the one looked up, and in use
    let looked = hub_found c.args.t.now c.args.c.target _ (c.in_ok-h.ensures.value ∙ rw c.find_hub.ensures refl) in
    c.need.ensures
    ∙ rw (hub_in_use _ _ _ looked, ← kind c.args.ts.words c.args.t.now c.args.c.target c.hubs_at.result c.in_ok-h.h.0 c.hub-x.result c.hub-x.ensures c.hubs_at.ensures (hub-number _ _ _ looked), c.good_request.ensures)
