-- `kernel::is_calm` meets its contract: a hub request by its hub's kind, any other service by its name. Assumes nothing.
use Prim.Native.Nat.{◌*◌, ◌+◌, ◌<◌, ℕ}
use Rattle.kernel.proofs.Laws.{asks, calm_served, known_as, lockless_served, named_is, not_blank}
use Rattle.moves.proofs.Laws.{hub-number}
use Rattle.rules.proofs.Accepted.{request_tests}
use Rattle.rules.proofs.Calm.{Calm, calm_resume, calm_sleep, calm_start, calm_suspend, calm_yield}
use Rattle.rules.proofs.KindNumbers.{same_kind}
use Rattle.rules.proofs.Still.{served-blank}
use Rattle.rules.specs.Calls.{AddHub, AddTask, Blank, HubRequest, Resume, Service, Sleep, Start, Stop, Suspend, Tick, Yield, serve, service_of}
use Rattle.rules.specs.Table.{hub, read}
use Rattle.rules.specs.declared.kinds.Kind.TheVariants.{Resource}
use borrow.Author.Rules.{rules}
use borrow.Author.Tests.{eqb-false, not-true}
use lib.ListN.{get_or}
use mathlib.Core.List.{List}
use mathlib.Core.Logic.{inl, inr}
use mathlib.Core.Path.{◌∙◌, ◌≡◌, ap, refl, subst, sym}
use native.Mathlib.Nat.{add-zero}
use native.Mathlib.Omega.{arith}
use Rattle.kernel.proofs.is_calm.Goals as goal

pub returns-in-Blank-clause-calm : goal.returns-in-Blank-clause-calm
unfolding serve
returns-in-Blank-clause-calm c L y a e =
    let p = c.requires in
    let k = c.args.c in
    let s = read L c.args.t.now in
    let calm = λ (v : Service) (n : service_of k.service ≡ v) (d : v ≡ Blank → ⊥) (h : Calm v). calm_served s (known_as y c.args.ts.low c.args.ts.high c.args.t.now k a c.shared_slice_known-1.given v n d).valid k (known_as y c.args.ts.low c.args.ts.high c.args.t.now k a c.shared_slice_known-1.given v n d).accepted (subst Calm (sym n) h) in
    elim c.in-Blank.is [
      | inl j ↦ let v = named_is k _ _ p.named j in served-blank s k v ∙ rw v refl
      | inr (inl j) ↦ calm Start (named_is k _ _ p.named j) (λ z. cc) calm_start
      | inr (inr (inl j)) ↦ calm Suspend (named_is k _ _ p.named j) (λ z. cc) calm_suspend
      | inr (inr (inr (inl j))) ↦ calm Resume (named_is k _ _ p.named j) (λ z. cc) calm_resume
      | inr (inr (inr (inr (inl j)))) ↦ calm Yield (named_is k _ _ p.named j) (λ z. cc) calm_yield
      | inr (inr (inr (inr (inr j)))) ↦ calm Sleep (named_is k _ _ p.named j) (λ z. cc) calm_sleep
    ]

pub bounds-t-hubs_at : goal.bounds-t-hubs_at
bounds-t-hubs_at c =
    let p = c.requires in
    let e = p.accepts in
    let k = c.args.c in
    let v = named_is k _ _ p.named c.in-HubRequest.is in
    let q = known_as e.edition.laid c.args.ts.low c.args.ts.high c.args.t.now k e.none c.shared_slice_known-1.given HubRequest v (λ z. cc) in
    let low = (request_tests (read e.edition.layout c.args.t.now) q.valid.listed k (asks q HubRequest v)).named in
    let few = q.valid.hubs in
    let fits = q.fits in
    let under : k.target < 16 = omega (arith, low, few) in
    search rules

pub returns-in-HubRequest-clause-calm : goal.returns-in-HubRequest-clause-calm
returns-in-HubRequest-clause-calm c L y a other =
    let p = c.requires in
    let t = c.args.t.now in
    let k = c.args.c in
    let v = named_is k _ _ p.named c.in-HubRequest.is in
    let q = known_as y c.args.ts.low c.args.ts.high t k a c.shared_slice_known-1.given HubRequest v (λ z. cc) in
    let s = read L t in
    let used = (request_tests s q.valid.listed k (asks q HubRequest v)).named in
    let place = c.hubs_at.ensures in
    let kind : get_or t (c.hubs_at.result + k.target * 4) 0 ≡ (hub s k.target).kind =
    ap (λ (l : List ℕ). get_or l (c.hubs_at.result + k.target * 4) 0) q.table
    ∙ rw place (rw add-zero at (hub-number L s y q.valid.hubs k.target used 0 (omega arith))) in
    lockless_served s q.valid k q.accepted v (λ z. eqb-false _ 5 (sym (same_kind c.of.result Resource _ c.of.ensures) ∙ not-true _ (sym c.ne.ensures ∙ other)) (kind ∙ z))

pub returns-in-HubRequest-clause-not_blank : goal.returns-in-HubRequest-clause-not_blank
returns-in-HubRequest-clause-not_blank c e = not_blank c.args.c HubRequest (named_is c.args.c _ _ c.requires.named c.in-HubRequest.is) (λ z. cc)

pub returns-in-Stop-clause-not_blank : goal.returns-in-Stop-clause-not_blank
returns-in-Stop-clause-not_blank c e =
    let k = c.args.c in
    let named = c.requires.named in
    elim c.in-Stop.is [
      | inl j ↦ not_blank k Stop (named_is k _ _ named j) (λ z. cc)
      | inr (inl j) ↦ not_blank k Tick (named_is k _ _ named j) (λ z. cc)
      | inr (inr (inl j)) ↦ not_blank k AddTask (named_is k _ _ named j) (λ z. cc)
      | inr (inr (inr j)) ↦ not_blank k AddHub (named_is k _ _ named j) (λ z. cc)
    ]
