-- `kernel::serve_call` meets its contract: the service by the keys before the call, then the reordering, where the service may have
-- changed an effective priority. Assumes nothing.
use Prim.Native.Nat.{◌≤◌, ℕ}
use Rattle.kernel.proofs.Laws.{ahead_stays, by_keys, fits-table, known, sound_after, tasks_stay}
use Rattle.rules.proofs.Places.{tasks-word}
use Rattle.rules.proofs.ServiceNumbers.{service_number_of}
use Rattle.rules.specs.Calls.{Blank, serve, served, service_of}
use Rattle.rules.specs.Effective.{effective}
use Rattle.rules.specs.Reply.{ahead}
use Rattle.rules.specs.Table.{State, read, words}
use borrow.Author.Rules.{rules}
use lib.ListN.{get_or, length}
use mathlib.Core.List.{List}
use mathlib.Core.Path.{◌∙◌, ◌≡◌, ap, refl, sym}
use native.Mathlib.Omega.{arith}
use Rattle.kernel.proofs.serve_call.Goals as goal

pub bounds-t-1 : goal.bounds-t-1
bounds-t-1 c =
    let p = c.requires in
    let fits = fits-table p.accepts.edition.laid c.args.ts.low c.args.ts.high _ _ p.accepts.none in
    search rules

pub reorder-requires : goal.reorder-requires
reorder-requires c =
    let e = c.requires.accepts in
    let t = c.args.t.now in
    let L = e.edition.layout in
    let q = known e.edition.laid c.args.ts.low c.args.ts.high t c.args.c e.none c.slice_known-1.given (c.is_calm-calm.ensures.not_blank c.if-not-calm.true) in
    let fits = q.fits in
    let few : get_or t 1 0 ≤ 16 = rw q.table (rw (tasks-word L (read L t)) q.valid.tasks) in record { table = search rules; n_bound = omega (arith, few) }

pub returns-then-not-calm : goal.returns-then-not-calm
unfolding served
returns-then-not-calm c =
    λ L y j.
    let k = c.args.c in
    let t = c.args.t.now in
    let s = read L t in
    let some = c.is_calm-calm.ensures.not_blank c.if-not-calm.true in
    let q = known y c.args.ts.low c.args.ts.high t k (sym j.refusal) c.slice_known-1.given some in
    let same = by_keys c.args.keys.now s k (j.keys refl) in
    let one = c.serve-served.ensures L y (sym j.refusal) in
    let many : get_or t 1 0 ≡ length s.tasks = ap (λ (l : List ℕ). get_or l 1 0) q.table ∙ tasks-word L s in
    let named : service_of k.service ≡ Blank → ⊥ = λ z. some (service_number_of Blank k.service (sym z) (λ u. cc)) in
    record {
      table = c.reorder.ensures L s (serve (effective s) (service_of k.service) s k) y (sound_after s q.valid k q.accepted) many
          (omega (arith, many, tasks_stay (effective s) s k named)) (j.keys refl some) (one.table ∙ ap (words L) same);
      ahead = one.ahead ∙ ap (λ (z : State). ahead z k) same ∙ sym (ahead_stays s q.valid k q.accepted);
    }

pub returns-else-not-calm : goal.returns-else-not-calm
returns-else-not-calm c =
    λ L y j.
    let k = c.args.c in
    let s = read L c.args.t.now in
    let same = by_keys c.args.keys.now s k (j.keys refl) in
    let one = c.serve-served.ensures L y (sym j.refusal) in
    let still = sym (c.is_calm-calm.ensures.calm L y (sym j.refusal) c.if-not-calm.false) in
    record { table = one.table ∙ ap (words L) (same ∙ still); ahead = one.ahead ∙ ap (λ (z : State). ahead z k) (same ∙ still) }
