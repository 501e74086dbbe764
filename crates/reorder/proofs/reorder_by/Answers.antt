-- `reorder::reorder_by` meets its contract: all are taken out, then all are put back. Assumes nothing.
use Rattle.reorder.proofs.Loops.{reorder_all, reorder_none, same_keys}
use Rattle.rules.specs.Table.{words}
use Rattle.std.proofs.lemmas.Bool.Decides.{Decides-eqb}
use Rattle.std.proofs.lemmas.Slice.Eq.{slice_eq-Decides}
use mathlib.Core.Path.{◌∙◌, ap, sym}
use Rattle.reorder.proofs.reorder_by.Goals as goal

pub returns-then-eq : goal.returns-then-eq
returns-then-eq c =
    λ L s s' y x many few before after w.
    let a = c.args in
    let same = (slice_eq-Decides Decides-eqb _ _ _ c.eq.ensures).0 c.if-eq.true in
    w ∙ ap (words L) (sym (reorder_none a.before.now a.after.now a.n s s' many before after (same_keys a.before.now a.after.now a.n same)))

pub returns : goal.returns
returns c =
    λ L s s' y x many few before after w.
    let out = c.take_changed in
    let back = c.put_changed in
    let a = c.args in
    reorder_all a.before.now a.after.now a.n s s' many before after a.t.now out.new.t back.new.t a.ts.words out.ensures back.ensures L y x few w
