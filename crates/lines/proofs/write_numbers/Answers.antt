-- The text so far and what is left is the whole line.
use Rattle.lines.proofs.Writing.{behind_last, behind_more, writing_begin, writing_end, writing_room, writing_turn}
use mathlib.Core.Path.{◌∙◌, sym}
use native.Mathlib.Omega.{arith}
use Rattle.lines.proofs.write_numbers.Goals as goal
use Rattle.lines.proofs.write_numbers.Goals.{then-k-ns, else-k-ns}

pub loop-k-init : goal.loop-k-init
loop-k-init c = writing_begin c.args.ns.now c.args.out.now c.args.at c.requires.in_bounds c.requires.ns_in_bounds

pub put_number-end-requires : goal.put_number-end-requires
put_number-end-requires c =
    let a = c.args in
    let p = c.requires in
    let l = c.loop-k in
    writing_room a.ns.now a.out.now a.at p.in_bounds p.ns_in_bounds l.out l.end l.k l.invariant c.loop-k-test.true

pub loop-k-preserved : goal.loop-k-preserved
loop-k-preserved c =
    let a = c.args in
    let p = c.requires in
    let l = c.loop-k in
    let h = c.loop-k-test.true in
    writing_turn a.ns.now a.out.now a.at p.in_bounds p.ns_in_bounds l.out l.end l.k l.invariant h _ _ _
    (elim c.if-k-ns.branch [
      | then-k-ns w ↦ w.after-is ∙ sym (behind_more a.ns.now l.k w.if-k-ns.true)
      | else-k-ns w ↦ w.after-is ∙ sym (behind_last a.ns.now l.k h w.if-k-ns.false)
    ])
    c.put_number-end.ensures

pub returns : goal.returns
returns c =
    let a = c.args in
    let p = c.requires in
    let l = c.loop-k in
    writing_end a.ns.now a.out.now a.at p.in_bounds p.ns_in_bounds l.out l.end l.k l.invariant (omega arith)
