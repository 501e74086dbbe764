-- `sidebyside::show` meets its contract: refused by the tables, or shown in their edition. Assumes nothing.
use Prim.Native.Nat.{◌<◌, ℕ}
use Rattle.differences.proofs.Ways.{table-passed}
use Rattle.sidebyside.proofs.Promise.{text_short}
use Rattle.sidebyside.proofs.Ways.{pair-formed, refused_tables}
use Rattle.sidebyside.specs.Shows.{pair_refusal}
use lib.ListN.{get_or}
use mathlib.Core.Path.{◌∙◌, ◌≡◌, sym}
use native.Mathlib.Omega.{arith}
use Rattle.sidebyside.proofs.show.Goals as goal

pub returns-in_err-pair_refusal : goal.returns-in_err-pair_refusal
returns-in_err-pair_refusal c = refused_tables _ _ _ _ _ _ c.from_residual.ensures.1 c.in_err-pair_refusal.ensures

pub view-requires : goal.view-requires
view-requires c =
    let s = c.args in
    let w = pair-formed s.a.now s.b.now (sym c.in_ok-pair_refusal.ensures) in
    sym (table-passed s.a.now 0 w.first)

pub view-requires-2 : goal.view-requires-2
view-requires-2 c =
    let s = c.args in
    let w = pair-formed s.a.now s.b.now (sym c.in_ok-pair_refusal.ensures) in
    sym (table-passed s.b.now 0 w.second)

pub invariant_of-tables : goal.invariant_of-tables
invariant_of-tables c =
    let s = c.args in
    let w = pair-formed s.a.now s.b.now (sym c.in_ok-pair_refusal.ensures) in
    record { one_edition = c.view.ensures.ts ∙ rw w.same (sym c.view-2.ensures.ts) }

pub show_in-requires : goal.show_in-requires
show_in-requires c =
    let s = c.args in
    let low-a : (k : ℕ) → get_or s.a.now k 0 < 4294967296 = λ k. omega (arith, c.type_inv.a k) in
    let low-b : (k : ℕ) → get_or s.b.now k 0 < 4294967296 = λ k. omega (arith, c.type_inv.b k) in
    let w = pair-formed s.a.now s.b.now (sym c.in_ok-pair_refusal.ensures) in
    let left = c.view.ensures in
    let right = c.view-2.ensures in
    rw (left.words, left.ts, left.runs, right.words, right.runs) (text_short s.a.now s.b.now w low-a low-b)

pub returns : goal.returns
returns c =
    let s = c.args in
    let none : pair_refusal s.a.now s.b.now ≡ 0 = sym c.in_ok-pair_refusal.ensures in
    let left = c.view.ensures in
    let right = c.view-2.ensures in
    rw none (rw (left.words, left.ts, left.runs, right.words, right.runs) at c.show_in.ensures)
