-- `listing::measure` meets its contract: what is measured and what is left is the whole. Assumes nothing.
use Prim.Native.Nat.{◌+◌}
use Rattle.listing.proofs.Passes.{measured, rest_all, rest_none}
use Rattle.listing.specs.Listing.{line_at}
use lib.ListN.{length}
use mathlib.Core.Path.{◌∙◌, ap}
use native.Mathlib.Nat.{zero-add}
use native.Mathlib.Omega.{arith}
use Rattle.listing.proofs.measure.Goals as goal

pub loop-k-init : goal.loop-k-init
loop-k-init c = let a = c.args in (omega arith, rw zero-add (ap length (rest_all (line_at a.ts.words a.t.now a.n) (1 + a.n + a.m))))

pub overflow_add-bytes : goal.overflow_add-bytes
overflow_add-bytes c = omega (arith, c.loop-k.invariant.0, c.numbers_length-bytes.ensures.upper_bound, c.requires.n_bound, c.requires.m_bound)

pub loop-k-preserved : goal.loop-k-preserved
loop-k-preserved c =
    let a = c.args in
    let l = c.loop-k in
    (omega (arith, l.invariant.0, c.numbers_length-bytes.ensures.upper_bound), measured (line_at a.ts.words a.t.now a.n) (1 + a.n + a.m) l.k l.bytes c.numbers_length-bytes.result (omega arith) (c.numbers_length-bytes.ensures.value ∙ rw c.line_at-line.ensures) l.invariant.1)

pub returns : goal.returns
returns c =
    let a = c.args in
    let l = c.loop-k in record { value = omega (arith, l.invariant.1, ap length (rest_none (line_at a.ts.words a.t.now a.n) (1 + a.n + a.m) l.k (omega arith))); upper_bound = omega (arith, l.invariant.0, c.requires.n_bound, c.requires.m_bound) }
