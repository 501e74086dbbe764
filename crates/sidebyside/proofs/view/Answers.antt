-- `sidebyside::view` meets its contract: what a well-formed table's words say of its state. Assumes nothing.
use Prim.Native.Nat.{◌<◌, ℕ}
use Rattle.differences.proofs.Ways.{table-formed}
use Rattle.sidebyside.proofs.Ways.{keys_are, runs_is, table_is}
use lib.ListN.{get_or}
use native.Mathlib.Omega.{arith}
use Rattle.sidebyside.proofs.view.Goals as goal

pub invariant_of-keys : goal.invariant_of-keys
invariant_of-keys c = let ts = c.task_size-ts.result in record { table = table_is c.args.words.now (table-formed c.args.words.now c.requires) c.task_size-ts.ensures ts.low ts.high }

pub invariant_of-result : goal.invariant_of-result
invariant_of-result c =
    let t = c.args.words.now in
    let low : (k : ℕ) → get_or t k 0 < 4294967296 = λ k. omega (arith, c.type_inv.words k) in
    record { keys_of = keys_are t (table-formed t c.requires) low c.task_size-ts.ensures c.keys.ensures.each }

pub returns-clause-runs : goal.returns-clause-runs
returns-clause-runs c =
    let t = c.args.words.now in
    let low : (k : ℕ) → get_or t k 0 < 4294967296 = λ k. omega (arith, c.type_inv.words k) in
    runs_is t (table-formed t c.requires) low c.task_size-ts.ensures c.next.ensures
