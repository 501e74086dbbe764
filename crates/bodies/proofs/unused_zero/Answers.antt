-- `bodies::unused_zero` meets its contract: each of its four parts is zeros. Assumes nothing.
use Prim.Native.Nat.{◌*◌, ◌+◌}
use Rattle.rules.specs.Table.{hubs_at, ready_at, size, store_size, stores_at, waits_at}
use Rattle.rules.specs.WellFormed.{unused_zero}
use lib.ListN.{get_or}
use mathlib.Core.Path.{◌≡◌}
use native.Mathlib.Nat.{mul-le-mul_right}
use native.Mathlib.Omega.{arith}
use Rattle.bodies.proofs.unused_zero.Goals as goal

-- the task records in use, and the stores, lie inside the 16
pub overflow_mul-n : goal.overflow_mul-n
overflow_mul-n c = omega (arith, mul-le-mul_right c.args.t.now.ts.words c.args.t.now.used.tasks)

pub overflow_add-n : goal.overflow_add-n
overflow_add-n c = omega (arith, mul-le-mul_right c.args.t.now.ts.words c.args.t.now.used.tasks)

pub zero_from-requires : goal.zero_from-requires
zero_from-requires c = (omega (arith, mul-le-mul_right c.args.t.now.ts.words c.args.t.now.used.tasks), omega arith)

pub overflow_mul-m-2 : goal.overflow_mul-m-2
overflow_mul-m-2 c = omega (arith, mul-le-mul_right c.store_size.result c.args.t.now.used.hubs)

pub overflow_add-stores : goal.overflow_add-stores
overflow_add-stores c = omega (arith, mul-le-mul_right c.store_size.result c.args.t.now.used.hubs)

pub zero_from-requires-4 : goal.zero_from-requires-4
zero_from-requires-4 c = (omega (arith, mul-le-mul_right c.store_size.result c.args.t.now.used.hubs), omega arith)

pub returns : goal.returns
unfolding unused_zero
returns c L y =
    let m = get_or c.args.t.now.words.now 2 0 in
    let hubs : c.hubs_at-hubs.result ≡ hubs_at L = omega arith in
    let ready : c.ready_at.result ≡ ready_at L = omega arith in
    let waits : c.waits_at.result ≡ waits_at L + m * 16 = omega arith in
    let at : c.stores_at-stores.result ≡ stores_at L = omega arith in
    let long : c.store_size.result ≡ store_size L = omega arith in
    let all : c.table_size.result ≡ size L = omega arith in
    rw (
      c.zero_from.ensures,
      c.zero_from-2.ensures,
      c.zero_from-3.ensures,
      c.zero_from-4.ensures,
      hubs,
      ready,
      waits,
      at,
      long,
      all,
      y.size,
    )
