-- `records::record_at` meets its contract: the one product of the crate, bounded once; a record ends before the next begins. Assumes nothing.
use mathlib.Core.Path.{refl}
use native.Mathlib.Nat.{mul-le-mul, mul-le-mul_right, suc-mul}
use native.Mathlib.Omega.{arith}
use Rattle.records.proofs.record_at.Goals as goal

pub overflow_mul-result : goal.overflow_mul-result
overflow_mul-result c = omega (arith, mul-le-mul c.requires.i_bound c.requires.size_bound)

pub overflow_add-result : goal.overflow_add-result
overflow_add-result c = omega (arith, mul-le-mul c.requires.i_bound c.requires.size_bound)

pub returns : goal.returns
returns c =
    let a = c.args in
    record {
      place = refl;
      low = omega (arith, mul-le-mul c.requires.i_bound c.requires.size_bound);
      inside = λ h. omega (arith, suc-mul a.i a.size, mul-le-mul_right a.size h);
    }
