-- `records::task` meets its contract: each word by `field`, the message by `message`; the first stands at the record's place itself. Assumes nothing.
use Rattle.records.specs.Records.{task_at}
use native.Mathlib.Nat.{add-zero}
use native.Mathlib.Omega.{arith}
use Rattle.records.proofs.task.Goals as goal

pub overflow_add-p-2 : goal.overflow_add-p-2
overflow_add-p-2 c = omega (arith, c.record_at-p.ensures.low, c.width_of-w.ensures, c.args.ts.high)

pub returns : goal.returns
unfolding task_at
returns c =
    let w = c.width_of-w.ensures in
    record {
      value = rw (
        c.field.ensures,
        c.field-2.ensures,
        c.field-3.ensures,
        c.field-4.ensures,
        c.field-5.ensures,
        c.field-6.ensures,
        c.message.ensures.value,
        c.word.ensures,
        c.record_at-p.ensures.place,
        w,
        add-zero,
      );
      low = rw w at c.message.ensures.low;
    }
