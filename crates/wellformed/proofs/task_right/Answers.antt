-- `wellformed::task_right` meets its contract: by its mark. Assumes nothing.
use Rattle.rules.specs.Table.{read}
use Rattle.wellformed.proofs.task_right.Goals as goal

pub listed_right-requires : goal.listed_right-requires
listed_right-requires c = record { row = record { low = c.args.t.now.used.low; high = c.args.t.now.used.high; long = c.requires.x_len } }

pub returns-then-mark-eq1 : goal.returns-then-mark-eq1
returns-then-mark-eq1 c L y = rw c.if-mark-eq1.true (c.listed_right.ensures L y)

pub idle_right-requires : goal.idle_right-requires
idle_right-requires c = record { row = record { low = c.args.t.now.used.low; high = c.args.t.now.used.high; long = c.requires.x_len }; fact = c.if-mark-eq1.false }

pub returns : goal.returns
returns c L y = c.idle_right.ensures L (read L c.args.t.now.words.now) y
