-- `runner::answer_line` meets its contract: a good line by `answer_call`, a bad one by its text alone.
use Rattle.lines.proofs.Putting.{put-fits}
use Rattle.runner.proofs.Runs.{answered_bad}
use native.Mathlib.Omega.{arith}
use Rattle.runner.proofs.answer_line.Goals as goal

pub returns-in-Err : goal.returns-in-Err
returns-in-Err c =
    let w = c.write_bad in
    rw c.in-Err.is
    (answered_bad c.args.t.now c.args.out.now c.args.at c.in-Err.bad w.result w.new.out w.ensures
    (put-fits _ _ _ w.result w.new.out w.ensures (omega (arith, c.requires)) w.auto.out))
