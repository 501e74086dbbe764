-- `runner::answer_call` meets its contract: the kernel's promise, and the text of its reply.
use Rattle.lines.proofs.Putting.{put-fits}
use Rattle.runner.proofs.Runs.{answered-call}
use native.Mathlib.Omega.{arith}
use Rattle.runner.proofs.answer_call.Goals as goal

pub returns : goal.returns
returns c =
    answered-call c.args.t.now c.args.out.now c.args.at c.args.call c.call-reply.result
    c.refusal_number.result c.answer_number.result c.write_reply.result c.call-reply.new.t c.write_reply.new.out
    c.call-reply.ensures c.refusal_number.ensures c.answer_number.ensures c.write_reply.ensures
    (put-fits c.args.out.now c.args.at _ c.write_reply.result c.write_reply.new.out c.write_reply.ensures (omega (arith, c.requires)) c.write_reply.auto.out)
