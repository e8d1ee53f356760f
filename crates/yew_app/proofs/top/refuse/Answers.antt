use Rattle.yew_app.specs.Reasons.{reason_of}
use Rattle.yew_app.specs.Refusals.{fault_line}
use Rattle.yew_app.proofs.Writing.{prefix_whole}
use Rattle.yew_app.proofs.top.refuse.Goals as goal

pub returns-in-Ok-clause-prefix : goal.returns-in-Ok-clause-prefix
returns-in-Ok-clause-prefix g c =
    prefix_whole (g.E.Sink.written c.args.sink.now) (g.E.Sink.written c.write_fault_line.new.sink) (fault_line (reason_of c.args.refusal)) c.in-Ok.ensures.whole
