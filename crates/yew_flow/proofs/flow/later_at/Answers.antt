use Rattle.std.proofs.Common.{◌∙◌, sym}
use Rattle.yew_flow.specs.Instance.{Instance}
use Rattle.yew_flow.proofs.LaterTable.{later-within}
use Rattle.yew_flow.proofs.flow.later_at.Goals as goal

pub returns : goal.returns
returns c =
    let instance : Instance = record { jobs = c.args.jobs; machines = c.args.machines; times = c.args.times.now } in
    c.later_sum.ensures ∙ sym (later-within instance c.args.place c.if-job-jobs.false)
