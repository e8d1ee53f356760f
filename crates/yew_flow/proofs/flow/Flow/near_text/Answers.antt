use Rattle.std.proofs.Common.{◌≡◌, ◌-◌, ◌^◌, rules}
use Rattle.yew_flow.specs.Nodes.{jobs_of}
use Rattle.yew_flow.specs.Texts.{near_lines}
use Rattle.yew_flow.proofs.Rights.{near-right}
use Rattle.yew_flow.proofs.flow.Flow.near_text.Goals as goal

pub returns-clause-right : goal.returns-clause-right
returns-clause-right c =
    let text : c.push_jobs.new.out.items ≡ near_lines (2 ^ 37 - c.args.worth) c.args.gap (jobs_of c.args.node.now) = search rules in
    near-right c.args.self.now c.requires.root.limits c.args.node.now c.requires.node c.args.worth c.requires.worth c.requires.some c.args.gap c.push_jobs.new.out.items text
