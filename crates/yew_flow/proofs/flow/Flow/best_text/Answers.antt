use Rattle.std.proofs.Common.{◌≡◌, ◌-◌, ◌^◌, rules}
use Rattle.yew_flow.specs.Nodes.{jobs_of}
use Rattle.yew_flow.specs.Texts.{best_lines}
use Rattle.yew_flow.proofs.Rights.{best-right}
use Rattle.yew_flow.proofs.flow.Flow.best_text.Goals as goal

pub returns-clause-right : goal.returns-clause-right
returns-clause-right c =
    let text : c.push_jobs.new.out.items ≡ best_lines (2 ^ 37 - c.args.worth) (jobs_of c.args.node.now) = search rules in
    best-right c.args.self.now c.requires.root.limits c.args.node.now c.requires.node c.args.worth c.requires.worth c.requires.some c.push_jobs.new.out.items text
