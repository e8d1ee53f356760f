use Rattle.std.proofs.Common.{◌≡◌, ◌-◌, rules}
use Rattle.yew_knap.specs.Nodes.{chosen_of}
use Rattle.yew_knap.specs.Texts.{near_lines}
use Rattle.yew_knap.proofs.Rights.{near-right}
use Rattle.yew_knap.proofs.knapsack.Knapsack.near_text.Goals as goal

pub returns-clause-right : goal.returns-clause-right
returns-clause-right c =
    let text : c.push_items.new.out.items ≡ near_lines (c.args.worth - 1) c.args.gap (chosen_of c.args.self.now c.args.node.now) = search rules in
    near-right c.args.self.now c.requires.root.limits c.args.node.now c.requires.node c.args.worth c.args.gap c.requires.worth c.push_items.new.out.items text
