use Rattle.std.proofs.Common.{◌≡◌, ◌-◌, rules}
use Rattle.yew_knap.specs.Nodes.{chosen_of}
use Rattle.yew_knap.specs.Texts.{best_lines}
use Rattle.yew_knap.proofs.Rights.{best-right}
use Rattle.yew_knap.proofs.knapsack.Knapsack.best_text.Goals as goal

pub returns-clause-right : goal.returns-clause-right
returns-clause-right c =
    let text : c.push_items.new.out.items ≡ best_lines (c.args.worth - 1) (chosen_of c.args.self.now c.args.node.now) = search rules in
    best-right c.args.self.now c.requires.root.limits c.args.node.now c.requires.node c.args.worth c.requires.worth c.push_items.new.out.items text
