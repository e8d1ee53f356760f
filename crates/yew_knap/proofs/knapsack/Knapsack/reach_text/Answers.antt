use Rattle.std.proofs.Common.{◌≡◌, MatchOption, rules}
use Rattle.yew_knap.specs.Nodes.{chosen_of}
use Rattle.yew_knap.specs.Texts.{yes_lines, no_line}
use Rattle.yew_knap.proofs.Rights.{decision-right}
use Rattle.yew_knap.proofs.knapsack.Knapsack.reach_text.Goals as goal
use Rattle.yew_knap.proofs.knapsack.Knapsack.reach_text.Goals.{in-None+in_ok-push_text-in-None, in-Some+in_ok-push_text-in-Some+in_ok-push_items-in-Some}

pub returns-clause-right : goal.returns-clause-right
returns-clause-right c =
    let text : MatchOption c.args.node (c.match-node.text.items ≡ no_line) (λ n. c.match-node.text.items ≡ yes_lines (chosen_of c.args.self.now n.now)) = search rules in
    decision-right c.args.self.now c.requires.root.limits c.args.node c.match-node.text.items c.requires.node text
