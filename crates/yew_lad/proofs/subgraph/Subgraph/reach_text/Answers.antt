use Rattle.std.proofs.Common.{◌≡◌, MatchOption, rules}
use Rattle.yew_lad.specs.Nodes.{images_of}
use Rattle.yew_lad.specs.Texts.{yes_lines, no_line}
use Rattle.yew_lad.proofs.Rights.{decision-right}
use Rattle.yew_lad.proofs.subgraph.Subgraph.reach_text.Goals as goal

pub returns-clause-right : goal.returns-clause-right
returns-clause-right c =
    let text : MatchOption c.args.node (c.match-node.text.items ≡ no_line) (λ n. c.match-node.text.items ≡ yes_lines (images_of c.args.self.now n.now)) = search rules in
    decision-right c.args.self.now c.requires.root.limits c.args.node c.match-node.text.items c.requires.node text
