use Rattle.std.proofs.Common.{◌≡◌, ◌-◌, ◌^◌, rules}
use Rattle.yew_tsp.specs.Nodes.{cities_of}
use Rattle.yew_tsp.specs.Texts.{near_lines}
use Rattle.yew_tsp.proofs.Rights.{near-right}
use Rattle.yew_tsp.proofs.tours.Tours.near_text.Goals as goal

pub returns-clause-right : goal.returns-clause-right
returns-clause-right c =
    let text : c.push_cities.new.out.items ≡ near_lines (2 ^ 37 - c.args.worth) c.args.gap (cities_of c.args.node.now) = search rules in
    near-right c.args.self.now c.requires.root.limits c.args.node.now c.requires.node c.args.worth c.requires.worth c.requires.some c.args.gap c.push_cities.new.out.items text
