use Rattle.std.proofs.Common.{◌≡◌, ◌+◌, ◌-◌, ap, arith}
use Rattle.yew_tsp.specs.Instance.{weight_between}
use Rattle.yew_tsp.specs.Nodes.{least_weight, extended}
use Rattle.yew_tsp.proofs.Children.{sum-small, step-least}
use Rattle.yew_tsp.proofs.tours.Tours.extend.Goals as goal

pub overflow_add-result-2 : goal.overflow_add-result-2
overflow_add-result-2 c =
    let small = sum-small c.args.self.now c.args.node.now c.args.city c.requires.written c.requires.child in
    let surplus = c.surplus-surplus.ensures in
    omega (arith, small, surplus)

pub returns : goal.returns
returns c =
    let node = c.args.node.now in
    let least = step-least c.args.self.now node c.args.city c.requires.written c.requires.child in
    let surplus = c.surplus-surplus.ensures in
    let lower : node.lower + c.surplus-surplus.result ≡ node.lower + weight_between c.args.self.now node.last c.args.city - least_weight c.args.self.now node.last = omega (arith, least, surplus) in
    ap (λ n. record (extended c.args.self.now node c.args.city) { lower = n }) lower
