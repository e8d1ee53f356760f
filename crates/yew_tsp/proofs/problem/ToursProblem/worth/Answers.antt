use Rattle.std.proofs.Common.{◌<◌, ◌^◌, sym, arith}
use Rattle.yew_tsp.specs.BoundLaws.{lower-small, step_back, tour-lower, tour-small, worth-whole, worth-part}
use Rattle.yew_tsp.proofs.Leaves.{none-left, some-left}
use Rattle.yew_tsp.proofs.problem.ToursProblem.worth.Goals as goal

pub returns-then-node-ne0 : goal.returns-then-node-ne0
returns-then-node-ne0 c =
    let node = c.args.node.now in
    let fits : node.unvisited < 2 ^ 64 = omega arith in
    sym (worth-part c.args.self.now node c.requires.node (some-left c.args.self.now node c.requires.node c.if-node-ne0.true fits))

pub overflow_add-result : goal.overflow_add-result
overflow_add-result c =
    let lower = c.requires.node.lower_is in
    let small = lower-small c.args.self.now c.args.node.now c.requires.node in
    omega (arith, lower, small)

pub overflow_sub-result : goal.overflow_sub-result
overflow_sub-result c =
    let lower = c.requires.node.lower_is in
    let all = none-left c.args.self.now c.args.node.now c.requires.node c.if-node-ne0.false in
    let tour = tour-lower c.args.self.now c.args.node.now c.requires.node all in
    let back = step_back c.args.self.now c.args.node.now c.requires.node all in
    let small = tour-small c.args.self.now c.args.node.now c.requires.node in
    let surplus = c.surplus.ensures in
    omega (arith, lower, tour, back, small, surplus)

pub returns : goal.returns
returns c =
    let lower = c.requires.node.lower_is in
    let all = none-left c.args.self.now c.args.node.now c.requires.node c.if-node-ne0.false in
    let tour = tour-lower c.args.self.now c.args.node.now c.requires.node all in
    let back = step_back c.args.self.now c.args.node.now c.requires.node all in
    let worth = worth-whole c.args.self.now c.args.node.now c.requires.node all in
    let surplus = c.surplus.ensures in
    omega (arith, lower, tour, back, worth, surplus)
