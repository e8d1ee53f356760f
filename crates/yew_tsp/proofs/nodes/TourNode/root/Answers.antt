use Rattle.std.proofs.Common.{◌+◌, ◌^◌, ◌≤◌, arith}
use Rattle.std.proofs.Math.Nat.{pow-le-pow_right}
use Rattle.yew_tsp.proofs.nodes.TourNode.root.Goals as goal

pub overflow_sub-result : goal.overflow_sub-result
overflow_sub-result c =
    let one : 2 ≤ c.args.cities + 1 = omega arith in
    let top : c.args.cities + 1 ≤ 61 = omega arith in
    let least : 2 ^ 2 ≤ 2 ^ (c.args.cities + 1) = pow-le-pow_right {n = 2} (omega arith) {i = 2} {j = c.args.cities + 1} one in
    let most : 2 ^ (c.args.cities + 1) ≤ 2 ^ 61 = pow-le-pow_right {n = 2} (omega arith) {i = c.args.cities + 1} {j = 61} top in
    omega (arith, least, most)
