use Rattle.std.proofs.Common.{arith}
use Rattle.yew_tsp.specs.Instance.{Instance}
use Rattle.yew_tsp.proofs.Least.{least_behind-other, least_behind-own, least_behind-none, least_behind-all, least_behind-small}
use Rattle.yew_tsp.proofs.tours.least_from.Goals as goal
use Rattle.yew_tsp.proofs.tours.least_from.Goals.{then-other-city, else-other-city}

pub loop-other-init : goal.loop-other-init
loop-other-init c =
    let instance : Instance = record { cities = c.args.cities; weights = c.args.weights.now } in
    let all = least_behind-all instance c.args.city in
    let small = least_behind-small instance c.args.city 1 in
    record { least = omega (arith, all, small); small = omega arith }

pub loop-other-preserved : goal.loop-other-preserved
loop-other-preserved c =
    let instance : Instance = record { cities = c.args.cities; weights = c.args.weights.now } in
    let before = c.loop-other.invariant.least in
    let most = c.loop-other.invariant.small in
    elim c.if-other-city.branch [
      | then-other-city w ↦
          let step = least_behind-other instance c.args.city c.loop-other.other c.loop-other-test.true w.if-other-city.true c.loop-other.least in
          record { least = omega (arith, before, step); small = omega (arith, most) }
      | else-other-city w ↦
          let step = least_behind-own instance c.args.city c.loop-other.other c.loop-other-test.true w.if-other-city.false in
          record { least = omega (arith, before, step); small = omega (arith, most) }
    ]

pub returns : goal.returns
returns c =
    let instance : Instance = record { cities = c.args.cities; weights = c.args.weights.now } in
    let none = least_behind-none instance c.args.city c.loop-other.other (omega arith) in
    let least = c.loop-other.invariant.least in
    let most = c.loop-other.invariant.small in
    omega (arith, least, most, none)
