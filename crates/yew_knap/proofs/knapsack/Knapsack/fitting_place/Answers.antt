use Rattle.std.proofs.Common.{arith}
use Rattle.yew_knap.specs.Copies.{searched_copies}
use Rattle.yew_knap.proofs.PlaceTable.{length-places, weight-at}
use Rattle.yew_knap.proofs.knapsack.Knapsack.fitting_place.Goals as goal

pub returns-then-places-likely-clause-within : goal.returns-then-places-likely-clause-within
returns-then-places-likely-clause-within c = omega (arith, length-places (searched_copies c.args.self.now) c.places-places.result.now c.places-places.ensures)

pub returns-then-places-likely-clause-fit : goal.returns-then-places-likely-clause-fit
returns-then-places-likely-clause-fit c =
    omega (arith, weight-at (searched_copies c.args.self.now) c.places-places.result.now c.places-places.ensures c.args.likely (omega (arith, length-places (searched_copies c.args.self.now) c.places-places.result.now c.places-places.ensures)))
