use Rattle.std.proofs.Common.{arith}
use Rattle.yew_knap.specs.Copies.{searched_copies}
use Rattle.yew_knap.proofs.PlaceTable.{length-places, after-at, not_end, breaking-at}
use Rattle.yew_knap.proofs.knapsack.Knapsack.find_breaking.Goals as goal

pub offset_bounds-places-place : goal.offset_bounds-places-place
offset_bounds-places-place c = omega (arith, length-places (searched_copies c.args.self.now) c.places-places.result.now c.places-places.ensures, c.loop-place.invariant.0)

pub bounds-places-place : goal.bounds-places-place
bounds-places-place c = omega (arith, length-places (searched_copies c.args.self.now) c.places-places.result.now c.places-places.ensures, c.loop-place.invariant.0)

pub overflow_add-place : goal.overflow_add-place
overflow_add-place c =
    let less = not_end (searched_copies c.args.self.now) c.places-places.result.now c.places-places.ensures c.loop-place.place c.args.room c.loop-place.invariant.0 c.requires.room (omega arith) in
    omega (arith, less, length-places (searched_copies c.args.self.now) c.places-places.result.now c.places-places.ensures)

pub loop-place-smaller : goal.loop-place-smaller
loop-place-smaller c =
    let less = not_end (searched_copies c.args.self.now) c.places-places.result.now c.places-places.ensures c.loop-place.place c.args.room c.loop-place.invariant.0 c.requires.room (omega arith) in
    omega (arith, less)

pub loop-place-preserved : goal.loop-place-preserved
loop-place-preserved c =
    let less = not_end (searched_copies c.args.self.now) c.places-places.result.now c.places-places.ensures c.loop-place.place c.args.room c.loop-place.invariant.0 c.requires.room (omega arith) in
    (omega (arith, less), omega (arith, after-at (searched_copies c.args.self.now) c.places-places.result.now c.places-places.ensures c.loop-place.place less))

pub returns : goal.returns
returns c = breaking-at (searched_copies c.args.self.now) c.places-places.result.now c.places-places.ensures c.loop-place.place c.args.room c.loop-place.invariant.0 c.loop-place.invariant.1 (omega arith)
