use Rattle.std.proofs.Common.{length, arith}
use Rattle.yew_knap.specs.CopyLaws.{searched_copies-small}
use Rattle.yew_knap.specs.Copies.{searched_copies}
use Rattle.yew_knap.proofs.Gains.{gains}
use Rattle.yew_knap.proofs.PlaceTable.{length-places}
use Rattle.yew_knap.proofs.knapsack.Knapsack.greedy_gain.Goals as goal

pub offset_bounds-places-next : goal.offset_bounds-places-next
offset_bounds-places-next c =
    omega (arith, length-places (searched_copies c.args.self.now) c.places-places.result.now c.places-places.ensures, c.requires.next)

pub bounds-places-next : goal.bounds-places-next
bounds-places-next c =
    omega (arith, length-places (searched_copies c.args.self.now) c.places-places.result.now c.places-places.ensures, c.requires.next)

pub offset_bounds-places-breaking : goal.offset_bounds-places-breaking
offset_bounds-places-breaking c =
    let g = gains (searched_copies c.args.self.now) c.places-places.result.now c.places-places.ensures (length c.args.self.now.items) (searched_copies-small c.args.self.now c.requires.limits) c.args.next c.args.room c.requires.next c.args.breaking c.requires.breaking in
    omega (arith, length-places (searched_copies c.args.self.now) c.places-places.result.now c.places-places.ensures, g.within)

pub bounds-places-breaking : goal.bounds-places-breaking
bounds-places-breaking c =
    let g = gains (searched_copies c.args.self.now) c.places-places.result.now c.places-places.ensures (length c.args.self.now.items) (searched_copies-small c.args.self.now c.requires.limits) c.args.next c.args.room c.requires.next c.args.breaking c.requires.breaking in
    omega (arith, length-places (searched_copies c.args.self.now) c.places-places.result.now c.places-places.ensures, g.within)

pub overflow_sub-gain : goal.overflow_sub-gain
overflow_sub-gain c =
    let g = gains (searched_copies c.args.self.now) c.places-places.result.now c.places-places.ensures (length c.args.self.now.items) (searched_copies-small c.args.self.now c.requires.limits) c.args.next c.args.room c.requires.next c.args.breaking c.requires.breaking in
    omega (arith, g.profits_rise)

pub overflow_sub-left : goal.overflow_sub-left
overflow_sub-left c =
    let g = gains (searched_copies c.args.self.now) c.places-places.result.now c.places-places.ensures (length c.args.self.now.items) (searched_copies-small c.args.self.now c.requires.limits) c.args.next c.args.room c.requires.next c.args.breaking c.requires.breaking in
    omega (arith, g.weights_rise)

pub overflow_sub-left-2 : goal.overflow_sub-left-2
overflow_sub-left-2 c =
    let g = gains (searched_copies c.args.self.now) c.places-places.result.now c.places-places.ensures (length c.args.self.now.items) (searched_copies-small c.args.self.now c.requires.limits) c.args.next c.args.room c.requires.next c.args.breaking c.requires.breaking in
    omega (arith, g.fits)

pub overflow_mul-product : goal.overflow_mul-product
overflow_mul-product c =
    let g = gains (searched_copies c.args.self.now) c.places-places.result.now c.places-places.ensures (length c.args.self.now.items) (searched_copies-small c.args.self.now c.requires.limits) c.args.next c.args.room c.requires.next c.args.breaking c.requires.breaking in
    omega (arith, g.product)

pub quotient-requires-clause-weighs : goal.quotient-requires-clause-weighs
quotient-requires-clause-weighs c =
    (gains (searched_copies c.args.self.now) c.places-places.result.now c.places-places.ensures (length c.args.self.now.items) (searched_copies-small c.args.self.now c.requires.limits) c.args.next c.args.room c.requires.next c.args.breaking c.requires.breaking).weighs

pub quotient-requires-clause-reciprocal : goal.quotient-requires-clause-reciprocal
quotient-requires-clause-reciprocal c =
    (gains (searched_copies c.args.self.now) c.places-places.result.now c.places-places.ensures (length c.args.self.now.items) (searched_copies-small c.args.self.now c.requires.limits) c.args.next c.args.room c.requires.next c.args.breaking c.requires.breaking).reciprocal

pub overflow_add-result : goal.overflow_add-result
overflow_add-result c =
    let g = gains (searched_copies c.args.self.now) c.places-places.result.now c.places-places.ensures (length c.args.self.now.items) (searched_copies-small c.args.self.now c.requires.limits) c.args.next c.args.room c.requires.next c.args.breaking c.requires.breaking in
    omega (arith, g.gain, c.quotient.ensures, c.requires.small)

pub returns : goal.returns
returns c =
    let g = gains (searched_copies c.args.self.now) c.places-places.result.now c.places-places.ensures (length c.args.self.now.items) (searched_copies-small c.args.self.now c.requires.limits) c.args.next c.args.room c.requires.next c.args.breaking c.requires.breaking in
    omega (arith, g.gain, c.quotient.ensures)
