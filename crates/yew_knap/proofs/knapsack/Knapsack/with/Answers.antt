use Rattle.std.proofs.Common.{◌≡◌, ◌+◌, ◌-◌, ◌∙◌, Some, ap, sym, arith}
use Rattle.yew_knap.specs.declared.places.Place.{Place}
use Rattle.yew_knap.specs.Nodes.{added, breaking_place, item_of}
use Rattle.yew_knap.specs.Copies.{searched_copies}
use Rattle.yew_knap.specs.CopyLaws.{length-searched_copies}
use Rattle.yew_knap.proofs.Adding.{profit-small, room-small, fits-with, breaking-added}
use Rattle.yew_knap.proofs.PlaceTable.{length-places, item-at, weight-at, index-here}
use Rattle.yew_knap.proofs.knapsack.Knapsack.with.Goals as goal

pub offset_bounds-places-place : goal.offset_bounds-places-place
offset_bounds-places-place c =
    omega (arith, length-places (searched_copies c.args.self.now) c.places.result.now c.places.ensures, c.requires.within)

pub bounds-places-place : goal.bounds-places-place
bounds-places-place c =
    omega (arith, length-places (searched_copies c.args.self.now) c.places.result.now c.places.ensures, c.requires.within)

pub overflow_add-next : goal.overflow_add-next
overflow_add-next c =
    omega (arith, length-places (searched_copies c.args.self.now) c.places.result.now c.places.ensures, c.requires.within)

pub overflow_add-room : goal.overflow_add-room
overflow_add-room c =
    omega (arith, weight-at (searched_copies c.args.self.now) c.places.result.now c.places.ensures c.args.place (omega (arith, c.requires.within)), room-small c.args.self.now c.args.kids.now c.args.place c.requires.within c.requires.fits c.requires.sound)

pub overflow_add-result : goal.overflow_add-result
overflow_add-result c =
    let profit = ap (λ (p : Place). p.profit) (item-at (searched_copies c.args.self.now) c.places.result.now c.places.ensures c.args.place c.requires.within) in
    omega (arith, profit, profit-small c.args.self.now c.args.kids.now c.args.place c.requires.within c.requires.fits c.requires.sound)

pub overflow_sub-result : goal.overflow_sub-result
overflow_sub-result c =
    let weight = ap (λ (p : Place). p.weight) (item-at (searched_copies c.args.self.now) c.places.result.now c.places.ensures c.args.place c.requires.within) in
    omega (arith, weight, c.requires.fits)

pub find_breaking-requires-clause-fit : goal.find_breaking-requires-clause-fit
find_breaking-requires-clause-fit c =
    omega (arith, weight-at (searched_copies c.args.self.now) c.places.result.now c.places.ensures c.args.place (omega (arith, c.requires.within)), fits-with c.args.self.now c.args.kids.now c.args.place c.requires.within c.requires.fits c.requires.sound)

pub find_breaking-requires-clause-room : goal.find_breaking-requires-clause-room
find_breaking-requires-clause-room c =
    omega (arith, weight-at (searched_copies c.args.self.now) c.places.result.now c.places.ensures c.args.place (omega (arith, c.requires.within)), room-small c.args.self.now c.args.kids.now c.args.place c.requires.within c.requires.fits c.requires.sound)

pub overflow_cast-result-3 : goal.overflow_cast-result-3
overflow_cast-result-3 c =
    omega (arith, c.requires.within, length-searched_copies c.args.self.now, c.requires.sound.limits.few_copies)

pub returns : goal.returns
returns c =
    let order = searched_copies c.args.self.now in
    let kids = c.args.kids.now in
    let place = c.args.place in
    let whole = added c.args.self.now kids place (item_of order place) in
    let room = ap (λ w. w + kids.room) (weight-at (searched_copies c.args.self.now) c.places.result.now c.places.ensures place (omega (arith, c.requires.within))) in
    let breaking : c.find_breaking.result ≡ whole.breaking = c.find_breaking.ensures ∙ ap (λ r. breaking_place r 0 order) room ∙ breaking-added c.args.self.now kids place c.requires.within c.requires.fits c.requires.sound in
    ap (λ (p : Place). record { profit = kids.profit + p.profit; room = kids.room - p.weight; next = place + 1; breaking = c.find_breaking.result; earlier = kids.chosen; last = Some place }) (item-at (searched_copies c.args.self.now) c.places.result.now c.places.ensures place c.requires.within)
    ∙ ap (λ b. record { profit = kids.profit + (item_of order place).profit; room = kids.room - (item_of order place).weight; next = place + 1; breaking = b; earlier = kids.chosen; last = Some place }) breaking
    ∙ ap (λ i. record { profit = kids.profit + (item_of order place).profit; room = kids.room - (item_of order place).weight; next = place + 1; breaking = whole.breaking; earlier = kids.chosen; last = Some i }) (sym (index-here c.args.self.now place c.requires.within))
