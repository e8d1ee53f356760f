use Rattle.std.proofs.Common.{◌≡◌, ◌+◌, ◌<◌, ◌∙◌, [], ◌∷◌, List, drop, length, ap, sym, subst, arith}
use Rattle.yew_knap.specs.declared.copies.ItemCopy.{ItemCopy}
use Rattle.yew_knap.specs.declared.nodes.KnapKids.{KnapKids}
use Rattle.yew_knap.specs.declared.nodes.KnapNode.{KnapNode}
use Rattle.yew_knap.specs.declared.places.Place.{Place}
use Rattle.yew_knap.specs.Copies.{searched_copies}
use Rattle.yew_knap.specs.Nodes.{added, item_of, remaining_of, IsNode}
use Rattle.yew_knap.specs.Places.{next_item}
use Rattle.yew_knap.proofs.Leasts.{none_fits}
use Rattle.yew_knap.proofs.Nexts.{moved_to, passes, gives, child, none_left, nothing_behind}
use Rattle.yew_knap.proofs.PlaceTable.{length-places, item-at, index-here}
use Rattle.yew_knap.proofs.problem.KnapsackProblem.next.Goals as goal

pub offset_bounds-places-place : goal.offset_bounds-places-place
offset_bounds-places-place c =
    omega (arith, length-places (searched_copies c.args.self.now) c.places-places.result.now c.places-places.ensures, ap length c.copies-end.ensures)

pub bounds-places-place : goal.bounds-places-place
bounds-places-place c =
    omega (arith, length-places (searched_copies c.args.self.now) c.places-places.result.now c.places-places.ensures, ap length c.copies-end.ensures)

pub with-node-requires-clause-fits : goal.with-node-requires-clause-fits
with-node-requires-clause-fits c =
    let order = searched_copies c.args.self.now in
    let place = c.loop-place.place in
    let within : place < length order = omega (arith, ap length c.copies-end.ensures) in
    let weight = ap (λ (p : Place). p.weight) (item-at order c.places-places.result.now c.places-places.ensures place within) in
    omega (arith, weight)

pub with-node-requires-clause-sound : goal.with-node-requires-clause-sound
with-node-requires-clause-sound c =
    let order = searched_copies c.args.self.now in
    let place = c.loop-place.place in
    let kept = c.loop-place.invariant.kept in
    let room = ap (λ (k : KnapKids). k.room) kept in
    let within : place < length order = omega (arith, ap length c.copies-end.ensures) in
    let weight = ap (λ (p : Place). p.weight) (item-at order c.places-places.result.now c.places-places.ensures place within) in
    subst (λ (k : KnapKids). IsNode c.args.self.now (added c.args.self.now k place (item_of order place))) (sym kept)
    (child c.args.self.now c.args.kids.now place c.loop-place.invariant.stands within (omega arith) (omega (arith, weight, room)) c.requires.kids)

pub returns-then-here-kids-clause-ok : goal.returns-then-here-kids-clause-ok
returns-then-here-kids-clause-ok c =
    let order = searched_copies c.args.self.now in
    let place = c.loop-place.place in
    let kept = c.loop-place.invariant.kept in
    let room = ap (λ (k : KnapKids). k.room) kept in
    let within : place < length order = omega (arith, ap length c.copies-end.ensures) in
    let here = item-at order c.places-places.result.now c.places-places.ensures place within in
    let weight = ap (λ (p : Place). p.weight) here in
    let next = ap (λ (p : Place). p.next_item) here in
    gives c.args.self.now c.args.kids.now place c.loop-place.invariant.stands within (omega arith) (omega (arith, weight, room)) c.with-node.result.breaking
    ∙ ap (λ (k : KnapKids). added c.args.self.now k place (item_of order place) ∷ remaining_of c.args.self.now (moved_to k (next_item (place + 1) (drop (place + 1) order)) c.with-node.result.breaking)) (sym kept)
    ∙ ap (λ (n : KnapNode). n ∷ remaining_of c.args.self.now (moved_to c.loop-place.kids (next_item (place + 1) (drop (place + 1) order)) c.with-node.result.breaking)) (sym c.with-node.ensures)
    ∙ ap (λ i. c.with-node.result ∷ remaining_of c.args.self.now (moved_to c.loop-place.kids (next_item (i + 1) (drop (place + 1) order)) c.with-node.result.breaking)) (sym (index-here c.args.self.now place within))
    ∙ ap (λ j. c.with-node.result ∷ remaining_of c.args.self.now (moved_to c.loop-place.kids j c.with-node.result.breaking)) (sym next)

pub returns-then-kids-here-clause-ok : goal.returns-then-kids-here-clause-ok
returns-then-kids-here-clause-ok c =
    let order = searched_copies c.args.self.now in
    let place = c.loop-place.place in
    let kept = c.loop-place.invariant.kept in
    let room = ap (λ (k : KnapKids). k.room) kept in
    let within : place < length order = omega (arith, ap length c.copies-end.ensures) in
    let here = item-at order c.places-places.result.now c.places-places.ensures place within in
    let least = ap (λ (p : Place). p.least_weight) here in (
      none_left c.args.self.now c.args.kids.now place c.loop-place.invariant.stands (none_fits c.args.self.now c.args.kids.now order place within (omega (arith, room, least))),
      subst (λ (os : List ItemCopy). remaining_of c.args.self.now (moved_to c.loop-place.kids (length os) c.loop-place.kids.breaking) ≡ []) (sym c.copies-end.ensures)
          (nothing_behind c.args.self.now (moved_to c.loop-place.kids (length order) c.loop-place.kids.breaking)),
    )

pub loop-place-preserved : goal.loop-place-preserved
loop-place-preserved c =
    let order = searched_copies c.args.self.now in
    let place = c.loop-place.place in
    let kept = c.loop-place.invariant.kept in
    let room = ap (λ (k : KnapKids). k.room) kept in
    let within : place < length order = omega (arith, ap length c.copies-end.ensures) in
    let weight = ap (λ (p : Place). p.weight) (item-at order c.places-places.result.now c.places-places.ensures place within) in
    record { kept = kept; stands = passes c.args.self.now c.args.kids.now place c.loop-place.invariant.stands within (omega (arith, weight, room)) }
