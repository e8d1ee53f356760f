-- A node's set with one more item, by the totals in front of places.
use Rattle.std.proofs.Common.{◌≡◌, ℕ, ◌+◌, ◌-◌, ◌*◌, ◌<◌, ◌≤◌, ◌^◌, ◌∙◌, List, [], ◌∷◌, length, drop, ap, arith}
use Rattle.std.specs.List.{AllByRecursion, sum_by}
use Rattle.std.proofs.lemmas.List.{drop_more}
use Rattle.std.proofs.lemmas.List.Sums.{sum_by-cons, sum_by-take-le}
use Rattle.yew_knap.specs.declared.nodes.KnapKids.{KnapKids}
use Rattle.yew_knap.specs.declared.copies.ItemCopy.{ItemCopy}
use Rattle.yew_knap.specs.BoundLaws.{knapsack-bounded}
use Rattle.yew_knap.specs.Instance.{Instance}
use Rattle.yew_knap.specs.NodeLaws.{item_small}
use Rattle.yew_knap.specs.Nodes.{added, breaking_place, item_of, IsNode}
use Rattle.yew_knap.specs.CopyLaws.{IsSmallCopy, length-searched_copies, searched_copies-small}
use Rattle.yew_knap.specs.Copies.{searched_copies}
use Rattle.yew_knap.specs.Places.{weight_before}
use Rattle.yew_knap.proofs.Breaking.{weight_before-more, from_front}

weights-small : (n : ℕ) (items : List ItemCopy) → AllByRecursion (IsSmallCopy n) items → sum_by (λ item. item.weight) items ≤ length items * 2 ^ 31
weights-small n [] a = omega arith
weights-small n (x ∷ xs) a =
    let cons = sum_by-cons (λ (item : ItemCopy). item.weight) x xs in
    let rest = weights-small n xs a.1 in
    let own = a.0.2 in
    omega (arith, cons, rest, own)

module _ (instance : Instance) (kids : KnapKids) (place : ℕ) (within : place < length (searched_copies instance)) (fits : (item_of (searched_copies instance) place).weight ≤ kids.room) (sound : IsNode instance (added instance kids place (item_of (searched_copies instance) place))) where
  small : IsSmallCopy (length instance.items) (item_of (searched_copies instance) place)
  small =
      item_small instance place (item_of (searched_copies instance) place) (drop (place + 1) (searched_copies instance))
      (drop_more (searched_copies instance) place (record { profit = 0; weight = 0; item = 0; turn = 0; index = 0 }) within) sound.limits

  pub profit-small : kids.profit + (item_of (searched_copies instance) place).profit < 2 ^ 64
  profit-small = omega (arith, (knapsack-bounded instance).fits (added instance kids place (item_of (searched_copies instance) place)) sound)

  pub room-small : weight_before (searched_copies instance) place + kids.room + 1 < 2 ^ 64
  room-small =
      let part = sum_by-take-le (λ (i : ItemCopy). i.weight) (searched_copies instance) place in
      let all = weights-small (length instance.items) (searched_copies instance) (searched_copies-small instance sound.limits) in
      let long = length-searched_copies instance in
      let few = sound.limits.few_copies in
      let light = sound.limits.light in
      let room = sound.room_is in
      omega (arith, part, all, long, few, light, room, small.2, fits)

  pub fits-with : weight_before (searched_copies instance) (place + 1) ≤ weight_before (searched_copies instance) place + kids.room
  fits-with = omega (arith, weight_before-more (searched_copies instance) place within, fits)

  -- taking items from the front, within the room and the weight of the items in front, ends where it ends from the place on
  pub breaking-added : breaking_place (weight_before (searched_copies instance) place + kids.room) 0 (searched_copies instance) ≡ (added instance kids place (item_of (searched_copies instance) place)).breaking
  breaking-added =
      let more = weight_before-more (searched_copies instance) place within in
      let left : weight_before (searched_copies instance) place + kids.room - weight_before (searched_copies instance) (place + 1) ≡ kids.room - (item_of (searched_copies instance) place).weight = omega (arith, more, fits) in
      from_front (searched_copies instance) (weight_before (searched_copies instance) place + kids.room) (place + 1) (omega arith) fits-with
      ∙ ap (λ r. breaking_place r (place + 1) (drop (place + 1) (searched_copies instance))) left
