-- Where taking items in order ends, by the totals in front of the places.
use Rattle.std.proofs.Common.{◌≡◌, ℕ, zero, suc, ◌+◌, ◌-◌, ◌<◌, ◌≤◌, ◌∙◌, List, length, drop, if◌then◌else◌, ap, subst, arith}
use Rattle.std.proofs.lemmas.Bool.{le-leb, lt-leb}
use Rattle.std.proofs.lemmas.List.{drop_more, drop_all}
use Rattle.std.proofs.lemmas.List.Sums.{sum_by_more}
use Rattle.yew_knap.specs.declared.copies.ItemCopy.{ItemCopy}
use Rattle.yew_knap.specs.Nodes.{breaking_place, item_of}
use Rattle.yew_knap.specs.Places.{weight_before}

module _ (items : List ItemCopy) where
  pub weight_before-more : (k : ℕ) → k < length items → weight_before items (k + 1) ≡ weight_before items k + (item_of items k).weight
  weight_before-more k within = sum_by_more (λ (item : ItemCopy). item.weight) items k (record { profit = 0; weight = 0; item = 0; turn = 0; index = 0 }) within

  module _ (room k : ℕ) (within : k < length items) where
    goes_on : weight_before items (k + 1) ≤ room → breaking_place (room - weight_before items k) k (drop k items) ≡ breaking_place (room - weight_before items (k + 1)) (k + 1) (drop (k + 1) items)
    goes_on fits =
        let more = weight_before-more k within in
        let left : room - weight_before items k - (item_of items k).weight ≡ room - weight_before items (k + 1) = omega (arith, more) in
        ap (breaking_place (room - weight_before items k) k) (drop_more items k (record { profit = 0; weight = 0; item = 0; turn = 0; index = 0 }) within)
        ∙ ap (λ b. if b then breaking_place (room - weight_before items k - (item_of items k).weight) (k + 1) (drop (k + 1) items) else k) (le-leb (item_of items k).weight (room - weight_before items k) (omega (arith, more, fits)))
        ∙ ap (λ r. breaking_place r (k + 1) (drop (k + 1) items)) left

    pub stops : weight_before items k ≤ room → room < weight_before items (k + 1) → breaking_place (room - weight_before items k) k (drop k items) ≡ k
    stops fits heavy =
        let more = weight_before-more k within in
        ap (breaking_place (room - weight_before items k) k) (drop_more items k (record { profit = 0; weight = 0; item = 0; turn = 0; index = 0 }) within)
        ∙ ap (λ b. if b then breaking_place (room - weight_before items k - (item_of items k).weight) (k + 1) (drop (k + 1) items) else k) (lt-leb (item_of items k).weight (room - weight_before items k) (omega (arith, more, fits, heavy)))

  pub ends : (room k : ℕ) → length items ≤ k → breaking_place room k (drop k items) ≡ k
  ends room k past = ap (breaking_place room k) (drop_all k items past)

  -- taking items from the front comes to each place in front of which all fit
  pub from_front : (room k : ℕ) → k ≤ length items → weight_before items k ≤ room → breaking_place room 0 items ≡ breaking_place (room - weight_before items k) k (drop k items)
  from_front room zero within fits = let same : room ≡ room - weight_before items 0 = omega arith in ap (λ r. breaking_place r 0 items) same
  from_front room (suc k) within fits =
      let same : k + 1 ≡ suc k = omega arith in
      subst (λ j. weight_before items j ≤ room → breaking_place room 0 items ≡ breaking_place (room - weight_before items j) j (drop j items)) same
      (λ f. let more = weight_before-more k (omega arith) in from_front room k (omega arith) (omega (arith, more, f)) ∙ goes_on room k (omega arith) f)
      fits
