-- What stands in the table of places.
use Rattle.std.proofs.Common.{◌≡◌, ℕ, zero, suc, ◌+◌, ◌-◌, ◌<◌, ◌≤◌, ◌^◌, ◌∙◌, List, [], ◌∷◌, length, take, drop, get_or, ap, ap₂, subst, sym, inl, inr, arith}
use Rattle.std.specs.List.{sum_by}
use Rattle.std.proofs.lemmas.Bool.{cases_lt}
use Rattle.std.proofs.lemmas.List.{drop_more}
use Rattle.std.proofs.lemmas.List.Sums.{sum_by-cons}
use Rattle.yew_knap.specs.declared.copies.ItemCopy.{ItemCopy}
use Rattle.yew_knap.specs.declared.places.Place.{Place}
use Rattle.yew_knap.specs.Copies.{searched_copies}
use Rattle.yew_knap.specs.CopyLaws.{index-at}
use Rattle.yew_knap.specs.Instance.{Instance}
use Rattle.yew_knap.specs.Nodes.{breaking_place, item_of}
use Rattle.yew_knap.specs.Places.{place_of, end_place, all_places, weight_before}
use Rattle.yew_knap.proofs.Breaking.{weight_before-more, stops, ends, from_front}

abbrev pub profit_before : List ItemCopy → ℕ → ℕ
profit_before items place = sum_by (λ item. item.profit) (take place items)

-- the place of a number, and a blank one past the table
abbrev pub place_at : List Place → ℕ → Place
place_at places k = get_or places k (record { profit_before = 0; weight_before = 0; weight_after = 0; reciprocal = 0; profit = 0; weight = 0; next_item = 0; least_weight = 0 })

length-all_places : (profit weight : ℕ) (items : List ItemCopy) → length (all_places profit weight items) ≡ length items + 1
length-all_places profit weight [] = omega arith
length-all_places profit weight (x ∷ xs) = let rest = length-all_places (profit + x.profit) (weight + x.weight) xs in omega (arith, rest)

item-in : (profit weight : ℕ) (items : List ItemCopy) (k : ℕ) → k < length items → place_at (all_places profit weight items) k ≡ place_of (profit + profit_before items k) (weight + weight_before items k) (item_of items k) (drop (suc k) items)
item-in profit weight [] k l = absurd (omega arith)
item-in profit weight (x ∷ xs) zero l =
    let p : profit ≡ profit + profit_before (x ∷ xs) 0 = omega arith in
    let w : weight ≡ weight + weight_before (x ∷ xs) 0 = omega arith in
    ap₂ (λ a b. place_of a b x xs) p w
item-in profit weight (x ∷ xs) (suc k) l =
    let p_cons = sum_by-cons (λ (item : ItemCopy). item.profit) x (take k xs) in
    let w_cons = sum_by-cons (λ (item : ItemCopy). item.weight) x (take k xs) in
    let p : profit + x.profit + profit_before xs k ≡ profit + profit_before (x ∷ xs) (suc k) = omega (arith, p_cons) in
    let w : weight + x.weight + weight_before xs k ≡ weight + weight_before (x ∷ xs) (suc k) = omega (arith, w_cons) in
    item-in (profit + x.profit) (weight + x.weight) xs k (omega arith) ∙ ap₂ (λ a b. place_of a b (item_of xs k) (drop (suc k) xs)) p w

end-in : (profit weight : ℕ) (items : List ItemCopy) → place_at (all_places profit weight items) (length items) ≡ end_place (profit + profit_before items (length items)) (weight + weight_before items (length items))
end-in profit weight [] =
    let p : profit ≡ profit + profit_before [] 0 = omega arith in
    let w : weight ≡ weight + weight_before [] 0 = omega arith in
    ap₂ end_place p w
end-in profit weight (x ∷ xs) =
    let p_cons = sum_by-cons (λ (item : ItemCopy). item.profit) x (take (length xs) xs) in
    let w_cons = sum_by-cons (λ (item : ItemCopy). item.weight) x (take (length xs) xs) in
    let p : profit + x.profit + profit_before xs (length xs) ≡ profit + profit_before (x ∷ xs) (suc (length xs)) = omega (arith, p_cons) in
    let w : weight + x.weight + weight_before xs (length xs) ≡ weight + weight_before (x ∷ xs) (suc (length xs)) = omega (arith, w_cons) in
    end-in (profit + x.profit) (weight + x.weight) xs ∙ ap₂ end_place p w

-- a slice that is the table of the places of a list
module _ (items : List ItemCopy) (places : List Place) (are : places ≡ all_places 0 0 items) where
  pub length-places : length places ≡ length items + 1
  length-places = ap length are ∙ length-all_places 0 0 items

  pub item-at : (k : ℕ) → k < length items → place_at places k ≡ place_of (0 + profit_before items k) (0 + weight_before items k) (item_of items k) (drop (k + 1) items)
  item-at k l =
      let next : suc k ≡ k + 1 = omega arith in
      ap (λ ps. place_at ps k) are ∙ item-in 0 0 items k l ∙ ap (λ j. place_of (0 + profit_before items k) (0 + weight_before items k) (item_of items k) (drop j items)) next

  pub end-at : (k : ℕ) → k ≡ length items → place_at places k ≡ end_place (0 + profit_before items k) (0 + weight_before items k)
  end-at k e = subst (λ j. place_at places j ≡ end_place (0 + profit_before items j) (0 + weight_before items j)) (sym e) (ap (λ ps. place_at ps (length items)) are ∙ end-in 0 0 items)

  pub profit-at : (k : ℕ) → k ≤ length items → (place_at places k).profit_before ≡ profit_before items k
  profit-at k l =
      elim (cases_lt k (length items)) [
        | inl less ↦ let e = ap (λ (p : Place). p.profit_before) (item-at k less) in omega (arith, e)
        | inr most ↦ let e = ap (λ (p : Place). p.profit_before) (end-at k (omega arith)) in omega (arith, e)
      ]

  pub weight-at : (k : ℕ) → k ≤ length items → (place_at places k).weight_before ≡ weight_before items k
  weight-at k l =
      elim (cases_lt k (length items)) [
        | inl less ↦ let e = ap (λ (p : Place). p.weight_before) (item-at k less) in omega (arith, e)
        | inr most ↦ let e = ap (λ (p : Place). p.weight_before) (end-at k (omega arith)) in omega (arith, e)
      ]

  pub after-at : (k : ℕ) → k < length items → (place_at places k).weight_after ≡ weight_before items (k + 1)
  after-at k l =
      let e = ap (λ (p : Place). p.weight_after) (item-at k l) in
      let more = weight_before-more items k l in
      omega (arith, e, more)

  -- what fits with the item of a place is not behind all items
  pub not_end : (k room : ℕ) → k ≤ length items → room + 1 < 2 ^ 64 → (place_at places k).weight_after ≤ room → k < length items
  not_end k room within small fits =
      elim (cases_lt k (length items)) [
        | inl less ↦ less
        | inr most ↦ let e = ap (λ (p : Place). p.weight_after) (end-at k (omega arith)) in absurd (omega (arith, e, small, fits))
      ]

  pub breaking-at : (k room : ℕ) → k ≤ length items → weight_before items k ≤ room → room < (place_at places k).weight_after → k ≡ breaking_place room 0 items
  breaking-at k room within fits heavy =
      elim (cases_lt k (length items)) [
        | inl less ↦ let after = after-at k less in sym (from_front items room k within fits ∙ stops items room k less fits (omega (arith, after, heavy)))
        | inr most ↦ sym (from_front items room k within fits ∙ ends items (room - weight_before items k) k most)
      ]

-- each copy of an instance knows its place
pub index-here : (instance : Instance) (place : ℕ) → place < length (searched_copies instance) → (item_of (searched_copies instance) place).index ≡ place
index-here instance place within =
    index-at instance place (item_of (searched_copies instance) place) (drop (place + 1) (searched_copies instance))
    (drop_more (searched_copies instance) place (record { profit = 0; weight = 0; item = 0; turn = 0; index = 0 }) within)
