-- The line of the numbers of items, one copy after another.
use Rattle.std.proofs.Common.{◌≡◌, ℕ, suc, ◌+◌, ◌<◌, ◌∙◌, List, [], ◌∷◌, ◌++◌, length, drop, get_or, append_assoc, refl, ap, sym, arith}
use Rattle.std.specs.Prelude.{replicate}
use Rattle.std.specs.List.{flat_map, sum_by}
use Rattle.std.proofs.lemmas.List.{drop_more}
use Rattle.std.proofs.lemmas.List.Sums.{sum_by-cons}
use Rattle.yew_lines.specs.Spelling.{spaced}
use Rattle.yew_knap.specs.declared.copies.ItemCopy.{ItemCopy}
use Rattle.yew_knap.specs.declared.item_sets.ItemSet.{ItemSet}
use Rattle.yew_knap.specs.declared.knapsack.Item.{Item}
use Rattle.yew_knap.specs.Nodes.{amount_in, one_of, counts_from}
use Rattle.yew_knap.specs.Texts.{numbers_from}

-- the numbers of the copies of an item in a set, of those from a place on
abbrev pub item_from : ItemSet → List ItemCopy → ℕ → ℕ → List ℕ
item_from chosen copies item place = flat_map spaced (replicate (sum_by (amount_in (one_of item) chosen) (drop place copies)) (item + 1))

module _ (chosen : ItemSet) (copies : List ItemCopy) (item place : ℕ) (within : place < length copies) where
  abbrev here : ItemCopy
  here = get_or copies place (record { profit = 0; weight = 0; item = 0; turn = 0; index = 0 })

  count-step : sum_by (amount_in (one_of item) chosen) (drop place copies) ≡ amount_in (one_of item) chosen here + sum_by (amount_in (one_of item) chosen) (drop (place + 1) copies)
  count-step =
      ap (sum_by (amount_in (one_of item) chosen)) (drop_more copies place (record { profit = 0; weight = 0; item = 0; turn = 0; index = 0 }) within)
      ∙ sum_by-cons (amount_in (one_of item) chosen) here (drop (place + 1) copies)

  module _ (out whole : List ℕ) (so_far : out ++ item_from chosen copies item place ≡ whole) where
    pub skipped : amount_in (one_of item) chosen here ≡ 0 → out ++ item_from chosen copies item (place + 1) ≡ whole
    skipped none =
        let same : sum_by (amount_in (one_of item) chosen) (drop (place + 1) copies) ≡ sum_by (amount_in (one_of item) chosen) (drop place copies) = omega (arith, count-step, none) in
        ap (λ n. out ++ flat_map spaced (replicate n (item + 1))) same ∙ so_far

    pub written : amount_in (one_of item) chosen here ≡ 1 → (new : List ℕ) → new ≡ out ++ spaced (item + 1) → new ++ item_from chosen copies item (place + 1) ≡ whole
    written one new is =
        let more : suc (sum_by (amount_in (one_of item) chosen) (drop (place + 1) copies)) ≡ sum_by (amount_in (one_of item) chosen) (drop place copies) = omega (arith, count-step, one) in
        ap (λ os. os ++ item_from chosen copies item (place + 1)) is
        ∙ append_assoc out (spaced (item + 1)) (item_from chosen copies item (place + 1))
        ∙ ap (λ n. out ++ flat_map spaced (replicate n (item + 1))) more
        ∙ so_far

-- the numbers of the copies of the items from a place of the file on
abbrev pub items_from : ItemSet → List ItemCopy → List Item → ℕ → List ℕ
items_from chosen copies items place = flat_map spaced (numbers_from (place + 1) (counts_from copies chosen place (drop place items)))

flat_map-append : (xs ys : List ℕ) → flat_map spaced (xs ++ ys) ≡ flat_map spaced xs ++ flat_map spaced ys
flat_map-append [] ys = refl
flat_map-append (x ∷ xs) ys = ap (λ zs. spaced x ++ zs) (flat_map-append xs ys) ∙ sym (append_assoc (spaced x) (flat_map spaced xs) (flat_map spaced ys))

-- one more item
pub item-written : (chosen : ItemSet) (copies : List ItemCopy) (items : List Item) (place : ℕ) → place < length items → (out whole : List ℕ) → out ++ items_from chosen copies items place ≡ whole → (new : List ℕ) → new ≡ out ++ item_from chosen copies place 0 → new ++ items_from chosen copies items (place + 1) ≡ whole
item-written chosen copies items place within out whole so_far new is =
    let item = get_or items place (record { profit = 0; weight = 0; copies = 0 }) in
    ap (λ os. os ++ items_from chosen copies items (place + 1)) is
    ∙ append_assoc out (item_from chosen copies place 0) (items_from chosen copies items (place + 1))
    ∙ ap (λ ns. out ++ ns) (sym (flat_map-append (replicate (sum_by (amount_in (one_of place) chosen) copies) (place + 1)) (numbers_from (place + 1 + 1) (counts_from copies chosen (place + 1) (drop (place + 1) items)))))
    ∙ ap (λ is. out ++ flat_map spaced (numbers_from (place + 1) (counts_from copies chosen place is))) (sym (drop_more items place (record { profit = 0; weight = 0; copies = 0 }) within))
    ∙ so_far
