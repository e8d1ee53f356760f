-- The profit and the weight of a set of copies, over its numbers of copies and over the searched order.
use Rattle.std.proofs.Common.{◌≡◌, ℕ, zero, suc, ◌+◌, ◌-◌, ◌*◌, ◌<◌, ◌≤◌, ◌∙◌, true, false, List, [], ◌∷◌, length, drop, get_or, nat_le, if◌then◌else◌, refl, ap, sym, subst, inl, inr, arith}
use Rattle.std.specs.List.{AllByRecursion, sum_by}
use Rattle.std.proofs.lemmas.Bool.{and_from, cases_eq, le-leb}
use Rattle.std.proofs.lemmas.Bool.Decides.{nat_tests}
use Rattle.std.proofs.lemmas.List.Sums.{sum_by-cons}
use Rattle.yew_laws.proofs.Members.{AllByRecursion-weaker}
use Rattle.yew_knap.specs.declared.copies.ItemCopy.{ItemCopy}
use Rattle.yew_knap.specs.declared.item_sets.ItemSet.{ItemSet}
use Rattle.yew_knap.specs.declared.knapsack.Item.{Item}
use Rattle.yew_knap.specs.declared.nodes.KnapNode.{KnapNode}
use Rattle.yew_knap.specs.declared.order.Numbered.{Numbered}
use Rattle.yew_knap.specs.Answers.{IsPacked}
use Rattle.yew_knap.specs.Copies.{searched_copies}
use Rattle.yew_knap.specs.CopyLaws.{all_copies-all, sum_by-all_copies}
use Rattle.yew_knap.specs.Instance.{Instance}
use Rattle.yew_knap.specs.ItemSets.{has_item}
use Rattle.yew_knap.specs.Lists.{AllByRecursion-all, sum_by-agree, sum_by-below, sum_by-none, sum_by-plus}
use Rattle.yew_knap.specs.Nodes.{amount_in, one_of, counts_from, chosen_of, IsNode, items_of}
use Rattle.yew_knap.specs.OrderLaws.{only_item, sum_by-searched_order, searched_order-all}
use Rattle.yew_knap.specs.Packings.{are_counts, total_of, profit_of, weight_of}
use Rattle.yew_knap.specs.SearchedOrder.{numbered, all_numbered, searched_order}

-- an item that no file has
abbrev pub no_item : Item
no_item = record { profit = 0; weight = 0; copies = 0 }

pub get_or_from_drop : {X : Type 0} (xs : List X) (k : ℕ) (y d : X) (ys : List X) → drop k xs ≡ y ∷ ys → get_or xs k d ≡ y
get_or_from_drop [] zero y d ys e = absurd (cc)
get_or_from_drop [] (suc k) y d ys e = absurd (cc)
get_or_from_drop (x ∷ xs) zero y d ys e = cc
get_or_from_drop (x ∷ xs) (suc k) y d ys e = get_or_from_drop xs k y d ys e

pub drop_one_more : {X : Type 0} (xs : List X) (k : ℕ) (y : X) (ys : List X) → drop k xs ≡ y ∷ ys → drop (k + 1) xs ≡ ys
drop_one_more [] zero y ys e = absurd (cc)
drop_one_more [] (suc k) y ys e = absurd (cc)
drop_one_more (x ∷ xs) zero y ys e = cc
drop_one_more (x ∷ xs) (suc k) y ys e = let same : suc k + 1 ≡ suc (k + 1) = omega arith in subst (λ j. drop j (x ∷ xs) ≡ ys) (sym same) (drop_one_more xs k y ys e)

-- ---- the item of a place of the file

none-below : (f : Numbered → ℕ) (k j : ℕ) (items : List Item) → k < j → sum_by (λ y. f y * only_item k y) (all_numbered j items) ≡ 0
none-below f k j [] l = refl
none-below f k j (x ∷ xs) l =
    let cons = sum_by-cons (λ (y : Numbered). f y * only_item k y) (numbered j x) (all_numbered (j + 1) xs) in
    let rest = none-below f k (j + 1) xs (omega arith) in
    let none : only_item k (numbered j x) ≡ 0 = grind (arith, nat_tests) in
    let own : f (numbered j x) * only_item k (numbered j x) ≡ 0 = ap (λ n. f (numbered j x) * n) none ∙ omega arith in
    omega (arith, cons, rest, own)

picked-from : (f : Numbered → ℕ) (k j : ℕ) (items : List Item) (item : Item) (rest : List Item) → j ≤ k → drop (k - j) items ≡ item ∷ rest → sum_by (λ y. f y * only_item k y) (all_numbered j items) ≡ f (numbered k item)
picked-from f k j [] item rest l e = nothing (k - j) e
  where
    nothing : (n : ℕ) → ◌≡◌ {A = List Item} (drop n []) (item ∷ rest) → 0 ≡ f (numbered k item)
    nothing zero e = absurd (cc)
    nothing (suc n) e = absurd (cc)
picked-from f k j (x ∷ xs) item rest l e =
    let cons = sum_by-cons (λ (y : Numbered). f y * only_item k y) (numbered j x) (all_numbered (j + 1) xs) in
    elim (cases_eq j k) [
      | inl same ↦
          let none : k - j ≡ 0 = omega arith in
          let first : x ≡ item = head_is x item xs rest (subst (λ n. drop n (x ∷ xs) ≡ item ∷ rest) none e) in
          let one : only_item k (numbered j x) ≡ 1 = grind (arith, nat_tests) in
          let own : f (numbered j x) * only_item k (numbered j x) ≡ f (numbered k item) = ap (λ n. f (numbered j x) * n) one ∙ (let u : f (numbered j x) * 1 ≡ f (numbered j x) = omega arith in u) ∙ ap (λ n. f (numbered n x)) same ∙ ap (λ i. f (numbered k i)) first in
          let others = none-below f k (j + 1) xs (omega arith) in
          omega (arith, cons, own, others)
      | inr other ↦
          let more : k - j ≡ suc (k - (j + 1)) = omega arith in
          let rest_is = picked-from f k (j + 1) xs item rest (omega arith) (subst (λ n. drop n (x ∷ xs) ≡ item ∷ rest) more e) in
          let none : only_item k (numbered j x) ≡ 0 = grind (arith, nat_tests) in
          let own : f (numbered j x) * only_item k (numbered j x) ≡ 0 = ap (λ n. f (numbered j x) * n) none ∙ omega arith in
          omega (arith, cons, rest_is, own)
    ]
  where
    head_is : (a b : Item) (more others : List Item) → a ∷ more ≡ b ∷ others → a ≡ b
    head_is a b more others e = cc

-- a sum over the searched order of what is of one item alone
pub picked : (instance : Instance) (f : Numbered → ℕ) (k : ℕ) (item : Item) (rest : List Item) → drop k instance.items ≡ item ∷ rest → sum_by (λ y. f y * only_item k y) (searched_order instance) ≡ f (numbered k item)
picked instance f k item rest e = sum_by-searched_order instance (λ y. f y * only_item k y) ∙ picked-from f k 0 instance.items item rest (omega arith) (let same : k ≡ k - 0 = omega arith in subst (λ n. drop n instance.items ≡ item ∷ rest) same e)

-- a copy is one of the file's item at its place
abbrev IsCopyIn : Instance → ItemCopy → Type 0
IsCopyIn instance copy = (copy.item < length instance.items) × (copy.profit ≡ (get_or instance.items copy.item no_item).profit) × (copy.weight ≡ (get_or instance.items copy.item no_item).weight)

abbrev IsNumberedIn : Instance → Numbered → Type 0
IsNumberedIn instance y = (y.index < length instance.items) × (y.profit ≡ (get_or instance.items y.index no_item).profit) × (y.weight ≡ (get_or instance.items y.index no_item).weight)

module _ (instance : Instance) where
  numbered-in : (k : ℕ) (items : List Item) → drop k instance.items ≡ items → k + length items ≤ length instance.items → AllByRecursion (IsNumberedIn instance) (all_numbered k items)
  numbered-in k [] e l = tt
  numbered-in k (item ∷ items) e l =
      let own = sym (get_or_from_drop instance.items k item no_item items e) in
      ((omega arith, ap (λ (i : Item). i.profit) own, ap (λ (i : Item). i.weight) own), numbered-in (k + 1) items (drop_one_more instance.items k item items e) (omega arith))

  copies-in : AllByRecursion (IsCopyIn instance) (searched_copies instance)
  copies-in = all_copies-all (IsCopyIn instance) (IsNumberedIn instance) (λ y n _ _. n) 0 (searched_order instance) (searched_order-all instance (IsNumberedIn instance) (numbered-in 0 instance.items refl (omega arith)))

  module _ (chosen : ItemSet) (amount : Item → ℕ) (f : ItemCopy → ℕ) (same : (copy : ItemCopy) → IsCopyIn instance copy → f copy ≡ amount (get_or instance.items copy.item no_item)) where
    -- the amount of a copy of one of the items from a place of the file on
    abbrev late : ℕ → ItemCopy → ℕ
    late k copy = if nat_le k copy.item then f copy else 0

    late-none : (k : ℕ) (copy : ItemCopy) → copy.item < k → amount_in (late k) chosen copy ≡ 0
    late-none k copy l =
        elim (has_item chosen copy.index) as (λ b. (if b then late k copy else 0) ≡ 0) [
          | true ↦ (let e : late k copy ≡ 0 = grind (arith, nat_tests) in e)
          | false ↦ refl
        ]

    late-step : (k : ℕ) (item : Item) (rest : List Item) → drop k instance.items ≡ item ∷ rest → (copy : ItemCopy) → IsCopyIn instance copy → amount_in (late k) chosen copy ≡ amount_in (one_of k) chosen copy * amount item + amount_in (late (k + 1)) chosen copy
    late-step k item rest e copy is =
        elim (has_item chosen copy.index) as (λ b. (if b then late k copy else 0) ≡ (if b then one_of k copy else 0) * amount item + (if b then late (k + 1) copy else 0)) [
          | true ↦
              elim (cases_eq copy.item k) [
                | inl here ↦
                    let now : late k copy ≡ f copy = grind (arith, nat_tests) in
                    let one : one_of k copy ≡ 1 = grind (arith, nat_tests) in
                    let more : late (k + 1) copy ≡ 0 = grind (arith, nat_tests) in
                    let own : f copy ≡ amount item = same copy is ∙ ap (λ j. amount (get_or instance.items j no_item)) here ∙ ap amount (get_or_from_drop instance.items k item no_item rest e) in
                    let product : one_of k copy * amount item ≡ amount item = ap (λ n. n * amount item) one ∙ omega arith in
                    omega (arith, now, more, own, product)
                | inr there ↦
                    let one : one_of k copy ≡ 0 = grind (arith, nat_tests) in
                    let more : late k copy ≡ late (k + 1) copy = grind (arith, nat_tests) in
                    let product : one_of k copy * amount item ≡ 0 = ap (λ n. n * amount item) one ∙ omega arith in
                    omega (arith, more, product)
              ]
          | false ↦ omega arith
        ]

    total-late : (k : ℕ) (items : List Item) → drop k instance.items ≡ items → k + length items ≡ length instance.items → total_of amount items (counts_from (searched_copies instance) chosen k items) ≡ sum_by (amount_in (late k) chosen) (searched_copies instance)
    total-late k [] e l =
        sym (sum_by-none (amount_in (late k) chosen) (searched_copies instance)
        (AllByRecursion-weaker (IsCopyIn instance) (λ copy. amount_in (late k) chosen copy ≡ 0) (λ copy is. late-none k copy (let w = is.0 in omega (arith, l, w))) (searched_copies instance) copies-in))
    total-late k (item ∷ items) e l =
        let rest = total-late (k + 1) items (drop_one_more instance.items k item items e) (omega (arith, l)) in
        let each =
        sum_by-agree (amount_in (late k) chosen) (λ copy. amount_in (one_of k) chosen copy * amount item + amount_in (late (k + 1)) chosen copy) (searched_copies instance)
        (AllByRecursion-weaker (IsCopyIn instance) (λ copy. amount_in (late k) chosen copy ≡ amount_in (one_of k) chosen copy * amount item + amount_in (late (k + 1)) chosen copy) (late-step k item items e) (searched_copies instance) copies-in)
        in
        let both = sum_by-plus (λ copy. amount_in (one_of k) chosen copy * amount item) (amount_in (late (k + 1)) chosen) (searched_copies instance) in
        let own = sum_by-times (amount_in (one_of k) chosen) (amount item) (searched_copies instance) in
        omega (arith, rest, each, both, own)
      where
        sum_by-times : (g : ItemCopy → ℕ) (n : ℕ) (copies : List ItemCopy) → sum_by (λ copy. g copy * n) copies ≡ sum_by g copies * n
        sum_by-times g n [] = omega arith
        sum_by-times g n (c ∷ cs) =
            let there = sum_by-cons (λ (copy : ItemCopy). g copy * n) c cs in
            let cons = sum_by-cons g c cs in
            let rest = sum_by-times g n cs in
            let whole : (g c + sum_by g cs) * n ≡ g c * n + sum_by g cs * n = omega arith in
            let sum : sum_by g (c ∷ cs) * n ≡ (g c + sum_by g cs) * n = ap (λ m. m * n) cons in
            omega (arith, there, rest, whole, sum)

    -- what is of so many copies of each item is what is of the copies in the set
    pub total-chosen : total_of amount instance.items (counts_from (searched_copies instance) chosen 0 instance.items) ≡ sum_by (amount_in f chosen) (searched_copies instance)
    total-chosen =
        total-late 0 instance.items refl (omega arith)
        ∙ sum_by-agree (amount_in (late 0) chosen) (amount_in f chosen) (searched_copies instance)
        (AllByRecursion-all (λ copy. amount_in (late 0) chosen copy ≡ amount_in f chosen copy) (λ copy. ap (λ n. if has_item chosen copy.index then n else 0) (whole copy)) (searched_copies instance))
      where
        whole : (copy : ItemCopy) → late 0 copy ≡ f copy
        whole copy = grind (arith, nat_tests)

  -- a set has at most all copies of an item
  count-few : (chosen : ItemSet) (k : ℕ) (item : Item) (rest : List Item) → drop k instance.items ≡ item ∷ rest → sum_by (amount_in (one_of k) chosen) (searched_copies instance) ≤ item.copies
  count-few chosen k item rest e =
      let below = sum_by-below (amount_in (one_of k) chosen) (one_of k) (searched_copies instance) (AllByRecursion-all (λ copy. amount_in (one_of k) chosen copy ≤ one_of k copy) part (searched_copies instance)) in
      let all = sum_by-all_copies (one_of k) (only_item k) (λ y _ _. refl) 0 (searched_order instance) in
      let one = picked instance (λ y. y.copies) k item rest e in
      omega (arith, below, all, one)
    where
      part : (copy : ItemCopy) → amount_in (one_of k) chosen copy ≤ one_of k copy
      part copy =
          elim (has_item chosen copy.index) as (λ b. (if b then one_of k copy else 0) ≤ one_of k copy) [ true ↦ omega arith | false ↦ omega arith ]

  counts-few : (chosen : ItemSet) (k : ℕ) (items : List Item) → drop k instance.items ≡ items → are_counts items (counts_from (searched_copies instance) chosen k items) ≡ true
  counts-few chosen k [] e = refl
  counts-few chosen k (item ∷ items) e =
      let count = sum_by (amount_in (one_of k) chosen) (searched_copies instance) in
      and_from (nat_le count item.copies) (are_counts items (counts_from (searched_copies instance) chosen (k + 1) items))
      (le-leb count item.copies (count-few chosen k item items e))
      (counts-few chosen (k + 1) items (drop_one_more instance.items k item items e))

module _ (instance : Instance) (node : KnapNode) where
  profit_of-chosen : profit_of instance (chosen_of instance node) ≡ sum_by (amount_in (λ copy. copy.profit) (items_of node)) (searched_copies instance)
  profit_of-chosen = total-chosen instance (items_of node) (λ item. item.profit) (λ copy. copy.profit) (λ copy is. is.1)

  weight_of-chosen : weight_of instance (chosen_of instance node) ≡ sum_by (amount_in (λ copy. copy.weight) (items_of node)) (searched_copies instance)
  weight_of-chosen = total-chosen instance (items_of node) (λ item. item.weight) (λ copy. copy.weight) (λ copy is. is.2)

  -- the copies of a node can be carried, and their profit is the node's worth less 1
  pub node-packed : IsNode instance node → IsPacked instance node
  node-packed sound = record {
    packs =
        let room = sound.room_is in
        and_from (are_counts instance.items (chosen_of instance node)) (nat_le (weight_of instance (chosen_of instance node)) instance.capacity)
        (counts-few instance (items_of node) 0 instance.items refl)
        (le-leb (weight_of instance (chosen_of instance node)) instance.capacity (omega (arith, weight_of-chosen, room)));
    worth = let e = sound.profit_is in omega (arith, e, profit_of-chosen);
  }
