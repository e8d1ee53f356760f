-- The first copies of each item, as many as a list of numbers says.
use Rattle.std.proofs.Common.{◌≡◌, ℕ, zero, suc, ◌+◌, ◌-◌, ◌*◌, ◌<◌, ◌≤◌, ◌∙◌, Bool, true, List, [], ◌∷◌, drop, get_or, nat_le, nat_lt, if◌then◌else◌, refl, ap, ap₂, sym, inl, inr, arith}
use Rattle.std.specs.List.{AllByRecursion, sum_by}
use Rattle.std.proofs.lemmas.Bool.{and_parts, cases_lt, leb-true}
use Rattle.std.proofs.lemmas.Bool.Decides.{nat_tests}
use Rattle.std.proofs.lemmas.List.Sums.{sum_by-cons, sum_by-append}
use Rattle.yew_laws.proofs.Members.{AllByRecursion-weaker}
use Rattle.yew_knap.specs.declared.copies.ItemCopy.{ItemCopy}
use Rattle.yew_knap.specs.declared.item_sets.ItemSet.{ItemSet}
use Rattle.yew_knap.specs.declared.knapsack.Item.{Item}
use Rattle.yew_knap.specs.declared.order.Numbered.{Numbered}
use Rattle.yew_knap.specs.Copies.{copies_from, all_copies, searched_copies}
use Rattle.yew_knap.specs.CopyLaws.{Follows, copy_of}
use Rattle.yew_knap.specs.Instance.{Instance}
use Rattle.yew_knap.specs.ItemSets.{has_item}
use Rattle.yew_knap.specs.Lists.{sum_by-agree}
use Rattle.yew_knap.specs.Nodes.{amount_in, one_of, counts_from, counts_in}
use Rattle.yew_knap.specs.OrderLaws.{only_item, sum_by-searched_order, searched_order-all}
use Rattle.yew_knap.specs.Packings.{are_counts, total_of, weight_of}
use Rattle.yew_knap.specs.SearchedOrder.{numbered, all_numbered, searched_order}
use Rattle.yew_knap.proofs.Counts.{get_or_from_drop, drop_one_more, picked}
use Rattle.yew_knap.proofs.Ways.{wanted_weight}

-- the copy is one of the first, as many as the list says
abbrev pub is_wanted : List ℕ → ItemCopy → Bool
is_wanted counts copy = nat_lt copy.turn (get_or counts copy.item 0)

-- a copy is wanted only where the one before it is
pub closed : (counts : List ℕ) (copy next : ItemCopy) → Follows copy next → ¬ (next.turn ≡ 0) → is_wanted counts next ≡ true → is_wanted counts copy ≡ true
closed counts copy next follows more wants =
    let f = follows more in
    earlier copy.turn next.turn (get_or counts copy.item 0) (get_or counts next.item 0) (f.2) (ap (λ i. get_or counts i 0) f.0) wants
  where
    earlier : (t u m n : ℕ) → u ≡ t + 1 → n ≡ m → nat_lt u n ≡ true → nat_lt t m ≡ true
    earlier t u m n e d y = grind (arith, nat_tests)

-- ---- sums over wanted copies

module _ (counts : List ℕ) (f : ItemCopy → ℕ) (g : Numbered → ℕ) (each : (item : Numbered) (turn index : ℕ) → f (copy_of item turn index) ≡ g item) where
  abbrev wanted_part : ItemCopy → ℕ
  wanted_part copy = if is_wanted counts copy then f copy else 0

  block-wanted : (item : Numbered) (turn index left : ℕ) → get_or counts item.index 0 ≤ turn + left → sum_by wanted_part (copies_from item turn index left) ≡ (get_or counts item.index 0 - turn) * g item
  block-wanted item turn index zero l = let none : get_or counts item.index 0 - turn ≡ 0 = omega arith in let e : (get_or counts item.index 0 - turn) * g item ≡ 0 = ap (λ n. n * g item) none ∙ omega arith in sym e
  block-wanted item turn index (suc left) l =
      let m = get_or counts item.index 0 in
      let cons = sum_by-cons wanted_part (copy_of item turn index) (copies_from item (turn + 1) (index + 1) left) in
      let rest = block-wanted item (turn + 1) (index + 1) left (omega arith) in
      let own = each item turn index in
      elim (cases_lt turn m) [
        | inl first ↦
            let here : wanted_part (copy_of item turn index) ≡ f (copy_of item turn index) = yes-part turn m (f (copy_of item turn index)) first in
            let more : m - turn ≡ suc (m - (turn + 1)) = omega arith in
            let product : (m - turn) * g item ≡ g item + (m - (turn + 1)) * g item = ap (λ n. n * g item) more ∙ omega arith in
            omega (arith, cons, rest, own, here, product)
        | inr past ↦
            let here : wanted_part (copy_of item turn index) ≡ 0 = no-part turn m (f (copy_of item turn index)) past in
            let none : m - (turn + 1) ≡ m - turn = omega arith in
            let product : (m - (turn + 1)) * g item ≡ (m - turn) * g item = ap (λ n. n * g item) none in
            omega (arith, cons, rest, here, product)
      ]
    where
      yes-part : (t m n : ℕ) → t < m → (if nat_lt t m then n else 0) ≡ n
      yes-part t m n l = grind (arith, nat_tests)

      no-part : (t m n : ℕ) → m ≤ t → (if nat_lt t m then n else 0) ≡ 0
      no-part t m n l = grind (arith, nat_tests)

  all-wanted : (index : ℕ) (items : List Numbered) → AllByRecursion (λ item. get_or counts item.index 0 ≤ item.copies) items → sum_by wanted_part (all_copies index items) ≡ sum_by (λ item. get_or counts item.index 0 * g item) items
  all-wanted index [] a = refl
  all-wanted index (item ∷ items) a =
      let parts = sum_by-append wanted_part (copies_from item 0 index item.copies) (all_copies (index + item.copies) items) in
      let own = block-wanted item 0 index item.copies (omega (arith, a.0)) in
      let rest = all-wanted (index + item.copies) items a.1 in
      let cons = sum_by-cons (λ (i : Numbered). get_or counts i.index 0 * g i) item items in
      let same : get_or counts item.index 0 - 0 ≡ get_or counts item.index 0 = omega arith in
      let product : (get_or counts item.index 0 - 0) * g item ≡ get_or counts item.index 0 * g item = ap (λ n. n * g item) same in
      omega (arith, parts, own, rest, cons, product)

module _ (instance : Instance) (counts : List ℕ) (are : are_counts instance.items counts ≡ true) where
  abbrev Few : Numbered → Type 0
  Few y = get_or counts y.index 0 ≤ y.copies

  numbered-few : (k : ℕ) (items : List Item) (ns : List ℕ) → drop k counts ≡ ns → are_counts items ns ≡ true → AllByRecursion Few (all_numbered k items)
  numbered-few k [] ns e are = tt
  numbered-few k (item ∷ items) [] e are = absurd (cc)
  numbered-few k (item ∷ items) (n ∷ ns) e are =
      let both = and_parts (nat_le n item.copies) (are_counts items ns) are in
      let own = get_or_from_drop counts k n 0 ns e in
      let few = leb-true n item.copies both.0 in
      (omega (arith, own, few), numbered-few (k + 1) items ns (drop_one_more counts k n ns e) both.1)

  order-few : AllByRecursion Few (searched_order instance)
  order-few = searched_order-all instance Few (numbered-few 0 instance.items counts refl are)

  numbered-weight : (k : ℕ) (items : List Item) (ns : List ℕ) → drop k counts ≡ ns → are_counts items ns ≡ true → sum_by (λ y. get_or counts y.index 0 * y.weight) (all_numbered k items) ≡ total_of (λ item. item.weight) items ns
  numbered-weight k [] ns e are = refl
  numbered-weight k (item ∷ items) [] e are = absurd (cc)
  numbered-weight k (item ∷ items) (n ∷ ns) e are =
      let both = and_parts (nat_le n item.copies) (are_counts items ns) are in
      let cons = sum_by-cons (λ (y : Numbered). get_or counts y.index 0 * y.weight) (numbered k item) (all_numbered (k + 1) items) in
      let own : get_or counts k 0 * item.weight ≡ n * item.weight = ap (λ m. m * item.weight) (get_or_from_drop counts k n 0 ns e) in
      let rest = numbered-weight (k + 1) items ns (drop_one_more counts k n ns e) both.1 in
      omega (arith, cons, own, rest)

  -- the wanted copies weigh what the list weighs
  pub weight-wanted : sum_by (wanted_weight instance (is_wanted counts)) (searched_copies instance) ≡ weight_of instance counts
  weight-wanted =
      all-wanted counts (λ copy. copy.weight) (λ y. y.weight) (λ y _ _. refl) 0 (searched_order instance) order-few
      ∙ sum_by-searched_order instance (λ y. get_or counts y.index 0 * y.weight)
      ∙ numbered-weight 0 instance.items counts refl are

  module _ (chosen : ItemSet) (agrees : AllByRecursion (λ copy. has_item chosen copy.index ≡ is_wanted counts copy) (searched_copies instance)) where
    count-wanted : (k : ℕ) (item : Item) (rest : List Item) → drop k instance.items ≡ item ∷ rest → sum_by (amount_in (one_of k) chosen) (searched_copies instance) ≡ get_or counts k 0
    count-wanted k item rest e =
        sum_by-agree (amount_in (one_of k) chosen) (wanted_part counts (one_of k) (only_item k) (λ y _ _. refl)) (searched_copies instance)
        (AllByRecursion-weaker (λ copy. has_item chosen copy.index ≡ is_wanted counts copy) (λ copy. amount_in (one_of k) chosen copy ≡ wanted_part counts (one_of k) (only_item k) (λ y _ _. refl) copy) (λ copy same. ap (λ b. if b then one_of k copy else 0) same) (searched_copies instance) agrees)
        ∙ all-wanted counts (one_of k) (only_item k) (λ y _ _. refl) 0 (searched_order instance) order-few
        ∙ picked instance (λ y. get_or counts y.index 0) k item rest e

    counts-wanted : (k : ℕ) (items : List Item) (ns : List ℕ) → drop k instance.items ≡ items → drop k counts ≡ ns → are_counts items ns ≡ true → counts_from (searched_copies instance) chosen k items ≡ ns
    counts-wanted k [] [] e d are = refl
    counts-wanted k [] (n ∷ ns) e d are = absurd (cc)
    counts-wanted k (item ∷ items) [] e d are = absurd (cc)
    counts-wanted k (item ∷ items) (n ∷ ns) e d are =
        let both = and_parts (nat_le n item.copies) (are_counts items ns) are in
        let own : sum_by (amount_in (one_of k) chosen) (searched_copies instance) ≡ n = count-wanted k item items e ∙ get_or_from_drop counts k n 0 ns d in
        let rest = counts-wanted (k + 1) items ns (drop_one_more instance.items k item items e) (drop_one_more counts k n ns d) both.1 in
        ap₂ (λ (m : ℕ) (ms : List ℕ). m ∷ ms) own rest

    -- a set of the wanted copies has as many copies of each item as the list says
    pub chosen-wanted : counts_in instance chosen ≡ counts
    chosen-wanted = counts-wanted 0 instance.items counts refl refl are
