-- What the list of copies is: copies of one item stand side by side, each with its place, and no copy is of more profit
-- for its weight than those in front of it.
use Rattle.std.specs.Prelude.{◌≡◌, ℕ, ◌+◌, ◌*◌, ◌<◌, ◌≤◌, ◌^◌, List, [], ◌∷◌, ◌++◌, length, take, drop, sum_by, refl}
use Rattle.std.specs.List.{AllByRecursion}
use Rattle.std.proofs.Common.{zero, suc, ap, subst, ◌∙◌, arith}
use Rattle.std.proofs.lemmas.List.{length-append, take_all}
use Rattle.std.proofs.lemmas.List.Sums.{sum_by-cons, sum_by-append}
use Rattle.yew_laws.proofs.Members.{AllByRecursion-append, AllByRecursion-weaker}
use Rattle.yew_knap.specs.declared.copies.ItemCopy.{ItemCopy}
use Rattle.yew_knap.specs.declared.knapsack.Item.{Item}
use Rattle.yew_knap.specs.declared.order.Numbered.{Numbered}
use Rattle.yew_knap.specs.Copies.{copies_from, all_copies, searched_copies}
use Rattle.yew_knap.specs.Instance.{Instance, IsWithinLimits, copies_in}
use Rattle.yew_knap.specs.OrderLaws as order
use Rattle.yew_knap.specs.OrderLaws.{sum_by-searched_order, searched_order-falls, searched_order-small}
use Rattle.yew_knap.specs.SearchedOrder.{numbered, all_numbered, searched_order}

-- the copy of an item with these numbers
abbrev pub copy_of : Numbered → ℕ → ℕ → ItemCopy
copy_of item turn index = record { profit = item.profit; weight = item.weight; item = item.index; turn = turn; index = index }

-- ---- what is the same of all copies of an item

-- what holds of each copy of each of these items
pub copies_from-all : (P : ItemCopy → Type 0) (item : Numbered) → ((turn index : ℕ) → P (copy_of item turn index)) → (turn index left : ℕ) → AllByRecursion P (copies_from item turn index left)
copies_from-all P item each turn index zero = tt
copies_from-all P item each turn index (suc left) = (each turn index, copies_from-all P item each (turn + 1) (index + 1) left)

pub all_copies-all : (P : ItemCopy → Type 0) (Q : Numbered → Type 0) → ((item : Numbered) → Q item → (turn index : ℕ) → P (copy_of item turn index)) → (index : ℕ) (items : List Numbered) → AllByRecursion Q items → AllByRecursion P (all_copies index items)
all_copies-all P Q each index [] a = tt
all_copies-all P Q each index (item ∷ items) a =
    AllByRecursion-append P (copies_from item 0 index item.copies) (all_copies (index + item.copies) items)
    (copies_from-all P item (each item a.0) 0 index item.copies)
    (all_copies-all P Q each (index + item.copies) items a.1)

-- a sum over the copies of what is the same of each copy of an item
sum_by-copies_from : (f : ItemCopy → ℕ) (item : Numbered) (n : ℕ) → ((turn index : ℕ) → f (copy_of item turn index) ≡ n) → (turn index left : ℕ) → sum_by f (copies_from item turn index left) ≡ left * n
sum_by-copies_from f item n each turn index zero = omega arith
sum_by-copies_from f item n each turn index (suc left) =
    let cons = sum_by-cons f (copy_of item turn index) (copies_from item (turn + 1) (index + 1) left) in
    let rest = sum_by-copies_from f item n each (turn + 1) (index + 1) left in
    let own = each turn index in
    omega (arith, cons, rest, own)

pub sum_by-all_copies : (f : ItemCopy → ℕ) (g : Numbered → ℕ) → ((item : Numbered) (turn index : ℕ) → f (copy_of item turn index) ≡ g item) → (index : ℕ) (items : List Numbered) → sum_by f (all_copies index items) ≡ sum_by (λ item. item.copies * g item) items
sum_by-all_copies f g each index [] = refl
sum_by-all_copies f g each index (item ∷ items) =
    let parts = sum_by-append f (copies_from item 0 index item.copies) (all_copies (index + item.copies) items) in
    let own = sum_by-copies_from f item (g item) (each item) 0 index item.copies in
    let rest = sum_by-all_copies f g each (index + item.copies) items in
    let cons = sum_by-cons (λ (item : Numbered). item.copies * g item) item items in
    omega (arith, parts, own, rest, cons)

pub length-copies_from : (item : Numbered) (turn index left : ℕ) → length (copies_from item turn index left) ≡ left
length-copies_from item turn index zero = refl
length-copies_from item turn index (suc left) = ap suc (length-copies_from item (turn + 1) (index + 1) left)

length-all_copies : (index : ℕ) (items : List Numbered) → length (all_copies index items) ≡ sum_by (λ item. item.copies) items
length-all_copies index [] = refl
length-all_copies index (item ∷ items) =
    let parts = length-append (copies_from item 0 index item.copies) (all_copies (index + item.copies) items) in
    let own = length-copies_from item 0 index item.copies in
    let rest = length-all_copies (index + item.copies) items in
    let cons = sum_by-cons (λ (item : Numbered). item.copies) item items in
    omega (arith, parts, own, rest, cons)

-- ---- places

-- each copy knows its place
abbrev pub AreInPlace : ℕ → List ItemCopy → Type 0
AreInPlace index [] = Unit {0}
AreInPlace index (copy ∷ copies) = (copy.index ≡ index) × AreInPlace (index + 1) copies

block-in_place : (item : Numbered) (turn index left : ℕ) (copies : List ItemCopy) → AreInPlace (index + left) copies → AreInPlace index (copies_from item turn index left ++ copies)
block-in_place item turn index zero copies a = let same : index + 0 ≡ index = omega arith in subst (λ k. AreInPlace k copies) same a
block-in_place item turn index (suc left) copies a =
    let same : index + suc left ≡ index + 1 + left = omega arith in
    (refl, block-in_place item (turn + 1) (index + 1) left copies (subst (λ k. AreInPlace k copies) same a))

all_copies-in_place : (index : ℕ) (items : List Numbered) → AreInPlace index (all_copies index items)
all_copies-in_place index [] = tt
all_copies-in_place index (item ∷ items) =
    block-in_place item 0 index item.copies (all_copies (index + item.copies) items) (all_copies-in_place (index + item.copies) items)

pub in_place-drop : (k index : ℕ) (copies : List ItemCopy) → AreInPlace index copies → AreInPlace (index + k) (drop k copies)
in_place-drop zero index copies a = let same : index ≡ index + 0 = omega arith in subst (λ i. AreInPlace i copies) same a
in_place-drop (suc k) index [] a = tt
in_place-drop (suc k) index (copy ∷ copies) a =
    let same : index + 1 + k ≡ index + suc k = omega arith in
    subst (λ i. AreInPlace i (drop k copies)) same (in_place-drop k (index + 1) copies a.1)

in_place-from : (index : ℕ) (copies : List ItemCopy) → AreInPlace index copies → AllByRecursion (λ copy. index ≤ copy.index) copies
in_place-from index [] a = tt
in_place-from index (copy ∷ copies) a = (
  omega (arith, a.0),
  AllByRecursion-weaker (λ (c : ItemCopy). index + 1 ≤ c.index) (λ c. index ≤ c.index) (λ c l. omega (arith, l)) copies (in_place-from (index + 1) copies a.1),
)

in_place-below : (k index : ℕ) (copies : List ItemCopy) → AreInPlace index copies → AllByRecursion (λ copy. copy.index < index + k) (take k copies)
in_place-below zero index copies a = tt
in_place-below (suc k) index [] a = tt
in_place-below (suc k) index (copy ∷ copies) a = (
  omega (arith, a.0),
  AllByRecursion-weaker (λ (c : ItemCopy). c.index < index + 1 + k) (λ c. c.index < index + suc k) (λ c l. omega (arith, l)) (take k copies) (in_place-below k (index + 1) copies a.1),
)

-- ---- items

-- a copy that is not its item's first stands right behind the one before it
abbrev pub Follows : ItemCopy → ItemCopy → Type 0
Follows copy next = ¬ (next.turn ≡ 0) → (next.item ≡ copy.item) × (next.weight ≡ copy.weight) × (next.turn ≡ copy.turn + 1)

abbrev pub FollowsAll : ItemCopy → List ItemCopy → Type 0
FollowsAll copy [] = Unit {0}
FollowsAll copy (next ∷ copies) = Follows copy next

abbrev pub IsChain : List ItemCopy → Type 0
IsChain [] = Unit {0}
IsChain (copy ∷ copies) = FollowsAll copy copies × IsChain copies

abbrev pub StartsAnew : List ItemCopy → Type 0
StartsAnew [] = Unit {0}
StartsAnew (copy ∷ copies) = copy.turn ≡ 0

block-anew : (item : Numbered) (index left : ℕ) (copies : List ItemCopy) → StartsAnew copies → StartsAnew (copies_from item 0 index left ++ copies)
block-anew item index zero copies s = s
block-anew item index (suc left) copies s = refl

all_copies-anew : (index : ℕ) (items : List Numbered) → StartsAnew (all_copies index items)
all_copies-anew index [] = tt
all_copies-anew index (item ∷ items) = block-anew item index item.copies (all_copies (index + item.copies) items) (all_copies-anew (index + item.copies) items)

anew-follows : (copy : ItemCopy) (copies : List ItemCopy) → StartsAnew copies → FollowsAll copy copies
anew-follows copy [] s = tt
anew-follows copy (next ∷ copies) s = λ n. absurd (n s)

block-chain : (item : Numbered) (turn index left : ℕ) (copies : List ItemCopy) → StartsAnew copies → IsChain copies → IsChain (copies_from item turn index left ++ copies)
block-chain item turn index zero copies s c = c
block-chain item turn index (suc zero) copies s c = (anew-follows (copy_of item turn index) copies s, c)
block-chain item turn index (suc (suc left)) copies s c = ((λ n. (refl, refl, refl)), block-chain item (turn + 1) (index + 1) (suc left) copies s c)

all_copies-chain : (index : ℕ) (items : List Numbered) → IsChain (all_copies index items)
all_copies-chain index [] = tt
all_copies-chain index (item ∷ items) =
    block-chain item 0 index item.copies (all_copies (index + item.copies) items) (all_copies-anew (index + item.copies) items) (all_copies-chain (index + item.copies) items)

pub chain-drop : (k : ℕ) (copies : List ItemCopy) → IsChain copies → IsChain (drop k copies)
chain-drop zero copies c = c
chain-drop (suc k) [] c = tt
chain-drop (suc k) (copy ∷ copies) c = chain-drop k copies c.1

-- ---- value

-- x has no less profit for its weight than y
abbrev pub NoWorse : ItemCopy → ItemCopy → Type 0
NoWorse x y = y.profit * x.weight ≤ x.profit * y.weight

-- each copy has no less profit for its weight than those behind it
abbrev pub FallsInValue : List ItemCopy → Type 0
FallsInValue [] = Unit {0}
FallsInValue (x ∷ xs) = AllByRecursion (NoWorse x) xs × FallsInValue xs

block-falls : (item : Numbered) (copies : List ItemCopy) → ((turn index : ℕ) → AllByRecursion (NoWorse (copy_of item turn index)) copies) → FallsInValue copies → (turn index left : ℕ) → FallsInValue (copies_from item turn index left ++ copies)
block-falls item copies behind f turn index zero = f
block-falls item copies behind f turn index (suc left) = (
  AllByRecursion-append (NoWorse (copy_of item turn index)) (copies_from item (turn + 1) (index + 1) left) copies
      (copies_from-all (NoWorse (copy_of item turn index)) item (λ _ _. omega arith) (turn + 1) (index + 1) left)
      (behind turn index),
  block-falls item copies behind f (turn + 1) (index + 1) left,
)

all_copies-falls : (index : ℕ) (items : List Numbered) → order.FallsInValue items → FallsInValue (all_copies index items)
all_copies-falls index [] f = tt
all_copies-falls index (item ∷ items) f =
    block-falls item (all_copies (index + item.copies) items)
    (λ turn at. all_copies-all (NoWorse (copy_of item turn at)) (order.NoWorse item) (λ other n _ _. n) (index + item.copies) items f.0)
    (all_copies-falls (index + item.copies) items f.1)
    0 index item.copies

-- a copy of one of n items whose profit and weight are within their limits
abbrev pub IsSmallCopy : ℕ → ItemCopy → Type 0
IsSmallCopy n copy = (copy.item < n) × (copy.profit < 2 ^ 31) × (copy.weight < 2 ^ 31)

-- the copies of the items of a file, in whichever order they are tried
copies-numbered : (k : ℕ) (items : List Item) → sum_by (λ (item : Numbered). item.copies) (all_numbered k items) ≡ copies_in items
copies-numbered k [] = refl
copies-numbered k (item ∷ items) =
    let there = sum_by-cons (λ (i : Numbered). i.copies) (numbered k item) (all_numbered (k + 1) items) in
    let cons = sum_by-cons (λ (i : Item). i.copies) item items in
    let rest = copies-numbered (k + 1) items in
    omega (arith, there, cons, rest)

module _ (instance : Instance) where
  pub copies-searched_order : sum_by (λ (item : Numbered). item.copies) (searched_order instance) ≡ copies_in instance.items
  copies-searched_order = sum_by-searched_order instance (λ item. item.copies) ∙ copies-numbered 0 instance.items

  pub length-searched_copies : length (searched_copies instance) ≡ copies_in instance.items
  length-searched_copies = length-all_copies 0 (searched_order instance) ∙ copies-searched_order

  pub searched_copies-in_place : AreInPlace 0 (searched_copies instance)
  searched_copies-in_place = all_copies-in_place 0 (searched_order instance)

  pub searched_copies-chain : IsChain (searched_copies instance)
  searched_copies-chain = all_copies-chain 0 (searched_order instance)

  pub searched_copies-falls : FallsInValue (searched_copies instance)
  searched_copies-falls = all_copies-falls 0 (searched_order instance) (searched_order-falls instance)

  pub searched_copies-small : IsWithinLimits instance → AllByRecursion (IsSmallCopy (length instance.items)) (searched_copies instance)
  searched_copies-small limits =
      all_copies-all (IsSmallCopy (length instance.items)) (order.IsSmallNumbered (length instance.items)) (λ item small _ _. small) 0 (searched_order instance) (searched_order-small instance limits)

  pub searched_copies-below : copies_in instance.items ≤ 256 → AllByRecursion (λ copy. copy.index < 256) (searched_copies instance)
  searched_copies-below few =
      let long = length-searched_copies in
      let all = in_place-below (length (searched_copies instance)) 0 (searched_copies instance) searched_copies-in_place in
      AllByRecursion-weaker (λ (c : ItemCopy). c.index < 0 + length (searched_copies instance)) (λ c. c.index < 256) (λ c l. omega (arith, l, long, few)) (searched_copies instance)
      (subst (AllByRecursion (λ (c : ItemCopy). c.index < 0 + length (searched_copies instance))) (take_all (length (searched_copies instance)) (searched_copies instance) (omega arith)) all)

  -- the copy at a place, and those around it
  module _ (place : ℕ) (copy : ItemCopy) (after : List ItemCopy) (at : drop place (searched_copies instance) ≡ copy ∷ after) where
    there : AreInPlace (0 + place) (copy ∷ after)
    there = subst (AreInPlace (0 + place)) at (in_place-drop place 0 (searched_copies instance) searched_copies-in_place)

    pub index-at : copy.index ≡ place
    index-at = omega (arith, there.0)

    pub indexes_before : AllByRecursion (λ other. other.index < copy.index) (take place (searched_copies instance))
    indexes_before =
        AllByRecursion-weaker (λ (c : ItemCopy). c.index < 0 + place) (λ c. c.index < copy.index) (λ c l. omega (arith, l, index-at)) (take place (searched_copies instance))
        (in_place-below place 0 (searched_copies instance) searched_copies-in_place)

    pub indexes_after : AllByRecursion (λ other. copy.index < other.index) after
    indexes_after =
        AllByRecursion-weaker (λ (c : ItemCopy). 0 + place + 1 ≤ c.index) (λ c. copy.index < c.index) (λ c l. omega (arith, l, index-at)) after (in_place-from (0 + place + 1) after there.1)
