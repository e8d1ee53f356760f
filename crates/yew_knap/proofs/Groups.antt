-- The copies of an item stand side by side: behind the first copy of another item there is none of it.
use Rattle.std.proofs.Common.{◌≡◌, ℕ, zero, suc, ◌+◌, ◌-◌, ◌<◌, ◌≤◌, ◌∙◌, false, ◌==◌, List, [], ◌∷◌, ◌++◌, drop, ap, sym, subst, arith}
use Rattle.std.specs.List.{AllByRecursion, sum_by}
use Rattle.std.proofs.lemmas.Bool.Decides.{nat_tests}
use Rattle.std.proofs.lemmas.List.{drop-drop}
use Rattle.std.proofs.lemmas.List.Sums.{sum_by-cons}
use Rattle.yew_knap.specs.declared.copies.ItemCopy.{ItemCopy}
use Rattle.yew_knap.specs.declared.order.Numbered.{Numbered}
use Rattle.yew_knap.specs.Copies.{copies_from, all_copies, searched_copies}
use Rattle.yew_knap.specs.CopyLaws.{all_copies-all}
use Rattle.yew_knap.specs.Instance.{Instance}
use Rattle.yew_knap.specs.NodeLaws.{rest_after}
use Rattle.yew_knap.specs.OrderLaws.{only_item, searched_order-once}
use Rattle.yew_knap.specs.SearchedOrder.{searched_order}

-- ---- items

abbrev IsOtherItem : ℕ → Numbered → Type 0
IsOtherItem k item = (item.index == k) ≡ false

abbrev AreApart : List Numbered → Type 0
AreApart [] = Unit {0}
AreApart (item ∷ items) = AllByRecursion (IsOtherItem item.index) items × AreApart items

none_there : (k : ℕ) (items : List Numbered) → sum_by (only_item k) items ≡ 0 → AllByRecursion (IsOtherItem k) items
none_there k [] e = tt
none_there k (x ∷ xs) e =
    let cons = sum_by-cons (only_item k) x xs in
    let none : only_item k x ≡ 0 = omega (arith, cons, e) in
    (grind (arith, nat_tests), none_there k xs (omega (arith, cons, e)))

itself : (item : Numbered) → only_item item.index item ≡ 1
itself item = grind (arith, nat_tests)

are-apart : (items : List Numbered) → ((k : ℕ) → sum_by (only_item k) items ≤ 1) → AreApart items
are-apart [] once = tt
are-apart (x ∷ xs) once = (
  none_there x.index xs (omega (arith, sum_by-cons (only_item x.index) x xs, itself x, once x.index)),
  are-apart xs (λ k. omega (arith, sum_by-cons (only_item k) x xs, once k)),
)

-- ---- copies

-- a copy of another item
abbrev pub IsOfOther : ℕ → ItemCopy → Type 0
IsOfOther item copy = (copy.item == item) ≡ false

-- from each first copy on there is none of this item
abbrev OthersBehind : ℕ → List ItemCopy → Type 0
OthersBehind item [] = Unit {0}
OthersBehind item (copy ∷ copies) = (copy.turn ≡ 0 → AllByRecursion (IsOfOther item) (copy ∷ copies)) × OthersBehind item copies

abbrev AreGrouped : List ItemCopy → Type 0
AreGrouped [] = Unit {0}
AreGrouped (copy ∷ copies) = OthersBehind copy.item copies × AreGrouped copies

others-all : (item : ℕ) (copies : List ItemCopy) → AllByRecursion (IsOfOther item) copies → OthersBehind item copies
others-all item [] a = tt
others-all item (copy ∷ copies) a = ((λ _. a), others-all item copies a.1)

block-others : (item : Numbered) (copies : List ItemCopy) → AllByRecursion (IsOfOther item.index) copies → (turn index left : ℕ) → OthersBehind item.index (copies_from item (suc turn) index left ++ copies)
block-others item copies a turn index zero = others-all item.index copies a
block-others item copies a turn index (suc left) =
    let same : suc turn + 1 ≡ suc (turn + 1) = omega arith in
    ((λ first. absurd (omega (arith, first))), subst (λ t. OthersBehind item.index (copies_from item t (index + 1) left ++ copies)) (sym same) (block-others item copies a (turn + 1) (index + 1) left))

block-grouped : (item : Numbered) (copies : List ItemCopy) → AllByRecursion (IsOfOther item.index) copies → AreGrouped copies → (turn index left : ℕ) → AreGrouped (copies_from item turn index left ++ copies)
block-grouped item copies a g turn index zero = g
block-grouped item copies a g turn index (suc left) =
    let same : suc turn ≡ turn + 1 = omega arith in
    (subst (λ t. OthersBehind item.index (copies_from item t (index + 1) left ++ copies)) same (block-others item copies a turn (index + 1) left), block-grouped item copies a g (turn + 1) (index + 1) left)

all_copies-grouped : (index : ℕ) (items : List Numbered) → AreApart items → AreGrouped (all_copies index items)
all_copies-grouped index [] a = tt
all_copies-grouped index (item ∷ items) a =
    block-grouped item (all_copies (index + item.copies) items)
    (all_copies-all (IsOfOther item.index) (IsOtherItem item.index) (λ other o _ _. o) (index + item.copies) items a.0)
    (all_copies-grouped (index + item.copies) items a.1)
    0 index item.copies

grouped-drop : (k : ℕ) (copies : List ItemCopy) → AreGrouped copies → AreGrouped (drop k copies)
grouped-drop zero copies g = g
grouped-drop (suc k) [] g = tt
grouped-drop (suc k) (copy ∷ copies) g = grouped-drop k copies g.1

others-drop : (item k : ℕ) (copies : List ItemCopy) → OthersBehind item copies → OthersBehind item (drop k copies)
others-drop item zero copies o = o
others-drop item (suc k) [] o = tt
others-drop item (suc k) (copy ∷ copies) o = others-drop item k copies o.1

-- from the first copy of another item on there is none of an item of which a copy stands in front
pub others_from : (instance : Instance) (place later : ℕ) (copy first : ItemCopy) (after behind : List ItemCopy) → drop place (searched_copies instance) ≡ copy ∷ after → drop later (searched_copies instance) ≡ first ∷ behind → place < later → first.turn ≡ 0 → AllByRecursion (IsOfOther copy.item) (first ∷ behind)
others_from instance place later copy first after behind at at_later before anew =
    let order = searched_copies instance in
    let all : AreGrouped order = all_copies-grouped 0 (searched_order instance) (are-apart (searched_order instance) (searched_order-once instance)) in
    let here : AreGrouped (copy ∷ after) = subst AreGrouped at (grouped-drop place order all) in
    let same : place + 1 + (later - (place + 1)) ≡ later = omega arith in
    let rest : drop (later - (place + 1)) after ≡ first ∷ behind = ap (drop (later - (place + 1))) (sym (rest_after instance place copy after at)) ∙ drop-drop (later - (place + 1)) (place + 1) order ∙ ap (λ k. drop k order) same ∙ at_later in
    (subst (OthersBehind copy.item) rest (others-drop copy.item (later - (place + 1)) after here.0)).0 anew
