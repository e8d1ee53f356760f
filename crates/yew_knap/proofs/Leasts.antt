-- Where the room is less than the least weight, nothing fits.
use Rattle.std.proofs.Common.{◌≡◌, ℕ, ◌+◌, ◌<◌, ◌≤◌, ◌∙◌, List, [], ◌∷◌, length, drop, nat_lt, Bool, true, false, ◌&&◌, if◌then◌else◌, refl, ap, arith}
use Rattle.std.specs.List.{AllByRecursion}
use Rattle.std.proofs.lemmas.Bool.{lt-leb}
use Rattle.std.proofs.lemmas.Bool.Decides.{nat_tests}
use Rattle.std.proofs.lemmas.List.{drop_more}
use Rattle.yew_laws.proofs.Members.{AllByRecursion-weaker}
use Rattle.yew_knap.specs.declared.nodes.KnapKids.{KnapKids}
use Rattle.yew_knap.specs.declared.copies.ItemCopy.{ItemCopy}
use Rattle.yew_knap.specs.Instance.{Instance}
use Rattle.yew_knap.specs.Places.{least_weight}
use Rattle.yew_knap.specs.Nodes.{added, is_next, with_one_more, item_of}

less : (v w : ℕ) → ((if nat_lt v w then v else w) ≤ v) × ((if nat_lt v w then v else w) ≤ w)
less v w = (grind (arith, nat_tests), grind (arith, nat_tests))

least_weight-le : (w : ℕ) (items : List ItemCopy) → least_weight w items ≤ w
least_weight-le w [] = omega arith
least_weight-le w (x ∷ xs) = let rest = least_weight-le (if nat_lt x.weight w then x.weight else w) xs in let l = (less x.weight w).1 in omega (arith, rest, l)

least_weight-all : (w : ℕ) (items : List ItemCopy) → AllByRecursion (λ item. least_weight w items ≤ item.weight) items
least_weight-all w [] = tt
least_weight-all w (x ∷ xs) =
    let rest = least_weight-le (if nat_lt x.weight w then x.weight else w) xs in
    let l = (less x.weight w).0 in
    (omega (arith, rest, l), least_weight-all (if nat_lt x.weight w then x.weight else w) xs)

neither : (b : Bool) → (b && false) ≡ false
neither true = refl
neither false = refl

with_one_more-none : (instance : Instance) (kids : KnapKids) (place : ℕ) (items : List ItemCopy) → AllByRecursion (λ item. kids.room < item.weight) items → with_one_more instance kids place items ≡ []
with_one_more-none instance kids place [] a = refl
with_one_more-none instance kids place (item ∷ items) a =
    ap (λ b. if b then added instance kids place item ∷ with_one_more instance kids (place + 1) items else with_one_more instance kids (place + 1) items) (ap (λ b. is_next kids.next place item && b) (lt-leb item.weight kids.room a.0) ∙ neither (is_next kids.next place item))
    ∙ with_one_more-none instance kids (place + 1) items a.1

pub none_fits : (instance : Instance) (kids : KnapKids) (items : List ItemCopy) (place : ℕ) → place < length items → kids.room < least_weight (item_of items place).weight (drop (place + 1) items) → with_one_more instance kids place (drop place items) ≡ []
none_fits instance kids items place within light =
    let item = item_of items place in
    let own = least_weight-le item.weight (drop (place + 1) items) in
    ap (with_one_more instance kids place) (drop_more items place (record { profit = 0; weight = 0; item = 0; turn = 0; index = 0 }) within)
    ∙ with_one_more-none instance kids place (item ∷ drop (place + 1) items)
    (omega (arith, own, light), AllByRecursion-weaker (λ y. least_weight item.weight (drop (place + 1) items) ≤ y.weight) (λ y. kids.room < y.weight) (λ y l. omega (arith, light, l)) (drop (place + 1) items) (least_weight-all item.weight (drop (place + 1) items)))
