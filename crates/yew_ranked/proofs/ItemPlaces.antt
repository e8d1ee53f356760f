-- The items of a tree in their order: an item comes before each later one, and no item lies below an earlier task.
use Rattle.std.proofs.Common.{◌≡◌, ℕ, zero, suc, ◌<◌, ◌⊎◌, List, [], ◌∷◌, ◌++◌, max, Bool, true, false, ◌&&◌, ◌==◌, nat_lt, if◌then◌else◌, Some, slice_get, refl, sym, subst, ◌∙◌, inl, inr, append_assoc, append-nil, arith}
use Rattle.std.specs.Prelude.{IsTrue, IsFalse}
use Rattle.std.specs.List.{AllByRecursion}
use Rattle.std.proofs.lemmas.Option.{none-some, same_Some}
use Rattle.yew_laws.specs.SearchTree.{SearchTree}
use Rattle.yew_laws.specs.Order.{comes_before, lies_below}
use Rattle.yew_laws.proofs.Below.{AtOrBelow, InChild, in_child, wider}
use Rattle.yew_laws.proofs.Members.{AllByRecursion-append, AllByRecursion-weaker, AllByRecursion-at}
use Rattle.yew_laws.proofs.PathTests.{before-itself, before-siblings, apart-below, nat-is}
use Rattle.yew_log.specs.Items.{Item, in_turn, item_worth, items_from, items_of, IsInItem}
use Rattle.yew_ranked.proofs.PathOrder.{before-below, before-both-below}

-- an item comes before another, which does not lie below it where it is a task
record Precedes (x y : Item) : Type 0 where
  pub before : IsTrue (comes_before x.path y.path)
  pub not_below : IsTrue x.is_task → IsFalse (lies_below x.path y.path)

abbrev ItemsRise : List Item → Type 0
ItemsRise [] = Unit {0}
ItemsRise (x ∷ xs) = AllByRecursion (Precedes x) xs × ItemsRise xs

rise-append : (xs ys : List Item) → ItemsRise xs → ItemsRise ys → AllByRecursion (λ x. AllByRecursion (Precedes x) ys) xs → ItemsRise (xs ++ ys)
rise-append [] ys a b between = b
rise-append (x ∷ xs) ys a b between = (AllByRecursion-append (Precedes x) xs ys a.0 between.0, rise-append xs ys a.1 b between.1)

-- items at and below a path
record AreItemsBelow (path : List ℕ) (items : List Item) : Type 0 where
  pub inside : AllByRecursion (λ (i : Item). AtOrBelow path i.path) items
  pub rise : ItemsRise items

-- items below the children of a path from a number on
record AreItemsFrom (path : List ℕ) (low : ℕ) (items : List Item) : Type 0 where
  pub inside : AllByRecursion (λ (i : Item). (high : ℕ) × InChild path low high i.path) items
  pub rise : ItemsRise items

none-below : (path : List ℕ) → AreItemsBelow path []
none-below path = record { inside = tt; rise = tt }

precedes-sibling : (path : List ℕ) (k : ℕ) (x y : Item) → AtOrBelow (path ++ k ∷ []) x.path → (high : ℕ) × InChild path (suc k) high y.path → Precedes x y
precedes-sibling path k x y a (high, b) =
    let xs : x.path ≡ path ++ k ∷ a.rest = a.is ∙ append_assoc path (k ∷ []) a.rest in
    let from = b.from in let below = b.below in
    record {
      before = subst (λ (p : List ℕ). IsTrue (comes_before p y.path)) (sym xs) (subst (λ (q : List ℕ). IsTrue (comes_before (path ++ k ∷ a.rest) q)) (sym b.is) (before-siblings path k a.rest b.number b.rest (omega arith)));
      not_below = λ task. subst (λ (p : List ℕ). IsFalse (lies_below p y.path)) (sym xs) (subst (λ (q : List ℕ). IsFalse (lies_below (path ++ k ∷ a.rest) q)) (sym b.is) (apart-below path k a.rest b.number b.rest (λ same. absurd (omega arith))));
    }

-- a path below another is it with a rest
pub below-splits : (path q : List ℕ) → IsTrue (lies_below path q) → AtOrBelow path q
below-splits [] q h = record { rest = q; is = refl }
below-splits (j ∷ path) [] h = absurd (no h)
  where
    no : false ≡ true → ⊥
    no e = cc
below-splits (j ∷ path) (k ∷ q) h =
    let parts = both (j == k) (lies_below path q) h in
    let rest = below-splits path q parts.1 in
    record { rest = rest.rest; is = cons j k q (path ++ rest.rest) (nat-is j k parts.0) rest.is }
  where
    both : (a b : Bool) → (a && b) ≡ true → (a ≡ true) × (b ≡ true)
    both true b e = (refl, e)
    both false b e = absurd (cc)

    cons : (j k : ℕ) (q r : List ℕ) → j ≡ k → q ≡ r → k ∷ q ≡ j ∷ r
    cons j k q r same is = cc

module _ {N : Type 0} where
  in_turn-items : (made : List ℕ → N → ℕ → List Item) → ((p : List ℕ) (c : N) (h : ℕ) → AreItemsBelow p (made p c h)) → (path : List ℕ) (k : ℕ) (cs : List N) (h : ℕ) → AreItemsFrom path k (in_turn item_worth made path k cs h)
  in_turn-items made each path k [] h = record { inside = tt; rise = tt }
  in_turn-items made each path k (c ∷ cs) h =
      let items = made (path ++ k ∷ []) c h in
      let first = each (path ++ k ∷ []) c h in
      let later = in_turn item_worth made path (suc k) cs (max h (item_worth items)) in
      let rest = in_turn-items made each path (suc k) cs (max h (item_worth items)) in
      record {
        inside = AllByRecursion-append (λ (i : Item). (high : ℕ) × InChild path k high i.path) items later
            (AllByRecursion-weaker (λ (i : Item). AtOrBelow (path ++ k ∷ []) i.path) (λ (i : Item). (high : ℕ) × InChild path k high i.path) (λ i a. (suc k, in_child path k i.path a)) items first.inside)
            (AllByRecursion-weaker (λ (i : Item). (high : ℕ) × InChild path (suc k) high i.path) (λ (i : Item). (high : ℕ) × InChild path k high i.path) (λ i a. (a.0, wider path (suc k) a.0 k a.0 (omega arith) (omega arith) i.path a.1)) later rest.inside);
        rise = rise-append items later first.rise rest.rise
            (AllByRecursion-weaker (λ (i : Item). AtOrBelow (path ++ k ∷ []) i.path) (λ (x : Item). AllByRecursion (Precedes x) later)
            (λ x a. AllByRecursion-weaker (λ (i : Item). (high : ℕ) × InChild path (suc k) high i.path) (Precedes x) (λ y b. precedes-sibling path k x y a b) later rest.inside) items first.inside);
      }

chosen : (path : List ℕ) (b : Bool) (items : List Item) → AreItemsBelow path items → AreItemsBelow path (if b then items else [])
chosen path true items a = a
chosen path false items a = none-below path

with_root : (path : List ℕ) (worth : ℕ) (items : List Item) → AreItemsFrom path 0 items → AreItemsBelow path (record { path = path; worth = worth; is_task = false } ∷ items)
with_root path worth items from = record {
  inside = (record { rest = []; is = sym (append-nil path) }, AllByRecursion-weaker (λ (i : Item). (high : ℕ) × InChild path 0 high i.path) (λ (i : Item). AtOrBelow path i.path) (λ i a. record { rest = a.1.number ∷ a.1.rest; is = a.1.is }) items from.inside);
  rise = (
    AllByRecursion-weaker (λ (i : Item). (high : ℕ) × InChild path 0 high i.path) (Precedes (record { path = path; worth = worth; is_task = false }))
        (λ i a. record { before = subst (λ (q : List ℕ). IsTrue (comes_before path q)) (sym a.1.is) (before-itself path a.1.number a.1.rest); not_below = λ task. absurd (no task) }) items from.inside,
    from.rise,
  );
}
  where
    no : IsTrue false → ⊥
    no e = cc

module _ {N : Type 0} (t : SearchTree N) where
  items_from-below : (levels : ℕ) (path : List ℕ) (n : N) (held : ℕ) → AreItemsBelow path (items_from t levels path n held)
  items_from-below zero path n held = record { inside = (record { rest = []; is = sym (append-nil path) }, tt); rise = (tt, tt) }
  items_from-below (suc zero) path n held =
      with_root path (t.worth n) _ (in_turn-items _ (λ p c h. items_from-below zero p c h) path 0 (t.children n) (max held (t.worth n)))
  items_from-below (suc (suc levels)) path n held =
      with_root path (t.worth n) _ (in_turn-items _ (λ p c h. chosen p (nat_lt h (t.bound c)) (items_from t (suc levels) p c h) (items_from-below (suc levels) p c h)) path 0 (t.children n) (max held (t.worth n)))

  -- what lies in an item of a smaller number comes before
  pub in_items-rise : (depth r s : ℕ) (p q : List ℕ) → IsInItem (items_of t depth) r p → IsInItem (items_of t depth) s q → r < s → IsTrue (comes_before p q)
  in_items-rise depth r s p q a b less =
      let order = precedes (items_of t depth) r s a.item b.item (items_from-below depth [] t.root 0).rise a.found b.found less in
      by a.item b.item order a.within (at-or-below b.item q b.within)
    where
      precedes : (items : List Item) (r s : ℕ) (x y : Item) → ItemsRise items → slice_get items r ≡ Some x → slice_get items s ≡ Some y → r < s → Precedes x y
      precedes [] r s x y a e f less = absurd (none-some x e)
      precedes (i ∷ items) zero zero x y a e f less = absurd (omega arith)
      precedes (i ∷ items) zero (suc s) x y a e f less = subst (λ (z : Item). Precedes z y) (same_Some i x e) (AllByRecursion-at (Precedes i) items s y f a.0)
      precedes (i ∷ items) (suc r) zero x y a e f less = absurd (omega arith)
      precedes (i ∷ items) (suc r) (suc s) x y a e f less = precedes items r s x y a.1 e f (omega arith)

      at-or-below : (y : Item) (q : List ℕ) → (q ≡ y.path) ⊎ (IsTrue y.is_task × IsTrue (lies_below y.path q)) → AtOrBelow y.path q
      at-or-below y q (inl same) = record { rest = []; is = same ∙ sym (append-nil y.path) }
      at-or-below y q (inr below) = below-splits y.path q below.1

      by : (x y : Item) → Precedes x y → (p ≡ x.path) ⊎ (IsTrue x.is_task × IsTrue (lies_below x.path p)) → AtOrBelow y.path q → IsTrue (comes_before p q)
      by x y order (inl same) b' =
          subst (λ (u : List ℕ). IsTrue (comes_before u q)) (sym same) (subst (λ (v : List ℕ). IsTrue (comes_before x.path v)) (sym b'.is) (before-below x.path y.path b'.rest order.before))
      by x y order (inr below) b' =
          let a' = below-splits x.path p below.1 in
          subst (λ (u : List ℕ). IsTrue (comes_before u q)) (sym a'.is) (subst (λ (v : List ℕ). IsTrue (comes_before (x.path ++ a'.rest) v)) (sym b'.is) (before-both-below x.path y.path a'.rest b'.rest order.before (order.not_below below.0)))
