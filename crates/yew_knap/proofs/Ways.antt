-- The way to a choice of copies: for each that can be carried, and leaves out no copy of an item before a chosen one, the tree has
-- a node with that choice.
use Rattle.std.proofs.Common.{◌≡◌, ℕ, zero, suc, ◌+◌, ◌≤◌, ◌∙◌, Bool, true, false, ◌&&◌, ◌||◌, ◌==◌, List, [], ◌∷◌, length, take, drop, slice_get, Option, Some, nat_le, option_and_then, if◌then◌else◌, refl, ap, sym, subst, inl, inr, arith, length-drop}
use Rattle.std.specs.List.{AllByRecursion, sum_by}
use Rattle.std.proofs.lemmas.Bool.{and_from, cases_eq, le-leb, true≢false}
use Rattle.std.proofs.lemmas.Bool.Decides.{nat_tests}
use Rattle.std.proofs.lemmas.List.{take_all}
use Rattle.std.proofs.lemmas.List.Sums.{sum_by-cons}
use Rattle.yew_laws.specs.Tree.{node_at}
use Rattle.yew_laws.proofs.Members.{AllByRecursion-weaker, AllByRecursion-both}
use Rattle.yew_knap.specs.declared.nodes.KnapNode.{KnapNode}
use Rattle.yew_knap.specs.declared.copies.ItemCopy.{ItemCopy}
use Rattle.yew_knap.specs.CopyLaws.{Follows, FollowsAll, IsChain, searched_copies-chain}
use Rattle.yew_knap.specs.Instance.{Instance, IsWithinLimits}
use Rattle.yew_knap.specs.ItemSets.{has_item}
use Rattle.yew_knap.specs.NodeLaws.{IsOther, IsNext, others_before, has_added, rest_after, none_from, child-sound, root-sound}
use Rattle.yew_knap.specs.Nodes.{root_of, added, is_next, with_one_more, children_of, IsNode, items_of, opened}
use Rattle.yew_knap.specs.Copies.{searched_copies}
use Rattle.yew_knap.proofs.Nexts.{is_next-at, is_next-first}

take_one_more : {X : Type 0} (P : X → Type 0) (xs : List X) (k : ℕ) (y : X) (ys : List X) → drop k xs ≡ y ∷ ys → AllByRecursion P (take k xs) → P y → AllByRecursion P (take (suc k) xs)
take_one_more P [] zero y ys e a p = tt
take_one_more P [] (suc k) y ys e a p = tt
take_one_more P (x ∷ xs) zero y ys e a p = let same : y ≡ x = cc in (subst P same p, tt)
take_one_more P (x ∷ xs) (suc k) y ys e a p = (a.0, take_one_more P xs k y ys e a.1 p)

-- the node at a path that begins with a child that adds an item from a place on
abbrev from_place : Instance → KnapNode → ℕ → List ItemCopy → List ℕ → Option KnapNode
from_place instance node place items [] = Some node
from_place instance node place items (k ∷ ks) = option_and_then (λ c. node_at (children_of instance) c ks) (slice_get (with_one_more instance (opened node) place items) k)

from_place-own : (instance : Instance) (node : KnapNode) (path : List ℕ) → from_place instance node node.next (drop node.next (searched_copies instance)) path ≡ node_at (children_of instance) node path
from_place-own instance node [] = refl
from_place-own instance node (k ∷ ks) = refl

record Way (instance : Instance) (wanted : ItemCopy → Bool) (node : KnapNode) (place : ℕ) (items : List ItemCopy) : Type 0 where
  pub path : List ℕ
  pub last : KnapNode
  pub found : from_place instance node place items path ≡ Some last
  pub agrees : AllByRecursion (λ item. has_item (items_of last) item.index ≡ wanted item) (searched_copies instance)

-- a child that adds an item from a later place on is a child that adds one from this place on
later : (instance : Instance) (wanted : ItemCopy → Bool) (node : KnapNode) (place : ℕ) (item : ItemCopy) (items : List ItemCopy) → Way instance wanted node (place + 1) items → Way instance wanted node place (item ∷ items)
later instance wanted node place item items w =
    at w.path w.found
  where
    at : (path : List ℕ) → from_place instance node (place + 1) items path ≡ Some w.last → Way instance wanted node place (item ∷ items)
    at [] e = record { path = []; last = w.last; found = e; agrees = w.agrees }
    at (k ∷ ks) e =
        elim (is_next node.next place item && nat_le item.weight node.room) as (λ b. (is_next node.next place item && nat_le item.weight node.room) ≡ b → Way instance wanted node place (item ∷ items)) [
          | true ↦ λ fits. record {
            path = suc k ∷ ks;
            last = w.last;
            found =
                ap (λ b. option_and_then (λ c. node_at (children_of instance) c ks) (slice_get (if b then added instance (opened node) place item ∷ with_one_more instance (opened node) (place + 1) items else with_one_more instance (opened node) (place + 1) items) (suc k))) fits ∙ e;
            agrees = w.agrees;
          }
          | false ↦ λ heavy. record {
            path = k ∷ ks;
            last = w.last;
            found =
                ap (λ b. option_and_then (λ c. node_at (children_of instance) c ks) (slice_get (if b then added instance (opened node) place item ∷ with_one_more instance (opened node) (place + 1) items else with_one_more instance (opened node) (place + 1) items) k)) heavy ∙ e;
            agrees = w.agrees;
          }
        ]
        refl

module _ (instance : Instance) (wanted : ItemCopy → Bool) where
  -- the item's amount where it is wanted
  abbrev pub wanted_weight : ItemCopy → ℕ
  wanted_weight item = if wanted item then item.weight else 0

  abbrev Agrees : KnapNode → ItemCopy → Type 0
  Agrees node item = has_item (items_of node) item.index ≡ wanted item

  more_agrees : (node : KnapNode) (place : ℕ) (item : ItemCopy) (items : List ItemCopy) → drop place (searched_copies instance) ≡ item ∷ items → AllByRecursion (Agrees node) (take place (searched_copies instance)) → Agrees node item → AllByRecursion (Agrees node) (take (place + 1) (searched_copies instance))
  more_agrees node place item items at a own =
      let same : suc place ≡ place + 1 = omega arith in
      subst (λ k. AllByRecursion (Agrees node) (take k (searched_copies instance))) same (take_one_more (Agrees node) (searched_copies instance) place item items at a own)

  child_agrees : (node : KnapNode) → IsNode instance node → (place : ℕ) (item : ItemCopy) (items : List ItemCopy) → drop place (searched_copies instance) ≡ item ∷ items → AllByRecursion (Agrees node) (take place (searched_copies instance)) → wanted item ≡ true → AllByRecursion (Agrees (added instance (opened node) place item)) (take (place + 1) (searched_copies instance))
  child_agrees node sound place item items at a is_wanted =
      more_agrees (added instance (opened node) place item) place item items at
      (AllByRecursion-weaker (λ y. Agrees node y × IsOther item.index y) (Agrees (added instance (opened node) place item))
      (λ y both. has_added instance place item items at (items_of node) sound.size sound.limits y.index ∙ without (has_item (items_of node) y.index) (y.index == item.index) both.1 ∙ both.0)
      (take place (searched_copies instance))
      (AllByRecursion-both (Agrees node) (IsOther item.index) (take place (searched_copies instance)) a (others_before instance place item items at)))
      (has_added instance place item items at (items_of node) sound.size sound.limits item.index ∙ itself (has_item (items_of node) item.index) item.index ∙ sym is_wanted)
    where
      without : (b d : Bool) → d ≡ false → (b || d) ≡ b
      without b d e = grind (arith, nat_tests)

      itself : (b : Bool) (k : ℕ) → (b || k == k) ≡ true
      itself b k = grind (arith, nat_tests)

  first_child : (node : KnapNode) (place : ℕ) (item : ItemCopy) (items : List ItemCopy) → drop place (searched_copies instance) ≡ item ∷ items → is_next node.next place item ≡ true → item.weight ≤ node.room → Way instance wanted (added instance (opened node) place item) (place + 1) items → Way instance wanted node place (item ∷ items)
  first_child node place item items at free fits w = record {
    path = 0 ∷ w.path;
    last = w.last;
    found =
        ap (λ b. option_and_then (λ c. node_at (children_of instance) c w.path) (slice_get (if b then added instance (opened node) place item ∷ with_one_more instance (opened node) (place + 1) items else with_one_more instance (opened node) (place + 1) items) 0)) (and_from (is_next node.next place item) (nat_le item.weight node.room) free (le-leb item.weight node.room fits))
        ∙ sym (from_place-own instance (added instance (opened node) place item) w.path)
        ∙ ap (λ ys. from_place instance (added instance (opened node) place item) (place + 1) ys w.path) (rest_after instance place item items at)
        ∙ w.found;
    agrees = w.agrees;
  }

  -- a node of the tree that has what is wanted
  pub record Reaches : Type 0 where
    pub path : List ℕ
    pub last : KnapNode
    pub found : node_at (children_of instance) (root_of instance) path ≡ Some last
    pub agrees : AllByRecursion (λ item. has_item (items_of last) item.index ≡ wanted item) (searched_copies instance)

  -- a copy that is wanted may be the next one
  abbrev Free : KnapNode → ℕ → List ItemCopy → Type 0
  Free node place [] = Unit {0}
  Free node place (item ∷ items) = wanted item ≡ true → is_next node.next place item ≡ true

  free-here : (node : KnapNode) (place : ℕ) (items : List ItemCopy) → node.next ≡ place → Free node place items
  free-here node place [] e = tt
  free-here node place (item ∷ items) e = λ _. subst (λ k. is_next k place item ≡ true) (sym e) (is_next-at place item)

  -- where a copy is wanted, those of its item before it are
  module _ (closed : (copy next : ItemCopy) → Follows copy next → ¬ (next.turn ≡ 0) → wanted next ≡ true → wanted copy ≡ true) where
    free-behind : (node : KnapNode) (place : ℕ) (item : ItemCopy) (items : List ItemCopy) → FollowsAll item items → wanted item ≡ false → Free node (place + 1) items
    free-behind node place item [] follows absent = tt
    free-behind node place item (next ∷ items) follows absent =
        λ wants. elim (cases_eq next.turn 0) [
          | inl first ↦ is_next-first node.next (place + 1) next first
          | inr more ↦ absurd (true≢false (sym (closed item next follows more wants) ∙ absent))
        ]

    -- from a node that has what is wanted of the copies before a place, the way to the node that has all that is wanted
    way : (items : List ItemCopy) (node : KnapNode) (place : ℕ) → IsNode instance node → node.next ≤ place → drop place (searched_copies instance) ≡ items → IsChain items → Free node place items → AllByRecursion (Agrees node) (take place (searched_copies instance)) → sum_by wanted_weight items ≤ node.room → Way instance wanted node place items
    way [] node place sound from at chain free a fits =
        let long : length (searched_copies instance) ≤ place = omega (arith, ap length at, length-drop place (searched_copies instance)) in
        record {
          path = [];
          last = node;
          found = refl;
          agrees = subst (AllByRecursion (Agrees node)) (take_all place (searched_copies instance) long) a;
        }
    way (item ∷ items) node place sound from at chain free a fits =
        let cons = sum_by-cons wanted_weight item items in
        elim (wanted item) as (λ b. wanted item ≡ b → sum_by wanted_weight (item ∷ items) ≡ (if b then item.weight else 0) + sum_by wanted_weight items → Way instance wanted node place (item ∷ items)) [
          | true ↦ λ e c.
              let light : item.weight ≤ node.room = omega (arith, c, fits) in
              let next : IsNext instance node place item items = record { from = from; at = at; free = free e; fits = light } in
              first_child node place item items at (free e) light
              (way items (added instance (opened node) place item) (place + 1) (child-sound instance node sound place item items next) (omega arith) (rest_after instance place item items at) chain.1
              (free-here (added instance (opened node) place item) (place + 1) items refl)
              (child_agrees node sound place item items at a e)
              (omega (arith, c, fits)))
          | false ↦ λ e c.
              let absent : has_item (items_of node) item.index ≡ false = (subst (AllByRecursion (λ y. has_item (items_of node) y.index ≡ false)) at (none_from instance node sound place from)).0 in
              later instance wanted node place item items
              (way items node (place + 1) sound (omega arith) (rest_after instance place item items at) chain.1
              (free-behind node place item items chain.0 e)
              (more_agrees node place item items at a (absent ∙ sym e))
              (omega (arith, c, fits)))
        ]
        refl cons

    pub reaches : IsWithinLimits instance → sum_by wanted_weight (searched_copies instance) ≤ instance.capacity → Reaches
    reaches limits fits =
        let w = way (searched_copies instance) (root_of instance) 0 (root-sound instance limits) (omega arith) refl (searched_copies-chain instance) (free-here (root_of instance) 0 (searched_copies instance) refl) tt fits in
        record { path = w.path; last = w.last; found = sym (from_place-own instance (root_of instance) w.path) ∙ w.found; agrees = w.agrees }
