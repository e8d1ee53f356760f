-- Different paths of the tree lead to different numbers of copies.
use Rattle.std.proofs.Common.{◌≡◌, ℕ, zero, suc, ◌+◌, ◌<◌, ◌∙◌, Bool, true, false, ◌&&◌, List, [], ◌∷◌, length, drop, slice_get, Some, nat_le, if◌then◌else◌, refl, ap, ap₂, sym, subst, inl, inr, arith}
use Rattle.std.specs.List.{AllByRecursion, sum_by}
use Rattle.std.proofs.lemmas.Bool.{cases_order}
use Rattle.std.proofs.lemmas.Bool.Decides.{nat_tests}
use Rattle.std.proofs.lemmas.Option.{same_Some, none-some, option_and_then_some}
use Rattle.yew_laws.specs.Tree.{node_at}
use Rattle.yew_laws.proofs.Members.{AllByRecursion-weaker, AllByRecursion-at}
use Rattle.yew_knap.specs.declared.copies.ItemCopy.{ItemCopy}
use Rattle.yew_knap.specs.declared.item_sets.ItemSet.{ItemSet}
use Rattle.yew_knap.specs.declared.nodes.KnapNode.{KnapNode}
use Rattle.yew_knap.specs.declared.nodes.KnapKids.{KnapKids}
use Rattle.yew_knap.specs.BoundLaws.{Grows, grows-along, amount-below}
use Rattle.yew_knap.specs.Copies.{searched_copies}
use Rattle.yew_knap.specs.Instance.{Instance}
use Rattle.yew_knap.specs.ItemSets.{has_item}
use Rattle.yew_knap.specs.Lists.{sum_by-none}
use Rattle.yew_knap.specs.NodeLaws.{IsAdded, item_small, sum_by-added, absent, rest_after, child-at, child-sound, added-sound}
use Rattle.yew_knap.specs.Nodes.{added, is_next, with_one_more, children_of, amount_in, one_of, IsNode, items_of, opened}
use Rattle.yew_knap.proofs.Groups.{IsOfOther, others_from}

nexts-above : (instance : Instance) (kids : KnapKids) (place : ℕ) (items : List ItemCopy) → AllByRecursion (λ c. place < c.next) (with_one_more instance kids place items)
nexts-above instance kids place [] = tt
nexts-above instance kids place (item ∷ items) =
    let rest = AllByRecursion-weaker (λ (c : KnapNode). place + 1 < c.next) (λ c. place < c.next) (λ c l. omega (arith, l)) (with_one_more instance kids (place + 1) items) (nexts-above instance kids (place + 1) items) in
    elim (is_next kids.next place item && nat_le item.weight kids.room) as (λ b. AllByRecursion (λ (c : KnapNode). place < c.next) (if b then added instance kids place item ∷ with_one_more instance kids (place + 1) items else with_one_more instance kids (place + 1) items)) [
      | true ↦ (omega arith, rest)
      | false ↦ rest
    ]

-- children with the same next place are one child
abbrev OneChild : List KnapNode → Type 0
OneChild cs = (j k : ℕ) (c d : KnapNode) → slice_get cs j ≡ Some c → slice_get cs k ≡ Some d → c.next ≡ d.next → j ≡ k

one_child-cons : (child : KnapNode) (rest : List KnapNode) → AllByRecursion (λ c. child.next < c.next) rest → OneChild rest → OneChild (child ∷ rest)
one_child-cons child rest above one zero zero c d e f same = refl
one_child-cons child rest above one zero (suc k) c d e f same =
    let first : child ≡ c = same_Some child c e in
    let l : child.next < d.next = AllByRecursion-at (λ (x : KnapNode). child.next < x.next) rest k d f above in
    let n : child.next ≡ c.next = ap (λ (x : KnapNode). x.next) first in
    absurd (omega (arith, l, n, same))
one_child-cons child rest above one (suc j) zero c d e f same =
    let first : child ≡ d = same_Some child d f in
    let l : child.next < c.next = AllByRecursion-at (λ (x : KnapNode). child.next < x.next) rest j c e above in
    let n : child.next ≡ d.next = ap (λ (x : KnapNode). x.next) first in
    absurd (omega (arith, l, n, same))
one_child-cons child rest above one (suc j) (suc k) c d e f same = ap suc (one j k c d e f same)

one_child : (instance : Instance) (kids : KnapKids) (place : ℕ) (items : List ItemCopy) → OneChild (with_one_more instance kids place items)
one_child instance kids place [] = λ j k c d e f same. absurd (none-some c e)
one_child instance kids place (item ∷ items) =
    elim (is_next kids.next place item && nat_le item.weight kids.room) as (λ b. OneChild (if b then added instance kids place item ∷ with_one_more instance kids (place + 1) items else with_one_more instance kids (place + 1) items)) [
      | true ↦ one_child-cons (added instance kids place item) (with_one_more instance kids (place + 1) items) (nexts-above instance kids (place + 1) items) (one_child instance kids (place + 1) items)
      | false ↦ one_child instance kids (place + 1) items
    ]

module _ (instance : Instance) where
  -- how many copies of an item a node has
  abbrev count_of : ℕ → KnapNode → ℕ
  count_of k node = sum_by (amount_in (one_of k) (items_of node)) (searched_copies instance)

  -- two nodes have as many copies of each item of the file
  abbrev pub SameCounts : KnapNode → KnapNode → Type 0
  SameCounts a b = (k : ℕ) → k < length instance.items → count_of k a ≡ count_of k b

  child_grows : (node child below : KnapNode) (ks : List ℕ) → IsNode instance node → (a : IsAdded instance node child) → node_at (children_of instance) child ks ≡ Some below → Grows instance (added instance (opened node) a.place a.item) below
  child_grows node child below ks sound a e =
      subst (λ c. Grows instance c below) a.is (grows-along instance ks child below (added-sound instance node child sound a) e)

  own_index : (node child : KnapNode) → IsNode instance node → (a : IsAdded instance node child) → a.item.item < length instance.items
  own_index node child sound a = (item_small instance a.place a.item a.after a.next.at sound.limits).0

  -- what lies at or below a child has the copies of the child, and further ones of those behind the added one
  count-below : (node child below : KnapNode) (ks : List ℕ) → IsNode instance node → (a : IsAdded instance node child) → node_at (children_of instance) child ks ≡ Some below → (k : ℕ) → count_of k below ≡ count_of k node + one_of k a.item + sum_by (amount_in (one_of k) (items_of below)) (drop (a.place + 1) (searched_copies instance))
  count-below node child below ks sound a e k =
      let whole = amount-below instance (added instance (opened node) a.place a.item) below (child-sound instance node sound a.place a.item a.after a.next) (child_grows node child below ks sound a e) (one_of k) in
      let own = sum_by-added instance a.place a.item a.after a.next.at (one_of k) (items_of node) sound.size sound.limits (absent instance node sound a.place a.item a.after a.next) in
      omega (arith, whole, own)

  one-itself : (copy : ItemCopy) → one_of copy.item copy ≡ 1
  one-itself copy = grind (arith, nat_tests)

  -- a node has fewer copies than those below its children
  not_itself : (node child below : KnapNode) (ks : List ℕ) → IsNode instance node → IsAdded instance node child → node_at (children_of instance) child ks ≡ Some below → SameCounts node below → ⊥
  not_itself node child below ks sound a e same =
      let more = count-below node child below ks sound a e a.item.item in
      let level = same a.item.item (own_index node child sound a) in
      let one = one-itself a.item in
      absurd (omega (arith, more, level, one))

  none-of : (k : ℕ) (chosen : ItemSet) (copies : List ItemCopy) → AllByRecursion (IsOfOther k) copies → sum_by (amount_in (one_of k) chosen) copies ≡ 0
  none-of k chosen copies a =
      sum_by-none (amount_in (one_of k) chosen) copies
      (AllByRecursion-weaker (IsOfOther k) (λ copy. amount_in (one_of k) chosen copy ≡ 0) each copies a)
    where
      nothing : (b : Bool) (n : ℕ) → n ≡ 0 → (if b then n else 0) ≡ 0
      nothing true n e = e
      nothing false n e = refl

      each : (copy : ItemCopy) → IsOfOther k copy → amount_in (one_of k) chosen copy ≡ 0
      each copy other = nothing (has_item chosen copy.index) (one_of k copy) (ap (λ b. if b then 1 else 0) other)

  -- a copy behind the first one that may be chosen is the first of its item
  is-first : (begin place : ℕ) (copy : ItemCopy) → begin < place → is_next begin place copy ≡ true → copy.turn ≡ 0
  is-first begin place copy l e = grind (arith, nat_tests)

  -- what lies below a later child has no more copies of the item of an earlier one than the node has
  not_later : (node child below other other_below : KnapNode) (ks js : List ℕ) → IsNode instance node → (a : IsAdded instance node child) → (b : IsAdded instance node other) → node_at (children_of instance) child ks ≡ Some below → node_at (children_of instance) other js ≡ Some other_below → a.place < b.place → SameCounts below other_below → ⊥
  not_later node child below other other_below ks js sound a b e f before same =
      let from = a.next.from in
      let first : b.item.turn ≡ 0 = is-first node.next b.place b.item (omega (arith, from, before)) b.next.free in
      let apart : AllByRecursion (IsOfOther a.item.item) (b.item ∷ b.after) = others_from instance a.place b.place a.item b.item a.after b.after a.next.at b.next.at before first in
      let more = count-below node child below ks sound a e a.item.item in
      let other_more = count-below node other other_below js sound b f a.item.item in
      let level = same a.item.item (own_index node child sound a) in
      let one = one-itself a.item in
      let none : one_of a.item.item b.item ≡ 0 = ap (λ x. if x then 1 else 0) apart.0 in
      let nothing : sum_by (amount_in (one_of a.item.item) (items_of other_below)) (drop (b.place + 1) (searched_copies instance)) ≡ 0 =
      ap (λ cs. sum_by (amount_in (one_of a.item.item) (items_of other_below)) cs) (rest_after instance b.place b.item b.after b.next.at) ∙ none-of a.item.item (items_of other_below) b.after apart.1
      in
      absurd (omega (arith, more, other_more, level, one, none, nothing))

  same_next : (node child other : KnapNode) (a : IsAdded instance node child) (b : IsAdded instance node other) → a.place ≡ b.place → child.next ≡ other.next
  same_next node child other a b e =
      ap (λ (c : KnapNode). c.next) a.is ∙ ap (λ p. p + 1) e ∙ sym (ap (λ (c : KnapNode). c.next) b.is)

  -- nodes of the same numbers of copies stand at the same path
  pub one_path : (p q : List ℕ) (node a b : KnapNode) → IsNode instance node → node_at (children_of instance) node p ≡ Some a → node_at (children_of instance) node q ≡ Some b → SameCounts a b → p ≡ q
  one_path [] [] node a b sound e f same = refl
  one_path [] (k ∷ ks) node a b sound e f same =
      option_and_then_some (λ c. node_at (children_of instance) c ks) (slice_get (children_of instance node) k) b f
      (λ c at rest. absurd (not_itself node c b ks sound (child-at instance node k c at) rest (subst (λ n. SameCounts n b) (sym (same_Some node a e)) same)))
  one_path (j ∷ js) [] node a b sound e f same =
      option_and_then_some (λ c. node_at (children_of instance) c js) (slice_get (children_of instance node) j) a e
      (λ c at rest. absurd (not_itself node c a js sound (child-at instance node j c at) rest (subst (λ n. SameCounts n a) (sym (same_Some node b f)) (λ k l. sym (same k l)))))
  one_path (j ∷ js) (k ∷ ks) node a b sound e f same =
      option_and_then_some (λ c. node_at (children_of instance) c js) (slice_get (children_of instance node) j) a e
      (λ c at rest.
      option_and_then_some (λ d. node_at (children_of instance) d ks) (slice_get (children_of instance node) k) b f
      (λ d at_d rest_d.
      let x = child-at instance node j c at in
      let y = child-at instance node k d at_d in
      elim (cases_order x.place y.place) [
        | inl level ↦
            let number : j ≡ k = one_child instance (opened node) node.next (drop node.next (searched_copies instance)) j k c d at at_d (same_next node c d x y level) in
            let child : c ≡ d = same_Some c d (sym at ∙ ap (slice_get (children_of instance node)) number ∙ at_d) in
            let tail : js ≡ ks = one_path js ks c a b (added-sound instance node c sound x) rest (subst (λ n. node_at (children_of instance) n ks ≡ Some b) (sym child) rest_d) same in
            ap₂ (λ (m : ℕ) (ms : List ℕ). m ∷ ms) number tail
        | inr apart ↦
            elim apart [
              | inl before ↦ absurd (not_later node c a d b js ks sound x y rest rest_d before same)
              | inr behind ↦ absurd (not_later node d b c a ks js sound y x rest_d rest behind (λ n l. sym (same n l)))
            ]
      ]))
