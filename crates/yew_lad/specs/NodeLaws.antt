-- The children of a node are nodes, of less rank and no greater bound.
use Rattle.std.specs.Prelude.{◌≡◌, ℕ, ◌+◌, ◌<◌, ◌≤◌, ◌^◌, Bool, true, not, ◌&&◌, ◌||◌, ◌==◌, List, [], ◌∷◌, ◌++◌, length, drop, slice_index, if◌then◌else◌, refl}
use Rattle.std.specs.List.{AllByRecursion, list_all}
use Rattle.std.proofs.Common.{ap, sym, subst, ◌∙◌, inl, inr, arith, length-drop, add-one, append-nil, append_assoc}
use Rattle.std.proofs.lemmas.Bool.{and_parts, and_from, cases_Bool}
use Rattle.std.proofs.lemmas.Bool.Decides.{nat_tests}
use Rattle.std.proofs.lemmas.List.{length-append, length-map, drop_all, get_or_append_left}
use Rattle.yew_laws.specs.Sets.{contains}
use Rattle.yew_laws.specs.Tree.{IsRanked, IsBounded}
use Rattle.yew_laws.proofs.Bounds.{IsBounded-from_steps}
use Rattle.yew_laws.proofs.Members.{AllByRecursion-map, AllByRecursion-weaker}
use Rattle.yew_laws.proofs.Steps.{drop_from_drop}
use Rattle.yew_lad.specs.Digraphs.{GraphPair, IsWithinLimits, vertex_count, vertices_of}
use Rattle.yew_lad.specs.Lists.{range-all, range-at, range-any, list_any-weaker, list_all-weaker, picked-all, picked-few, contains-push, at_drop}
use Rattle.yew_lad.specs.Nodes.{vertex_at, has_room, keeps_arcs, keeps_all, is_candidate, candidates_of, unmapped_of, with_image, mapping_first, children_of, root_of, rank_of, is_whole, worth_of, has_candidate, bound_of, IsNext, AreNext, IsNode}
use Rattle.yew_lad.specs.OrderLaws.{length-searched_order}
use Rattle.yew_lad.specs.SearchedOrder.{profile_of, searched_order}

pub AreNext-push : (pair : GraphPair) (before images : List ℕ) (t : ℕ) → AreNext pair before images → IsNext pair (before ++ images) t → AreNext pair before (with_image images t)
AreNext-push pair before [] t a next = (subst (λ (xs : List ℕ). IsNext pair xs t) (append-nil before) next, tt)
AreNext-push pair before (s ∷ images) t a next =
    (a.0, AreNext-push pair (with_image before s) images t a.1 (subst (λ (xs : List ℕ). IsNext pair xs t) (sym (append_assoc before (s ∷ []) images)) next))

-- one more vertex goes to a candidate
pub record IsChild (pair : GraphPair) (images child : List ℕ) : Type 0 where
  pub vertex : ℕ
  pub others : List ℕ
  pub unmapped : unmapped_of pair images ≡ vertex ∷ others
  pub image : ℕ
  pub next : IsNext pair images image
  pub is : child ≡ with_image images image

module _ (pair : GraphPair) (images : List ℕ) where
  mapping-children : (vs : List ℕ) → unmapped_of pair images ≡ vs → AllByRecursion (IsChild pair images) (mapping_first pair images vs)
  mapping-children [] at = tt
  mapping-children (v ∷ vs) at =
      AllByRecursion-map (IsChild pair images) (with_image images) (candidates_of pair images v)
      (picked-all (λ t. IsChild pair images (with_image images t)) (is_candidate pair images v) 0 (vertex_count pair.target)
      (λ t low high e. record {
        vertex = v;
        others = vs;
        unmapped = at;
        image = t;
        next = record {
          vertex = omega arith;
          candidate = ap (λ u. is_candidate pair images u t) (at_drop (searched_order pair.pattern) (length images) v vs at) ∙ e;
        };
        is = refl;
      }))

  pub children-are : AllByRecursion (IsChild pair images) (children_of pair images)
  children-are = mapping-children (unmapped_of pair images) refl

  pub unmapped-some : (v : ℕ) (vs : List ℕ) → unmapped_of pair images ≡ v ∷ vs → length images < vertex_count pair.pattern
  unmapped-some v vs at =
      let l = ap length at in
      let d = length-drop (length images) (searched_order pair.pattern) in
      let n = length-searched_order pair.pattern in
      omega (arith, l, d, n)

  length-child : (child : List ℕ) → IsChild pair images child → length child ≡ length images + 1
  length-child child a = let e = ap length a.is in let l = length-append images (a.image ∷ []) in omega (arith, e, l)

  pub child-sound : (child : List ℕ) → IsNode pair images → IsChild pair images child → IsNode pair child
  child-sound child sound a = record {
    limits = sound.limits;
    within = let l = length-child child a in let some = unmapped-some a.vertex a.others a.unmapped in omega (arith, l, some);
    chosen = subst (AreNext pair []) (sym a.is) (AreNext-push pair [] images a.image sound.chosen a.next);
  }

  child-rank : (child : List ℕ) → IsChild pair images child → rank_of pair child < rank_of pair images
  child-rank child a = let l = length-child child a in let some = unmapped-some a.vertex a.others a.unmapped in omega (arith, l, some)

  -- a candidate beside one more mapped vertex is one without it
  pub fewer-mapped : (t v s : ℕ) → is_candidate pair (with_image images t) v s ≡ true → is_candidate pair images v s ≡ true
  unfolding is_candidate
  fewer-mapped t v s e =
      let all = and_parts (not (contains (with_image images t) s) && has_room (profile_of pair.pattern v) (profile_of pair.target s)) (keeps_all pair (with_image images t) v s) e in
      let both = and_parts (not (contains (with_image images t) s)) (has_room (profile_of pair.pattern v) (profile_of pair.target s)) all.0 in
      and_from (not (contains images s) && has_room (profile_of pair.pattern v) (profile_of pair.target s)) (keeps_all pair images v s)
      (and_from (not (contains images s)) (has_room (profile_of pair.pattern v) (profile_of pair.target s)) (unused (contains images s) (t == s) (ap not (sym (contains-push images t s)) ∙ both.0)) both.1)
      (range-all (λ place. keeps_arcs pair (vertex_at pair place) (slice_index images place) v s) 0 (length images)
      (λ place low high.
      let longer = length-append images (t ∷ []) in
      let within : place < length images = omega arith in
      ap (λ image. keeps_arcs pair (vertex_at pair place) image v s) (sym (get_or_append_left images (t ∷ []) 0 place within))
      ∙ range-at (λ k. keeps_arcs pair (vertex_at pair k) (slice_index (with_image images t) k) v s) 0 (length (with_image images t)) all.1 place low (omega (arith, longer))))
    where
      unused : (a b : Bool) → not (a || b) ≡ true → not a ≡ true
      unused a b h = grind (arith, h)

  all_can : (child : List ℕ) → IsChild pair images child → list_all (has_candidate pair child) (unmapped_of pair child) ≡ true → list_all (has_candidate pair images) (unmapped_of pair images) ≡ true
  all_can child a e =
      let left : unmapped_of pair child ≡ a.others = ap (λ k. drop k (searched_order pair.pattern)) (length-child child a ∙ add-one (length images)) ∙ drop_from_drop (searched_order pair.pattern) (length images) a.vertex a.others a.unmapped in
      let others : list_all (has_candidate pair child) a.others ≡ true = ap (list_all (has_candidate pair child)) (sym left) ∙ e in
      ap (list_all (has_candidate pair images)) a.unmapped
      ∙ and_from (has_candidate pair images a.vertex) (list_all (has_candidate pair images) a.others)
      (range-any (is_candidate pair images a.vertex) 0 (vertex_count pair.target) a.image (omega arith) (let m = a.next.vertex in omega arith)
      (ap (λ u. is_candidate pair images u a.image) (sym (at_drop (searched_order pair.pattern) (length images) a.vertex a.others a.unmapped)) ∙ a.next.candidate))
      (list_all-weaker (has_candidate pair child) (has_candidate pair images)
      (λ u h. list_any-weaker (is_candidate pair child u) (is_candidate pair images u) (λ s c. fewer-mapped a.image u s (ap (λ xs. is_candidate pair xs u s) (sym a.is) ∙ c)) (vertices_of pair.target) h)
      a.others others)

  child-bound : (child : List ℕ) → IsChild pair images child → bound_of pair child ≤ bound_of pair images
  child-bound child a =
      let step = all_can child a in
      falls (list_all (has_candidate pair child) (unmapped_of pair child)) (list_all (has_candidate pair images) (unmapped_of pair images)) step
    where
      falls : (b d : Bool) → (b ≡ true → d ≡ true) → (if b then 1 else 0) ≤ (if d then 1 else 0)
      falls b d h = grind (arith, h)

  own-bound : IsNode pair images → worth_of pair images ≤ bound_of pair images
  own-bound sound =
      elim (cases_Bool (is_whole pair images)) [
        | inl whole ↦
            let all : length (searched_order pair.pattern) ≤ length images = let n = length-searched_order pair.pattern in let same : length images ≡ vertex_count pair.pattern = same_count (length images) (vertex_count pair.pattern) whole in omega (arith, n, same) in
            let none : unmapped_of pair images ≡ [] = drop_all (length images) (searched_order pair.pattern) all in
            let one : bound_of pair images ≡ 1 = ap (λ vs. if list_all (has_candidate pair images) vs then 1 else 0) none in
            let most : worth_of pair images ≤ 1 = at_most_one (is_whole pair images) in
            omega (arith, one, most)
        | inr part ↦ let zero_worth : worth_of pair images ≡ 0 = ap (λ b. if b then 1 else 0) part in omega (arith, zero_worth)
      ]
    where
      same_count : (j k : ℕ) → (j == k) ≡ true → j ≡ k
      same_count j k e = grind (arith, nat_tests)

      at_most_one : (b : Bool) → (if b then 1 else 0) ≤ 1
      at_most_one b = grind arith

module _ (pair : GraphPair) where
  -- the children of a node are nodes, and of less rank
  pub maps-ranked : IsRanked (IsNode pair) (children_of pair) (rank_of pair)
  maps-ranked = record {
    stays_sound = λ images sound. AllByRecursion-weaker (IsChild pair images) (IsNode pair) (λ child a. child-sound pair images child sound a) (children_of pair images) (children-are pair images);
    rank_falls = λ images sound. AllByRecursion-weaker (IsChild pair images) (λ child. rank_of pair child < rank_of pair images) (λ child a. child-rank pair images child a) (children_of pair images) (children-are pair images);
  }

  -- no node at or below a node is worth more than the bound
  pub maps-bounded : IsBounded (IsNode pair) (children_of pair) (worth_of pair) (bound_of pair)
  maps-bounded =
      IsBounded-from_steps maps-ranked
      (λ images sound. own-bound pair images sound)
      (λ images sound. AllByRecursion-weaker (IsChild pair images) (λ child. bound_of pair child ≤ bound_of pair images) (λ child a. child-bound pair images child a) (children_of pair images) (children-are pair images))
      (λ images sound. small (list_all (has_candidate pair images) (unmapped_of pair images)))
    where
      small : (b : Bool) → (if b then 1 else 0) < 2 ^ 40
      small b = grind arith

  -- the empty map is a node
  pub root-sound : IsWithinLimits pair → IsNode pair (root_of pair)
  root-sound limits = record { limits = limits; within = omega arith; chosen = tt }

  pub root_rank-small : IsNode pair (root_of pair) → rank_of pair (root_of pair) ≤ 65535
  root_rank-small sound = let few = sound.limits.pattern in omega (arith, few)

  children-few : (images vs : List ℕ) → length (mapping_first pair images vs) ≤ vertex_count pair.target
  children-few images [] = omega arith
  children-few images (v ∷ vs) =
      let l = length-map (candidates_of pair images v) (with_image images) in
      let few = picked-few (is_candidate pair images v) 0 (vertex_count pair.target) in
      omega (arith, l, few)

  -- a node has at most as many children as the target has vertices
  pub maps-countable : (images : List ℕ) → IsNode pair images → length (children_of pair images) + 1 < 2 ^ 32
  maps-countable images sound =
      let few = children-few images (unmapped_of pair images) in
      let small = sound.limits.target in
      omega (arith, few, small)
