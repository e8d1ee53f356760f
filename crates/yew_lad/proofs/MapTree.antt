-- The whole members of the tree are the maps, each once.
use Rattle.std.proofs.Common.{◌≡◌, ℕ, zero, suc, ◌+◌, ◌<◌, ◌≤◌, Bool, true, false, cond, List, [], ◌∷◌, ◌++◌, length, map, drop, slice_get, slice_index, Some, if◌then◌else◌, refl, ap, ap₂, sym, subst, ◌∙◌, inl, inr, append-nil, append_assoc, length-drop, ◌==◌, arith}
use Rattle.std.specs.List.{AllByRecursion, Contains, filter, range_with_len}
use Rattle.std.proofs.Math.Seq.{get_or-append_seam}
use Rattle.std.proofs.lemmas.Bool.{cases_eq, cases_Bool}
use Rattle.std.proofs.lemmas.Bool.Decides.{nat_tests}
use Rattle.std.proofs.lemmas.List.{drop_more, length-append, get_or_append_left}
use Rattle.std.proofs.lemmas.List.Elements.{All-contains, All-from_recursion}
use Rattle.std.proofs.lemmas.Option.{same_Some, none-some, option_and_then_some}
use Rattle.yew_laws.specs.SearchTree.{preorder}
use Rattle.yew_laws.specs.Tree.{Member, node_at}
use Rattle.yew_laws.proofs.Members.{AllByRecursion-at}
use Rattle.yew_laws.proofs.Trees.{tree-contains, tree-node_at, tree-sound, node_at-child, node_at-rank}
use Rattle.yew_lad.specs.Answers.{IsFound, TreeMaps}
use Rattle.yew_lad.specs.Digraphs.{GraphPair, IsWithinLimits, vertex_count}
use Rattle.yew_lad.specs.Lists.{picked-all}
use Rattle.yew_lad.specs.Maps.{is_map}
use Rattle.yew_lad.specs.NodeLaws.{IsChild, children-are, child-sound, maps-ranked, root-sound}
use Rattle.yew_lad.specs.Nodes.{vertex_at, is_candidate, candidates_of, unmapped_of, with_image, mapping_first, children_of, root_of, rank_of, is_whole, worth_of, images_of, maps_tree, IsNext, AreNext, IsNode}
use Rattle.yew_lad.specs.OrderLaws.{length-searched_order}
use Rattle.yew_lad.specs.SearchedOrder.{searched_order}
use Rattle.yew_lad.proofs.Chosen.{same_count, whole-map, same-node, node_of, node-sound, node-whole, node-images}

-- ---- what a test picks of a range, by its place

pub record PickedAt (p : ℕ → Bool) (low n t : ℕ) : Type 0 where
  pub place : ℕ
  pub is : slice_get (filter p (range_with_len low n)) place ≡ Some t

picked-at : (p : ℕ → Bool) (low n t : ℕ) → low ≤ t → t < low + n → p t ≡ true → PickedAt p low n t
picked-at p low zero t a b e = absurd (omega arith)
picked-at p low (suc n) t a b e =
    elim (cases_eq low t) [
      | inl same ↦ record { place = 0; is = ap (λ c. slice_get (cond c (low ∷ filter p (range_with_len (low + 1) n)) (filter p (range_with_len (low + 1) n))) 0) (ap p same ∙ e) ∙ ap Some same }
      | inr other ↦
          let rest = picked-at p (low + 1) n t (omega arith) (omega arith) e in
          elim (p low) as (λ c. p low ≡ c → PickedAt p low (suc n) t) [
            | true ↦ λ own. record { place = suc rest.place; is = ap (λ c. slice_get (cond c (low ∷ filter p (range_with_len (low + 1) n)) (filter p (range_with_len (low + 1) n))) (suc rest.place)) own ∙ rest.is }
            | false ↦ λ own. record { place = rest.place; is = ap (λ c. slice_get (cond c (low ∷ filter p (range_with_len (low + 1) n)) (filter p (range_with_len (low + 1) n))) rest.place) own ∙ rest.is }
          ]
          refl
    ]

picked-above : (p : ℕ → Bool) (low n : ℕ) → AllByRecursion (λ t. low ≤ t) (filter p (range_with_len low n))
picked-above p low n = picked-all (λ t. low ≤ t) p low n (λ t a b e. a)

picked-once : (p : ℕ → Bool) (low n j k t : ℕ) → slice_get (filter p (range_with_len low n)) j ≡ Some t → slice_get (filter p (range_with_len low n)) k ≡ Some t → j ≡ k
picked-once p low zero j k t e f = absurd (none-some t e)
picked-once p low (suc n) j k t e f =
    elim (p low) as (λ c. slice_get (cond c (low ∷ filter p (range_with_len (low + 1) n)) (filter p (range_with_len (low + 1) n))) j ≡ Some t → slice_get (cond c (low ∷ filter p (range_with_len (low + 1) n)) (filter p (range_with_len (low + 1) n))) k ≡ Some t → j ≡ k) [
      | true ↦ λ x y. both (λ i h a b. picked-once p (low + 1) n i h t a b) j k x y
      | false ↦ λ x y. picked-once p (low + 1) n j k t x y
    ]
    e f
  where
    both : ((i h : ℕ) → slice_get (filter p (range_with_len (low + 1) n)) i ≡ Some t → slice_get (filter p (range_with_len (low + 1) n)) h ≡ Some t → i ≡ h) → (i h : ℕ) → slice_get (low ∷ filter p (range_with_len (low + 1) n)) i ≡ Some t → slice_get (low ∷ filter p (range_with_len (low + 1) n)) h ≡ Some t → i ≡ h
    both again zero zero x y = refl
    both again zero (suc h) x y = let same = same_Some low t x in let above = AllByRecursion-at (λ s. low + 1 ≤ s) (filter p (range_with_len (low + 1) n)) h t y (picked-above p (low + 1) n) in absurd (omega (arith, same, above))
    both again (suc i) zero x y = let same = same_Some low t y in let above = AllByRecursion-at (λ s. low + 1 ≤ s) (filter p (range_with_len (low + 1) n)) i t x (picked-above p (low + 1) n) in absurd (omega (arith, same, above))
    both again (suc i) (suc h) x y = ap suc (again i h x y)

get-map : (f : ℕ → List ℕ) (xs : List ℕ) (k t : ℕ) → slice_get xs k ≡ Some t → slice_get (map f xs) k ≡ Some (f t)
get-map f [] k t e = absurd (none-some t e)
get-map f (x ∷ xs) zero t e = ap (λ s. Some (f s)) (same_Some x t e)
get-map f (x ∷ xs) (suc k) t e = get-map f xs k t e

pub record Mapped (f : ℕ → List ℕ) (xs : List ℕ) (k : ℕ) (ys : List ℕ) : Type 0 where
  pub from : ℕ
  pub at : slice_get xs k ≡ Some from
  pub is : f from ≡ ys

get-mapped : (f : ℕ → List ℕ) (xs : List ℕ) (k : ℕ) (ys : List ℕ) → slice_get (map f xs) k ≡ Some ys → Mapped f xs k ys
get-mapped f [] k ys e = absurd (none-some ys e)
get-mapped f (x ∷ xs) zero ys e = record { from = x; at = refl; is = same_Some (f x) ys e }
get-mapped f (x ∷ xs) (suc k) ys e = let m = get-mapped f xs k ys e in record { from = m.from; at = m.at; is = m.is }

last-of : (images : List ℕ) (t : ℕ) → slice_index (with_image images t) (length images) ≡ t
last-of images t = get_or-append_seam images t [] 0

module _ (pair : GraphPair) where
  -- the next vertex is there where a node is not whole
  next-unmapped : (images : List ℕ) → length images < vertex_count pair.pattern → unmapped_of pair images ≡ vertex_at pair (length images) ∷ drop (length images + 1) (searched_order pair.pattern)
  next-unmapped images l = drop_more (searched_order pair.pattern) (length images) 0 (let n = length-searched_order pair.pattern in omega arith)

  children-next : (images : List ℕ) → length images < vertex_count pair.pattern → children_of pair images ≡ map (with_image images) (candidates_of pair images (vertex_at pair (length images)))
  children-next images l = ap (mapping_first pair images) (next-unmapped images l)

  pub record ChildAt (images : List ℕ) (t : ℕ) : Type 0 where
    pub number : ℕ
    pub at : slice_get (children_of pair images) number ≡ Some (with_image images t)

  child-found : (images : List ℕ) (t : ℕ) → length images < vertex_count pair.pattern → IsNext pair images t → ChildAt images t
  child-found images t l next =
      let picked = picked-at (is_candidate pair images (vertex_at pair (length images))) 0 (vertex_count pair.target) t (omega arith) (let b = next.vertex in omega arith) next.candidate in
      record {
        number = picked.place;
        at = ap (λ cs. slice_get cs picked.place) (children-next images l) ∙ get-map (with_image images) (candidates_of pair images (vertex_at pair (length images))) picked.place t picked.is;
      }

  -- the way to a node
  pub record WayTo (images : List ℕ) : Type 0 where
    pub path : List ℕ
    pub found : node_at (children_of pair) [] path ≡ Some images

  way-along : (before images : List ℕ) → WayTo before → AreNext pair before images → length before + length images ≤ vertex_count pair.pattern → WayTo (before ++ images)
  way-along before [] way a l = subst (λ xs. WayTo xs) (sym (append-nil before)) way
  way-along before (t ∷ ts) way a l =
      let child = child-found before t (omega arith) a.0 in
      let longer = length-append before (t ∷ []) in
      subst (λ xs. WayTo xs) (append_assoc before (t ∷ []) ts)
      (way-along (with_image before t) ts
      (record { path = way.path ++ child.number ∷ []; found = node_at-child (children_of pair) [] before (with_image before t) way.path child.number way.found child.at })
      a.1 (omega (arith, longer, l)))

  way-to : (images : List ℕ) → IsNode pair images → WayTo images
  way-to images sound = way-along [] images (record { path = []; found = refl }) sound.chosen (let w = sound.within in let l : 0 + length images ≤ vertex_count pair.pattern = omega arith in l)

  -- ---- one path

  child-of : (images child : List ℕ) (k : ℕ) → slice_get (children_of pair images) k ≡ Some child → IsChild pair images child
  child-of images child k e = AllByRecursion-at (IsChild pair images) (children_of pair images) k child e (children-are pair images)

  -- a node keeps its images below
  keeps-images : (path : List ℕ) (images below : List ℕ) → node_at (children_of pair) images path ≡ Some below → (q : ℕ) → q < length images → slice_index below q ≡ slice_index images q
  keeps-images [] images below e q l = ap (λ xs. slice_index xs q) (sym (same_Some images below e))
  keeps-images (k ∷ ks) images below e q l =
      option_and_then_some (λ c. node_at (children_of pair) c ks) (slice_get (children_of pair images) k) below e
      (λ c at rest.
      let child = child-of images c k at in
      let longer = length-append images (child.image ∷ []) in
      let size = ap length child.is in
      keeps-images ks c below rest q (omega arith)
      ∙ ap (λ xs. slice_index xs q) child.is
      ∙ get_or_append_left images (child.image ∷ []) 0 q l)

  one-number : (images child : List ℕ) (j k : ℕ) → slice_get (children_of pair images) j ≡ Some child → slice_get (children_of pair images) k ≡ Some child → j ≡ k
  one-number images child j k e f =
      let a = child-of images child j e in
      let some : length images < vertex_count pair.pattern = let n = length-searched_order pair.pattern in let d = length-drop (length images) (searched_order pair.pattern) in let m = ap length a.unmapped in omega arith in
      let cs = candidates_of pair images (vertex_at pair (length images)) in
      let x = get-mapped (with_image images) cs j child (ap (λ ys. slice_get ys j) (sym (children-next images some)) ∙ e) in
      let y = get-mapped (with_image images) cs k child (ap (λ ys. slice_get ys k) (sym (children-next images some)) ∙ f) in
      let same : x.from ≡ y.from = sym (last-of images x.from) ∙ ap (λ xs. slice_index xs (length images)) (x.is ∙ sym y.is) ∙ last-of images y.from in
      picked-once (is_candidate pair images (vertex_at pair (length images))) 0 (vertex_count pair.target) j k y.from (x.at ∙ ap Some same) y.at

  one-path : (p q : List ℕ) (images below : List ℕ) → IsNode pair images → node_at (children_of pair) images p ≡ Some below → node_at (children_of pair) images q ≡ Some below → p ≡ q
  one-path [] [] images below sound e f = refl
  one-path [] (k ∷ ks) images below sound e f =
      let same = ap (rank_of pair) (same_Some images below e) in
      let falls = node_at-rank (maps-ranked pair) (k ∷ ks) images below sound f in
      absurd (omega (arith, same, falls))
  one-path (j ∷ js) [] images below sound e f =
      let same = ap (rank_of pair) (same_Some images below f) in
      let falls = node_at-rank (maps-ranked pair) (j ∷ js) images below sound e in
      absurd (omega (arith, same, falls))
  one-path (j ∷ js) (k ∷ ks) images below sound e f =
      option_and_then_some (λ c. node_at (children_of pair) c js) (slice_get (children_of pair images) j) below e
      (λ c at rest.
      option_and_then_some (λ d. node_at (children_of pair) d ks) (slice_get (children_of pair images) k) below f
      (λ d at_d rest_d.
      let a = child-of images c j at in
      let b = child-of images d k at_d in
      let size_c = ap length a.is ∙ length-append images (a.image ∷ []) in
      let size_d = ap length b.is ∙ length-append images (b.image ∷ []) in
      let last_c : slice_index below (length images) ≡ a.image = keeps-images js c below rest (length images) (omega arith) ∙ ap (λ xs. slice_index xs (length images)) a.is ∙ last-of images a.image in
      let last_d : slice_index below (length images) ≡ b.image = keeps-images ks d below rest_d (length images) (omega arith) ∙ ap (λ xs. slice_index xs (length images)) b.is ∙ last-of images b.image in
      let child : c ≡ d = a.is ∙ ap (with_image images) (sym last_c ∙ last_d) ∙ sym b.is in
      let number : j ≡ k = one-number images d j k (at ∙ ap Some child) at_d in
      let tail : js ≡ ks = one-path js ks c below (child-sound pair images c sound a) rest (subst (λ x. node_at (children_of pair) x ks ≡ Some below) (sym child) rest_d) in
      ap₂ (λ (m : ℕ) (ms : List ℕ). m ∷ ms) number tail))

  -- ---- the tree

  module _ (limits : IsWithinLimits pair) where
    abbrev members : List (Member (List ℕ))
    members = preorder (maps_tree pair)

    root : IsNode pair (root_of pair)
    root = root-sound pair limits

    member-all : (P : Member (List ℕ) → Type 0) → AllByRecursion P members → (m : Member (List ℕ)) → Contains members m → P m
    member-all P a m stands = All-contains P members m (All-from_recursion P members a) stands

    -- each member of the tree is a node
    pub member-sound : (m : Member (List ℕ)) → Contains members m → IsNode pair m.node
    member-sound = member-all (λ m. IsNode pair m.node) (tree-sound (maps-ranked pair) (root_of pair) root)

    member-at : (m : Member (List ℕ)) → Contains members m → node_at (children_of pair) (root_of pair) m.path ≡ Some m.node
    member-at = member-all (λ m. node_at (children_of pair) (root_of pair) m.path ≡ Some m.node) (tree-node_at (maps-ranked pair) (root_of pair) root)

    each-map : (m : Member (List ℕ)) → Contains members m → is_whole pair m.node ≡ true → is_map pair (images_of pair m.node) ≡ true
    each-map m stands whole = whole-map pair m.node (member-sound m stands) (same_count (length m.node) (vertex_count pair.pattern) whole)

    all-found : (images : List ℕ) → is_map pair images ≡ true → IsFound pair images
    all-found images is =
        let way = way-to (node_of pair images) (node-sound pair limits images is) in
        record {
          member = record { path = way.path; node = node_of pair images };
          stands = tree-contains (maps-ranked pair) way.path (root_of pair) (node_of pair images) root way.found;
          whole = equal (length (node_of pair images)) (vertex_count pair.pattern) (node-whole pair limits images is);
          images_are = node-images pair limits images is;
        }
      where
        equal : (j k : ℕ) → j ≡ k → (j == k) ≡ true
        equal j k e = grind (arith, nat_tests, e)

    each-once : (m other : Member (List ℕ)) → Contains members m → Contains members other → is_whole pair m.node ≡ true → is_whole pair other.node ≡ true → images_of pair m.node ≡ images_of pair other.node → m ≡ other
    each-once m other stands also whole all e =
        let nodes : m.node ≡ other.node = same-node pair m.node other.node (same_count (length m.node) (vertex_count pair.pattern) whole) (same_count (length other.node) (vertex_count pair.pattern) all) e in
        let paths : m.path ≡ other.path = one-path m.path other.path (root_of pair) other.node root (member-at m stands ∙ ap Some nodes) (member-at other also) in
        ap₂ (λ (p : List ℕ) (n : List ℕ). make p n) paths nodes
      where
        make : List ℕ → List ℕ → Member (List ℕ)
        make p n = record { path = p; node = n }

    pub worth-whole : (images : List ℕ) → 1 ≤ worth_of pair images → is_whole pair images ≡ true
    worth-whole images l =
        elim (cases_Bool (is_whole pair images)) [
          | inl whole ↦ whole
          | inr part ↦ let none : worth_of pair images ≡ 0 = ap (λ b. if b then 1 else 0) part in absurd (omega (arith, none, l))
        ]

    whole-worth : (images : List ℕ) → is_whole pair images ≡ true → 1 ≤ worth_of pair images
    whole-worth images whole = let one : worth_of pair images ≡ 1 = ap (λ b. if b then 1 else 0) whole in omega (arith, one)

    -- the tree answers whether there is a map
    pub tree-maps : TreeMaps pair
    tree-maps = record {
      each = each-map;
      all = all-found;
      once = each-once;
      reach = (
        (λ r. record { images = images_of pair r.1.node; is = each-map r.1 (r.0, r.2, r.3) (worth-whole r.1.node r.4) }),
        (λ has. let f = all-found has.images has.is in (f.stands.0, f.member, f.stands.1, f.stands.2, whole-worth f.member.node f.whole)),
      );
    }
