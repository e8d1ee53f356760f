-- The images of a node one by one, and the maps that whole nodes are.
use Rattle.std.proofs.Common.{◌≡◌, ◌≢◌, ℕ, zero, suc, ◌+◌, ◌<◌, ◌≤◌, Bool, true, false, not, ◌&&◌, ◌||◌, ◌==◌, List, [], ◌∷◌, ◌++◌, length, map, take, nat_lt, nat_le, slice_index, refl, ap, ap₂, sym, subst, ◌∙◌, inl, inr, append-nil, append_assoc, arith}
use Rattle.std.specs.List.{list_all, position_or_len, range_with_len}
use Rattle.std.proofs.lemmas.Bool.{and_parts, and_from, cases_order, cases_Bool, lt-ltb, ltb-true, le-leb, true≢false}
use Rattle.std.proofs.lemmas.Bool.Decides.{nat_tests}
use Rattle.std.proofs.lemmas.List.{length-take, length-map, get_or-map}
use Rattle.std.proofs.lemmas.List.FromFn.{get_or-map-range_with_len, length-map-range_with_len}
use Rattle.yew_laws.specs.Sets.{contains, are_different}
use Rattle.yew_lad.specs.Digraphs.{GraphPair, IsWithinLimits, vertex_count, vertices_of, is_arc, is_other_arc, other_successors, other_predecessors}
use Rattle.yew_lad.specs.Lists.{range-all, range-at}
use Rattle.yew_lad.specs.Maps.{keeps_arc, is_map}
use Rattle.yew_lad.specs.Nodes.{vertex_at, has_room, keeps_arcs, keeps_all, is_candidate, with_image, place_of, images_of, IsNext, AreNext, IsNode}
use Rattle.yew_lad.specs.OrderLaws.{length-searched_order}
use Rattle.yew_lad.specs.SearchedOrder.{profile_of, searched_order}
use Rattle.yew_lad.proofs.CandidateLaws.{image-below}
use Rattle.yew_lad.proofs.Orders.{order-different, order-contains, vertex-below, place-found, place-of_element}
use Rattle.yew_lad.proofs.Pigeons.{no-more}

-- ---- lists by their elements

taken : (xs : List ℕ) (j q : ℕ) → q < j → slice_index (take j xs) q ≡ slice_index xs q
taken [] zero q l = refl
taken [] (suc j) q l = refl
taken (x ∷ xs) zero q l = absurd (omega arith)
taken (x ∷ xs) (suc j) zero l = refl
taken (x ∷ xs) (suc j) (suc q) l = taken xs j q (omega arith)

pub length-taken : (xs : List ℕ) (j : ℕ) → j ≤ length xs → length (take j xs) ≡ j
length-taken xs j l = let e = length-take j xs in omega (arith, e, l)

equal : (j k : ℕ) → j ≡ k → (j == k) ≡ true
equal j k e = grind (arith, nat_tests, e)

unequal : (j k : ℕ) → j ≢ k → (j == k) ≡ false
unequal j k e = grind (arith, nat_tests, e)

pub same_count : (j k : ℕ) → (j == k) ≡ true → j ≡ k
same_count j k e = grind (arith, nat_tests, e)

contains-element : (xs : List ℕ) (k : ℕ) → k < length xs → contains xs (slice_index xs k) ≡ true
contains-element [] k l = absurd (omega arith)
contains-element (x ∷ xs) zero l = ap (λ b. b || contains xs x) (equal x x refl)
contains-element (x ∷ xs) (suc k) l = later (x == slice_index xs k) (contains xs (slice_index xs k)) (contains-element xs k (omega arith))
  where
    later : (a b : Bool) → b ≡ true → (a || b) ≡ true
    later a b e = grind (arith, e)

contains-mapped : (f : ℕ → ℕ) (y low n : ℕ) → ((w : ℕ) → low ≤ w → w < low + n → f w ≢ y) → contains (map f (range_with_len low n)) y ≡ false
contains-mapped f y low zero h = refl
contains-mapped f y low (suc n) h =
    ap₂ (λ a b. a || b) (unequal (f low) y (h low (omega arith) (omega arith))) (contains-mapped f y (low + 1) n (λ w a b. h w (omega arith) (omega arith)))

different-mapped : (f : ℕ → ℕ) (low n : ℕ) → ((v w : ℕ) → low ≤ v → v < w → w < low + n → f w ≢ f v) → are_different (map f (range_with_len low n)) ≡ true
different-mapped f low zero h = refl
different-mapped f low (suc n) h =
    and_from (not (contains (map f (range_with_len (low + 1) n)) (f low))) (are_different (map f (range_with_len (low + 1) n)))
    (ap not (contains-mapped f (f low) (low + 1) n (λ w a b. h low w (omega arith) (omega arith) (omega arith))))
    (different-mapped f (low + 1) n (λ v w a b c. h v w (omega arith) b (omega arith)))

all-mapped : (p : ℕ → Bool) (f : ℕ → ℕ) (low n : ℕ) → ((v : ℕ) → low ≤ v → v < low + n → p (f v) ≡ true) → list_all p (map f (range_with_len low n)) ≡ true
all-mapped p f low zero h = refl
all-mapped p f low (suc n) h = and_from (p (f low)) (list_all p (map f (range_with_len (low + 1) n))) (h low (omega arith) (omega arith)) (all-mapped p f (low + 1) n (λ v a b. h v (omega arith) (omega arith)))

all-at : (p : ℕ → Bool) (xs : List ℕ) → list_all p xs ≡ true → (k : ℕ) → k < length xs → p (slice_index xs k) ≡ true
all-at p [] e k l = absurd (omega arith)
all-at p (x ∷ xs) e zero l = (and_parts (p x) (list_all p xs) e).0
all-at p (x ∷ xs) e (suc k) l = all-at p xs (and_parts (p x) (list_all p xs) e).1 k (omega arith)

-- different elements stand at different places
different-at : (xs : List ℕ) → are_different xs ≡ true → (j k : ℕ) → j < length xs → k < length xs → slice_index xs j ≡ slice_index xs k → j ≡ k
different-at xs d j k l r e =
    sym (place-of_element xs j d l) ∙ ap (λ y. position_or_len (λ u. u == y) xs) e ∙ place-of_element xs k d r

-- a list is its elements
pub all-elements : (xs : List ℕ) → map (slice_index xs) (range_with_len 0 (length xs)) ≡ xs
all-elements xs = from xs 0 (slice_index xs) (λ j l. let here : 0 + j ≡ j = omega arith in ap (slice_index xs) here)
  where
    from : (ys : List ℕ) (k : ℕ) (f : ℕ → ℕ) → ((j : ℕ) → j < length ys → f (k + j) ≡ slice_index ys j) → map f (range_with_len k (length ys)) ≡ ys
    from [] k f h = refl
    from (y ∷ ys) k f h =
        let here : k ≡ k + 0 = omega arith in
        ap₂ (λ (z : ℕ) (zs : List ℕ). z ∷ zs) (ap f here ∙ h 0 (omega arith)) (from ys (k + 1) f (λ j l. let next : k + 1 + j ≡ k + suc j = omega arith in ap f next ∙ h (suc j) (omega arith)))

pub same-elements : (xs ys : List ℕ) → length xs ≡ length ys → ((k : ℕ) → k < length xs → slice_index xs k ≡ slice_index ys k) → xs ≡ ys
same-elements [] [] e h = refl
same-elements [] (y ∷ ys) e h = absurd (omega arith)
same-elements (x ∷ xs) [] e h = absurd (omega arith)
same-elements (x ∷ xs) (y ∷ ys) e h = ap₂ (λ (z : ℕ) (zs : List ℕ). z ∷ zs) (h 0 (omega arith)) (same-elements xs ys (omega arith) (λ k l. h (suc k) (omega arith)))

-- ---- the images of a node

module _ (pair : GraphPair) where
  chosen-from : (before images : List ℕ) → AreNext pair before images → (j : ℕ) → j < length images → IsNext pair (before ++ take j images) (slice_index images j)
  chosen-from before [] a j l = absurd (omega arith)
  chosen-from before (t ∷ ts) a zero l = subst (λ (xs : List ℕ). IsNext pair xs t) (sym (append-nil before)) a.0
  chosen-from before (t ∷ ts) a (suc j) l = subst (λ (xs : List ℕ). IsNext pair xs (slice_index ts j)) (append_assoc before (t ∷ []) (take j ts)) (chosen-from (with_image before t) ts a.1 j (omega arith))

  pub next-from : (before images : List ℕ) → ((j : ℕ) → j < length images → IsNext pair (before ++ take j images) (slice_index images j)) → AreNext pair before images
  next-from before [] h = tt
  next-from before (t ∷ ts) h = (
    subst (λ (xs : List ℕ). IsNext pair xs t) (append-nil before) (h 0 (omega arith)),
    next-from (with_image before t) ts (λ j l. subst (λ (xs : List ℕ). IsNext pair xs (slice_index ts j)) (sym (append_assoc before (t ∷ []) (take j ts))) (h (suc j) (omega arith))),
  )

  -- what a candidate is
  pub record Fits (images : List ℕ) (v t : ℕ) : Type 0 where
    pub unused : contains images t ≡ false
    pub room : has_room (profile_of pair.pattern v) (profile_of pair.target t) ≡ true
    pub keeps : (q : ℕ) → q < length images → keeps_arcs pair (vertex_at pair q) (slice_index images q) v t ≡ true

  pub fits-from : (images : List ℕ) (v t : ℕ) → is_candidate pair images v t ≡ true → Fits images v t
  unfolding is_candidate
  fits-from images v t e =
      let all = and_parts (not (contains images t) && has_room (profile_of pair.pattern v) (profile_of pair.target t)) (keeps_all pair images v t) e in
      let both = and_parts (not (contains images t)) (has_room (profile_of pair.pattern v) (profile_of pair.target t)) all.0 in
      record {
        unused = turned (contains images t) both.0;
        room = both.1;
        keeps = λ q l. range-at (λ place. keeps_arcs pair (vertex_at pair place) (slice_index images place) v t) 0 (length images) all.1 q (omega arith) (omega arith);
      }
    where
      turned : (b : Bool) → not b ≡ true → b ≡ false
      turned b h = grind (arith, h)

  pub candidate-from : (images : List ℕ) (v t : ℕ) → Fits images v t → is_candidate pair images v t ≡ true
  unfolding is_candidate
  candidate-from images v t f =
      and_from (not (contains images t) && has_room (profile_of pair.pattern v) (profile_of pair.target t)) (keeps_all pair images v t)
      (and_from (not (contains images t)) (has_room (profile_of pair.pattern v) (profile_of pair.target t)) (ap not f.unused) f.room)
      (range-all (λ place. keeps_arcs pair (vertex_at pair place) (slice_index images place) v t) 0 (length images) (λ q a b. f.keeps q (omega arith)))

  module _ (images : List ℕ) (sound : IsNode pair images) where
    fits-at : (j : ℕ) → j < length images → Fits (take j images) (vertex_at pair j) (slice_index images j)
    fits-at j l =
        let size = length-taken images j (omega arith) in
        subst (λ k. Fits (take j images) (vertex_at pair k) (slice_index images j)) size
        (fits-from (take j images) (vertex_at pair (length (take j images))) (slice_index images j) (chosen-from [] images sound.chosen j l).candidate)

    keeps-at : (q j : ℕ) → q < j → j < length images → keeps_arcs pair (vertex_at pair q) (slice_index images q) (vertex_at pair j) (slice_index images j) ≡ true
    keeps-at q j l r =
        let size = length-taken images j (omega arith) in
        ap (λ image. keeps_arcs pair (vertex_at pair q) image (vertex_at pair j) (slice_index images j)) (sym (taken images j q l)) ∙ (fits-at j r).keeps q (omega arith)

    apart-at : (q j : ℕ) → q < j → j < length images → slice_index images j ≢ slice_index images q
    apart-at q j l r e =
        let size = length-taken images j (omega arith) in
        true≢false
        (sym (contains-element (take j images) q (omega arith))
        ∙ ap (contains (take j images)) (taken images j q l ∙ sym e)
        ∙ (fits-at j r).unused)

    -- every arc between two mapped vertices is kept
    arc-kept : (i j : ℕ) → i < length images → j < length images → (not (is_arc pair.pattern (vertex_at pair i) (vertex_at pair j)) || is_arc pair.target (slice_index images i) (slice_index images j)) ≡ true
    arc-kept i j l r =
        elim (cases_order i j) [
          | inl same ↦
              ap (λ k. not (is_arc pair.pattern (vertex_at pair i) (vertex_at pair k)) || is_arc pair.target (slice_index images i) (slice_index images k)) (sym same)
              ∙ looped (profile_of pair.pattern (vertex_at pair i)).looped (profile_of pair.target (slice_index images i)).looped
              (nat_le (profile_of pair.pattern (vertex_at pair i)).successors (profile_of pair.target (slice_index images i)).successors) (nat_le (profile_of pair.pattern (vertex_at pair i)).predecessors (profile_of pair.target (slice_index images i)).predecessors) (fits-at i l).room
          | inr apart ↦
              elim apart [
                | inl before ↦ (and_parts (not (is_arc pair.pattern (vertex_at pair i) (vertex_at pair j)) || is_arc pair.target (slice_index images i) (slice_index images j)) (not (is_arc pair.pattern (vertex_at pair j) (vertex_at pair i)) || is_arc pair.target (slice_index images j) (slice_index images i)) (keeps-at i j before r)).0
                | inr behind ↦ (and_parts (not (is_arc pair.pattern (vertex_at pair j) (vertex_at pair i)) || is_arc pair.target (slice_index images j) (slice_index images i)) (not (is_arc pair.pattern (vertex_at pair i) (vertex_at pair j)) || is_arc pair.target (slice_index images i) (slice_index images j)) (keeps-at j i behind l)).1
              ]
        ]
      where
        looped : (a b c d : Bool) → (((not a || b) && c) && d) ≡ true → (not a || b) ≡ true
        looped a b c d e = grind (arith, e)

    module _ (whole : length images ≡ vertex_count pair.pattern) where
      place-at : (v : ℕ) → v < vertex_count pair.pattern → (place_of pair v < length images) × (vertex_at pair (place_of pair v) ≡ v)
      place-at v l =
          let found = place-found (searched_order pair.pattern) v (order-contains pair.pattern v l) in
          let n = length-searched_order pair.pattern in
          (omega (arith, found.0, n, whole), found.1)

      pub image-of : (v : ℕ) → v < vertex_count pair.pattern → slice_index (images_of pair images) v ≡ slice_index images (place_of pair v)
      image-of v l = get_or-map-range_with_len (λ u. slice_index images (place_of pair u)) 0 (vertex_count pair.pattern) v v 0 l (omega arith)

      images-apart : (v w : ℕ) → v < vertex_count pair.pattern → w < vertex_count pair.pattern → v ≢ w → slice_index images (place_of pair w) ≢ slice_index images (place_of pair v)
      images-apart v w l r other e =
          let p = place-at v l in
          let q = place-at w r in
          elim (cases_order (place_of pair v) (place_of pair w)) [
            | inl same ↦ other (sym p.1 ∙ ap (vertex_at pair) same ∙ q.1)
            | inr apart ↦
                elim apart [
                  | inl before ↦ apart-at (place_of pair v) (place_of pair w) before q.0 e
                  | inr behind ↦ apart-at (place_of pair w) (place_of pair v) behind p.0 (sym e)
                ]
          ]

      -- a whole node is a map
      pub whole-map : is_map pair (images_of pair images) ≡ true
      whole-map =
          let f : ℕ → ℕ = λ v. slice_index images (place_of pair v) in
          let n = vertex_count pair.pattern in
          and_from ((length (images_of pair images) == n) && list_all (λ image. nat_lt image (vertex_count pair.target)) (images_of pair images) && are_different (images_of pair images)) (list_all (λ u. list_all (keeps_arc pair (images_of pair images) u) (vertices_of pair.pattern)) (vertices_of pair.pattern))
          (and_from ((length (images_of pair images) == n) && list_all (λ image. nat_lt image (vertex_count pair.target)) (images_of pair images)) (are_different (images_of pair images))
          (and_from (length (images_of pair images) == n) (list_all (λ image. nat_lt image (vertex_count pair.target)) (images_of pair images))
          (equal (length (images_of pair images)) n (length-map-range_with_len f 0 n))
          (all-mapped (λ image. nat_lt image (vertex_count pair.target)) f 0 n (λ v a b. lt-ltb (f v) (vertex_count pair.target) (image-below pair images sound (place_of pair v) (place-at v (omega arith)).0))))
          (different-mapped f 0 n (λ v w a b d. images-apart v w (omega arith) (omega arith) (λ e. absurd (omega arith)))))
          (range-all (λ u. list_all (keeps_arc pair (images_of pair images) u) (vertices_of pair.pattern)) 0 n
          (λ u a b.
          let l : u < n = omega arith in
          range-all (keeps_arc pair (images_of pair images) u) 0 n
          (λ v d e.
          let r : v < n = omega arith in
          let p = place-at u l in
          let q = place-at v r in
          ap₂ (λ s t. not (is_arc pair.pattern u v) || is_arc pair.target s t) (image-of u l) (image-of v r)
          ∙ ap₂ (λ x y. not (is_arc pair.pattern x y) || is_arc pair.target (f u) (f v)) (sym p.1) (sym q.1)
          ∙ arc-kept (place_of pair u) (place_of pair v) p.0 q.0)))

  -- two whole nodes with the same images are one
  pub same-node : (a b : List ℕ) → length a ≡ vertex_count pair.pattern → length b ≡ vertex_count pair.pattern → images_of pair a ≡ images_of pair b → a ≡ b
  same-node a b la lb e =
      same-elements a b (la ∙ sym lb)
      (λ p l.
      let within : p < vertex_count pair.pattern = omega arith in
      let below = vertex-below pair.pattern p within in
      let n = length-searched_order pair.pattern in
      let at : place_of pair (vertex_at pair p) ≡ p = place-of_element (searched_order pair.pattern) p (order-different pair.pattern) (omega arith) in
      ap (slice_index a) (sym at)
      ∙ sym (get_or-map-range_with_len (λ u. slice_index a (place_of pair u)) 0 (vertex_count pair.pattern) (vertex_at pair p) (vertex_at pair p) 0 below (omega arith))
      ∙ ap (λ xs. slice_index xs (vertex_at pair p)) e
      ∙ get_or-map-range_with_len (λ u. slice_index b (place_of pair u)) 0 (vertex_count pair.pattern) (vertex_at pair p) (vertex_at pair p) 0 below (omega arith)
      ∙ ap (slice_index b) at)

  -- ---- the node of a map

  -- the images in the searched order
  abbrev pub node_of : List ℕ → List ℕ
  node_of images = map (slice_index images) (searched_order pair.pattern)

  module _ (limits : IsWithinLimits pair) (images : List ℕ) (is : is_map pair images ≡ true) where
    parts : (length images ≡ vertex_count pair.pattern) × (list_all (λ image. nat_lt image (vertex_count pair.target)) images ≡ true) × (are_different images ≡ true) × (list_all (λ u. list_all (keeps_arc pair images u) (vertices_of pair.pattern)) (vertices_of pair.pattern) ≡ true)
    parts =
        let all = and_parts ((length images == vertex_count pair.pattern) && list_all (λ image. nat_lt image (vertex_count pair.target)) images && are_different images) (list_all (λ u. list_all (keeps_arc pair images u) (vertices_of pair.pattern)) (vertices_of pair.pattern)) is in
        let three = and_parts ((length images == vertex_count pair.pattern) && list_all (λ image. nat_lt image (vertex_count pair.target)) images) (are_different images) all.0 in
        let two = and_parts (length images == vertex_count pair.pattern) (list_all (λ image. nat_lt image (vertex_count pair.target)) images) three.0 in
        (same_count (length images) (vertex_count pair.pattern) two.0, two.1, three.1, all.1)

    arc-of : (u v : ℕ) → u < vertex_count pair.pattern → v < vertex_count pair.pattern → (not (is_arc pair.pattern u v) || is_arc pair.target (slice_index images u) (slice_index images v)) ≡ true
    arc-of u v l r = range-at (keeps_arc pair images u) 0 (vertex_count pair.pattern) (range-at (λ w. list_all (keeps_arc pair images w) (vertices_of pair.pattern)) 0 (vertex_count pair.pattern) parts.3 u (omega arith) (omega arith)) v (omega arith) (omega arith)

    below : (u : ℕ) → u < vertex_count pair.pattern → slice_index images u < vertex_count pair.target
    below u l = ltb-true (slice_index images u) (vertex_count pair.target) (all-at (λ image. nat_lt image (vertex_count pair.target)) images parts.1 u (let size = parts.0 in omega arith))

    one-image : (u w : ℕ) → u < vertex_count pair.pattern → w < vertex_count pair.pattern → slice_index images u ≡ slice_index images w → u ≡ w
    one-image u w l r e = let size = parts.0 in different-at images parts.2 u w (omega arith) (omega arith) e

    arc-goes : (u v : ℕ) → u < vertex_count pair.pattern → v < vertex_count pair.pattern → is_other_arc pair.pattern u v ≡ true → is_other_arc pair.target (slice_index images u) (slice_index images v) ≡ true
    arc-goes u v l r e =
        let both = and_parts (not (u == v)) (is_arc pair.pattern u v) e in
        and_from (not (slice_index images u == slice_index images v)) (is_arc pair.target (slice_index images u) (slice_index images v))
        (ap not (unequal (slice_index images u) (slice_index images v) (λ f. clash (u == v) both.0 (equal u v (one-image u v l r f)))))
        (follows (is_arc pair.pattern u v) (is_arc pair.target (slice_index images u) (slice_index images v)) both.1 (arc-of u v l r))
      where
        follows : (a b : Bool) → a ≡ true → (not a || b) ≡ true → b ≡ true
        follows a b e f = grind (arith, e, f)

        clash : (b : Bool) → not b ≡ true → b ≡ true → ⊥
        clash true e f = absurd cc
        clash false e f = absurd cc

    room-for : (v : ℕ) → v < vertex_count pair.pattern → has_room (profile_of pair.pattern v) (profile_of pair.target (slice_index images v)) ≡ true
    room-for v l =
        and_from ((not (is_arc pair.pattern v v) || is_arc pair.target (slice_index images v) (slice_index images v)) && nat_le (length (other_successors pair.pattern v)) (length (other_successors pair.target (slice_index images v)))) (nat_le (length (other_predecessors pair.pattern v)) (length (other_predecessors pair.target (slice_index images v))))
        (and_from (not (is_arc pair.pattern v v) || is_arc pair.target (slice_index images v) (slice_index images v)) (nat_le (length (other_successors pair.pattern v)) (length (other_successors pair.target (slice_index images v))))
        (arc-of v v l l)
        (le-leb (length (other_successors pair.pattern v)) (length (other_successors pair.target (slice_index images v)))
        (no-more (λ u. is_other_arc pair.pattern v u) (λ u. is_other_arc pair.target (slice_index images v) u) (slice_index images) (vertex_count pair.pattern) (vertex_count pair.target)
        (λ u r e. (below u r, arc-goes v u l r e)) one-image)))
        (le-leb (length (other_predecessors pair.pattern v)) (length (other_predecessors pair.target (slice_index images v)))
        (no-more (λ u. is_other_arc pair.pattern u v) (λ u. is_other_arc pair.target u (slice_index images v)) (slice_index images) (vertex_count pair.pattern) (vertex_count pair.target)
        (λ u r e. (below u r, arc-goes u v r l e)) one-image))

    length-node : length (node_of images) ≡ vertex_count pair.pattern
    length-node = length-map (searched_order pair.pattern) (slice_index images) ∙ length-searched_order pair.pattern

    node-at : (j : ℕ) → j < vertex_count pair.pattern → slice_index (node_of images) j ≡ slice_index images (vertex_at pair j)
    node-at j l = get_or-map (slice_index images) (searched_order pair.pattern) j 0 0 (let order = length-searched_order pair.pattern in omega arith)

    next-at : (j : ℕ) → j < length (node_of images) → IsNext pair (take j (node_of images)) (slice_index (node_of images) j)
    next-at j l =
        let node = node_of images in
        let size = length-node in
        let within : j < vertex_count pair.pattern = omega arith in
        let short = length-taken node j (omega arith) in
        let v = vertex_at pair j in
        let v_below = vertex-below pair.pattern j within in
        let order = length-searched_order pair.pattern in
        let t_is = node-at j within in
        subst (λ (t : ℕ). IsNext pair (take j node) t) (sym t_is)
        (record {
          vertex = below v v_below;
          candidate =
              ap (λ k. is_candidate pair (take j node) (vertex_at pair k) (slice_index images v)) short
              ∙ candidate-from (take j node) v (slice_index images v)
              (record {
                unused =
                    elim (cases_Bool (contains (take j node) (slice_index images v))) [
                      | inl there ↦
                          let found = place-found (take j node) (slice_index images v) there in
                          let i = position_or_len (λ u. u == slice_index images v) (take j node) in
                          let i_less : i < j = omega (arith, found.0, short) in
                          let i_within : i < vertex_count pair.pattern = omega arith in
                          let same : slice_index images (vertex_at pair i) ≡ slice_index images v = sym (node-at i i_within) ∙ sym (taken node j i i_less) ∙ found.1 in
                          let one = one-image (vertex_at pair i) v (vertex-below pair.pattern i i_within) v_below same in
                          let level = different-at (searched_order pair.pattern) (order-different pair.pattern) i j (omega arith) (omega arith) one in
                          absurd (omega arith)
                      | inr none ↦ none
                    ];
                room = room-for v v_below;
                keeps = λ q r.
                    let q_less : q < j = omega arith in
                    let q_within : q < vertex_count pair.pattern = omega arith in
                    let q_below = vertex-below pair.pattern q q_within in
                    ap (λ image. keeps_arcs pair (vertex_at pair q) image v (slice_index images v)) (taken node j q q_less ∙ node-at q q_within)
                    ∙ and_from (not (is_arc pair.pattern (vertex_at pair q) v) || is_arc pair.target (slice_index images (vertex_at pair q)) (slice_index images v)) (not (is_arc pair.pattern v (vertex_at pair q)) || is_arc pair.target (slice_index images v) (slice_index images (vertex_at pair q)))
                    (arc-of (vertex_at pair q) v q_below v_below) (arc-of v (vertex_at pair q) v_below q_below);
              });
        })

    -- the node of a map is one
    pub node-sound : IsNode pair (node_of images)
    node-sound = record { limits = limits; within = let size = length-node in omega arith; chosen = next-from [] (node_of images) next-at }

    pub node-whole : length (node_of images) ≡ vertex_count pair.pattern
    node-whole = length-node

    -- and gives the map's images
    pub node-images : images_of pair (node_of images) ≡ images
    node-images =
        same-elements (images_of pair (node_of images)) images
        (length-map-range_with_len (λ v. slice_index (node_of images) (place_of pair v)) 0 (vertex_count pair.pattern) ∙ sym parts.0)
        (λ v l.
        let within : v < vertex_count pair.pattern = let size = length-map-range_with_len (λ u. slice_index (node_of images) (place_of pair u)) 0 (vertex_count pair.pattern) in omega arith in
        let found = place-found (searched_order pair.pattern) v (order-contains pair.pattern v within) in
        let order = length-searched_order pair.pattern in
        get_or-map-range_with_len (λ u. slice_index (node_of images) (place_of pair u)) 0 (vertex_count pair.pattern) v v 0 within (omega arith)
        ∙ node-at (place_of pair v) (omega (arith, found.0, order))
        ∙ ap (slice_index images) found.1)
