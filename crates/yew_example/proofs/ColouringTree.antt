-- The whole nodes of the tree are the colourings of the graph, and the best of them uses the fewest colours.
use Rattle.std.proofs.Common.{◌≡◌, ◌≢◌, ℕ, zero, suc, ◌+◌, ◌-◌, ◌<◌, ◌≤◌, ◌↔◌, Bool, true, false, not, cond, ◌&&◌, ◌==◌, nat_lt, List, [], ◌∷◌, ◌++◌, length, map, filter, slice_get, slice_index, Option, Some, None, if◌then◌else◌, refl, ap, ap₂, sym, subst, ◌∙◌, inl, inr, append-nil, append_assoc, arith}
use Rattle.std.specs.Prelude.{All, Contains, IsNone, IfSome, IfNone, MatchOption}
use Rattle.std.specs.List.{list_all, range_with_len}
use Rattle.std.specs.Option.{option_map}
use Rattle.std.proofs.lemmas.Bool.{and_parts, and_from, cases_Bool, cases_eq, cases_lt, both_ways, not-true, not_from_false, lt-ltb, ltb-true, eq-eqb, eqb-true}
use Rattle.std.proofs.lemmas.List.{length-append, get_or_append_left}
use Rattle.std.proofs.lemmas.List.Elements.{All-contains, All-from_recursion}
use Rattle.std.proofs.lemmas.Option.{none-some, same_Some}
use Rattle.yew_laws.specs.Greatest.{greatest, Reach}
use Rattle.yew_laws.specs.PathValue.{PathValue}
use Rattle.yew_laws.specs.SearchTree.{preorder, at_path, worth_at}
use Rattle.yew_laws.specs.Tree.{Member, node_at}
use Rattle.yew_laws.proofs.Trees.{tree-contains, tree-sound, node_at-child}
use Rattle.yew_walk.proofs.Bests.{member-at_path, rebuilt-IsSome}
use Rattle.yew_crew.specs.CrewSearch.{IsGreatest}
use Rattle.yew_ranked.proofs.Preorder.{worth-at_most}
use Rattle.yew_example.specs.declared.graph.Graph.{Graph}
use Rattle.yew_example.specs.Graphs.{clashes, is_proper, are_below, is_colouring, HasColouring, colours_used, IsLeastColouring}
use Rattle.yew_example.specs.NodeLaws.{colours_used-below, colouring-ranked, empty_sound}
use Rattle.yew_example.specs.Nodes.{with_colour, children_of, worth_of, IsNode, colouring_tree}

-- ---- colours

-- an edge that clashes clashes also where more vertices have a colour
clash-longer : (colours more : List ℕ) (edge : ℕ × ℕ) → clashes colours edge ≡ true → clashes (colours ++ more) edge ≡ true
clash-longer colours more edge e =
    let parts = and_parts (nat_lt edge.0 (length colours) && nat_lt edge.1 (length colours)) (slice_index colours edge.0 == slice_index colours edge.1) e in
    let both = and_parts (nat_lt edge.0 (length colours)) (nat_lt edge.1 (length colours)) parts.0 in
    let one = ltb-true edge.0 (length colours) both.0 in
    let other = ltb-true edge.1 (length colours) both.1 in
    let longer = length-append colours more in
    and_from (nat_lt edge.0 (length (colours ++ more)) && nat_lt edge.1 (length (colours ++ more))) (slice_index (colours ++ more) edge.0 == slice_index (colours ++ more) edge.1)
    (and_from (nat_lt edge.0 (length (colours ++ more))) (nat_lt edge.1 (length (colours ++ more)))
    (lt-ltb edge.0 (length (colours ++ more)) (omega (arith, one, longer))) (lt-ltb edge.1 (length (colours ++ more)) (omega (arith, other, longer))))
    (ap₂ (λ (c d : ℕ). c == d) (get_or_append_left colours more 0 edge.0 one) (get_or_append_left colours more 0 edge.1 other) ∙ parts.1)

proper-edges : (colours more : List ℕ) (edges : List (ℕ × ℕ)) → list_all (λ edge. not (clashes (colours ++ more) edge)) edges ≡ true → list_all (λ edge. not (clashes colours edge)) edges ≡ true
proper-edges colours more [] e = refl
proper-edges colours more (edge ∷ edges) e =
    let both = and_parts (not (clashes (colours ++ more) edge)) (list_all (λ x. not (clashes (colours ++ more) x)) edges) e in
    and_from (not (clashes colours edge)) (list_all (λ x. not (clashes colours x)) edges)
    (elim (cases_Bool (clashes colours edge)) [
      | inl is ↦ absurd (both_ways (clashes (colours ++ more) edge) (not-true (clashes (colours ++ more) edge) both.0) (clash-longer colours more edge is))
      | inr other ↦ not_from_false (clashes colours edge) other
    ])
    (proper-edges colours more edges both.1)

below-from_used : (number : ℕ) (colours : List ℕ) → colours_used colours ≤ number → are_below number colours ≡ true
below-from_used number [] few = refl
below-from_used number (colour ∷ colours) few =
    and_from (nat_lt colour number) (are_below number colours) (lt-ltb colour number (omega (arith, few))) (below-from_used number colours (omega (arith, few)))

-- ---- what a test picks of a range, by its place

record PickedAt (p : ℕ → Bool) (low n t : ℕ) : Type 0 where
  pub place : ℕ
  pub is : slice_get (filter p (range_with_len low n)) place ≡ Some t

picked-at : (p : ℕ → Bool) (low n t : ℕ) → low ≤ t → t < low + n → p t ≡ true → PickedAt p low n t
picked-at p low zero t a b e = absurd (omega arith)
picked-at p low (suc n) t a b e =
    elim (cases_eq low t) [
      | inl same ↦ record { place = 0; is = ap (λ c. slice_get (cond c (low ∷ filter p (range_with_len (low + 1) n)) (filter p (range_with_len (low + 1) n))) 0) (ap p same ∙ e) ∙ ap Some same }
      | inr other ↦
          let rest = picked-at p (low + 1) n t (omega arith) (omega arith) e in
          elim (p low) as (λ c. p low ≡ c → PickedAt p low (suc n) t) [
            | true ↦ λ own. record { place = suc rest.place; is = ap (λ c. slice_get (cond c (low ∷ filter p (range_with_len (low + 1) n)) (filter p (range_with_len (low + 1) n))) (suc rest.place)) own ∙ rest.is }
            | false ↦ λ own. record { place = rest.place; is = ap (λ c. slice_get (cond c (low ∷ filter p (range_with_len (low + 1) n)) (filter p (range_with_len (low + 1) n))) rest.place) own ∙ rest.is }
          ]
          refl
    ]

get-map : (f : ℕ → List ℕ) (xs : List ℕ) (k t : ℕ) → slice_get xs k ≡ Some t → slice_get (map f xs) k ≡ Some (f t)
get-map f [] k t e = absurd (none-some t e)
get-map f (x ∷ xs) zero t e = ap (λ s. Some (f s)) (same_Some x t e)
get-map f (x ∷ xs) (suc k) t e = get-map f xs k t e

-- what a colouring is, part by part
record Parts (graph : Graph) (number : ℕ) (colours : List ℕ) : Type 0 where
  pub whole : length colours ≡ graph.vertices
  pub below : are_below number colours ≡ true
  pub proper : is_proper graph colours ≡ true

parts-of : (graph : Graph) (number : ℕ) (colours : List ℕ) → is_colouring graph number colours ≡ true → Parts graph number colours
parts-of graph number colours is =
    let last = and_parts ((length colours == graph.vertices) && are_below number colours) (is_proper graph colours) is in
    let first = and_parts (length colours == graph.vertices) (are_below number colours) last.0 in
    record { whole = eqb-true (length colours) graph.vertices first.0; below = first.1; proper = last.1 }

module _ (graph : Graph) (number : ℕ) where
  -- ---- each colouring stands in the tree

  record ChildAt (colours : List ℕ) (colour : ℕ) : Type 0 where
    pub place : ℕ
    pub is : slice_get (children_of graph number colours) place ≡ Some (with_colour colours colour)

  child-at : (colours : List ℕ) (colour : ℕ) → length colours < graph.vertices → colour < number → is_proper graph (with_colour colours colour) ≡ true → ChildAt colours colour
  child-at colours colour room below proper =
      let picked = picked-at (λ c. is_proper graph (with_colour colours c)) 0 (number - 0) colour (omega arith) (omega arith) proper in
      record {
        place = picked.place;
        is = ap (λ b. slice_get (if b then map (with_colour colours) (filter (λ c. is_proper graph (with_colour colours c)) (range_with_len 0 (number - 0))) else []) picked.place) (lt-ltb (length colours) graph.vertices room)
            ∙ get-map (with_colour colours) (filter (λ c. is_proper graph (with_colour colours c)) (range_with_len 0 (number - 0))) picked.place colour picked.is;
      }

  record WayTo (colours : List ℕ) : Type 0 where
    pub path : List ℕ
    pub found : node_at (children_of graph number) [] path ≡ Some colours

  way-along : (before colours : List ℕ) → WayTo before → are_below number colours ≡ true → is_proper graph (before ++ colours) ≡ true → length before + length colours ≤ graph.vertices → WayTo (before ++ colours)
  way-along before [] way below proper l = subst (λ xs. WayTo xs) (sym (append-nil before)) way
  way-along before (colour ∷ colours) way below proper l =
      let both = and_parts (nat_lt colour number) (are_below number colours) below in
      let all : is_proper graph (with_colour before colour ++ colours) ≡ true = ap (is_proper graph) (append_assoc before (colour ∷ []) colours) ∙ proper in
      let child = child-at before colour (omega arith) (ltb-true colour number both.0) (proper-edges (with_colour before colour) colours graph.edges.now all) in
      let longer = length-append before (colour ∷ []) in
      subst (λ xs. WayTo xs) (append_assoc before (colour ∷ []) colours)
      (way-along (with_colour before colour) colours
      (record { path = way.path ++ child.place ∷ []; found = node_at-child (children_of graph number) [] before (with_colour before colour) way.path child.place way.found child.is })
      both.1 all (omega (arith, longer, l)))

  way-to : (colours : List ℕ) → Parts graph number colours → WayTo colours
  way-to colours parts = way-along [] colours (record { path = []; found = refl }) parts.below parts.proper (let whole = parts.whole in omega (arith, whole))

  worth-whole : (colours : List ℕ) → length colours ≡ graph.vertices → worth_of graph number colours ≡ number + 1 - colours_used colours
  worth-whole colours whole = ap (λ b. if b then number + 1 - colours_used colours else 0) (eq-eqb (length colours) graph.vertices whole)

  whole-worth : (colours : List ℕ) → 0 < worth_of graph number colours → length colours ≡ graph.vertices
  whole-worth colours some =
      elim (length colours == graph.vertices) as (λ b. (length colours == graph.vertices) ≡ b → 0 < (if b then number + 1 - colours_used colours else 0) → length colours ≡ graph.vertices) [
        | true ↦ λ is h. eqb-true (length colours) graph.vertices is
        | false ↦ λ is h. absurd (omega (arith, h))
      ]
      refl some

  -- ---- what the greatest worth says

  abbrev t : Rattle.yew_laws.specs.SearchTree.SearchTree (List ℕ)
  t = colouring_tree graph number

  abbrev root : IsNode graph number []
  root = empty_sound graph number

  -- a colouring has a worth, which is at most the greatest
  colouring-worth : (colours : List ℕ) → Parts graph number colours → number + 1 - colours_used colours ≤ greatest t
  colouring-worth colours parts =
      let way = way-to colours parts in
      let worth = worth-whole colours parts.whole in
      let most = worth-at_most t (colouring-ranked graph number) root way.path colours way.found in
      omega (arith, worth, most)

  member-sound : (m : Member (List ℕ)) → Contains (preorder t) m → IsNode graph number m.node
  member-sound m stands =
      All-contains (λ (x : Member (List ℕ)). IsNode graph number x.node) (preorder t) m
      (All-from_recursion (λ (x : Member (List ℕ)). IsNode graph number x.node) (preorder t) (tree-sound (colouring-ranked graph number) [] root)) stands

  whole-colouring : (most : ℕ) (colours : List ℕ) → IsNode graph number colours → length colours ≡ graph.vertices → colours_used colours ≤ most → is_colouring graph most colours ≡ true
  whole-colouring most colours sound whole few =
      and_from ((length colours == graph.vertices) && are_below most colours) (is_proper graph colours)
      (and_from (length colours == graph.vertices) (are_below most colours) (eq-eqb (length colours) graph.vertices whole) (below-from_used most colours few)) sound.proper

  -- a member of the greatest worth uses the fewest colours
  least : (colours : List ℕ) → IsNode graph number colours → 0 < worth_of graph number colours → worth_of graph number colours ≡ greatest t → IsLeastColouring graph colours
  least colours sound some best =
      let whole = whole-worth colours some in
      let worth = worth-whole colours whole in
      let few = colours_used-below number colours sound.below in
      record {
        is = whole-colouring (colours_used colours) colours sound whole (omega arith);
        fewest = λ n has. elim (cases_lt n number) [
          | inl fewer ↦
              let parts = parts-of graph n has.colours has.is in
              let used = colours_used-below n has.colours parts.below in
              let own : Parts graph number has.colours = record { whole = parts.whole; below = below-from_used number has.colours (omega arith); proper = parts.proper } in
              let most = colouring-worth has.colours own in
              omega (arith, most, best, worth, few, used)
          | inr more ↦ omega (arith, few, more)
        ];
      }

  -- where no path is answered, there is no colouring
  pub least-none : (worth : ℕ) → IsGreatest t worth None → ¬ HasColouring graph number
  least-none worth best has =
      let parts = parts-of graph number has.colours has.is in
      let most = colouring-worth has.colours parts in
      let few = colours_used-below number has.colours parts.below in
      let none : worth ≡ 0 = best.absent.0 refl in
      let same = best.worth_is in
      omega (arith, most, few, none, same)

  -- the node that is built again at the path of an answer is a colouring with the fewest colours
  pub least-rebuilt : (worth : ℕ) (path : PathValue) (found : Option (List ℕ)) → IsGreatest t worth (Some path)
      → IfSome found (λ node. Contains (preorder t) (record { path = path.numbers; node = node })) → IfNone found (All (λ m. m.path ≢ path.numbers) (preorder t))
      → MatchOption found (¬ HasColouring graph number) (λ colours. IsLeastColouring graph colours)
  least-rebuilt worth path (Some colours) best some none =
      let at = member-at_path t (colouring-ranked graph number) root path.numbers colours some in
      let own : worth_of graph number colours ≡ worth = same_Some (worth_of graph number colours) worth (sym (ap (option_map (worth_of graph number)) at) ∙ best.has_worth) in
      least colours (member-sound (record { path = path.numbers; node = colours }) some) (above own) (own ∙ best.worth_is)
    where
      above : worth_of graph number colours ≡ worth → 0 < worth_of graph number colours
      above own = elim (cases_eq worth 0) [ inl zero_worth ↦ absurd (never (best.absent.1 zero_worth)) | inr other ↦ omega (arith, own, other) ]
        where
          never : IsNone (Some path) → ⊥
          never h = absurd (cc)
  least-rebuilt worth path None best some none =
      absurd (none-node (at_path t path.numbers) refl)
    where
      none-node : (there : Option (List ℕ)) → at_path t path.numbers ≡ there → ⊥
      none-node None e = none-some worth (sym (ap (option_map (worth_of graph number)) e) ∙ best.has_worth)
      none-node (Some node) e = let h = rebuilt-IsSome t (colouring-ranked graph number) root path.numbers node None e none in absurd (cc)

  -- a worth of 1 is reached exactly where there is a colouring
  pub reach-colouring : Reach t 1 ↔ HasColouring graph number
  reach-colouring = (
    (λ r.
        let sound = member-sound r.1 (r.0, r.2, r.3) in
        let whole = whole-worth r.1.node r.4 in
        record { colours = r.1.node; is = whole-colouring number r.1.node sound whole (colours_used-below number r.1.node sound.below) }),
    (λ has.
        let parts = parts-of graph number has.colours has.is in
        let way = way-to has.colours parts in
        let stands = tree-contains (colouring-ranked graph number) way.path [] has.colours root way.found in
        let worth = worth-whole has.colours parts.whole in
        let few = colours_used-below number has.colours parts.below in
        let some : 1 ≤ worth_of graph number has.colours = omega (arith, worth, few) in
        (stands.0, record { path = way.path; node = has.colours }, stands.1, stands.2, some)),
  )
