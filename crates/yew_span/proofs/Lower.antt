-- What the bound with the span says of the tours that begin with a list.
use Rattle.std.proofs.Common.{◌≡◌, ℕ, ◌≤◌, Bool, true, false, List, ◌++◌, length, Some, ap, ◌∙◌, arith}
use Rattle.std.proofs.lemmas.List.Elements.{All-contains, All-from_recursion}
use Rattle.yew_laws.specs.Tree.{Member, node_at, tree}
use Rattle.yew_laws.proofs.Trees.{tree-contains, tree-sound}
use Rattle.yew_tsp.specs.declared.nodes.TourNode.{TourNode}
use Rattle.yew_tsp.specs.BoundLaws.{tour-small, worth-whole}
use Rattle.yew_tsp.specs.Instance.{Instance}
use Rattle.yew_tsp.specs.NodeLaws.{tours-ranked, length-cities}
use Rattle.yew_tsp.specs.Nodes.{cities_of, children_of, rank_of, worth_of, bound_of, IsNode}
use Rattle.yew_tsp.specs.Routes.{tour_length}
use Rattle.yew_tsp.proofs.Paths.{reaches}
use Rattle.yew_tsp.proofs.TreeIs.{tour-parts}
use Rattle.yew_span.specs.Bounds.{still_to_join, bound_with, spanned_bound, BoundIs, IsLowerLength}
use Rattle.yew_span.specs.Growth.{span}
use Rattle.yew_span.specs.Span.{IsSymmetric}
use Rattle.yew_span.specs.SpanLaws.{span-one}
use Rattle.yew_span.specs.SpannedLaws.{join-span, spanned-bounded}

module _ (instance : Instance) (node : TourNode) (sound : IsNode instance node) where
  below-sound : (path : List ℕ) (m : TourNode) → node_at (children_of instance) node path ≡ Some m → IsNode instance m
  below-sound path m found =
      All-contains (λ (x : Member TourNode). IsNode instance x.node) (tree (children_of instance) (rank_of instance) node) (record { path = path; node = m })
      (All-from_recursion (λ (x : Member TourNode). IsNode instance x.node) (tree (children_of instance) (rank_of instance) node) (tree-sound (tours-ranked instance) node sound))
      (tree-contains (tours-ranked instance) path node m sound found)

  pub lower-length : IsSymmetric instance → IsLowerLength instance node
  lower-length symmetric spanned is rest tours =
      let parts = tour-parts instance (cities_of node ++ rest) tours in
      let r = reaches instance rest node sound parts.within parts.different in
      let m = r.last in
      let its = below-sound r.path r.last r.found in
      let most : worth_of instance r.last ≤ spanned_bound true instance node = (spanned-bounded true instance (λ _. symmetric)).bounds node r.last r.path sound r.found in
      let long = length-cities instance r.last its in
      let count = ap length r.list_is ∙ parts.count in
      let worth = worth-whole instance r.last its (omega (arith, long, count)) in
      let small = tour-small instance r.last its in
      let same = ap (tour_length instance) r.list_is in
      let one = span-one instance (still_to_join instance node) spanned (span instance (still_to_join instance node)) is (join-span instance node sound symmetric) in
      omega (arith, most, worth, small, same, one)

  pub bound-is : IsSymmetric instance → BoundIs instance node
  bound-is symmetric spanned is =
      ap (bound_with instance node) (span-one instance (still_to_join instance node) (span instance (still_to_join instance node)) spanned (join-span instance node sound symmetric) is)

  pub bound-below : (symmetric : Bool) → spanned_bound symmetric instance node ≤ bound_of instance node
  bound-below true = omega arith
  bound-below false = omega arith
