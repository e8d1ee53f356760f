-- How the parts of a search come together: the tasks that were sent and those that were taken cancel.
use Rattle.std.proofs.Common.{ℕ, List, [], ◌∷◌, ◌++◌, ap, arith}
use Rattle.std.specs.List.{Contains, flat_map, sum_by}
use Rattle.std.proofs.lemmas.List.Sums.{sum_by-append}
use Rattle.std.proofs.lemmas.List.Concat.{flat_map-append}
use Rattle.yew_laws.specs.Bag.{SameBag}
use Rattle.yew_laws.specs.SearchTree.{SearchTree, below, tree_paths}
use Rattle.yew_laws.specs.Cover.{Cover}
use Rattle.yew_laws.proofs.Bags.{same-flat_map}

module _ {N : Type 0} (t : SearchTree N) where
  -- the tasks that were taken lie in the visits, the cuts and the tasks that were sent; the root and these were taken: so the whole tree is visited or cut
  pub cover-from_tasks : (visited_ones cut_ones took sent : List (List ℕ)) → Contains visited_ones [] → SameBag (visited_ones ++ flat_map (below t) (cut_ones ++ sent)) (flat_map (below t) took) → SameBag took ([] ∷ sent) → Cover t visited_ones cut_ones
  cover-from_tasks visited_ones cut_ones took sent root parts tasks = record {
    root_visited = root;
    each_once = record {
      weighs = λ h.
          let a = parts.weighs h in
          let b = sum_by-append h visited_ones (flat_map (below t) (cut_ones ++ sent)) in
          let c = ap (sum_by h) (flat_map-append (below t) cut_ones sent) in
          let d = sum_by-append h (flat_map (below t) cut_ones) (flat_map (below t) sent) in
          let e = (same-flat_map (below t) tasks).weighs h in
          let f = sum_by-append h (tree_paths t) (flat_map (below t) sent) in
          let g = sum_by-append h visited_ones (flat_map (below t) cut_ones) in
          omega arith;
    };
  }
