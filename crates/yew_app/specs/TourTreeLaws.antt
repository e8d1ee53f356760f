-- The tree with the nearest cities first is that of the problem whose children come by rising weight of the last step.
use Rattle.std.specs.Prelude.{◌≡◌}
use Rattle.std.proofs.Common.{ap}
use Rattle.yew_calls.specs.Reordering.{reordered_tree}
use Rattle.yew_laws.specs.SearchTree.{SearchTree}
use Rattle.yew_tsp.specs.declared.nodes.TourNode.{TourNode}
use Rattle.yew_tsp.specs.Instance.{Instance}
use Rattle.yew_tsp.specs.Nodes.{cities_of}
use Rattle.yew_tsp.specs.Routes.{last_step}
use Rattle.yew_app.specs.ShortestTours.{near_tree}

pub near_tree-is : (tree : Instance → SearchTree TourNode) (instance : Instance) (searched : SearchTree TourNode) → tree instance ≡ searched
    → near_tree tree instance ≡ reordered_tree (λ node. last_step instance (cities_of node)) searched
near_tree-is tree instance searched is = ap (reordered_tree (λ node. last_step instance (cities_of node))) is
