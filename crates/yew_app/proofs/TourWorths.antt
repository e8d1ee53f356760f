-- No list of cities is worth more than the whole from which lengths are taken.
use Rattle.std.proofs.Common.{◌-◌, ◌≤◌, ◌^◌, ◌==◌, true, false, List, [], ◌∷◌, length, arith}
use Rattle.std.specs.Prelude.{if◌then◌else◌}
use Rattle.yew_laws.specs.Greatest.{greatest, greatest_of}
use Rattle.yew_laws.specs.SearchTree.{preorder}
use Rattle.yew_laws.specs.Tree.{Member}
use Rattle.yew_tsp.specs.declared.nodes.TourNode.{TourNode}
use Rattle.yew_tsp.specs.Answers.{tours_tree}
use Rattle.yew_tsp.specs.Instance.{Instance}
use Rattle.yew_tsp.specs.Nodes.{cities_of, worth_of}
use Rattle.yew_tsp.specs.Routes.{tour_length}

worth-most : (instance : Instance) (node : TourNode) → worth_of instance node ≤ 2 ^ 37
worth-most instance node =
    elim (length (cities_of node) == instance.cities) as (λ b. (if b then 2 ^ 37 - tour_length instance (cities_of node) else 0) ≤ 2 ^ 37) [
      | true ↦ omega arith
      | false ↦ omega arith
    ]

greatest_of-most : (instance : Instance) (ms : List (Member TourNode)) → greatest_of (worth_of instance) ms ≤ 2 ^ 37
greatest_of-most instance [] = omega arith
greatest_of-most instance (m ∷ ms) =
    let first = worth-most instance m.node in
    let rest = greatest_of-most instance ms in
    omega (arith, first, rest)

pub greatest-most : (instance : Instance) → greatest (tours_tree instance) ≤ 2 ^ 37
greatest-most instance = greatest_of-most instance (preorder (tours_tree instance))
