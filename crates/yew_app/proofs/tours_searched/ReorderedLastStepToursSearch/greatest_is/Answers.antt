use Rattle.std.proofs.Common.{◌≡◌, ◌∙◌, ℕ, sym, subst}
use Rattle.yew_calls.proofs.ReorderedTrees.{reordered-greatest}
use Rattle.yew_calls.specs.Reordering.{reordered_tree}
use Rattle.yew_laws.specs.Greatest.{greatest}
use Rattle.yew_laws.specs.SearchTree.{SearchTree}
use Rattle.yew_tsp.specs.declared.nodes.TourNode.{TourNode}
use Rattle.yew_tsp.specs.Nodes.{cities_of}
use Rattle.yew_tsp.specs.Routes.{last_step}
use Rattle.yew_app.proofs.tours_searched.ReorderedLastStepToursSearch.greatest_is.Goals as goal

pub returns : goal.returns
returns g c =
    let inner = c.args.self.now.inner.now in
    let key : TourNode → ℕ = λ node. last_step (g.P.ToursSearch.instance inner) (cities_of node) in
    subst (λ (t : SearchTree TourNode). greatest (reordered_tree key t) ≡ greatest t) (sym (g.met.P.ToursSearch.tree_is inner))
    (reordered-greatest (g.P.Problem.ranked inner) key (g.P.Problem.root inner) c.requires.0 (g.P.Problem.worth inner))
    ∙ c.greatest_is.ensures
