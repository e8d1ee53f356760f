-- What each job means, by its plan.
use Rattle.std.specs.Prelude.{ℕ, List, [], ◌∷◌}
use Rattle.yew_flow.specs.declared.nodes.FlowNode.{FlowNode}
use Rattle.yew_flow.specs.Instance.{Instance as FlowShop}
use Rattle.yew_knap.specs.declared.nodes.KnapNode.{KnapNode}
use Rattle.yew_knap.specs.Instance.{Instance as Knapsack}
use Rattle.yew_lad.specs.Digraphs.{GraphPair}
use Rattle.yew_semi.specs.declared.semigroups.Semigroups.{Semigroups}
use Rattle.yew_tsp.specs.declared.nodes.TourNode.{TourNode}
use Rattle.yew_tsp.specs.Instance.{Instance as Cities}
use Rattle.yew_words.specs.declared.plan.Job.{Job}
use Rattle.yew_words.specs.declared.plan.Job.TheVariants as jobs
use Rattle.yew_words.specs.declared.plan.Made.{Made}
use Rattle.yew_words.specs.Plans.{Planned}
use Rattle.yew_words.specs.Word.{Word}
use Rattle.yew_app.specs.FlowShops.{flow_meaning}
use Rattle.yew_app.specs.Knapsacks.{goal_of, knapsack_meaning}
use Rattle.yew_app.specs.Meanings.{Meaning}
use Rattle.yew_app.specs.Semigroups.{semigroups_meaning}
use Rattle.yew_app.specs.ShortestTours.{tours_meaning, tree_asked}
use Rattle.yew_app.specs.Subgraphs.{maps_meaning}

-- What is said of a job with files of these names: of what is made, by its kind, and of what is searched for, by its
-- meaning. Each job that searches is one row.
abbrev pub of_job : Job → List Word → Planned → (Made → Type 0) → ((X N : Type 0) → Meaning X N → Type 0) → Type 0
of_job jobs.Knapsack (name ∷ []) plan made by = by Knapsack KnapNode (knapsack_meaning name (goal_of plan.target plan.gap))
of_job jobs.Tsp (name ∷ []) plan made by = by Cities TourNode (tours_meaning name plan.gap (tree_asked plan.near plan.span))
of_job jobs.Subgraph (pattern ∷ target ∷ []) plan made by = by GraphPair (List ℕ) (maps_meaning pattern target)
of_job jobs.Semigroups [] plan made by = by Semigroups (List ℕ) (semigroups_meaning plan.genus)
of_job jobs.Flow (name ∷ []) plan made by = by FlowShop FlowNode (flow_meaning name plan.gap)
of_job (jobs.Make kind) [] plan made by = made kind
of_job _ names plan made by = ⊥
