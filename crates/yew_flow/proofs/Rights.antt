-- Which texts are right answers.
use Rattle.std.proofs.Common.{◌≡◌, ℕ, ◌+◌, ◌-◌, ◌≤◌, ◌^◌, ◌∙◌, List, length, ap, subst, inl, inr, arith}
use Rattle.std.proofs.lemmas.Bool.{cases_eq}
use Rattle.yew_laws.specs.Greatest.{greatest}
use Rattle.yew_flow.specs.declared.nodes.FlowNode.{FlowNode}
use Rattle.yew_flow.specs.Answers.{orders_tree}
use Rattle.yew_flow.specs.Instance.{Instance, IsWithinLimits}
use Rattle.yew_flow.specs.Nodes.{jobs_of, worth_of, IsNode}
use Rattle.yew_flow.specs.Orders.{makespan, IsLeastMakespan}
use Rattle.yew_flow.specs.Texts.{best_lines, near_lines, IsBestText, IsNearText}
use Rattle.yew_flow.proofs.TreeIs.{node-orders, node-worth, node-others, tree-orders}

module _ (instance : Instance) (limits : IsWithinLimits instance) (node : FlowNode) (sound : IsNode instance node) (worth : ℕ) (is : worth ≡ worth_of instance node) (some : 1 ≤ worth) where
  -- a node that has some worth has all jobs
  whole : length (jobs_of node) ≡ instance.jobs
  whole =
      elim (cases_eq (length (jobs_of node)) instance.jobs) [
        | inl all ↦ all
        | inr part ↦ let none = node-others instance limits node sound part in absurd (omega (arith, none, is, some))
      ]

  pub best-right : (text : List ℕ) → text ≡ best_lines (2 ^ 37 - worth) (jobs_of node) → worth ≡ greatest (orders_tree instance) → IsBestText instance text
  best-right text text_is most =
      let own = node-worth instance limits node sound whole in
      let least : 2 ^ 37 - greatest (orders_tree instance) ≡ makespan instance (jobs_of node) = omega (arith, own, is, most) in
      let same : 2 ^ 37 - worth ≡ makespan instance (jobs_of node) = omega (arith, own, is) in
      record {
        jobs = jobs_of node;
        orders = node-orders instance limits node sound whole;
        is_least = subst (IsLeastMakespan instance) least (tree-orders instance limits).least;
        text_is = text_is ∙ ap (λ l. best_lines l (jobs_of node)) same;
      }

  pub near-right : (gap : ℕ) (text : List ℕ) → text ≡ near_lines (2 ^ 37 - worth) gap (jobs_of node) → greatest (orders_tree instance) ≤ worth + gap
      → IsNearText instance gap text
  near-right gap text text_is near =
      let own = node-worth instance limits node sound whole in
      let same : 2 ^ 37 - worth ≡ makespan instance (jobs_of node) = omega (arith, own, is) in
      record {
        jobs = jobs_of node;
        orders = node-orders instance limits node sound whole;
        least = 2 ^ 37 - greatest (orders_tree instance);
        is_least = (tree-orders instance limits).least;
        within = omega (arith, own, is, near);
        text_is = text_is ∙ ap (λ l. near_lines l gap (jobs_of node)) same;
      }
