-- Which texts are right answers.
use Rattle.std.proofs.Common.{◌≡◌, ℕ, ◌+◌, ◌-◌, ◌≤◌, ◌^◌, ◌∙◌, List, length, ap, subst, inl, inr, arith}
use Rattle.std.proofs.lemmas.Bool.{cases_eq}
use Rattle.yew_laws.specs.Greatest.{greatest}
use Rattle.yew_tsp.specs.declared.nodes.TourNode.{TourNode}
use Rattle.yew_tsp.specs.Answers.{tours_tree}
use Rattle.yew_tsp.specs.Instance.{Instance, IsWithinLimits}
use Rattle.yew_tsp.specs.Nodes.{cities_of, worth_of, IsNode}
use Rattle.yew_tsp.specs.Routes.{tour_length, IsLeastLength}
use Rattle.yew_tsp.specs.Texts.{best_lines, near_lines, IsBestText, IsNearText}
use Rattle.yew_tsp.proofs.TreeIs.{node-tours, node-worth, node-others, tree-tours}

module _ (instance : Instance) (limits : IsWithinLimits instance) (node : TourNode) (sound : IsNode instance node) (worth : ℕ) (is : worth ≡ worth_of instance node) (some : 1 ≤ worth) where
  -- a node that has some worth has all cities
  whole : length (cities_of node) ≡ instance.cities
  whole =
      elim (cases_eq (length (cities_of node)) instance.cities) [
        | inl all ↦ all
        | inr part ↦ let none = node-others instance limits node sound part in absurd (omega (arith, none, is, some))
      ]

  pub best-right : (text : List ℕ) → text ≡ best_lines (2 ^ 37 - worth) (cities_of node) → worth ≡ greatest (tours_tree instance) → IsBestText instance text
  best-right text text_is most =
      let own = node-worth instance limits node sound whole in
      let least : 2 ^ 37 - greatest (tours_tree instance) ≡ tour_length instance (cities_of node) = omega (arith, own, is, most) in
      let same : 2 ^ 37 - worth ≡ tour_length instance (cities_of node) = omega (arith, own, is) in
      record {
        cities = cities_of node;
        tours = node-tours instance limits node sound whole;
        is_least = subst (IsLeastLength instance) least (tree-tours instance limits).least;
        text_is = text_is ∙ ap (λ l. best_lines l (cities_of node)) same;
      }

  pub near-right : (gap : ℕ) (text : List ℕ) → text ≡ near_lines (2 ^ 37 - worth) gap (cities_of node) → greatest (tours_tree instance) ≤ worth + gap
      → IsNearText instance gap text
  near-right gap text text_is near =
      let own = node-worth instance limits node sound whole in
      let same : 2 ^ 37 - worth ≡ tour_length instance (cities_of node) = omega (arith, own, is) in
      record {
        cities = cities_of node;
        tours = node-tours instance limits node sound whole;
        least = 2 ^ 37 - greatest (tours_tree instance);
        is_least = (tree-tours instance limits).least;
        within = omega (arith, own, is, near);
        text_is = text_is ∙ ap (λ l. near_lines l gap (cities_of node)) same;
      }

  pub worth-small : worth ≤ 2 ^ 37
  worth-small = let own = node-worth instance limits node sound whole in omega (arith, own, is)
