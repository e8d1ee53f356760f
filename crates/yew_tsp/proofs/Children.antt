-- What is known of a list, where the list with one more city is a node.
use Rattle.std.proofs.Common.{◌≡◌, ◌≢◌, ℕ, ◌+◌, ◌^◌, ◌<◌, ◌≤◌, true, Bool, ◌||◌, ◌==◌, [], ◌∷◌, ◌++◌, take, slice_index, ap, sym, subst, ◌∙◌, arith}
use Rattle.std.proofs.lemmas.Bool.{true≢false}
use Rattle.std.proofs.lemmas.Bool.Decides.{nat_tests}
use Rattle.std.proofs.lemmas.List.{take_more}
use Rattle.yew_laws.specs.Sets.{contains}
use Rattle.yew_tsp.specs.declared.nodes.TourNode.{TourNode}
use Rattle.yew_tsp.specs.BoundLaws.{least-step, least-small, lower-small}
use Rattle.yew_tsp.specs.Instance.{Instance, weight_between}
use Rattle.yew_tsp.specs.Lists.{contains-last, contains-push, within-parts, member-all, different-last}
use Rattle.yew_tsp.specs.Nodes.{least_weight, cities_of, extended, IsNode}

module _ (instance : Instance) (node : TourNode) (city : ℕ) (written : slice_index node.cities node.steps ≡ node.last) (sound : IsNode instance (extended instance node city)) where
  pub few-steps : node.steps + 1 < 60
  few-steps = let count = sound.count in let few = sound.limits.few in omega (arith, count, few)

  front-is : take (node.steps + 1) node.cities ≡ take node.steps node.cities ++ node.last ∷ []
  front-is =
      let long = sound.size in let few = few-steps in
      take_more node.cities node.steps 0 (omega (arith, long, few)) ∙ ap (λ c. take node.steps node.cities ++ c ∷ []) written

  pub city-within : (1 ≤ city) × (city ≤ instance.cities)
  city-within =
      member-all (λ k. (1 ≤ k) × (k ≤ instance.cities)) (cities_of (extended instance node city)) city (within-parts 1 instance.cities (cities_of (extended instance node city)) sound.within)
      (contains-last (take (node.steps + 1) node.cities) city)

  from-listed : contains (take (node.steps + 1) node.cities) node.last ≡ true
  from-listed = subst (λ xs. contains xs node.last ≡ true) (sym front-is) (contains-last (take node.steps node.cities) node.last)

  pub from-within : (1 ≤ node.last) × (node.last ≤ instance.cities)
  from-within =
      member-all (λ k. (1 ≤ k) × (k ≤ instance.cities)) (cities_of (extended instance node city)) node.last (within-parts 1 instance.cities (cities_of (extended instance node city)) sound.within)
      (contains-push (take (node.steps + 1) node.cities) city node.last ∙ front (contains (take (node.steps + 1) node.cities) node.last) (city == node.last) from-listed)
    where
      front : (a b : Bool) → a ≡ true → (a || b) ≡ true
      front a b e = grind (arith, nat_tests)

  other : city ≢ node.last
  other e =
      let none = different-last (take (node.steps + 1) node.cities) city sound.different in
      true≢false (sym from-listed ∙ ap (contains (take (node.steps + 1) node.cities)) (sym e) ∙ none)

  -- no step is shorter than the least one
  pub step-least : least_weight instance node.last ≤ weight_between instance node.last city
  step-least = least-step instance node.last city city-within.0 city-within.1 other

  pub sum-small : node.lower + weight_between instance node.last city < 2 ^ 38
  sum-small =
      let lower = sound.lower_is in
      let small = lower-small instance (extended instance node city) sound in
      let least = least-small instance node.last in
      let step = step-least in
      omega (arith, lower, small, least, step)
