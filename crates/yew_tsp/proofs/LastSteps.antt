-- The last step of a node's list goes from the last city that is written to the last city.
use Rattle.std.proofs.Common.{◌≡◌, ℕ, zero, suc, ◌+◌, ◌-◌, ◌<◌, ◌≤◌, true, List, [], ◌∷◌, ◌++◌, length, take, get_or, refl, ap, ◌∙◌, arith}
use Rattle.std.specs.List.{AllByRecursion}
use Rattle.std.proofs.lemmas.List.{get_or-take, length-take-le}
use Rattle.yew_laws.specs.Sets.{are_within}
use Rattle.yew_tsp.specs.declared.nodes.TourNode.{TourNode}
use Rattle.yew_tsp.specs.Instance.{Instance, weight_between}
use Rattle.yew_tsp.specs.Lists.{within-parts}
use Rattle.yew_tsp.specs.Nodes.{cities_of, IsNode}
use Rattle.yew_tsp.specs.Routes.{last_step, step_behind}

module _ (instance : Instance) where
  step_behind-push : (c d : ℕ) (cs : List ℕ) (last : ℕ)
      → step_behind instance c d (cs ++ last ∷ []) ≡ weight_between instance (get_or (d ∷ cs) (length cs) 0) last
  step_behind-push c d [] last = refl
  step_behind-push c d (e ∷ cs) last = step_behind-push d e cs last

  last_step-push : (c : ℕ) (cs : List ℕ) (last : ℕ) → last_step instance (c ∷ cs ++ last ∷ []) ≡ weight_between instance (get_or (c ∷ cs) (length cs) 0) last
  last_step-push c [] last = refl
  last_step-push c (d ∷ cs) last = step_behind-push c d cs last

  last_step-from : (cs : List ℕ) (last : ℕ) → 1 ≤ length cs → last_step instance (cs ++ last ∷ []) ≡ weight_between instance (get_or cs (length cs - 1) 0) last
  last_step-from [] last some = absurd (omega (arith, some))
  last_step-from (c ∷ cs) last some =
      let less : length cs ≡ length (c ∷ cs) - 1 = omega arith in
      last_step-push c cs last ∙ ap (λ k. weight_between instance (get_or (c ∷ cs) k 0) last) less

front-all : (P : ℕ → Type 0) (cs : List ℕ) (last k : ℕ) → k < length cs → AllByRecursion P (cs ++ last ∷ []) → P (get_or cs k 0)
front-all P [] last k few all = absurd (omega (arith, few))
front-all P (c ∷ cs) last zero few all = all.0
front-all P (c ∷ cs) last (suc k) few all = front-all P cs last k (omega (arith, few)) all.1

last-all : (P : ℕ → Type 0) (cs : List ℕ) (last : ℕ) → AllByRecursion P (cs ++ last ∷ []) → P last
last-all P [] last all = all.0
last-all P (c ∷ cs) last all = last-all P cs last all.1

module _ (instance : Instance) (node : TourNode) (sound : IsNode instance node) where
  -- fewer cities are written than there are places
  pub steps-few : node.steps < 64
  steps-few = let count = sound.count in let few = sound.limits.few in omega (arith, count, few)

  abbrev written_cities : List ℕ
  written_cities = take node.steps node.cities

  length-written : length written_cities ≡ node.steps
  length-written = let size = sound.size in let few = steps-few in length-take-le node.steps node.cities (omega (arith, size, few))

  pub last-within : (1 ≤ node.last) × (node.last ≤ instance.cities)
  last-within = last-all (λ k. (1 ≤ k) × (k ≤ instance.cities)) written_cities node.last (within-parts 1 instance.cities (cities_of node) sound.within)

  module _ (some : 1 ≤ node.steps) where
    at-written : get_or written_cities (node.steps - 1) 0 ≡ get_or node.cities (node.steps - 1) 0
    at-written = get_or-take node.steps node.cities (node.steps - 1) 0 (omega (arith, some))

    pub before-within : (1 ≤ get_or node.cities (node.steps - 1) 0) × (get_or node.cities (node.steps - 1) 0 ≤ instance.cities)
    before-within =
        let long = length-written in
        let both = front-all (λ k. (1 ≤ k) × (k ≤ instance.cities)) written_cities node.last (node.steps - 1) (omega (arith, long, some))
        (within-parts 1 instance.cities (cities_of node) sound.within) in
        let same = at-written in
        let low = both.0 in
        let high = both.1 in
        (omega (arith, low, same), omega (arith, high, same))

    pub last_step-is : last_step instance (cities_of node) ≡ weight_between instance (get_or node.cities (node.steps - 1) 0) node.last
    last_step-is =
        let long = length-written in
        last_step-from instance written_cities node.last (omega (arith, long, some))
        ∙ ap (λ k. weight_between instance (get_or written_cities (k - 1) 0) node.last) long
        ∙ ap (λ c. weight_between instance c node.last) at-written

-- where no step was taken there is none
pub last_step-none : (instance : Instance) (node : TourNode) → node.steps ≡ 0 → last_step instance (cities_of node) ≡ 0
last_step-none instance node none = ap (λ k. last_step instance (take k node.cities ++ node.last ∷ [])) none
