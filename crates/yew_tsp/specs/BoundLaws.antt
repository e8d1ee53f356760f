-- The bound of a node: no tour that begins with its list is shorter.
use Rattle.std.specs.Prelude.{◌≡◌, ◌≢◌, ℕ, ◌+◌, ◌-◌, ◌*◌, ◌<◌, ◌≤◌, ◌^◌, true, false, not, ◌||◌, ◌==◌, List, [], ◌∷◌, ◌++◌, length, take, map, sum_by, if◌then◌else◌}
use Rattle.std.specs.List.{AllByRecursion, range_with_len}
use Rattle.std.proofs.Common.{zero, suc, ap, sym, subst, ◌∙◌, arith, inl, inr, get_or}
use Rattle.std.proofs.lemmas.List.{length_push, nil_from_length}
use Rattle.std.proofs.lemmas.Bool.{cases_eq, true≢false}
use Rattle.std.proofs.lemmas.Bool.Decides.{nat_tests}
use Rattle.std.proofs.lemmas.List.Sums.{sum_by-cons}
use Rattle.yew_laws.specs.Sets.{contains}
use Rattle.yew_laws.specs.Tree.{IsBounded}
use Rattle.yew_laws.proofs.Bounds.{IsBounded-from_steps}
use Rattle.yew_laws.proofs.Members.{AllByRecursion-weaker}
use Rattle.yew_tsp.specs.declared.nodes.TourNode.{TourNode}
use Rattle.yew_tsp.specs.Instance.{Instance, IsWithinLimits, weight_between}
use Rattle.yew_tsp.specs.Lists.{filter-contains, contains-last, within-parts, member-all, different-last}
use Rattle.yew_tsp.specs.NodeLaws.{way_length-push, IsFree, length-cities, lower-appended, IsAppended, children-appended, tours-ranked}
use Rattle.yew_tsp.specs.Nodes.{least_of, others_in, least_weight, cities_of, unvisited_of, children_of, worth_of, lower_of, bound_of, IsNode}
use Rattle.yew_tsp.specs.Routes.{begins_with_one, way_length, tour_length}

-- ---- least weights

skips : (y d : ℕ) (ys : List ℕ) → y ≢ d → contains (y ∷ ys) d ≡ true → contains ys d ≡ true
skips y d ys other e = grind (arith, nat_tests)

least_of-le : (f : ℕ → ℕ) (cs : List ℕ) (c : ℕ) → contains cs c ≡ true → least_of (map f cs) ≤ f c
least_of-le f [] c h = absurd (true≢false (sym h))
least_of-le f (d ∷ cs) c h =
    elim (cases_eq d c) [
      | inl same ↦ let e = ap f same in omega (arith, e)
      | inr other ↦ let rest = least_of-le f cs c (skips d c cs other h) in omega (arith, rest)
    ]

least_of-small : (ws : List ℕ) → least_of ws ≤ 2147483647
least_of-small [] = omega arith
least_of-small (w ∷ ws) = let rest = least_of-small ws in omega (arith, rest)

-- no step from a city to another one is shorter than the city's least weight
pub least-step : (instance : Instance) (city other : ℕ) → 1 ≤ other → other ≤ instance.cities → other ≢ city → least_weight instance city ≤ weight_between instance city other
least-step instance city other from to apart =
    least_of-le (weight_between instance city) (others_in city (range_with_len 1 instance.cities)) other
    (filter-contains (λ x. not (x == city)) 1 instance.cities other from (omega arith) (differs other apart))
  where
    differs : (x : ℕ) → x ≢ city → not (x == city) ≡ true
    differs x a = grind (arith, nat_tests)

get_or-small : (m : ℕ) (ws : List ℕ) (k : ℕ) → 0 < m → AllByRecursion (λ w. w < m) ws → get_or ws k 0 < m
get_or-small m [] k p a = p
get_or-small m (w ∷ ws) zero p a = a.0
get_or-small m (w ∷ ws) (suc k) p a = get_or-small m ws k p a.1

pub weight-small : (instance : Instance) → IsWithinLimits instance → (i j : ℕ) → weight_between instance i j < 2 ^ 31
weight-small instance limits i j = get_or-small (2 ^ 31) instance.weights ((i - 1) * instance.cities + (j - 1)) (omega arith) limits.small

pub least-small : (instance : Instance) (city : ℕ) → least_weight instance city ≤ 2147483647
least-small instance city = least_of-small (map (weight_between instance city) (others_in city (range_with_len 1 instance.cities)))

pub way-small : (instance : Instance) → IsWithinLimits instance → (cities : List ℕ) → way_length instance cities ≤ length cities * 2147483647
way-small instance limits [] = omega arith
way-small instance limits (c ∷ []) = omega arith
way-small instance limits (c ∷ d ∷ cities) =
    let rest = way-small instance limits (d ∷ cities) in let step = weight-small instance limits c d in omega (arith, rest, step)

pub leasts-small : (instance : Instance) (cities : List ℕ) → sum_by (least_weight instance) cities ≤ length cities * 2147483647
leasts-small instance [] = omega arith
leasts-small instance (c ∷ cities) =
    let cons = sum_by-cons (least_weight instance) c cities in
    let rest = leasts-small instance cities in
    let one = least-small instance c in
    omega (arith, cons, rest, one)

-- ---- nodes

module _ (instance : Instance) (node : TourNode) (sound : IsNode instance node) where
  pub last-listed : contains (cities_of node) node.last ≡ true
  last-listed = contains-last (take node.steps node.cities) node.last

  -- the last city is one of the cities
  pub last-within : (1 ≤ node.last) × (node.last ≤ instance.cities)
  last-within = member-all (λ k. (1 ≤ k) × (k ≤ instance.cities)) (cities_of node) node.last (within-parts 1 instance.cities (cities_of node) sound.within) last-listed

  pub lower-small : lower_of instance node < 2 ^ 37
  lower-small =
      let way = way-small instance sound.limits (cities_of node) in
      let long = length-cities instance node sound in
      let least = leasts-small instance (node.last ∷ unvisited_of instance node) in
      let count = sound.count in let few = sound.limits.few in
      omega (arith, way, long, least, count, few)

  -- a city that is not in the list is another one than the last
  pub free-other : (city : ℕ) → IsFree instance node city → city ≢ node.last
  free-other city free e = true≢false (sym last-listed ∙ ap (contains (cities_of node)) (sym e) ∙ free.new)

  -- a list of several cities ends with another city than city 1
  pub last-other : 1 ≤ node.steps → 1 ≢ node.last
  last-other some e =
      let apart = different-last (take node.steps node.cities) node.last sound.different in
      let first : contains (take node.steps node.cities) 1 ≡ true = begins (take node.steps node.cities) (some_front some) sound.begins in
      true≢false (sym first ∙ ap (contains (take node.steps node.cities)) e ∙ apart)
    where
      some_front : 1 ≤ node.steps → 1 ≤ length (take node.steps node.cities)
      some_front l =
          let all = length-cities instance node sound in let both = length_push (take node.steps node.cities) node.last in omega (arith, all, both, l)

      begins : (cs : List ℕ) → 1 ≤ length cs → begins_with_one (cs ++ node.last ∷ []) ≡ true → contains cs 1 ≡ true
      begins [] l h = absurd (omega arith)
      begins (c ∷ cs) l h = ap (λ b. b || contains cs 1) h

  -- the step back from the list of all cities
  pub step_back : node.steps + 1 ≡ instance.cities → least_weight instance node.last ≤ weight_between instance node.last 1
  step_back all =
      let several = sound.limits.several in
      least-step instance node.last 1 (omega arith) (omega (arith, several)) (last-other (omega (arith, several, all)))

  tour-is : tour_length instance (cities_of node) ≡ way_length instance (cities_of node) + weight_between instance node.last 1
  tour-is = way_length-push instance (take node.steps node.cities) node.last 1

  -- the length of the tour that a list of all cities is, by the node's numbers
  pub tour-lower : node.steps + 1 ≡ instance.cities → tour_length instance (cities_of node) + least_weight instance node.last ≡ lower_of instance node + weight_between instance node.last 1
  tour-lower all =
      let tour = tour-is in
      let none = nil_from_length (unvisited_of instance node) (let count = sound.count in omega (arith, count, all)) in
      let own : sum_by (least_weight instance) (node.last ∷ unvisited_of instance node) ≡ sum_by (least_weight instance) (node.last ∷ []) = ap (λ cs. sum_by (least_weight instance) (node.last ∷ cs)) none in
      let one = sum_by-cons (least_weight instance) node.last [] in
      omega (arith, tour, own, one)

  -- the worth of a list of all cities is positive
  pub tour-small : tour_length instance (cities_of node) < 2 ^ 37
  tour-small =
      let tour = tour-is in
      let way = way-small instance sound.limits (cities_of node) in
      let back = weight-small instance sound.limits node.last 1 in
      let long = length-cities instance node sound in
      let count = sound.count in let few = sound.limits.few in
      omega (arith, tour, way, back, long, count, few)

  pub worth-whole : node.steps + 1 ≡ instance.cities → worth_of instance node ≡ 2 ^ 37 - tour_length instance (cities_of node)
  worth-whole all = ap (λ b. if b then 2 ^ 37 - tour_length instance (cities_of node) else 0) (same (length (cities_of node)) (length-cities instance node sound ∙ all))
    where
      same : (k : ℕ) → k ≡ instance.cities → (k == instance.cities) ≡ true
      same k e = grind (arith, nat_tests)

  pub worth-part : node.steps + 1 ≢ instance.cities → worth_of instance node ≡ 0
  worth-part part = ap (λ b. if b then 2 ^ 37 - tour_length instance (cities_of node) else 0) (other (length (cities_of node)) (λ e. part (sym (length-cities instance node sound) ∙ e)))
    where
      other : (k : ℕ) → k ≢ instance.cities → (k == instance.cities) ≡ false
      other k e = grind (arith, nat_tests)

  own-bounded : worth_of instance node ≤ bound_of instance node
  own-bounded =
      elim (cases_eq (node.steps + 1) instance.cities) [
        | inl all ↦ let worth = worth-whole all in let tour = tour-lower all in let back = step_back all in omega (arith, worth, tour, back)
        | inr part ↦ let worth = worth-part part in omega (arith, worth)
      ]

  bound-falls : AllByRecursion (λ c. bound_of instance c ≤ bound_of instance node) (children_of instance node)
  bound-falls =
      AllByRecursion-weaker (IsAppended instance node) (λ c. bound_of instance c ≤ bound_of instance node)
      (λ c a.
      let sum = lower-appended instance node sound a.city a.free in
      let free = a.free in
      let from = free.from in let to = free.to in
      let least = least-step instance node.last a.city from to (free-other a.city a.free) in
      subst (λ d. bound_of instance d ≤ bound_of instance node) (sym a.is) (omega (arith, sum, least)))
      (children_of instance node) (children-appended instance node)

-- no list at or below a node is worth more than the node's bound, and every bound is below 2 ^ 40
pub tours-bounded : (instance : Instance) → IsBounded (IsNode instance) (children_of instance) (worth_of instance) (bound_of instance)
tours-bounded instance = IsBounded-from_steps (tours-ranked instance) (own-bounded instance) (bound-falls instance) (λ node sound. omega arith)
