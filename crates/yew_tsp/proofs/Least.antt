-- The least weight from a city, one other city after another.
use Rattle.std.proofs.Common.{◌≡◌, ◌≢◌, ℕ, suc, ◌+◌, ◌-◌, ◌<◌, ◌≤◌, Bool, true, false, cond, min, not, ◌==◌, List, [], ◌∷◌, map, refl, ap, sym, ◌∙◌, arith}
use Rattle.std.specs.List.{range_with_len}
use Rattle.std.proofs.lemmas.Bool.Decides.{nat_tests}
use Rattle.yew_tsp.specs.Instance.{Instance, weight_between}
use Rattle.yew_tsp.specs.Nodes.{least_of, others_in, least_weight}

-- the least of the weights from a city to those of a range
abbrev pub least_behind : Instance → ℕ → ℕ → ℕ
least_behind instance city other = least_of (map (weight_between instance city) (others_in city (range_with_len other (instance.cities + 1 - other))))

module _ (instance : Instance) (city other : ℕ) (within : other < instance.cities + 1) where
  least_behind-step : least_behind instance city other ≡ cond (not (other == city)) (min (weight_between instance city other) (least_behind instance city (other + 1))) (least_behind instance city (other + 1))
  least_behind-step =
      let long : instance.cities + 1 - other ≡ suc (instance.cities + 1 - (other + 1)) = omega arith in
      ap (λ k. least_of (map (weight_between instance city) (others_in city (range_with_len other k)))) long
      ∙ choice (not (other == city)) (others_in city (range_with_len (other + 1) (instance.cities + 1 - (other + 1))))
    where
      choice : (b : Bool) (xs : List ℕ) → least_of (map (weight_between instance city) (cond b (other ∷ xs) xs)) ≡ cond b (min (weight_between instance city other) (least_of (map (weight_between instance city) xs))) (least_of (map (weight_between instance city) xs))
      choice true xs = refl
      choice false xs = refl

  pub least_behind-other : other ≢ city → (least : ℕ) → min (min least (weight_between instance city other)) (least_behind instance city (other + 1)) ≡ min least (least_behind instance city other)
  least_behind-other apart least =
      let e = least_behind-step ∙ ap (λ b. cond b (min (weight_between instance city other) (least_behind instance city (other + 1))) (least_behind instance city (other + 1))) (differs apart) in
      omega (arith, e)
    where
      differs : other ≢ city → not (other == city) ≡ true
      differs a = grind (arith, nat_tests)

  pub least_behind-own : other ≡ city → least_behind instance city (other + 1) ≡ least_behind instance city other
  least_behind-own same =
      sym (least_behind-step ∙ ap (λ b. cond b (min (weight_between instance city other) (least_behind instance city (other + 1))) (least_behind instance city (other + 1))) (equals same))
    where
      equals : other ≡ city → not (other == city) ≡ false
      equals a = grind (arith, nat_tests)

-- behind the last city there is none
pub least_behind-none : (instance : Instance) (city other : ℕ) → instance.cities + 1 ≤ other → least_behind instance city other ≡ 2147483647
least_behind-none instance city other past =
    let none : instance.cities + 1 - other ≡ 0 = omega arith in
    ap (λ k. least_of (map (weight_between instance city) (others_in city (range_with_len other k)))) none

pub least_behind-all : (instance : Instance) (city : ℕ) → least_behind instance city 1 ≡ least_weight instance city
least_behind-all instance city =
    let long : instance.cities + 1 - 1 ≡ instance.cities = omega arith in
    ap (λ k. least_of (map (weight_between instance city) (others_in city (range_with_len 1 k)))) long

pub least_behind-small : (instance : Instance) (city other : ℕ) → least_behind instance city other ≤ 2147483647
least_behind-small instance city other = small (map (weight_between instance city) (others_in city (range_with_len other (instance.cities + 1 - other))))
  where
    small : (ws : List ℕ) → least_of ws ≤ 2147483647
    small [] = omega arith
    small (w ∷ ws) = let rest = small ws in omega (arith, rest)
