-- Where the surplus of a step stands in the table.
use Rattle.std.proofs.Common.{◌≡◌, ℕ, ◌+◌, ◌-◌, ◌*◌, ◌/◌, ◌%◌, ◌≤◌, true, nat_le, if◌then◌else◌, ap, ◌∙◌, arith, length}
use Rattle.std.specs.List.{range_with_len}
use Rattle.std.proofs.lemmas.Bool.Decides.{nat_tests}
use Rattle.std.proofs.lemmas.List.{length-map}
use Rattle.std.proofs.lemmas.Nat.{div-mul-add, mod-mul-add}
use Rattle.yew_tsp.specs.Instance.{Instance}
use Rattle.yew_tsp.specs.Lists.{length-range}
use Rattle.yew_tsp.specs.Nodes.{surplus, surplus_at, surpluses}

test_within : (a n : ℕ) → a ≤ n → nat_le a n ≡ true
test_within a n l = grind (arith, nat_tests)

module _ (instance : Instance) where
  pub length-surpluses : length (surpluses instance) ≡ 64 * instance.cities
  length-surpluses = length-map (range_with_len 0 (64 * instance.cities)) (surplus_at instance) ∙ length-range 0 (64 * instance.cities)

  pub surplus_at-within : (place : ℕ) → place % 64 + 1 ≤ instance.cities → surplus_at instance place ≡ surplus instance (place / 64 + 1) (place % 64 + 1)
  surplus_at-within place within = ap (λ t. if t then surplus instance (place / 64 + 1) (place % 64 + 1) else 0) (test_within (place % 64 + 1) instance.cities within)

  pub surplus_at-step : (from to : ℕ) → 1 ≤ from → 1 ≤ to → to ≤ instance.cities → instance.cities ≤ 60 → surplus_at instance ((from - 1) * 64 + (to - 1)) ≡ surplus instance from to
  surplus_at-step from to first some last few =
      let row = div-mul-add (from - 1) 64 (to - 1) (omega (arith, last, few)) in
      let column = mod-mul-add (from - 1) 64 (to - 1) (omega (arith, last, few)) in
      let i : ((from - 1) * 64 + (to - 1)) / 64 + 1 ≡ from = omega (arith, row, first) in
      let j : ((from - 1) * 64 + (to - 1)) % 64 + 1 ≡ to = omega (arith, column, some) in
      surplus_at-within ((from - 1) * 64 + (to - 1)) (omega (arith, j, last))
      ∙ ap (λ c. surplus instance c (((from - 1) * 64 + (to - 1)) % 64 + 1)) i ∙ ap (surplus instance from) j
