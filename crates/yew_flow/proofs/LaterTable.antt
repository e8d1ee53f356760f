-- Where the later time of a job stands in the table.
use Rattle.std.proofs.Common.{◌≡◌, ℕ, ◌+◌, ◌-◌, ◌*◌, ◌/◌, ◌%◌, ◌≤◌, true, nat_le, if◌then◌else◌, ap, ◌∙◌, arith, length}
use Rattle.std.proofs.lemmas.Bool.Decides.{nat_tests}
use Rattle.std.proofs.lemmas.List.FromFn.{length-map-range_with_len}
use Rattle.std.proofs.lemmas.Nat.{div-mul-add, mod-mul-add}
use Rattle.yew_flow.specs.Instance.{Instance}
use Rattle.yew_flow.specs.Nodes.{later_time, later_entry, later_table}

test_within : (a n : ℕ) → a ≤ n → nat_le a n ≡ true
test_within a n l = grind (arith, nat_tests)

module _ (instance : Instance) where
  pub length-later : length (later_table instance) ≡ 64 * instance.machines
  length-later = length-map-range_with_len (later_entry instance) 0 (64 * instance.machines)

  pub later-within : (place : ℕ) → place % 64 + 1 ≤ instance.jobs → later_entry instance place ≡ later_time instance (place / 64 + 1) (place % 64 + 1)
  later-within place within = ap (λ t. if t then later_time instance (place / 64 + 1) (place % 64 + 1) else 0) (test_within (place % 64 + 1) instance.jobs within)

  pub later-step : (machine job : ℕ) → 1 ≤ machine → 1 ≤ job → job ≤ instance.jobs → instance.jobs ≤ 64 → later_entry instance ((machine - 1) * 64 + (job - 1)) ≡ later_time instance machine job
  later-step machine job some first last few =
      let row = div-mul-add (machine - 1) 64 (job - 1) (omega (arith, first, last, few)) in
      let column = mod-mul-add (machine - 1) 64 (job - 1) (omega (arith, first, last, few)) in
      let i : ((machine - 1) * 64 + (job - 1)) / 64 + 1 ≡ machine = omega (arith, row, some) in
      let j : ((machine - 1) * 64 + (job - 1)) % 64 + 1 ≡ job = omega (arith, column, first) in
      later-within ((machine - 1) * 64 + (job - 1)) (omega (arith, j, last))
      ∙ ap (λ c. later_time instance c (((machine - 1) * 64 + (job - 1)) % 64 + 1)) i ∙ ap (later_time instance machine) j
