-- The rule of the counter of claims, over the counter and the views of all seats.
use Rattle.std.specs.Prelude.{◌≡◌, ℕ, ◌*◌, ◌<◌, ◌≤◌, List, length, All, sum_by, slice_index, nat_lt, if◌then◌else◌}
use mathlib.Core.Option.{some}
use lib.ListN.{get_elem?}
use Rattle.yew_ranked.specs.declared.claim_view.ClaimView.{ClaimView}
use Rattle.yew_ranked.specs.ClaimSeats.{times}

-- One seat keeps the rule: where it has a share it knows the whole one, and it has claimed at most its share times 2^57 numbers, so without a share none
pub record Fits (seats : ℕ) (v : ClaimView) : Type 0 where
  pub whole : 0 < v.share → v.seats ≡ seats
  pub few : length v.claimed ≤ v.share * 144115188075855872

-- The rule: the shares add up to the whole, at most 64, and the numbers that all seats have claimed are all numbers below the counter, each once
pub record IsCount (seats next : ℕ) (views : List ClaimView) : Type 0 where
  pub few_seats : seats ≤ 64
  pub shares : sum_by (λ (v : ClaimView). v.share) views ≡ seats
  pub many : sum_by (λ (v : ClaimView). length v.claimed) views ≡ next
  pub once : (x : ℕ) → sum_by (λ (v : ClaimView). times x v.claimed) views ≡ (if nat_lt x next then 1 else 0)
  pub each : (seat : ℕ) (v : ClaimView) → get_elem? views seat ≡ some v → Fits seats v

-- the counter is the word number 16 of its table, and the others are not used
pub record Keeps (seats : ℕ) (words : List ℕ) (views : List ClaimView) : Type 0 where
  pub placed : 16 < length words
  pub count : IsCount seats (slice_index words 16) views

-- What an addition tells its seat of the number that it found: it is above all that the seat has claimed, and where there is one seat it is how many these are
pub record Tells (v : ClaimView) (number : ℕ) : Type 0 where
  pub above : All (λ x. x < number) v.claimed
  pub alone : v.share ≡ v.seats → number ≡ length v.claimed
