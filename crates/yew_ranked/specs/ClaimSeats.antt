-- What contracts see of the counter of claims and of a seat.
use Rattle.std.specs.Prelude.{◌≡◌, ℕ, List, length, sum_by, nat_lt, ◌==◌, if◌then◌else◌}
use base.Stored.{Coded, coded×, coded_ℕ, coded_list, coded_via}
use Rattle.atomic_table.specs.Seated.{TableId, table_id_coded}
use Rattle.yew_ranked.specs.declared.claim_view.ClaimView.{ClaimView}

-- Which counter it is, and the number of seats that it was made for, which is the whole share
pub record ClaimsId : Type 0 where
  pub table : TableId
  pub seats : ℕ

-- A seat: the counter that it is of, its share, and the numbers that it has claimed
pub record ClaimSeatView : Type 0 where
  pub claims : ClaimsId
  pub share : ℕ
  pub claimed : List ℕ

-- the seat of a table with a view
abbrev pub claim_seat : TableId → ClaimView → ClaimSeatView
claim_seat table v = record { claims = record { table = table; seats = v.seats }; share = v.share; claimed = v.claimed }

-- two counters are one where their parts are
abbrev pub claims_id_coded : Coded ClaimsId
claims_id_coded = coded_via (coded× table_id_coded coded_ℕ) (λ (b : ClaimsId). (b.table, b.seats)) (λ x y e i. record { table = (e i).0; seats = (e i).1 })

-- two seats are one where their parts are
abbrev pub claim_seat_coded : Coded ClaimSeatView
claim_seat_coded = coded_via (coded× claims_id_coded (coded× coded_ℕ (coded_list coded_ℕ))) (λ (s : ClaimSeatView). (s.claims, (s.share, s.claimed)))
    (λ x y e i. record { claims = (e i).0; share = (e i).1.0; claimed = (e i).1.1 })

-- how often a number occurs
abbrev pub times : ℕ → List ℕ → ℕ
times x xs = sum_by (λ y. if y == x then 1 else 0) xs

-- these are all numbers below a count, each once
pub record AreBelow (count : ℕ) (numbers : List ℕ) : Type 0 where
  pub many : length numbers ≡ count
  pub once : (x : ℕ) → times x numbers ≡ (if nat_lt x count then 1 else 0)
