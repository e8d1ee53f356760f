-- The view of one seat of the claims, and what each of its steps makes of it.
use Rattle.std.specs.Prelude.{ℕ, ◌+◌, ◌-◌, List, [], ◌∷◌, ◌++◌}
use Rattle.yew_ranked.specs.declared.claim_view.ClaimView.{ClaimView}

abbrev pub view_of : ℕ → ℕ → List ℕ → ClaimView
view_of seats share claimed = record { seats = seats; share = share; claimed = claimed }

abbrev pub has_claimed : ClaimView → ℕ → ClaimView
has_claimed v number = view_of v.seats v.share (v.claimed ++ number ∷ [])

-- what a seat keeps when another is split off
abbrev pub left_of : ClaimView → ClaimView
left_of v = view_of v.seats (v.share - 1) v.claimed

-- what the new seat begins with
abbrev pub right_of : ClaimView → ClaimView
right_of v = view_of v.seats 1 v.claimed

-- what a seat has once it has taken in another
abbrev pub both_of : ClaimView → ClaimView → ClaimView
both_of v w = view_of v.seats (v.share + w.share) (v.claimed ++ w.claimed)
