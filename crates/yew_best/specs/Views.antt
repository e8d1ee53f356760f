-- The view of one seat, and what each of its steps makes of it.
use Rattle.std.specs.Prelude.{ℕ, ◌+◌, ◌-◌, not, List, [], ◌∷◌, ◌++◌, filter}
use Rattle.yew_laws.specs.Sets.{contains}
use Rattle.yew_best.specs.declared.view.View.{View}

abbrev pub view_of : ℕ → ℕ → List ℕ → List ℕ → List ℕ → View
view_of seats share read offered heard = record { seats = seats; share = share; read = read; offered = offered; heard = heard }

-- the values that are not among the offered ones, in order
abbrev pub unoffered : List ℕ → List ℕ → List ℕ
unoffered offered values = filter (λ x. not (contains offered x)) values

-- what a seat has heard once it has read x: x is added where the seat had not offered it
abbrev pub heard_after : List ℕ → List ℕ → ℕ → List ℕ
heard_after offered heard x = heard ++ unoffered offered (x ∷ [])

-- what two seats have heard together: of what each heard, that which the other had not offered
abbrev pub heard_by_both : List ℕ → List ℕ → List ℕ → List ℕ → List ℕ
heard_by_both offered heard offered' heard' = unoffered offered' heard ++ unoffered offered heard'

abbrev pub has_read : View → ℕ → View
has_read v x = view_of v.seats v.share (v.read ++ x ∷ []) v.offered (heard_after v.offered v.heard x)

abbrev pub has_offered : View → ℕ → View
has_offered v x = view_of v.seats v.share v.read (v.offered ++ x ∷ []) v.heard

-- what a seat keeps when another is split off
abbrev pub left_of : View → View
left_of v = view_of v.seats (v.share - 1) v.read v.offered v.heard

-- what the new seat begins with
abbrev pub right_of : View → View
right_of v = view_of v.seats 1 v.read [] []

-- what a seat has once it has taken in another
abbrev pub both_of : View → View → View
both_of v w = view_of v.seats (v.share + w.share) (v.read ++ w.read) (v.offered ++ w.offered) (heard_by_both v.offered v.heard w.offered w.heard)
