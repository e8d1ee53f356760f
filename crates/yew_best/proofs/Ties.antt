-- From what a table's step tells to what contracts see of the word and its seats.
use Rattle.std.proofs.Common.{◌≡◌, ℕ, ◌<◌, ◌⊎◌, ◌∙◌, sym, ap, subst, arith}
use Rattle.std.specs.Prelude.{All, Contains}
use Rattle.atomic_table.specs.Seated.{TableId}
use Rattle.yew_best.specs.declared.view.View.{View}
use Rattle.yew_best.specs.Rule.{Tells, Closes}
use Rattle.yew_best.specs.Seats.{BestId, SeatView, seat_view}

-- a seat of the word is a seat of its table
pub same_table : (of mine : TableId) (seats : ℕ) (v : View) (b : BestId) (s : SeatView) → seat_view mine v ≡ s → record { table = of; seats = seats } ≡ b → s.best ≡ b → mine ≡ of
same_table of mine seats v b s view self is = ap (λ (t : SeatView). t.best.table) view ∙ ap (λ (t : BestId). t.table) (is ∙ sym self)

-- the table has the incumbent's word
pub in_table : (words : ℕ) → words ≡ 32 → 16 < words
in_table words e = omega arith

-- the first word is there, which a split and a join load
pub has_first : (words : ℕ) → words ≡ 32 → 0 < words
has_first words e = omega arith

-- with the whole share the word is 0 or was offered by the seat
pub whole_cause : (mine : TableId) (v : View) (b : BestId) (s : SeatView) (word : ℕ) → seat_view mine v ≡ s → s.best ≡ b → Tells v word → s.share ≡ b.seats → (word ≡ 0) ⊎ Contains s.offered word
whole_cause mine v b s word view is tells whole =
    let at : v.share ≡ v.seats = ap (λ (t : SeatView). t.share) view ∙ (whole ∙ (sym (ap (λ (t : BestId). t.seats) is) ∙ sym (ap (λ (t : SeatView). t.best.seats) view))) in
    subst (λ (t : SeatView). (word ≡ 0) ⊎ Contains t.offered word) view (tells.cause at)

pub share_is : (mine : TableId) (v : View) (s : SeatView) → seat_view mine v ≡ s → 1 < s.share → 1 < v.share
share_is mine v s view two = let e = ap (λ (t : SeatView). t.share) view in omega arith

-- the seat has the whole share
pub is_whole : (of mine : TableId) (seats : ℕ) (v : View) (b : BestId) (s : SeatView) → seat_view mine v ≡ s → record { table = of; seats = seats } ≡ b → s.share ≡ b.seats → v.share ≡ seats
is_whole of mine seats v b s view self whole = ap (λ (t : SeatView). t.share) view ∙ (whole ∙ sym (ap (λ (t : BestId). t.seats) self))

-- what the last word says of a seat that has the whole share
pub closed_cause : (mine : TableId) (v : View) (s : SeatView) (word : ℕ) → seat_view mine v ≡ s → Closes v word → (word ≡ 0) ⊎ Contains s.offered word
closed_cause mine v s word view is = subst (λ (t : SeatView). (word ≡ 0) ⊎ Contains t.offered word) view is.cause

pub closed_reads : (mine : TableId) (v : View) (s : SeatView) (word : ℕ) → seat_view mine v ≡ s → Closes v word → All (λ x. (x ≡ 0) ⊎ Contains s.offered x) s.read
closed_reads mine v s word view is = subst (λ (t : SeatView). All (λ x. (x ≡ 0) ⊎ Contains t.offered x) t.read) view is.read_cause

pub closed_heard : (mine : TableId) (v : View) (s : SeatView) (word : ℕ) → seat_view mine v ≡ s → Closes v word → All (λ x. x ≡ 0) s.heard
closed_heard mine v s word view is = subst (λ (t : SeatView). All (λ x. x ≡ 0) t.heard) view is.heard_cause
