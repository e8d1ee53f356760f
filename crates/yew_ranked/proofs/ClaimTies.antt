-- From what a table's step tells to what contracts see of the claims and their seats.
use Rattle.std.proofs.Common.{◌≡◌, ℕ, ◌<◌, ◌∙◌, [], sym, ap, subst, arith, length}
use Rattle.atomic_table.specs.Seated.{TableId}
use Rattle.yew_ranked.specs.declared.claim_view.ClaimView.{ClaimView}
use Rattle.yew_ranked.specs.ClaimRule.{Tells}
use Rattle.yew_ranked.specs.ClaimSeats.{ClaimsId, ClaimSeatView, claim_seat, AreBelow}

-- a seat of the counter is a seat of its table
pub same_table : (of mine : TableId) (seats : ℕ) (v : ClaimView) (b : ClaimsId) (s : ClaimSeatView) → claim_seat mine v ≡ s → record { table = of; seats = seats } ≡ b → s.claims ≡ b → mine ≡ of
same_table of mine seats v b s view self is = ap (λ (t : ClaimSeatView). t.claims.table) view ∙ ap (λ (t : ClaimsId). t.table) (is ∙ sym self)

-- the table has the counter
pub in_table : (words : ℕ) → words ≡ 32 → 16 < words
in_table words e = omega arith

-- the first word is there, which a split and a join load
pub has_first : (words : ℕ) → words ≡ 32 → 0 < words
has_first words e = omega arith

pub share_is : (mine : TableId) (v : ClaimView) (s : ClaimSeatView) → claim_seat mine v ≡ s → 1 < s.share → 1 < v.share
share_is mine v s view two = let e = ap (λ (t : ClaimSeatView). t.share) view in omega arith

pub share_one : (mine : TableId) (v : ClaimView) (s : ClaimSeatView) → claim_seat mine v ≡ s → s.share ≡ 1 → v.share ≡ 1
share_one mine v s view one = ap (λ (t : ClaimSeatView). t.share) view ∙ one

pub claimed_few : (mine : TableId) (v : ClaimView) (s : ClaimSeatView) → claim_seat mine v ≡ s → length s.claimed < 144115188075855872 → length v.claimed < 144115188075855872
claimed_few mine v s view few = let e = ap (λ (t : ClaimSeatView). length t.claimed) view in omega arith

pub claimed_none : (mine : TableId) (v : ClaimView) (s : ClaimSeatView) → claim_seat mine v ≡ s → s.claimed ≡ [] → v.claimed ≡ []
claimed_none mine v s view none = ap (λ (t : ClaimSeatView). t.claimed) view ∙ none

-- a counter of one seat: the number is how many the seat has claimed
pub whole_number : (mine : TableId) (v : ClaimView) (b : ClaimsId) (s : ClaimSeatView) (number : ℕ) → claim_seat mine v ≡ s → s.claims ≡ b → s.share ≡ 1 → Tells v number → b.seats ≡ 1 → number ≡ length s.claimed
whole_number mine v b s number view is one tells whole =
    let at : v.share ≡ v.seats = ap (λ (t : ClaimSeatView). t.share) view ∙ (one ∙ (sym whole ∙ (sym (ap (λ (t : ClaimsId). t.seats) is) ∙ sym (ap (λ (t : ClaimSeatView). t.claims.seats) view)))) in
    tells.alone at ∙ ap (λ (t : ClaimSeatView). length t.claimed) view

-- the seat has the whole share
pub is_whole : (of mine : TableId) (seats : ℕ) (v : ClaimView) (b : ClaimsId) (s : ClaimSeatView) → claim_seat mine v ≡ s → record { table = of; seats = seats } ≡ b → s.share ≡ b.seats → v.share ≡ seats
is_whole of mine seats v b s view self whole = ap (λ (t : ClaimSeatView). t.share) view ∙ (whole ∙ sym (ap (λ (t : ClaimsId). t.seats) self))

-- what the last counter says of a seat that has the whole share
pub closed_below : (mine : TableId) (v : ClaimView) (s : ClaimSeatView) (word : ℕ) → claim_seat mine v ≡ s → AreBelow word v.claimed → AreBelow word s.claimed
closed_below mine v s word view is = subst (λ (t : ClaimSeatView). AreBelow word t.claimed) view is
