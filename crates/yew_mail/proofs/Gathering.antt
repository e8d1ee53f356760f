-- All seats are joined to one.
use Rattle.std.proofs.Common.{◌≡◌, ℕ, ◌+◌, ◌∙◌, List, [], ◌∷◌, ◌++◌, length, Some, ap, subst, arith}
use Rattle.std.specs.Prelude.{sum_by}
use Rattle.std.specs.List.{AllByRecursion}
use Rattle.std.proofs.lemmas.List.Sums.{sum_by_push, sum_by-append}
use Rattle.yew_mail.specs.Seats.{MailId, SeatView}
use Rattle.yew_mail.specs.Closing.{AreFor, IsGathering}

-- what holds of each member of a joined list holds of each member of its parts
pub all_parts : {X : Type 0} (P : X → Type 0) (xs ys : List X) → AllByRecursion P (xs ++ ys) → AllByRecursion P xs × AllByRecursion P ys
all_parts P [] ys all = (tt, all)
all_parts P (x ∷ xs) ys all = let rest = all_parts P xs ys all.1 in ((all.0, rest.0), rest.1)

module _ {T Q : Type 0} where
  -- the last seat was taken off
  pub gather_begins : (mail : MailId) (all rest : List (SeatView T Q)) (seat : SeatView T Q)
      → AllByRecursion (λ (other : SeatView T Q). other.mail ≡ mail) all → all ≡ rest ++ seat ∷ [] → IsGathering mail all rest seat
  gather_begins mail all rest seat same is =
      let parts = all_parts (λ (other : SeatView T Q). other.mail ≡ mail) rest (seat ∷ [])
      (subst (λ l. AllByRecursion (λ (other : SeatView T Q). other.mail ≡ mail) l) is same) in
      record {
        same = parts.0;
        mine = parts.1.0;
        shares = sum_off (λ (other : SeatView T Q). other.share);
        given = λ h. sum_off (λ (other : SeatView T Q). sum_by h other.given);
        got = λ h. sum_off (λ (other : SeatView T Q). sum_by h other.got);
        made_for = λ members made.
            (let those = all_parts (λ (other : SeatView T Q). other.members ≡ Some members) rest (seat ∷ []) (subst (AreFor members) is made) in
            (those.1.0, those.0));
      }
    where
      sum_off : (f : SeatView T Q → ℕ) → f seat + sum_by f rest ≡ sum_by f all
      sum_off f = let a = sum_by_push f rest seat in let b = ap (sum_by f) is in omega (arith, a, b)

  -- and another was joined to it
  pub gather_more : (mail : MailId) (all rest fewer : List (SeatView T Q)) (seat other after : SeatView T Q) → IsGathering mail all rest seat
      → rest ≡ fewer ++ other ∷ []
      → after ≡ record seat {
        share = seat.share + other.share;
        numbers = seat.numbers ++ other.numbers;
        given = seat.given ++ other.given;
        got = seat.got ++ other.got;
        found = seat.found ++ other.found;
      }
      → IsGathering mail all fewer after
  gather_more mail all rest fewer seat other after so_far is after_is =
      let parts = all_parts (λ (o : SeatView T Q). o.mail ≡ mail) fewer (other ∷ [])
      (subst (λ l. AllByRecursion (λ (o : SeatView T Q). o.mail ≡ mail) l) is so_far.same) in
      record {
        same = parts.0;
        mine = ap (λ (s : SeatView T Q). s.mail) after_is ∙ so_far.mine;
        shares = sum_on (λ (s : SeatView T Q). s.share) (ap (λ (s : SeatView T Q). s.share) after_is) so_far.shares;
        given = λ h. sum_on (λ (s : SeatView T Q). sum_by h s.given)
            (ap (λ (s : SeatView T Q). sum_by h s.given) after_is ∙ sum_by-append h seat.given other.given) (so_far.given h);
        got = λ h. sum_on (λ (s : SeatView T Q). sum_by h s.got) (ap (λ (s : SeatView T Q). sum_by h s.got) after_is ∙ sum_by-append h seat.got other.got)
            (so_far.got h);
        made_for = λ members made.
            (let before = so_far.made_for members made in
            let those = all_parts (λ (o : SeatView T Q). o.members ≡ Some members) fewer (other ∷ []) (subst (AreFor members) is before.1) in
            (ap (λ (s : SeatView T Q). s.members) after_is ∙ before.0, those.0));
      }
    where
      sum_on : (f : SeatView T Q → ℕ) → f after ≡ f seat + f other → f seat + sum_by f rest ≡ sum_by f all → f after + sum_by f fewer ≡ sum_by f all
      sum_on f both sums = let a = sum_by_push f fewer other in let b = ap (sum_by f) is in omega (arith, a, b, both, sums)

  -- none is left
  pub gather_ends : (mail : MailId) (all rest : List (SeatView T Q)) (seat : SeatView T Q) → IsGathering mail all rest seat → length rest ≡ 0
      → IsGathering mail all [] seat
  gather_ends mail all [] seat so_far none = so_far
  gather_ends mail all (other ∷ rest) seat so_far none = absurd (omega (arith, none))

  -- what a join asks of the next seat
  pub next_mail : (mail : MailId) (all rest fewer : List (SeatView T Q)) (seat other : SeatView T Q) → IsGathering mail all rest seat
      → rest ≡ fewer ++ other ∷ [] → other.mail ≡ mail
  next_mail mail all rest fewer seat other so_far is =
      (all_parts (λ (o : SeatView T Q). o.mail ≡ mail) fewer (other ∷ [])
      (subst (λ l. AllByRecursion (λ (o : SeatView T Q). o.mail ≡ mail) l) is so_far.same)).1.0
