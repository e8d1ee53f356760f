-- Where all seats together have heard nothing, what one of them heard is 0 or was offered by another.
use Rattle.std.proofs.Common.{◌≡◌, ℕ, ◌⊎◌, inl, inr, Bool, true, false, not, if◌then◌else◌, List, [], ◌∷◌, ◌++◌, refl, ap, sym, subst, ◌∙◌, append_assoc, append-nil}
use Rattle.std.specs.List.{AllByRecursion, Contains, flat_map}
use Rattle.std.proofs.lemmas.List.Concat.{flat_map-append}
use Rattle.std.proofs.lemmas.List.Elements.{Contains-append_left, Contains-append_right}
use Rattle.yew_best.specs.Seats.{SeatView, joined_seat}
use Rattle.yew_best.specs.Views.{unoffered}
use Rattle.yew_laws.specs.Sets.{contains}
use Rattle.yew_laws.proofs.Members.{AllByRecursion-weaker}
use Rattle.yew_log.specs.Places.{AtEach}
use Rattle.yew_ranked.proofs.BrokenFronts.{all-front}
use Rattle.yew_ranked.proofs.RankedWalks.{among-offered}

pub all-back : {X : Type 0} (P : X → Type 0) (xs ys : List X) → AllByRecursion P (xs ++ ys) → AllByRecursion P ys
all-back P [] ys a = a
all-back P (x ∷ xs) ys a = all-back P xs ys a.1

-- what is known of the values that were not offered holds of all, but for the offered ones
unoffered-or : (P : ℕ → Type 0) (offered values : List ℕ) → AllByRecursion P (unoffered offered values) → AllByRecursion (λ x. Contains offered x ⊎ P x) values
unoffered-or P offered [] a = tt
unoffered-or P offered (x ∷ xs) a = by (contains offered x) refl (unoffered-or P offered xs) a
  where
    by : (b : Bool) → contains offered x ≡ b → (AllByRecursion P (unoffered offered xs) → AllByRecursion (λ y. Contains offered y ⊎ P y) xs)
        → AllByRecursion P (if not b then x ∷ unoffered offered xs else unoffered offered xs) → AllByRecursion (λ y. Contains offered y ⊎ P y) (x ∷ xs)
    by true e more a = (inl (among-offered offered x e), more a)
    by false e more a = (inr a.0, more a.1)

module _ {W : Type 0} (seat_of : W → SeatView) where
  -- a seat, joined with those of others, in order
  abbrev pub joined_with : SeatView → List W → SeatView
  joined_with seat [] = seat
  joined_with seat (w ∷ ws) = joined_with (joined_seat seat (seat_of w)) ws

  -- all that these have offered
  abbrev pub offers : List W → List ℕ
  offers ws = flat_map (λ w. (seat_of w).offered) ws

  -- a value is 0, or was offered by one of these
  abbrev pub IsOf : List W → ℕ → Type 0
  IsOf ws x = (x ≡ 0) ⊎ Contains (offers ws) x

  of-front : (w : W) (ws : List W) (x : ℕ) → Contains (seat_of w).offered x ⊎ IsOf ws x → IsOf (w ∷ ws) x
  of-front w ws x (inl c) = inr (Contains-append_left (seat_of w).offered (offers ws) x c)
  of-front w ws x (inr (inl z)) = inl z
  of-front w ws x (inr (inr c)) = inr (Contains-append_right (seat_of w).offered (offers ws) x c)

  of-before : (before ws : List W) (x : ℕ) → Contains (offers before) x ⊎ IsOf ws x → IsOf (before ++ ws) x
  of-before before ws x (inl c) = inr (subst (λ l. Contains l x) (sym (flat_map-append (λ w. (seat_of w).offered) before ws)) (Contains-append_left (offers before) (offers ws) x c))
  of-before before ws x (inr (inl z)) = inl z
  of-before before ws x (inr (inr c)) = inr (subst (λ l. Contains l x) (sym (flat_map-append (λ w. (seat_of w).offered) before ws)) (Contains-append_right (offers before) (offers ws) x c))

  -- what the joined seat heard, and each of those that are joined
  heard-rest : (seat : SeatView) (before ws : List W) → seat.offered ≡ offers before → AllByRecursion (λ x. x ≡ 0) (joined_with seat ws).heard
      → AllByRecursion (IsOf ws) seat.heard × AtEach (λ b w a. AllByRecursion (IsOf (b ++ a)) (seat_of w).heard) before ws
  heard-rest seat before [] is none = (AllByRecursion-weaker (λ x. x ≡ 0) (IsOf []) (λ x z. inl z) seat.heard none, tt)
  heard-rest seat before (w ∷ ws) is none =
      let other = seat_of w in
      let now : seat.offered ++ other.offered ≡ offers (before ++ w ∷ []) =
      ap (λ l. l ++ other.offered) is ∙ sym (flat_map-append (λ w. (seat_of w).offered) before (w ∷ []) ∙ ap (λ l. offers before ++ l) (append-nil other.offered)) in
      let rest = heard-rest (joined_seat seat other) (before ++ w ∷ []) ws now none in
      let own = unoffered-or (IsOf ws) other.offered seat.heard (all-front (IsOf ws) (unoffered other.offered seat.heard) (unoffered seat.offered other.heard) rest.0) in
      let its = unoffered-or (IsOf ws) seat.offered other.heard (all-back (IsOf ws) (unoffered other.offered seat.heard) (unoffered seat.offered other.heard) rest.0) in (
        AllByRecursion-weaker (λ x. Contains other.offered x ⊎ IsOf ws x) (IsOf (w ∷ ws)) (of-front w ws) seat.heard own,
        (
          AllByRecursion-weaker (λ x. Contains seat.offered x ⊎ IsOf ws x) (IsOf (before ++ ws))
              (λ x c. of-before before ws x (subst (λ l. Contains l x ⊎ IsOf ws x) is c)) other.heard its,
          rest.1,
        ),
      )

  -- each of all seats has heard only 0 and what others offered
  pub heard-others : (w : W) (ws : List W) → AllByRecursion (λ x. x ≡ 0) (joined_with (seat_of w) ws).heard → AtEach (λ b v a. AllByRecursion (IsOf (b ++ a)) (seat_of v).heard) [] (w ∷ ws)
  heard-others w ws none = heard-rest (seat_of w) (w ∷ []) ws (sym (append-nil (seat_of w).offered)) none

  -- the joined seat has read and offered what all have
  pub joined-lists : (seat : SeatView) (ws : List W)
      → ((joined_with seat ws).read ≡ seat.read ++ flat_map (λ w. (seat_of w).read) ws) × ((joined_with seat ws).offered ≡ seat.offered ++ offers ws)
  joined-lists seat [] = (sym (append-nil seat.read), sym (append-nil seat.offered))
  joined-lists seat (w ∷ ws) =
      let other = seat_of w in
      let rest = joined-lists (joined_seat seat other) ws in
      (rest.0 ∙ append_assoc seat.read other.read (flat_map (λ w. (seat_of w).read) ws), rest.1 ∙ append_assoc seat.offered other.offered (offers ws))
