-- What was offered stays offered while views change, and so does what the rule says of a seat.
use Rattle.std.proofs.Common.{◌≡◌, ℕ, ◌<◌, ◌≤◌, ◌⊎◌, ◌∙◌, List, [], ◌∷◌, ◌++◌, get_or, set, refl, sym, subst, inl, inr, ⊎_elim, le_trans, arith, zero, suc}
use Rattle.std.specs.Prelude.{All, Contains}
use Rattle.std.proofs.lemmas.List.Elements.{Contains-append_right}
use mathlib.Core.Option.{some, some-injective}
use native.Mathlib.Decide.{ℕ_discrete}
use lib.ListN.{get_elem?}
use Rattle.yew_laws.proofs.Views.{set_here, set_else, two_parts}
use Rattle.yew_best.specs.declared.view.View.{View}
use Rattle.yew_best.specs.Rule.{IsOfferedBy, IsOffered, IsOfferedElse, Fits, IsBest, Tells}

pub All-single : {X : Type 0} (P : X → Type 0) (x : X) → P x → All P (x ∷ [])
All-single P x p zero d h = p
All-single P x p (suc k) d h = absurd (omega arith)

pub All-weaken : {X : Type 0} (P Q : X → Type 0) (xs : List X) → ((x : X) → P x → Q x) → All P xs → All Q xs
All-weaken P Q xs f a k d h = f (get_or xs k d) (a k d h)

pub Contains-last : {X : Type 0} (xs : List X) (x : X) → Contains (xs ++ x ∷ []) x
Contains-last xs x = Contains-append_right xs (x ∷ []) x (0, omega arith, refl)

not_in_nil : {X : Type 0} (xs : List X) (x : X) → xs ≡ [] → Contains xs x → ⊥
not_in_nil xs x e has = let P : List _ → Type 0 = λ ys. Contains ys x in let none : Contains [] x = subst P e has in omega (arith, none.1)

-- what was offered before is offered afterwards
abbrev pub Grows : List View → List View → Type 0
Grows views later = (x : ℕ) → IsOffered views x → IsOffered later x

-- likewise what seats other than this one had offered
abbrev pub GrowsElse : List View → List View → ℕ → Type 0
GrowsElse views later seat = (x : ℕ) → IsOfferedElse views seat x → IsOfferedElse later seat x

-- what a seat had offered, the same seat has offered afterwards
abbrev pub Stays : List View → List View → Type 0
Stays views later = (seat x : ℕ) → IsOfferedBy views seat x → IsOfferedBy later seat x

pub grows-stays : (views later : List View) → Stays views later → Grows views later
grows-stays views later stays x (j, offer) = (j, stays j x offer)

grows_else-stays : (views later : List View) (seat : ℕ) → Stays views later → GrowsElse views later seat
grows_else-stays views later seat stays x (j, apart, offer) = (j, apart, stays j x offer)

-- a seat's own change, where it keeps what it has offered
pub stays_set : (views : List View) (seat : ℕ) (v w : View) → get_elem? views seat ≡ some v → ((x : ℕ) → Contains v.offered x → Contains w.offered x) → Stays views (set views seat w)
stays_set views seat v w at more j x (u, e, has) = go (ℕ_discrete j seat)
  where
    go : Dec (j ≡ seat) → IsOfferedBy (set views seat w) j x
    go (yes same) =
        let here : get_elem? views seat ≡ some u = subst (λ k. get_elem? views k ≡ some u) same e in
        let is : u ≡ v = some-injective u v (sym here ∙ at) in
        subst (λ k. IsOfferedBy (set views seat w) k x) (sym same) (w, set_here views seat w v at, more x (subst (λ (t : View). Contains t.offered x) is has))
    go (no other) = (u, set_else views seat j w other ∙ e, has)

pub cause_later : (x : ℕ) (views later : List View) → Grows views later → (x ≡ 0) ⊎ IsOffered views x → (x ≡ 0) ⊎ IsOffered later x
cause_later x views later grows = ⊎_elim inl (λ o. inr (grows x o))

-- a seat goes on keeping the rule where the word rises and nothing offered is lost
pub fits_later : (seats : ℕ) (views later : List View) (n m seat : ℕ) (v : View) → Grows views later → GrowsElse views later seat → n ≤ m → Fits seats views n seat v → Fits seats later m seat v
fits_later seats views later n m seat v grows grows_else up fits = record {
  whole = fits.whole;
  read_below = All-weaken (λ x. x ≤ n) (λ x. x ≤ m) v.read (λ x h. le_trans h up) fits.read_below;
  offered_below = All-weaken (λ x. x ≤ n) (λ x. x ≤ m) v.offered (λ x h. le_trans h up) fits.offered_below;
  read_cause = All-weaken (λ x. (x ≡ 0) ⊎ IsOffered views x) (λ x. (x ≡ 0) ⊎ IsOffered later x) v.read (λ x h. cause_later x views later grows h) fits.read_cause;
  heard_cause = All-weaken (λ x. (x ≡ 0) ⊎ IsOfferedElse views seat x) (λ x. (x ≡ 0) ⊎ IsOfferedElse later seat x) v.heard (λ x h. ⊎_elim inl (λ o. inr (grows_else x o)) h) fits.heard_cause;
  idle = fits.idle;
}

pub fits-stays : (seats : ℕ) (views later : List View) (n m seat : ℕ) (v : View) → Stays views later → n ≤ m → Fits seats views n seat v → Fits seats later m seat v
fits-stays seats views later n m seat v stays = fits_later seats views later n m seat v (grows-stays views later stays) (grows_else-stays views later seat stays)

-- a seat's part of the rule, at the place and with the view that are the same
pub fits-moved : (seats : ℕ) (views : List View) (n : ℕ) (v u : View) (seat place : ℕ) → place ≡ seat → v ≡ u → Fits seats views n seat v → Fits seats views n place u
fits-moved seats views n v u seat place is same fits = subst (λ (t : View). Fits seats views n place t) same (subst (λ k. Fits seats views n k v) (sym is) fits)

-- beside a seat with the whole share the others have no share, and so have offered nothing
pub none_else : (seats word : ℕ) (views : List View) (seat : ℕ) (v : View) → IsBest seats word views → get_elem? views seat ≡ some v → v.share ≡ seats → (x : ℕ) → IsOfferedElse views seat x → ⊥
none_else seats word views seat v is at whole x (j, other, (u, e, has)) =
    let both = two_parts (λ (t : View). t.share) views seat j v u other at e in
    let total = is.shares in
    let none : u.share ≡ 0 = omega (arith, both, total, whole) in
    not_in_nil u.offered x ((is.each j u e).idle none).1 has

-- so it has all that was offered
pub all_offered : (seats word : ℕ) (views : List View) (seat : ℕ) (v : View) → IsBest seats word views → get_elem? views seat ≡ some v → v.share ≡ seats → (x : ℕ) → IsOffered views x → Contains v.offered x
all_offered seats word views seat v is at whole x (j, (u, e, has)) = go (ℕ_discrete j seat)
  where
    go : Dec (j ≡ seat) → Contains v.offered x
    go (yes same) =
        let here : get_elem? views seat ≡ some u = subst (λ k. get_elem? views k ≡ some u) same e in
        subst (λ (t : View). Contains t.offered x) (some-injective u v (sym here ∙ at)) has
    go (no other) = absurd (none_else seats word views seat v is at whole x (j, other, (u, e, has)))

-- what the rule tells a seat of the word
pub tells : (seats word : ℕ) (views : List View) (seat : ℕ) (v : View) → 0 < v.share → IsBest seats word views → get_elem? views seat ≡ some v → Tells v word
tells seats word views seat v some_share is at = let fits = is.each seat v at in record {
  read_below = fits.read_below;
  offered_below = fits.offered_below;
  cause = λ whole. ⊎_elim inl (λ o. inr (all_offered seats word views seat v is at (whole ∙ fits.whole some_share) _ o)) is.word_cause;
}
