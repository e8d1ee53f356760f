-- What a seat has heard was offered by another seat, after a load and after a join.
use Rattle.std.proofs.Common.{◌≡◌, ℕ, ◌≢◌, ◌⊎◌, ◌∙◌, Bool, true, not, List, [], ◌∷◌, get_or, refl, sym, ap, subst, inl, inr, ⊎_elim}
use Rattle.std.specs.Prelude.{All, Contains, ◌==◌}
use Rattle.std.proofs.lemmas.List.Elements.{All-append, All-filter, filter_passes}
use Rattle.std.proofs.lemmas.List.Folds.{list_any_at}
use mathlib.Core.Option.{some, some-injective}
use native.Mathlib.Decide.{ℕ_discrete}
use lib.ListN.{get_elem?}
use Rattle.yew_laws.specs.Sets.{contains}
use Rattle.yew_laws.proofs.PathTests.{nat_same}
use Rattle.yew_best.specs.declared.view.View.{View}
use Rattle.yew_best.specs.Views.{unoffered, heard_after, heard_by_both}
use Rattle.yew_best.specs.Rule.{IsOfferedBy, IsOffered, IsOfferedElse}
use Rattle.yew_best.proofs.Growth.{All-weaken, All-single}

contains-from_Contains : (xs : List ℕ) (x : ℕ) → Contains xs x → contains xs x ≡ true
contains-from_Contains xs x has = list_any_at (λ y. y == x) xs has.0 x has.1 (ap (λ n. n == x) has.2 ∙ nat_same x)

-- none of the values that are kept was offered
unoffered-none : (offered values : List ℕ) → All (λ x. Contains offered x → ⊥) (unoffered offered values)
unoffered-none offered values =
    All-weaken (λ x. not (contains offered x) ≡ true) (λ x. Contains offered x → ⊥) (unoffered offered values)
    (λ x passes has. apart (contains offered x) (contains-from_Contains offered x has) passes) (filter_passes (λ x. not (contains offered x)) values)
  where
    apart : (b : Bool) → b ≡ true → not b ≡ true → ⊥
    apart b is other = cc

-- where nothing was offered, all are kept
pub unoffered-nil : (values : List ℕ) → unoffered [] values ≡ values
unoffered-nil [] = refl
unoffered-nil (x ∷ xs) = ap (λ (l : List ℕ). x ∷ l) (unoffered-nil xs)

-- what holds of each value, and is turned into another fact where the value was not offered
pub unoffered-all : (P Q : ℕ → Type 0) (offered values : List ℕ) → ((x : ℕ) → P x → (Contains offered x → ⊥) → Q x) → All P values → All Q (unoffered offered values)
unoffered-all P Q offered values turn all k d h =
    turn (get_or (unoffered offered values) k d) (All-filter (λ x. not (contains offered x)) P values all k d h) (unoffered-none offered values k d h)

-- what some seat has offered and this one has not, another has
offered-else : (views : List View) (seat : ℕ) (v : View) → get_elem? views seat ≡ some v → (x : ℕ) → IsOffered views x → (Contains v.offered x → ⊥) → IsOfferedElse views seat x
offered-else views seat v at x (j, (u, e, has)) outside = go (ℕ_discrete j seat)
  where
    go : Dec (j ≡ seat) → IsOfferedElse views seat x
    go (yes same) =
        let here : get_elem? views seat ≡ some u = subst (λ k. get_elem? views k ≡ some u) same e in
        absurd (outside (subst (λ (t : View). Contains t.offered x) (some-injective u v (sym here ∙ at)) has))
    go (no other) = (j, other, (u, e, has))

-- after a load of a word that is 0 or was offered
pub heard_after-cause : (views : List View) (seat : ℕ) (v : View) (n : ℕ) (heard : List ℕ) → get_elem? views seat ≡ some v → (n ≡ 0) ⊎ IsOffered views n
    → All (λ x. (x ≡ 0) ⊎ IsOfferedElse views seat x) heard → All (λ x. (x ≡ 0) ⊎ IsOfferedElse views seat x) (heard_after v.offered heard n)
heard_after-cause views seat v n heard at cause all =
    All-append (λ x. (x ≡ 0) ⊎ IsOfferedElse views seat x) heard (unoffered v.offered (n ∷ [])) all
    (unoffered-all (λ x. (x ≡ 0) ⊎ IsOffered views x) (λ x. (x ≡ 0) ⊎ IsOfferedElse views seat x) v.offered (n ∷ [])
    (λ x c outside. ⊎_elim inl (λ o. inr (offered-else views seat v at x o outside)) c) (All-single (λ x. (x ≡ 0) ⊎ IsOffered views x) n cause))

-- what one of two seats has heard and the other has not offered was offered by a third
third : (views last : List View) (seat one two : ℕ) (w : View) → get_elem? views two ≡ some w
    → ((j x : ℕ) → j ≢ one → j ≢ two → IsOfferedBy views j x → (j ≢ seat) × IsOfferedBy last j x)
    → (x : ℕ) → (x ≡ 0) ⊎ IsOfferedElse views one x → (Contains w.offered x → ⊥) → (x ≡ 0) ⊎ IsOfferedElse last seat x
third views last seat one two w to stays x cause outside = ⊎_elim inl (λ (o : IsOfferedElse views one x). inr (go o (ℕ_discrete o.0 two))) cause
  where
    go : (o : IsOfferedElse views one x) → Dec (o.0 ≡ two) → IsOfferedElse last seat x
    go (j, apart, (u, e, has)) (yes same) =
        let here : get_elem? views two ≡ some u = subst (λ k. get_elem? views k ≡ some u) same e in
        absurd (outside (subst (λ (t : View). Contains t.offered x) (some-injective u w (sym here ∙ to)) has))
    go (j, apart, offer) (no other) = let kept = stays j x apart other offer in (j, kept.0, kept.1)

-- after a join: the seats other than the two have what they had, and the joined seat is none of them
pub heard_by_both-cause : (views last : List View) (seat other : ℕ) (v w : View) → get_elem? views seat ≡ some v → get_elem? views other ≡ some w
    → ((j x : ℕ) → j ≢ seat → j ≢ other → IsOfferedBy views j x → IsOfferedBy last j x)
    → All (λ x. (x ≡ 0) ⊎ IsOfferedElse views seat x) v.heard → All (λ x. (x ≡ 0) ⊎ IsOfferedElse views other x) w.heard
    → All (λ x. (x ≡ 0) ⊎ IsOfferedElse last seat x) (heard_by_both v.offered v.heard w.offered w.heard)
heard_by_both-cause views last seat other v w at to stays all_v all_w =
    All-append (λ x. (x ≡ 0) ⊎ IsOfferedElse last seat x) (unoffered w.offered v.heard) (unoffered v.offered w.heard)
    (unoffered-all (λ x. (x ≡ 0) ⊎ IsOfferedElse views seat x) (λ x. (x ≡ 0) ⊎ IsOfferedElse last seat x) w.offered v.heard
    (third views last seat seat other w to (λ j x ne nf o. (ne, stays j x ne nf o))) all_v)
    (unoffered-all (λ x. (x ≡ 0) ⊎ IsOfferedElse views other x) (λ x. (x ≡ 0) ⊎ IsOfferedElse last seat x) v.offered w.heard
    (third views last seat other seat v at (λ j x nf ne o. (ne, stays j x ne nf o))) all_w)
