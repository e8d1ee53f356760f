-- What a hand names: the best of its visits.
use Rattle.std.proofs.Common.{◌≡◌, ℕ, ◌<◌, ◌⊎◌, Bool, true, false, List, [], ◌∷◌, ◌++◌, ◌∙◌, Some, None, max, nat_lt, if◌then◌else◌, refl, ap, arith, inl, inr, ⊎_elim}
use Rattle.std.specs.List.{Contains}
use Rattle.std.proofs.lemmas.Bool.Decides.{nat_tests}
use Rattle.yew_laws.specs.Incumbent.{Incumbent, improved}
use Rattle.yew_laws.proofs.Members.{Contains-head, Contains-tail}
use Rattle.yew_log.specs.Notes.{Judgement, values, maximum}
use Rattle.yew_walk.specs.declared.hand.Hand.{Hand}
use Rattle.yew_walk.specs.declared.keying.Keying.TheVariants.{Plain}
use Rattle.yew_walk.specs.Hands.{incumbent_of, best_after}
use Rattle.yew_walk.specs.Keys.{answer_key}
use Rattle.yew_walk.proofs.BestVisits.{answer_key-plain, best_after-worth}

-- a hand or a walk that has found nothing
abbrev pub nothing : Incumbent
nothing = record { worth = 0; path = None }

-- the visit that an incumbent names
pub record IsNamedBy (vs : List Judgement) (found : Incumbent) (v : Judgement) : Type 0 where
  pub there : Contains vs v
  pub path_is : found.path ≡ Some v.path
  pub worth_is : found.worth ≡ v.value
  pub answers : 0 < v.value

-- an incumbent has the greatest worth of these visits, and names one of them that has it, if that is not 0
pub record IsBestOf (vs : List Judgement) (found : Incumbent) : Type 0 where
  pub greatest : found.worth ≡ maximum (values vs)
  pub named : (found ≡ nothing) ⊎ ((v : Judgement) × IsNamedBy vs found v)

-- one visit more: the incumbent stays, or the visit takes its place
improved-from : (found : Incumbent) (worth : ℕ) (path : List ℕ) → (improved found worth path ≡ found) ⊎ ((improved found worth path ≡ record { worth = worth; path = Some path }) × (found.worth < worth))
improved-from found worth path = by (nat_lt found.worth worth) refl
  where
    by : (b : Bool) → nat_lt found.worth worth ≡ b → (improved found worth path ≡ found) ⊎ ((improved found worth path ≡ record { worth = worth; path = Some path }) × (found.worth < worth))
    by true e = inr (ap (λ b. if b then record { worth = worth; path = Some path } else found) e, above found.worth worth e)
      where
        above : (a b : ℕ) → nat_lt a b ≡ true → a < b
        above a b e = grind (arith, nat_tests)
    by false e = inl (ap (λ b. if b then record { worth = worth; path = Some path } else found) e)

best_after-from : (vs : List Judgement) (found : Incumbent)
    → (best_after Plain found vs ≡ found) ⊎ ((v : Judgement) × IsNamedBy vs (best_after Plain found vs) v)
best_after-from [] found = inl refl
best_after-from (v ∷ vs) found =
    let key = answer_key Plain v.value in
    let next = improved found key v.path in
    ⊎_elim
    (λ (stays : best_after Plain next vs ≡ next).
    ⊎_elim
    (λ (same : next ≡ found). inl (stays ∙ same))
    (λ (taken : (next ≡ record { worth = key; path = Some v.path }) × (found.worth < key)).
    let is : best_after Plain next vs ≡ record { worth = key; path = Some v.path } = stays ∙ taken.0 in
    let k = answer_key-plain v.value in
    let more = taken.1 in
    inr (
      v,
      record {
        there = Contains-head v vs;
        path_is = ap (λ (i : Incumbent). i.path) is;
        worth_is = ap (λ (i : Incumbent). i.worth) is ∙ k;
        answers = omega arith;
      },
    ))
    (improved-from found key v.path))
    (λ (later : (u : Judgement) × IsNamedBy vs (best_after Plain next vs) u).
    inr (later.0, record { there = Contains-tail v vs later.0 later.1.there; path_is = later.1.path_is; worth_is = later.1.worth_is; answers = later.1.answers }))
    (best_after-from vs next)

-- what a hand that begins empty names after visits
pub best_after-best : (vs : List Judgement) → IsBestOf vs (best_after Plain nothing vs)
best_after-best vs = record { greatest = (let w = best_after-worth nothing vs in omega arith); named = best_after-from vs nothing }

pub maximum-append : (xs ys : List ℕ) → maximum (xs ++ ys) ≡ max (maximum xs) (maximum ys)
maximum-append [] ys = omega arith
maximum-append (x ∷ xs) ys = let r = maximum-append xs ys in omega arith

-- a hand that holds, and one that doesn't
pub holding : {S : Type 0} (hand : Hand S) → hand.holds ≡ true → incumbent_of hand ≡ record { worth = hand.key; path = Some hand.path.numbers }
holding hand e = ap (λ b. if b then record { worth = hand.key; path = Some hand.path.numbers } else nothing) e

pub not_holding : {S : Type 0} (hand : Hand S) → hand.holds ≡ false → incumbent_of hand ≡ nothing
not_holding hand e = ap (λ b. if b then record { worth = hand.key; path = Some hand.path.numbers } else nothing) e
