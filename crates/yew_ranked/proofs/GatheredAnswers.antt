-- The answers of several workers, gathered, are the answer of all their visits.
use Rattle.std.proofs.Common.{◌≡◌, ℕ, List, [], ◌∷◌, ◌++◌, map, Bool, true, false, None, nat_lt, if◌then◌else◌, refl, ap, sym, ◌∙◌, arith}
use Rattle.std.specs.List.{AllByRecursion, flat_map}
use Rattle.std.proofs.lemmas.Bool.Decides.{nat_tests}
use Rattle.yew_laws.specs.Incumbent.{Incumbent, improved}
use Rattle.yew_walk.specs.declared.keying.Keying.TheVariants.{Ranked}
use Rattle.yew_walk.specs.Hands.{best_after}
use Rattle.yew_walk.specs.Keys.{answer_key}
use Rattle.yew_ranked.specs.RankedSearch.{RankedJudgement, answer_key_of, ranked_answer, better, gathered_answer, plain_judgement}

-- an answer that is better stays better along further visits
better-improved : (i j : Incumbent) (key : ℕ) (path : List ℕ) → better i (improved j key path) ≡ improved (better i j) key path
better-improved i j key path = grind (arith, nat_tests)

better-answer : (i j : Incumbent) (vs : List RankedJudgement) → better i (ranked_answer j vs) ≡ ranked_answer (better i j) vs
better-answer i j [] = refl
better-answer i j (v ∷ vs) = better-answer i (improved j (answer_key_of v) v.path) vs ∙ ap (λ k. ranked_answer k vs) (better-improved i j (answer_key_of v) v.path)

better-none : (i : Incumbent) → better i (record { worth = 0; path = None }) ≡ i
better-none i = by (nat_lt i.worth 0) refl
  where
    by : (b : Bool) → nat_lt i.worth 0 ≡ b → (if b then record { worth = 0; path = None } else i) ≡ i
    by true e = absurd (no i.worth e)
      where
        no : (n : ℕ) → nat_lt n 0 ≡ true → ⊥
        no n e = grind (arith, nat_tests)
    by false e = refl

pub answer-append : (i : Incumbent) (xs ys : List RankedJudgement) → ranked_answer i (xs ++ ys) ≡ ranked_answer (ranked_answer i xs) ys
answer-append i [] ys = refl
answer-append i (v ∷ vs) ys = answer-append (improved i (answer_key_of v) v.path) vs ys

gathered-from : (i : Incumbent) (lists : List (List RankedJudgement)) → gathered_answer i (map (ranked_answer (record { worth = 0; path = None })) lists) ≡ ranked_answer i (flat_map (λ vs. vs) lists)
gathered-from i [] = refl
gathered-from i (vs ∷ lists) =
    let none : Incumbent = record { worth = 0; path = None } in
    let step : better i (ranked_answer none vs) ≡ ranked_answer i vs = better-answer i none vs ∙ ap (λ k. ranked_answer k vs) (better-none i) in
    ap (λ k. gathered_answer k (map (ranked_answer none) lists)) step
    ∙ (gathered-from (ranked_answer i vs) lists ∙ sym (answer-append i vs (flat_map (λ us. us) lists)))

pub answers-gathered : (lists : List (List RankedJudgement)) → gathered_answer (record { worth = 0; path = None }) (map (ranked_answer (record { worth = 0; path = None })) lists) ≡ ranked_answer (record { worth = 0; path = None }) (flat_map (λ vs. vs) lists)
answers-gathered = gathered-from (record { worth = 0; path = None })

-- a hand along the walk of an item
pub answer-walk : (rank : ℕ) (incumbent : Incumbent) (vs : List RankedJudgement) → AllByRecursion (λ (v : RankedJudgement). v.item ≡ rank) vs → ranked_answer incumbent vs ≡ best_after (Ranked rank) incumbent (map plain_judgement vs)
answer-walk rank incumbent [] a = refl
answer-walk rank incumbent (v ∷ vs) a =
    ap (λ (item : ℕ). ranked_answer (improved incumbent (answer_key (Ranked item) v.value) v.path) vs) a.0 ∙ answer-walk rank (improved incumbent (answer_key (Ranked rank) v.value) v.path) vs a.1
