-- What is gathered of hands, as an answer: the first of the greatest key of what each hand holds.
use Rattle.std.proofs.Common.{◌≡◌, ℕ, ◌<◌, ◌≤◌, ◌⊎◌, inl, inr, ⊎_elim, Bool, true, false, List, [], ◌∷◌, ◌++◌, map, Some, None, nat_lt, if◌then◌else◌, refl, ap, ap₂, sym, subst, ◌∙◌, arith}
use Rattle.std.specs.List.{AllByRecursion}
use Rattle.std.proofs.lemmas.Bool.Decides.{nat_tests}
use Rattle.std.proofs.lemmas.List.{map-append}
use Rattle.yew_laws.specs.Incumbent.{Incumbent, improved}
use Rattle.yew_laws.proofs.Members.{AllByRecursion-map, AllByRecursion-weaker}
use Rattle.yew_walk.specs.declared.hand.Hand.{Hand}
use Rattle.yew_walk.specs.Hands.{incumbent_of}
use Rattle.yew_crew.specs.Gathering.{IsGathered}
use Rattle.yew_walk.proofs.BestFinds.{nothing, holding, not_holding}
use Rattle.yew_ranked.specs.RankedSearch.{RankedJudgement, answer_key_of, ranked_answer, better, gathered_answer}

better-taken : (i j : Incumbent) → i.worth < j.worth → better i j ≡ j
better-taken i j less = grind (arith, nat_tests)

better-kept : (i j : Incumbent) → j.worth ≤ i.worth → better i j ≡ i
better-kept i j le = grind (arith, nat_tests)

better-low : (i j : Incumbent) (key : ℕ) → i.worth < key → j.worth < key → (better i j).worth < key
better-low i j key a b = elim (nat_lt i.worth j.worth) as (λ v. (if v then j else i).worth < key) [ true ↦ b | false ↦ a ]

gathered-kept : (i : Incumbent) (js : List Incumbent) → AllByRecursion (λ (j : Incumbent). j.worth ≤ i.worth) js → gathered_answer i js ≡ i
gathered-kept i [] a = refl
gathered-kept i (j ∷ js) a = ap (λ k. gathered_answer k js) (better-kept i j a.0) ∙ gathered-kept i js a.1

gathered-first : (i j : Incumbent) (before after : List Incumbent) → i.worth < j.worth → AllByRecursion (λ (k : Incumbent). k.worth < j.worth) before → AllByRecursion (λ (k : Incumbent). k.worth ≤ j.worth) after
    → gathered_answer i (before ++ j ∷ after) ≡ j
gathered-first i j [] after less low high = ap (λ k. gathered_answer k after) (better-taken i j less) ∙ gathered-kept j after high
gathered-first i j (b ∷ before) after less low high = gathered-first (better i b) j before after (better-low i b j.worth less low.0) low.1 high

module _ {S : Type 0} where
  -- what a hand holds has a key
  abbrev pub HasKey : Hand S → Type 0
  HasKey h = h.holds ≡ true → 0 < h.key

  worth-below : (h : Hand S) (key : ℕ) → 0 < key → (h.holds ≡ true → h.key < key) → (incumbent_of h).worth < key
  worth-below h key some less = by h.holds refl
    where
      by : (b : Bool) → h.holds ≡ b → (incumbent_of h).worth < key
      by true e = let w = ap (λ (i : Incumbent). i.worth) (holding h e) in let l = less e in omega (arith, w, l)
      by false e = let w = ap (λ (i : Incumbent). i.worth) (not_holding h e) in omega (arith, w, some)

  worth-at_most : (h : Hand S) (key : ℕ) → (h.holds ≡ true → h.key ≤ key) → (incumbent_of h).worth ≤ key
  worth-at_most h key le = by h.holds refl
    where
      by : (b : Bool) → h.holds ≡ b → (incumbent_of h).worth ≤ key
      by true e = let w = ap (λ (i : Incumbent). i.worth) (holding h e) in let l = le e in omega (arith, w, l)
      by false e = let w = ap (λ (i : Incumbent). i.worth) (not_holding h e) in omega (arith, w)

  chosen-keyed : (before : List (Hand S)) (chosen : Hand S) (after : List (Hand S)) → AllByRecursion HasKey (before ++ chosen ∷ after) → HasKey chosen
  chosen-keyed [] chosen after a = a.0
  chosen-keyed (b ∷ before) chosen after a = chosen-keyed before chosen after a.1

  none-held : (hs : List (Hand S)) → AllByRecursion (λ (h : Hand S). h.holds ≡ false) hs → AllByRecursion (λ (j : Incumbent). j.worth ≤ 0) (map incumbent_of hs)
  none-held [] a = tt
  none-held (h ∷ hs) a = ((let w = ap (λ (i : Incumbent). i.worth) (not_holding h a.0) in omega (arith, w)), none-held hs a.1)

  -- the gathered hand
  pub gathered-hands : (join : S → S → S) (none : S) (hands : List (Hand S)) (hand : Hand S) → IsGathered join none hands hand → AllByRecursion HasKey hands
      → incumbent_of hand ≡ gathered_answer nothing (map incumbent_of hands)
  gathered-hands join none hands hand g keyed = by hand.holds refl
    where
      by : (b : Bool) → hand.holds ≡ b → incumbent_of hand ≡ gathered_answer nothing (map incumbent_of hands)
      by true e =
          let found = g.held e in
          let chosen = found.0 in
          let first = found.1 in
          let some : 0 < chosen.key = chosen-keyed first.before chosen first.after (subst (AllByRecursion HasKey) first.stands keyed) first.holds in
          let is : incumbent_of chosen ≡ record { worth = chosen.key; path = Some chosen.path.numbers } = holding chosen first.holds in
          let w : (incumbent_of chosen).worth ≡ chosen.key = ap (λ (i : Incumbent). i.worth) is in
          let low = AllByRecursion-map (λ (k : Incumbent). k.worth < (incumbent_of chosen).worth) incumbent_of first.before
          (AllByRecursion-weaker (λ (h : Hand S). h.holds ≡ true → h.key < chosen.key) (λ (h : Hand S). (incumbent_of h).worth < (incumbent_of chosen).worth)
          (λ h l. let b = worth-below h chosen.key some l in omega (arith, b, w)) first.before first.earlier) in
          let high = AllByRecursion-map (λ (k : Incumbent). k.worth ≤ (incumbent_of chosen).worth) incumbent_of first.after
          (AllByRecursion-weaker (λ (h : Hand S). h.holds ≡ true → h.key ≤ chosen.key) (λ (h : Hand S). (incumbent_of h).worth ≤ (incumbent_of chosen).worth)
          (λ h l. let b = worth-at_most h chosen.key l in omega (arith, b, w)) first.after first.later) in
          let same : incumbent_of hand ≡ incumbent_of chosen =
          holding hand e ∙ (ap₂ (λ (k : ℕ) (p : List ℕ). record { worth = k; path = Some p }) found.2.key (ap (λ p. p.numbers) found.2.path) ∙ sym is) in
          same ∙ (sym (gathered-first nothing (incumbent_of chosen) (map incumbent_of first.before) (map incumbent_of first.after) (omega (arith, w, some)) low high)
          ∙ ap (gathered_answer nothing) (sym (map-append incumbent_of first.before (chosen ∷ first.after)) ∙ ap (map incumbent_of) (sym first.stands)))
      by false e =
          let found = g.empty e in
          not_holding hand e ∙ sym (gathered-kept nothing (map incumbent_of hands) (none-held hands found.1.none_holds))

-- an answer is none, or has a key
answer-from : (vs : List RankedJudgement) (i : Incumbent) → (i ≡ nothing) ⊎ (0 < i.worth) → (ranked_answer i vs ≡ nothing) ⊎ (0 < (ranked_answer i vs).worth)
answer-from [] i is = is
answer-from (v ∷ vs) i is = answer-from vs (improved i (answer_key_of v) v.path) (by (nat_lt i.worth (answer_key_of v)) refl)
  where
    above : (a b : ℕ) → nat_lt a b ≡ true → a < b
    above a b e = grind (arith, nat_tests)

    by : (b : Bool) → nat_lt i.worth (answer_key_of v) ≡ b → (improved i (answer_key_of v) v.path ≡ nothing) ⊎ (0 < (improved i (answer_key_of v) v.path).worth)
    by true e =
        let is' : improved i (answer_key_of v) v.path ≡ record { worth = answer_key_of v; path = Some v.path } = ap (λ b. if b then record { worth = answer_key_of v; path = Some v.path } else i) e in
        let w = ap (λ (j : Incumbent). j.worth) is' in let l = above i.worth (answer_key_of v) e in inr (omega (arith, w, l))
    by false e =
        let is' : improved i (answer_key_of v) v.path ≡ i = ap (λ b. if b then record { worth = answer_key_of v; path = Some v.path } else i) e in
        ⊎_elim (λ (n : i ≡ nothing). inl (is' ∙ n)) (λ (s : 0 < i.worth). inr (let w = ap (λ (j : Incumbent). j.worth) is' in omega (arith, w, s))) is

-- so a hand that holds the answer of visits has a key where it holds
pub answer-keyed : {S : Type 0} (hand : Hand S) (vs : List RankedJudgement) → incumbent_of hand ≡ ranked_answer nothing vs → HasKey hand
answer-keyed hand vs is holds = ⊎_elim
    (λ (n : ranked_answer nothing vs ≡ nothing). absurd (let h = ap (λ (i : Incumbent). i.path) (sym (holding hand holds) ∙ (is ∙ n)) in let no : Some hand.path.numbers ≡ None → ⊥ = λ x. cc in no h))
    (λ (s : 0 < (ranked_answer nothing vs).worth). let w = ap (λ (i : Incumbent). i.worth) (sym (holding hand holds) ∙ is) in omega (arith, w, s))
    (answer-from vs nothing (inl refl))
