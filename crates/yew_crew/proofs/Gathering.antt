-- Hands are gathered from the last one to the first.
use Rattle.std.proofs.Common.{◌≡◌, ℕ, ◌<◌, ◌≤◌, ◌⊎◌, Bool, true, false, List, [], ◌∷◌, ◌++◌, ◌∙◌, refl, sym, ap, subst, arith, inl, inr, append_assoc, ⊎_elim}
use Rattle.std.specs.List.{AllByRecursion}
use Rattle.yew_laws.specs.Fold.{IsTally}
use Rattle.yew_laws.proofs.Members.{AllByRecursion-append, AllByRecursion-weaker}
use Rattle.yew_walk.specs.declared.hand.Hand.{Hand}
use Rattle.yew_crew.specs.Gathering.{IsFirstBest, IsGathered}
use Rattle.yew_crew.proofs.Rows.{all_but_last}

module _ {S : Type 0} (fits : S → Type 0) (join : S → S → S) (none : S) where
  -- these hands are left, and the others of all are gathered
  pub record IsGathering (all rest : List (Hand S)) (hand : Hand S) : Type 0 where
    pub gone : List (Hand S)
    pub split : all ≡ rest ++ gone
    pub gathered : IsGathered join none gone hand
    pub fits_rest : AllByRecursion (λ (h : Hand S). fits h.sum) rest
    pub fits_sum : fits hand.sum

  -- no hand of a gathered list has a greater key than the gathered one
  pub none-greater : (hands : List (Hand S)) (chosen : Hand S) (key : ℕ) → IsFirstBest hands chosen → chosen.key ≤ key
      → AllByRecursion (λ (h : Hand S). h.holds ≡ true → h.key ≤ key) hands
  none-greater hands chosen key is le =
      subst (λ hs. AllByRecursion (λ (h : Hand S). h.holds ≡ true → h.key ≤ key) hs) (sym is.stands)
      (AllByRecursion-append (λ (h : Hand S). h.holds ≡ true → h.key ≤ key) is.before (chosen ∷ is.after)
      (AllByRecursion-weaker (λ (h : Hand S). h.holds ≡ true → h.key < chosen.key) (λ (h : Hand S). h.holds ≡ true → h.key ≤ key) (λ h f e. let g = f e in omega arith) is.before is.earlier)
      ((λ e. le), AllByRecursion-weaker (λ (h : Hand S). h.holds ≡ true → h.key ≤ chosen.key) (λ (h : Hand S). h.holds ≡ true → h.key ≤ key) (λ h f e. let g = f e in omega arith) is.after is.later))

  not-both : {X : Type 0} (b : Bool) → b ≡ true → b ≡ false → X
  not-both true p q = absurd (let n : true ≡ false → ⊥ = λ h. cc in n q)
  not-both false p q = absurd (let n : false ≡ true → ⊥ = λ h. cc in n p)

  -- the first hand is chosen
  takes-first : (first others result : Hand S) (hands : List (Hand S)) → IsGathered join none hands others → result.sum ≡ join first.sum others.sum → result ≡ record first { sum = result.sum }
      → (first.holds ≡ true → AllByRecursion (λ (h : Hand S). h.holds ≡ true → h.key ≤ first.key) hands) → (first.holds ≡ false → AllByRecursion (λ (h : Hand S). h.holds ≡ false) hands) → IsGathered join none (first ∷ hands) result
  takes-first first others result hands g sum is later empty = record {
    sum_is = sum ∙ ap (join first.sum) g.sum_is;
    held = λ e.
        let h : first.holds ≡ true = sym (ap (λ (r : Hand S). r.holds) is) ∙ e in (
          first,
          record { before = []; after = hands; stands = refl; holds = h; earlier = tt; later = later h },
          record { key = ap (λ (r : Hand S). r.key) is; path = ap (λ (r : Hand S). r.path) is },
        );
    empty = λ e.
        let h : first.holds ≡ false = sym (ap (λ (r : Hand S). r.holds) is) ∙ e in (
          first,
          record { after = hands; stands = refl; none_holds = (h, empty h) },
          record { key = ap (λ (r : Hand S). r.key) is; path = ap (λ (r : Hand S). r.path) is },
        );
  }

  -- the hand that was gathered stays
  takes-others : (first others result : Hand S) (hands : List (Hand S)) → IsGathered join none hands others → result.sum ≡ join first.sum others.sum → others.holds ≡ true → result ≡ record others { sum = result.sum }
      → (first.holds ≡ false) ⊎ (first.key < others.key) → IsGathered join none (first ∷ hands) result
  takes-others first others result hands g sum holds is less = record {
    sum_is = sum ∙ ap (join first.sum) g.sum_is;
    held = λ e.
        let found = g.held holds in
        let chosen = found.0 in (
          chosen,
          record {
            before = first ∷ found.1.before;
            after = found.1.after;
            stands = ap (λ hs. first ∷ hs) found.1.stands;
            holds = found.1.holds;
            earlier = ((λ h. ⊎_elim (λ (p : first.holds ≡ false). not-both first.holds h p) (λ (p : first.key < others.key). (let k = found.2.key in omega arith)) less), found.1.earlier);
            later = found.1.later;
          },
          record { key = ap (λ (r : Hand S). r.key) is ∙ found.2.key; path = ap (λ (r : Hand S). r.path) is ∙ found.2.path },
        );
    empty = λ e. not-both others.holds holds (sym (ap (λ (r : Hand S). r.holds) is) ∙ e);
  }

  -- a hand more in front
  gathered-more : (first others result : Hand S) (hands : List (Hand S)) → IsGathered join none hands others → result.sum ≡ join first.sum others.sum
      → (others.holds ≡ true → (first.holds ≡ false) ⊎ (first.key < others.key) → result ≡ record others { sum = result.sum })
      → (first.holds ≡ true → others.key ≤ first.key → result ≡ record first { sum = result.sum })
      → (others.holds ≡ false → result ≡ record first { sum = result.sum }) → IsGathered join none (first ∷ hands) result
  gathered-more first others result hands g sum by_others by_first by_empty = by_cases others.holds first.holds refl refl (less_or_not first.key others.key)
    where
      less_or_not : (k l : ℕ) → (k < l) ⊎ (l ≤ k)
      less_or_not k l = grind arith

      by_cases : (o f : Bool) → others.holds ≡ o → first.holds ≡ f → (first.key < others.key) ⊎ (others.key ≤ first.key)
          → IsGathered join none (first ∷ hands) result
      by_cases true false ho hf less = takes-others first others result hands g sum ho (by_others ho (inl hf)) (inl hf)
      by_cases true true ho hf less = ⊎_elim
          (λ (p : first.key < others.key). takes-others first others result hands g sum ho (by_others ho (inr p)) (inr p))
          (λ (p : others.key ≤ first.key). takes-first first others result hands g sum (by_first hf p)
          (λ h. let found = g.held ho in none-greater hands found.0 first.key found.1 (let k = found.2.key in omega arith)) (λ h. not-both first.holds hf h)) less
      by_cases false f ho hf less =
          let found = g.empty ho in
          takes-first first others result hands g sum (by_empty ho)
          (λ h. AllByRecursion-weaker (λ (x : Hand S). x.holds ≡ false) (λ (x : Hand S). x.holds ≡ true → x.key ≤ first.key) (λ x n y. not-both x.holds y n) hands found.1.none_holds) (λ h. found.1.none_holds)

  module _ (tally : IsTally fits join none) where
    -- the last hand alone
    pub gathering-begins : (all rest : List (Hand S)) (last : Hand S) → all ≡ rest ++ last ∷ [] → AllByRecursion (λ (h : Hand S). fits h.sum) all
        → IsGathering all rest last
    gathering-begins all rest last e f =
        let parts = all_but_last (λ (h : Hand S). fits h.sum) rest last (subst (λ hs. AllByRecursion (λ (h : Hand S). fits h.sum) hs) e f) in
        record {
          gone = last ∷ [];
          split = e;
          gathered = record {
            sum_is = sym (tally.comm last.sum none parts.1 tally.none_fits ∙ tally.unit last.sum parts.1);
            held = λ h. (last, record { before = []; after = []; stands = refl; holds = h; earlier = tt; later = tt }, record { key = refl; path = refl });
            empty = λ h. (last, record { after = []; stands = refl; none_holds = (h, tt) }, record { key = refl; path = refl });
          };
          fits_rest = parts.0;
          fits_sum = parts.1;
        }

    -- one hand more
    pub gathering-more : (all rest rest' : List (Hand S)) (first others result : Hand S) → IsGathering all rest others → rest ≡ rest' ++ first ∷ []
        → result.sum ≡ join first.sum others.sum
        → (others.holds ≡ true → (first.holds ≡ false) ⊎ (first.key < others.key) → result ≡ record others { sum = result.sum })
        → (first.holds ≡ true → others.key ≤ first.key → result ≡ record first { sum = result.sum })
        → (others.holds ≡ false → result ≡ record first { sum = result.sum }) → IsGathering all rest' result
    gathering-more all rest rest' first others result g e sum by_others by_first by_empty =
        let parts = all_but_last (λ (h : Hand S). fits h.sum) rest' first (subst (λ hs. AllByRecursion (λ (h : Hand S). fits h.sum) hs) e g.fits_rest) in
        record {
          gone = first ∷ g.gone;
          split = g.split ∙ (ap (λ hs. hs ++ g.gone) e ∙ append_assoc rest' (first ∷ []) g.gone);
          gathered = gathered-more first others result g.gone g.gathered sum by_others by_first by_empty;
          fits_rest = parts.0;
          fits_sum = subst fits (sym sum) (tally.join_fits first.sum others.sum parts.1 g.fits_sum);
        }

    -- the next hand fits
    pub gathering-next : (all rest rest' : List (Hand S)) (first others : Hand S) → IsGathering all rest others → rest ≡ rest' ++ first ∷ [] → fits first.sum
    gathering-next all rest rest' first others g e = (all_but_last (λ (h : Hand S). fits h.sum) rest' first (subst (λ hs. AllByRecursion (λ (h : Hand S). fits h.sum) hs) e g.fits_rest)).1

    -- all hands are gathered
    pub gathering-ends : (all : List (Hand S)) (hand : Hand S) → IsGathering all [] hand → IsGathered join none all hand
    gathering-ends all hand g = subst (λ hs. IsGathered join none hs hand) (sym g.split) g.gathered
