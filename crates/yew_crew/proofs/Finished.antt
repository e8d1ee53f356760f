-- Where all workers have come to their ends and nothing is left, their logs, their hands and their sums are right for the tree.
use Rattle.std.proofs.Common.{◌≡◌, ℕ, suc, ◌<◌, ◌≤◌, Bool, true, false, List, [], ◌∷◌, ◌++◌, ◌∙◌, Option, Some, None, map, length, refl, sym, ap, ap₂, subst, arith, inl, inr, ⊎_elim}
use Rattle.std.specs.List.{AllByRecursion, Contains}
use Rattle.std.specs.Option.{IfSome}
use Rattle.std.proofs.lemmas.List.{map-append, length-append}
use Rattle.std.proofs.lemmas.List.Concat.{flat_map-append}
use Rattle.std.proofs.lemmas.List.Elements.{Contains-append_left, Contains-append_right}
use Rattle.yew_laws.specs.Bag.{SameBag}
use Rattle.yew_laws.specs.Cover.{Cover}
use Rattle.yew_laws.specs.Fold.{fold_of}
use Rattle.yew_laws.specs.Incumbent.{Incumbent}
use Rattle.yew_laws.proofs.Bags.{same-is, same-refl, same-sym, same-trans, same-append, same-cons}
use Rattle.yew_laws.proofs.Members.{Contains-map}
use Rattle.yew_log.specs.Attained.{Attained}
use Rattle.yew_log.specs.Lawful.{LawfulLog}
use Rattle.yew_log.specs.Notes.{Note, Judgement, paths, values, maximum, visits, cuts, visit_in, cut_in, taken_in, sent_in, taken_paths, sent_paths, cut_paths}
use Rattle.yew_log.specs.Places.{AtEach}
use Rattle.yew_log.specs.WholeSearch.{AreLogs, IsBestVisit, joined}
use Rattle.yew_walk.specs.declared.hand.Hand.{Hand}
use Rattle.yew_walk.specs.declared.keying.Keying.TheVariants.{Plain}
use Rattle.yew_walk.specs.Hands.{incumbent_of, best_after}
use Rattle.yew_crew.specs.CrewSearch.{IsLogOf, AreLogsOf}
use Rattle.yew_crew.specs.Gathering.{IsGathered}
use Rattle.yew_crew.specs.Groups.{Group, taken, sent, idle, together, IsBalanced, IsClosed}
use Rattle.yew_crew.specs.Stations.{Searched, skeleton_of}
use Rattle.yew_walk.proofs.BestFinds.{nothing, IsNamedBy, IsBestOf, best_after-best, maximum-append, holding, not_holding}
use Rattle.yew_crew.proofs.Gathering.{none-greater}
use Rattle.yew_crew.proofs.GroupLaws.{same-deals, group-covers, group-attained}
use Rattle.yew_walk.proofs.NearBest.{contained-bounds}

-- what one worker has done, noted and found, with what the caller walked for it
pub record Finish (S R N : Type 0) : Type 0 where
  pub group : Group N S
  pub notes : List Note
  pub hand : Hand S
  pub log : R

module _ {S R N : Type 0} where
  abbrev pub notes_of : List (Finish S R N) → List (List Note)
  notes_of fs = map (λ (f : Finish S R N). f.notes) fs

  abbrev pub finished_hands : List (Finish S R N) → List (Hand S)
  finished_hands fs = map (λ (f : Finish S R N). f.hand) fs

  -- all of them as one group
  abbrev pub all_of : (S → S → S) → S → List (Finish S R N) → Group N S
  all_of join none [] = idle none
  all_of join none (f ∷ fs) = together join f.group (all_of join none fs)

module _ {S R N : Type 0} (s : Searched S R N) (workers : ℕ) where
  pub record IsFinished (number : ℕ) (f : Finish S R N) : Type 0 where
    pub visits_are : f.group.visits ≡ visits f.notes
    pub cuts_are : f.group.cuts ≡ cuts f.notes
    pub taken_are : SameBag (taken_paths f.notes) (taken f.group)
    pub sent_are : SameBag (sent_paths f.notes) (sent f.group)
    pub lawful : LawfulLog s.tree s.gap (skeleton_of s.coord) workers number f.notes
    pub log_is : IsLogOf number f.notes (s.seen f.log)
    pub best_is : incumbent_of f.hand ≡ best_after Plain nothing f.group.visits
    pub sum_is : f.hand.sum ≡ f.group.sum

  abbrev pub AreFinished : ℕ → List (Finish S R N) → Type 0
  AreFinished number [] = Unit {0}
  AreFinished number (f ∷ fs) = IsFinished number f × AreFinished (suc number) fs

  abbrev whole : List (Finish S R N) → Group N S
  whole fs = all_of s.join s.none fs

  pub joined-visits : (number : ℕ) (fs : List (Finish S R N)) → AreFinished number fs → visits (joined (notes_of fs)) ≡ (whole fs).visits
  joined-visits number [] are = refl
  joined-visits number (f ∷ fs) are = flat_map-append visit_in f.notes (joined (notes_of fs)) ∙ ap₂ ◌++◌ (sym are.0.visits_are) (joined-visits (suc number) fs are.1)

  joined-cuts : (number : ℕ) (fs : List (Finish S R N)) → AreFinished number fs → cuts (joined (notes_of fs)) ≡ (whole fs).cuts
  joined-cuts number [] are = refl
  joined-cuts number (f ∷ fs) are = flat_map-append cut_in f.notes (joined (notes_of fs)) ∙ ap₂ ◌++◌ (sym are.0.cuts_are) (joined-cuts (suc number) fs are.1)

  joined-taken : (number : ℕ) (fs : List (Finish S R N)) → AreFinished number fs → SameBag (taken_paths (joined (notes_of fs))) (taken (whole fs))
  joined-taken number [] are = same-refl []
  joined-taken number (f ∷ fs) are =
      same-trans (same-is (flat_map-append taken_in f.notes (joined (notes_of fs))))
      (same-trans (same-append are.0.taken_are (joined-taken (suc number) fs are.1)) (same-deals f.group.took f.group.got (whole fs).took (whole fs).got))

  joined-sent : (number : ℕ) (fs : List (Finish S R N)) → AreFinished number fs → SameBag (sent_paths (joined (notes_of fs))) (sent (whole fs))
  joined-sent number [] are = same-refl []
  joined-sent number (f ∷ fs) are =
      same-trans (same-is (flat_map-append sent_in f.notes (joined (notes_of fs))))
      (same-trans (same-append are.0.sent_are (joined-sent (suc number) fs are.1)) (same-deals f.group.put f.group.given (whole fs).put (whole fs).given))

  -- each log is lawful
  each-lawful : (before : List (List Note)) (number : ℕ) (fs : List (Finish S R N)) → number ≡ suc (length before) → AreFinished number fs
      → AtEach (λ before log after. LawfulLog s.tree s.gap (skeleton_of s.coord) workers (suc (length before)) log) before (notes_of fs)
  each-lawful before number [] e are = tt
  each-lawful before number (f ∷ fs) e are = (
    subst (λ n. LawfulLog s.tree s.gap (skeleton_of s.coord) workers n f.notes) e are.0.lawful,
    each-lawful (before ++ f.notes ∷ []) (suc number) fs (let l = length-append before (f.notes ∷ []) in omega arith) are.1,
  )

  -- the logs that are handed back
  pub logs-kept : (number : ℕ) (fs : List (Finish S R N)) → AreFinished number fs → AreLogsOf number (notes_of fs) (map (λ (f : Finish S R N). s.seen f.log) fs)
  logs-kept number [] are = tt
  logs-kept number (f ∷ fs) are = (are.0.log_is, logs-kept (suc number) fs are.1)

  -- all groups are balanced and closed, so the logs are those of a whole search
  pub logs-whole : (fs : List (Finish S R N)) (solution : Option N) → AreFinished 1 fs → length fs ≡ workers
      → IsBalanced s.tree s.gap s.join s.none s.of (whole fs) → IsClosed (whole fs)
      → IfSome solution (IsBestVisit s.tree (joined (notes_of fs))) → AreLogs s.tree s.gap (skeleton_of s.coord) workers (notes_of fs) solution
  logs-whole fs solution are count balanced closed best =
      let vs = joined-visits 1 fs are in let cs = joined-cuts 1 fs are in
      record {
        one_each = one_each fs ∙ count;
        lawful = each-lawful [] 1 fs refl are;
        tasks = same-trans (joined-taken 1 fs are) (same-trans (same-append closed.pool closed.mail) (same-cons [] (same-sym (joined-sent 1 fs are))));
        cover = subst (λ (v : List Judgement). Cover s.tree (paths v) (cut_paths (joined (notes_of fs)))) (sym vs) (subst (λ (c : List Judgement). Cover s.tree (paths (whole fs).visits) (paths c)) (sym cs) (group-covers s.tree s.gap s.join s.none s.of (whole fs) balanced closed));
        attained = subst (λ (v : List Judgement). Attained s.tree s.gap v (cuts (joined (notes_of fs)))) (sym vs) (subst (λ (c : List Judgement). Attained s.tree s.gap (whole fs).visits c) (sym cs) (group-attained s.tree s.gap s.join s.none s.of (whole fs) balanced closed));
        best = best;
      }
    where
      one_each : (fs : List (Finish S R N)) → length (notes_of fs) ≡ length fs
      one_each [] = refl
      one_each (f ∷ fs) = ap suc (one_each fs)

  -- the sums of the hands are the sum of the group
  pub sums-whole : (number : ℕ) (fs : List (Finish S R N)) → AreFinished number fs
      → fold_of s.join s.none (λ (h : Hand S). h.sum) (finished_hands fs) ≡ (whole fs).sum
  sums-whole number [] are = refl
  sums-whole number (f ∷ fs) are = ap₂ s.join are.0.sum_is (sums-whole (suc number) fs are.1)

  -- what one hand names
  own-best : (number : ℕ) (f : Finish S R N) → IsFinished number f → IsBestOf f.group.visits (incumbent_of f.hand)
  own-best number f is = subst (IsBestOf f.group.visits) (sym is.best_is) (best_after-best f.group.visits)

  -- no visit has a greater worth than all keys
  visits-low : (number : ℕ) (fs : List (Finish S R N)) (key : ℕ) → AreFinished number fs
      → AllByRecursion (λ (h : Hand S). h.holds ≡ true → h.key ≤ key) (finished_hands fs) → maximum (values (whole fs).visits) ≤ key
  visits-low number [] key are low = omega arith
  visits-low number (f ∷ fs) key are low =
      let rest = visits-low (suc number) fs key are.1 low.1 in
      let own = own-low f.hand.holds refl in
      let parts = ap maximum (map-append (λ (j : Judgement). j.value) f.group.visits (whole fs).visits) ∙ maximum-append (values f.group.visits) (values (whole fs).visits) in omega arith
    where
      own-low : (b : Bool) → f.hand.holds ≡ b → maximum (values f.group.visits) ≤ key
      own-low true e = let le = low.0 e in let g = (own-best number f are.0).greatest in let w = ap (λ (i : Incumbent). i.worth) (holding f.hand e) in omega arith
      own-low false e = let g = (own-best number f are.0).greatest in let w = ap (λ (i : Incumbent). i.worth) (not_holding f.hand e) in omega arith

  -- a visit that a hand names
  pub record IsKeyOf (vs : List Judgement) (hand : Hand S) (v : Judgement) : Type 0 where
    pub there : Contains vs v
    pub path_is : v.path ≡ hand.path.numbers
    pub key_is : v.value ≡ hand.key
    pub answers : 0 < hand.key

  own-key : (number : ℕ) (f : Finish S R N) → IsFinished number f → f.hand.holds ≡ true → (v : Judgement) × IsKeyOf f.group.visits f.hand v
  own-key number f is e = ⊎_elim
      (λ (none : incumbent_of f.hand ≡ nothing). absurd (let h = ap (λ (i : Incumbent). i.path) (sym (holding f.hand e) ∙ none) in let n : Some f.hand.path.numbers ≡ None → ⊥ = λ x. cc in n h))
      (λ (named : (v : Judgement) × IsNamedBy f.group.visits (incumbent_of f.hand) v).
      let v = named.0 in
      let p : Some v.path ≡ Some f.hand.path.numbers = sym named.1.path_is ∙ ap (λ (i : Incumbent). i.path) (holding f.hand e) in
      let w : v.value ≡ f.hand.key = sym named.1.worth_is ∙ ap (λ (i : Incumbent). i.worth) (holding f.hand e) in
      let path_same : v.path ≡ f.hand.path.numbers = cc in
      let pos = named.1.answers in
      (v, record { there = named.1.there; path_is = path_same; key_is = w; answers = omega arith }))
      (own-best number f is).named

  -- the visit that a chosen hand names is one of all visits
  chosen-key : (number : ℕ) (fs : List (Finish S R N)) (before after : List (Hand S)) (chosen : Hand S) → AreFinished number fs
      → finished_hands fs ≡ before ++ chosen ∷ after → chosen.holds ≡ true → (v : Judgement) × IsKeyOf (whole fs).visits chosen v
  chosen-key number [] [] after chosen are e holds = absurd (let n = ap length e in omega arith)
  chosen-key number [] (b ∷ before) after chosen are e holds = absurd (let n = ap length e in omega arith)
  chosen-key number (f ∷ fs) [] after chosen are e holds =
      let same : f.hand ≡ chosen = cc in
      let own = own-key number f are.0 (ap (λ (h : Hand S). h.holds) same ∙ holds) in
      subst (λ (h : Hand S). (v : Judgement) × IsKeyOf (f.group.visits ++ (whole fs).visits) h v) same
      (own.0, record { there = Contains-append_left f.group.visits (whole fs).visits own.0 own.1.there; path_is = own.1.path_is; key_is = own.1.key_is; answers = own.1.answers })
  chosen-key number (f ∷ fs) (b ∷ before) after chosen are e holds =
      let later : finished_hands fs ≡ before ++ chosen ∷ after = cc in
      let rest = chosen-key (suc number) fs before after chosen are.1 later holds in
      (rest.0, record { there = Contains-append_right f.group.visits (whole fs).visits rest.0 rest.1.there; path_is = rest.1.path_is; key_is = rest.1.key_is; answers = rest.1.answers })

  -- the hand that was gathered names the best of all visits
  pub gathered-best : (number : ℕ) (fs : List (Finish S R N)) (hand : Hand S) → AreFinished number fs
      → IsGathered s.join s.none (finished_hands fs) hand → IsBestOf (whole fs).visits (incumbent_of hand)
  gathered-best number fs hand are g = by hand.holds refl
    where
      by : (b : Bool) → hand.holds ≡ b → IsBestOf (whole fs).visits (incumbent_of hand)
      by true e =
          let found = g.held e in
          let chosen = found.0 in
          let named = chosen-key number fs found.1.before found.1.after chosen are found.1.stands found.1.holds in
          let v = named.0 in
          let low = visits-low number fs chosen.key are (none-greater (λ (x : S). Unit {0}) s.join s.none (finished_hands fs) chosen chosen.key found.1 (omega arith)) in
          let high : v.value ≤ maximum (values (whole fs).visits) = contained-bounds (values (whole fs).visits) v.value (Contains-map (λ (j : Judgement). j.value) (whole fs).visits v named.1.there) in
          let k = named.1.key_is in let same = found.2.key in
          let is = holding hand e in
          let pos = named.1.answers in
          record {
            greatest = ap (λ (i : Incumbent). i.worth) is ∙ omega arith;
            named = inr (
              v,
              record {
                there = named.1.there;
                path_is = ap (λ (i : Incumbent). i.path) is ∙ ap Some (ap (λ p. p.numbers) found.2.path ∙ sym named.1.path_is);
                worth_is = ap (λ (i : Incumbent). i.worth) is ∙ omega arith;
                answers = omega arith;
              },
            );
          }
      by false e =
          let found = g.empty e in
          let is = not_holding hand e in
          let low = visits-low number fs 0 are (none-held (finished_hands fs) found.1.none_holds) in
          record { greatest = ap (λ (i : Incumbent). i.worth) is ∙ omega arith; named = inl is }
        where
          none-held : (hs : List (Hand S)) → AllByRecursion (λ (h : Hand S). h.holds ≡ false) hs
              → AllByRecursion (λ (h : Hand S). h.holds ≡ true → h.key ≤ 0) hs
          none-held [] a = tt
          none-held (h ∷ hs) a = ((λ y. absurd (let n : true ≡ false → ⊥ = λ x. cc in n (sym y ∙ a.0))), none-held hs a.1)
