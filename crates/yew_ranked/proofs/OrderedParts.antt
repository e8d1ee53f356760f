-- From the reports of all workers of an ordered search to what they have done, as parts of one search.
use Rattle.std.proofs.Common.{◌≡◌, ℕ, suc, ◌-◌, List, [], ◌∷◌, ◌++◌, map, false, refl, ap, ap₂, sym, subst, ◌∙◌, append_assoc, arith}
use Rattle.std.specs.List.{AllByRecursion, flat_map}
use Rattle.yew_best.specs.Seats.{SeatView, joined_seat}
use Rattle.yew_laws.specs.Incumbent.{Incumbent}
use Rattle.yew_laws.specs.SearchTree.{SearchTree}
use Rattle.yew_laws.specs.Tree.{IsRanked, IsBounded}
use Rattle.yew_log.specs.Notes.{visits, cuts}
use Rattle.yew_walk.specs.declared.hand.Hand.{Hand}
use Rattle.yew_walk.specs.Hands.{incumbent_of}
use Rattle.yew_walk.specs.LogViews.{LogView}
use Rattle.yew_crew.specs.Gathering.{IsGathered}
use Rattle.yew_crew.specs.Reports.{IsEndDone}
use Rattle.yew_crew.specs.declared.station.End.{End}
use Rattle.yew_crew.specs.declared.station.End.TheVariants.{Done, Stopped, Fault}
use Rattle.yew_walk.proofs.BestFinds.{nothing, not_holding}
use Rattle.yew_ranked.specs.ClaimSeats.{AreBelow}
use Rattle.yew_ranked.specs.Frontier.{frontier_log}
use Rattle.yew_ranked.specs.Joining.{hands_of}
use Rattle.yew_ranked.specs.RankedSearch.{RankedJudgement, key_of_judgement, plain_judgement, ranked_answer, gathered_answer, IsFirstAnswer}
use Rattle.yew_ranked.specs.Stations.{IsDone, IsRankedEnd, best_along}
use Rattle.yew_ranked.specs.Tasks.{Numbered, tasks_of_tree}
use Rattle.yew_ranked.specs.Whole.{AreFresh, IsFirstStation, AreRankedReports, ranked_stations, best_with, claimed_by, AllDone}
use Rattle.yew_ranked.specs.declared.station.RankedStation.{RankedStation}
use Rattle.yew_ranked.specs.declared.station.RankedReport.{RankedReport}
use Rattle.yew_ranked.proofs.AllVisits.{places_by, last_by, seat_by, visits_by}
use Rattle.yew_ranked.proofs.ClaimedPlaces.{claimed}
use Rattle.yew_ranked.proofs.GatheredAnswers.{answers-gathered, answer-append}
use Rattle.yew_ranked.proofs.GatheredHands.{HasKey, gathered-hands, answer-keyed}
use Rattle.yew_ranked.proofs.HeardOthers.{joined_with}
use Rattle.yew_ranked.proofs.RankedAnswers.{answer-is_first}
use Rattle.yew_ranked.proofs.WholeCover.{whole-search}
use Rattle.yew_ranked.proofs.WholeVisits.{part, ArePartsOf, all_visits, all-order}
use Rattle.yew_ranked.proofs.WorkerVisits.{on-answer}

flat-mapped : {X Y : Type 0} (f : X → List Y) (xs : List X) → flat_map (λ (ys : List Y). ys) (map f xs) ≡ flat_map f xs
flat-mapped f [] = refl
flat-mapped f (x ∷ xs) = ap (λ l. f x ++ l) (flat-mapped f xs)

module _ {N S R : Type 0} (t : SearchTree N) (join : S → S → S) (none : S) (of : N → ℕ → S) (seen : R → LogView) (levels : ℕ) where
  abbrev tasks : List Numbered
  tasks = tasks_of_tree t (suc levels)

  abbrev Station : Type 0
  Station = RankedStation S R

  abbrev Report : Type 0
  Report = RankedReport S R

  -- a worker that found no task left
  abbrev pub IsFinished : Station → Station → Type 0
  IsFinished before after = IsDone t join none of seen tasks before after

  pub done-of : (before after : Station) (end : End) → IsRankedEnd t join none of seen tasks before after end → IsEndDone end → IsFinished before after
  done-of before after Done e d = e
  done-of before after Stopped e d = absurd d
  done-of before after (Fault fault) e d = absurd d

  -- what it has done
  abbrev pub worked : (before after : Station) → IsFinished before after → part t levels
  worked before after d = record {
    first = before.best;
    now = d.now.best;
    places = d.working.places;
    last = d.last;
    walks = d.working.walks;
    are_walks = d.working.are_walks;
    goes = d.working.goes;
    rising = d.working.rising;
    past = d.past;
  }

  -- there is a finished worker for each station, in order
  abbrev pub AreFinished : List Station → List Station → Type 0
  AreFinished [] [] = Unit {0}
  AreFinished [] (a ∷ afters) = ⊥
  AreFinished (b ∷ befores) [] = ⊥
  AreFinished (b ∷ befores) (a ∷ afters) = IsFinished b a × AreFinished befores afters

  pub finished : (befores : List Station) (reports : List Report) → AreRankedReports t join none of seen (suc levels) tasks befores reports → AllDone reports → AreFinished befores (ranked_stations reports)
  finished [] [] are done = tt
  finished [] (r ∷ reports) are done = absurd are
  finished (b ∷ befores) [] are done = absurd are
  finished (b ∷ befores) (r ∷ reports) are done = (done-of b r.station r.end are.0.ends done.0, finished befores reports are.1 done.1)

  abbrev pub works : (befores afters : List Station) → AreFinished befores afters → List (part t levels)
  works [] [] are = []
  works [] (a ∷ afters) are = absurd are
  works (b ∷ befores) [] are = absurd are
  works (b ∷ befores) (a ∷ afters) are = worked b a are.0 ∷ works befores afters are.1

  -- what the worker claimed
  done-claims : (before after : Station) (d : IsFinished before after) → before.claims.claimed ≡ [] → after.claims.claimed ≡ d.working.places ++ d.last ∷ []
  done-claims before after d nothing_yet =
      ap (λ (s : Station). s.claims.claimed) d.after_is ∙ (ap (λ l. l ++ d.last ∷ []) d.working.claims_are ∙ ap (λ l. (l ++ d.working.places) ++ d.last ∷ []) nothing_yet)

  works-claims : (befores afters : List Station) (are : AreFinished befores afters) → AllByRecursion (λ (b : Station). b.claims.claimed ≡ []) befores
      → flat_map (claimed (places_by t (suc levels)) (last_by t (suc levels))) (works befores afters are) ≡ claimed_by afters
  works-claims [] [] are fresh = refl
  works-claims [] (a ∷ afters) are fresh = absurd are
  works-claims (b ∷ befores) [] are fresh = absurd are
  works-claims (b ∷ befores) (a ∷ afters) are fresh = ap₂ (λ (x y : List ℕ). x ++ y) (sym (done-claims b a are.0 fresh.0)) (works-claims befores afters are.1 fresh.1)

  pub works-joined : (seat : SeatView) (befores afters : List Station) (are : AreFinished befores afters) → joined_with (seat_by t (suc levels)) seat (works befores afters are) ≡ best_with seat afters
  works-joined seat [] [] are = refl
  works-joined seat [] (a ∷ afters) are = absurd are
  works-joined seat (b ∷ befores) [] are = absurd are
  works-joined seat (b ∷ befores) (a ∷ afters) are =
      works-joined (joined_seat seat are.0.now.best) befores afters are.1 ∙ ap (λ (s : SeatView). best_with (joined_seat seat s) afters) (sym (ap (λ (s : Station). s.best) are.0.after_is))

  works-begun : (befores afters : List Station) (are : AreFinished befores afters) → AllByRecursion (λ (b : Station). b.best.offered ≡ []) befores → AllByRecursion (λ (v : part t levels). v.first.offered ≡ []) (works befores afters are)
  works-begun [] [] are fresh = tt
  works-begun [] (a ∷ afters) are fresh = absurd are
  works-begun (b ∷ befores) [] are fresh = absurd are
  works-begun (b ∷ befores) (a ∷ afters) are fresh = (fresh.0, works-begun befores afters are.1 fresh.1)

  -- what the hand of a finished worker holds
  done-answer : (before after : Station) (d : IsFinished before after) (vs : List RankedJudgement) → incumbent_of before.hand ≡ ranked_answer nothing vs
      → incumbent_of after.hand ≡ ranked_answer nothing (vs ++ visits_by t (suc levels) (worked before after d))
  done-answer before after d vs is =
      ap (λ (s : Station). incumbent_of s.hand) d.after_is
      ∙ (d.working.best_is ∙ (ap (λ i. best_along i d.working.walks) is
      ∙ (sym (on-answer t (suc levels) (ranked_answer nothing vs) d.working.places d.working.walks before.best d.now.best d.working.are_walks d.working.goes)
      ∙ sym (answer-append nothing vs (visits_by t (suc levels) (worked before after d))))))

  works-answers : (befores afters : List Station) (are : AreFinished befores afters) → AllByRecursion (λ (b : Station). b.hand.holds ≡ false) befores
      → (map incumbent_of (hands_of afters) ≡ map (ranked_answer nothing) (map (visits_by t (suc levels)) (works befores afters are))) × AllByRecursion HasKey (hands_of afters)
  works-answers [] [] are fresh = (refl, tt)
  works-answers [] (a ∷ afters) are fresh = absurd are
  works-answers (b ∷ befores) [] are fresh = absurd are
  works-answers (b ∷ befores) (a ∷ afters) are fresh =
      let one = done-answer b a are.0 [] (not_holding b.hand fresh.0) in
      let more = works-answers befores afters are.1 fresh.1 in
      (ap₂ (λ (i : Incumbent) (is : List Incumbent). i ∷ is) one more.0, (answer-keyed a.hand (visits_by t (suc levels) (worked b a are.0)) one, more.1))

  -- fresh stations
  fresh-claims : (number : ℕ) (bs : List Station) → AreFresh none seen number bs → AllByRecursion (λ (b : Station). b.claims.claimed ≡ []) bs
  fresh-claims number [] f = tt
  fresh-claims number (b ∷ bs) f = (f.0.none_claimed, fresh-claims (suc number) bs f.1)

  fresh-offered : (number : ℕ) (bs : List Station) → AreFresh none seen number bs → AllByRecursion (λ (b : Station). b.best.offered ≡ []) bs
  fresh-offered number [] f = tt
  fresh-offered number (b ∷ bs) f = (f.0.none_offered, fresh-offered (suc number) bs f.1)

  fresh-hands : (number : ℕ) (bs : List Station) → AreFresh none seen number bs → AllByRecursion (λ (b : Station). b.hand.holds ≡ false) bs
  fresh-hands number [] f = tt
  fresh-hands number (b ∷ bs) f = (f.0.holds_none, fresh-hands (suc number) bs f.1)

  -- All workers, the first one before the others: their stations before and after
  module _ (workers : ℕ) (first : Station) (others : List Station) (after : Station) (afters : List Station)
      (first_is : IsFirstStation t join none of seen (suc levels) tasks first) (others_are : AreFresh none seen 2 others) (done : IsFinished first after) (rest : AreFinished others afters)
      (none_heard : AllByRecursion (λ x. x ≡ 0) (best_with after.best afters).heard) (count : ℕ) (claims_are : AreBelow count (claimed_by (after ∷ afters))) where
    abbrev pub fv : List RankedJudgement
    fv = first_is.frontier.visited

    abbrev pub fc : List RankedJudgement
    fc = first_is.frontier.cut

    abbrev pub head : part t levels
    head = worked first after done

    abbrev pub tail : List (part t levels)
    tail = works others afters rest

    same-levels : suc levels - 1 ≡ levels
    same-levels = omega arith

    first-offered : first.best.offered ≡ map key_of_judgement fv
    first-offered =
        ap (λ (s : SeatView). s.offered) first_is.seat_is ∙ (first_is.frontier.offered_is ∙ ap (λ l. l ++ map key_of_judgement fv) first_is.none_offered)

    pub are-parts : ArePartsOf t levels fv fc head tail
    are-parts = record {
      visits_are = subst (λ k. map plain_judgement fv ≡ visits (frontier_log t k)) same-levels first_is.frontier.judgements.visits_are;
      cuts_are = subst (λ k. map plain_judgement fc ≡ cuts (frontier_log t k)) same-levels first_is.frontier.judgements.cuts_are;
      judged = first_is.frontier.judgements;
      few = first_is.frontier.few;
      first_offered = first-offered;
      others_offered = works-begun others afters rest (fresh-offered 2 others others_are);
      count = count;
      claims_are = subst (AreBelow count) (sym (works-claims (first ∷ others) (after ∷ afters) (done, rest) (first_is.none_claimed, fresh-claims 2 others others_are))) claims_are;
      none_heard = subst (λ (s : SeatView). AllByRecursion (λ x. x ≡ 0) s.heard)
          (ap (λ (s : SeatView). best_with s afters) (ap (λ (s : Station). s.best) done.after_is) ∙ sym (works-joined done.now.best others afters rest)) none_heard;
    }

    module _ {sound : N → Type 0} (ranked : IsRanked sound t.children t.rank) (bounded : IsBounded sound t.children t.worth t.bound) (root : sound t.root) where
      abbrev pub whole_visits : List RankedJudgement
      whole_visits = all_visits t levels ranked root fv fc head tail are-parts

      -- the gathered hand holds the answer of all visits
      pub gathered-answer : (hand : Hand S) → IsGathered join none (hands_of (after ∷ afters)) hand → incumbent_of hand ≡ ranked_answer nothing whole_visits
      gathered-answer hand g =
          let one = done-answer first after done fv first_is.frontier.answer_is in
          let more = works-answers others afters rest (fresh-hands 2 others others_are) in
          let lists = (fv ++ visits_by t (suc levels) head) ∷ map (visits_by t (suc levels)) tail in
          let answers : map incumbent_of (hands_of (after ∷ afters)) ≡ map (ranked_answer nothing) lists = ap₂ (λ (i : Incumbent) (is : List Incumbent). i ∷ is) one more.0 in
          let flat : flat_map (λ (vs : List RankedJudgement). vs) lists ≡ whole_visits =
          ap (λ l. (fv ++ visits_by t (suc levels) head) ++ l) (flat-mapped (visits_by t (suc levels)) tail) ∙ append_assoc fv (visits_by t (suc levels) head) (flat_map (visits_by t (suc levels)) tail) in
          gathered-hands join none (hands_of (after ∷ afters)) hand g (answer-keyed after.hand (fv ++ visits_by t (suc levels) head) one, more.1)
          ∙ (ap (gathered_answer nothing) answers ∙ (answers-gathered lists ∙ ap (ranked_answer nothing) flat))

      -- so its path is the first best one
      pub gathered-first : (hand : Hand S) → IsGathered join none (hands_of (after ∷ afters)) hand → IsFirstAnswer t (incumbent_of hand)
      gathered-first hand g =
          subst (IsFirstAnswer t) (sym (gathered-answer hand g))
          (answer-is_first t ranked root bounded (whole-search t levels ranked root fv fc head tail are-parts) (all-order t levels ranked root fv fc head tail are-parts))
