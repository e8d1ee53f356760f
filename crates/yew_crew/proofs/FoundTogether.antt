-- A crew that is over has found the answer: its hands, gathered, and its logs are those of a whole search.
use Rattle.std.proofs.Common.{◌≡◌, ℕ, suc, ◌<◌, ◌⊎◌, ⊎_elim, All, List, [], ◌∷◌, ◌++◌, ◌∙◌, IsSome, option_and_then, map, length, refl, sym, ap, subst, arith}
use Rattle.std.specs.List.{Contains}
use Rattle.std.proofs.lemmas.List.Sums.{sum_by-append}
use Rattle.yew_best.specs.Seats.{SeatView}
use Rattle.yew_laws.specs.Bag.{SameBag}
use Rattle.yew_laws.specs.Fold.{IsTally}
use Rattle.yew_laws.specs.PathValue.{PathValue}
use Rattle.yew_laws.specs.SearchTree.{SearchTree, at_path}
use Rattle.yew_laws.specs.Tree.{IsRanked, IsBounded}
use Rattle.yew_laws.specs.Tasks.{members_of}
use Rattle.yew_laws.specs.declared.problem.Task.{Task}
use Rattle.yew_log.specs.Lawful.{tasks_of}
use Rattle.yew_stack.specs.Splits.{paths_of}
use Rattle.yew_walk.specs.LogViews.{LogView}
use Rattle.yew_walk.specs.declared.fault.SearchFault.{SearchFault}
use Rattle.yew_walk.specs.declared.hand.Hand.{Hand}
use Rattle.yew_crew.specs.CrewSearch.{HasCrewLogs, IsCrewFault}
use Rattle.yew_crew.specs.Crews.{stations_of, best_with}
use Rattle.yew_crew.specs.Ending.{IsFound}
use Rattle.yew_crew.specs.Gathering.{IsGathered}
use Rattle.yew_crew.specs.Joining.{hands_of, logs_of}
use Rattle.yew_crew.specs.Reports.{IsEnd, IsEndDone}
use Rattle.yew_crew.specs.Resting.{IsRested, IsRestRefused}
use Rattle.yew_crew.specs.Starting.{IsCrew}
use Rattle.yew_crew.specs.Stations.{Searched, searched, skeleton_of}
use Rattle.yew_crew.specs.declared.coord.Coord.{Coord}
use Rattle.yew_crew.specs.declared.coord.Coord.TheVariants.{Depth}
use Rattle.yew_crew.specs.declared.station.End.{End}
use Rattle.yew_crew.specs.declared.station.End.TheVariants.{Done, Stopped, Fault}
use Rattle.yew_crew.specs.declared.station.Report.{Report}
use Rattle.yew_crew.specs.declared.station.Shared.{Shared}
use Rattle.yew_crew.specs.declared.station.Station.{Station}
use Rattle.yew_crew.proofs.CrewFaults.{done_doing, end_doing, doings, all-doings, crew-tasks}
use Rattle.yew_crew.proofs.CrewOver.{done-of}
use Rattle.yew_crew.proofs.EndedCrew.{AreOver, done, are-here, all_done, several-here, over-ends, ones, paths-count}
use Rattle.yew_crew.proofs.Finished.{Finish, finished_hands}
use Rattle.yew_crew.proofs.KnownBefore.{known-before}
use Rattle.yew_crew.proofs.OnceOnly.{Doing, all_took, all_sent}
use Rattle.yew_crew.proofs.RestEnds.{AreDone, finishes}
use Rattle.yew_crew.proofs.RestFaults.{rest-fault, rest-once}
use Rattle.yew_crew.proofs.WholeCrew.{IsCrewEnd, crew-near, crew-logs, crew-sum}

module _ {N S R : Type 0} (s : Searched S R N) (workers : ℕ) {fits : S → Type 0} (tally : IsTally fits s.join s.none) (of_fits : (n : N) (depth : ℕ) → fits (s.of n depth)) where
  -- the hands and the logs of workers that came to their ends are those of their stations
  finished-hands : (number : ℕ) (befores afters : List (Station N S R)) (are : AreDone s workers tally of_fits number befores afters)
      → finished_hands (finishes s workers tally of_fits number befores afters are) ≡ hands_of afters
  finished-hands number [] [] are = refl
  finished-hands number [] (a ∷ afters) are = absurd are
  finished-hands number (b ∷ befores) [] are = absurd are
  finished-hands number (b ∷ befores) (a ∷ afters) are = ap (λ (l : List (Hand S)). a.hand ∷ l) (finished-hands (suc number) befores afters are.1)

  finished-logs : (number : ℕ) (befores afters : List (Station N S R)) (are : AreDone s workers tally of_fits number befores afters)
      → map (λ (f : Finish S R N). s.seen f.log) (finishes s workers tally of_fits number befores afters are) ≡ map s.seen (logs_of afters)
  finished-logs number [] [] are = refl
  finished-logs number [] (a ∷ afters) are = absurd are
  finished-logs number (b ∷ befores) [] are = absurd are
  finished-logs number (b ∷ befores) (a ∷ afters) are = ap (λ (l : List LogView). s.seen a.log ∷ l) (finished-logs (suc number) befores afters are.1)

  module _ (before after : Station N S R) (befores afters : List (Station N S R)) (hand : Hand S) (log : R) (e : IsCrewEnd s workers tally of_fits before after befores afters hand log)
      {sound : N → Type 0} (ranked : IsRanked sound s.tree.children s.tree.rank) (bounded : IsBounded sound s.tree.children s.tree.worth s.tree.bound) (root_sound : sound s.tree.root) where
    pub end-found : (gathered : Hand S) (logs : List R) → IsGathered s.join s.none (hand ∷ hands_of afters) gathered → logs ≡ log ∷ logs_of afters → IsFound s workers gathered logs
    end-found gathered logs g are =
        let hands : IsGathered s.join s.none (hand ∷ finished_hands (finishes s workers tally of_fits 2 befores afters e.others)) gathered =
        subst (λ (l : List (Hand S)). IsGathered s.join s.none (hand ∷ l) gathered) (sym (finished-hands 2 befores afters e.others)) g in
        let seen : s.seen log ∷ map (λ (f : Finish S R N). s.seen f.log) (finishes s workers tally of_fits 2 befores afters e.others) ≡ map s.seen logs =
        ap (λ (l : List LogView). s.seen log ∷ l) (finished-logs 2 befores afters e.others) ∙ sym (ap (map s.seen) are) in
        record {
          near = crew-near s workers tally of_fits before after befores afters hand log e ranked bounded root_sound gathered hands;
          has_logs = λ path is. subst (λ (l : List LogView). HasCrewLogs s.tree s.gap (skeleton_of s.coord) workers l (option_and_then (λ (p : PathValue). at_path s.tree p.numbers) path)) seen
              (crew-logs s workers tally of_fits before after befores afters hand log e ranked bounded root_sound gathered hands path is);
          sum_is = crew-sum s workers tally of_fits before after befores afters hand log e ranked bounded root_sound gathered hands;
        }

module _ {N S R : Type 0} (t : SearchTree N) (join : S → S → S) (none : S) (of : N → ℕ → S) (seen : R → LogView) (coord : Coord) (gap : ℕ) (shared : Shared N) (workers : ℕ)
    (begun : List (Station N S R)) (first : Report N S R) (rest : List (Report N S R)) (left : List (Task N)) (word : ℕ) (o : AreOver t join none of seen coord gap shared workers begun first rest left word)
    {sound : N → Type 0} (ranked : IsRanked sound t.children t.rank) (bounded : IsBounded sound t.children t.worth t.bound) (root_sound : sound t.root)
    {fits : S → Type 0} (tally : IsTally fits join none) (of_fits : (n : N) (depth : ℕ) → fits (of n depth)) where
  pub over-found : (seat : SeatView) (hand : Hand S) (log : R)
      → IsRested (searched t join none of seen (Depth 0) gap) (paths_of left) (best_with first.station.best (stations_of rest)) first.station.hand first.station.log seat hand log
      → All (λ x. (x ≡ 0) ⊎ Contains seat.offered x) seat.read
      → (gathered : Hand S) (logs : List R) → IsGathered join none (hand ∷ hands_of (stations_of rest)) gathered → logs ≡ log ∷ logs_of (stations_of rest)
      → IsFound (searched t join none of seen coord gap) workers gathered logs
  over-found seat hand log rested closed =
      end-found (searched t join none of seen coord gap) workers tally of_fits o.crew.first first.station o.crew.others (stations_of rest) hand log
      (over-ends t join none of seen coord gap shared workers begun first rest left word o ranked bounded root_sound tally of_fits seat hand log rested closed) ranked bounded root_sound

  -- the doing of a worker that came to its end
  done-same : (x y : Station N S R) (end : End) (is : IsEnd (searched t join none of seen coord gap) x y end) (d : IsEndDone end)
      → end_doing (searched t join none of seen coord gap) x y end is ≡ done_doing (searched t join none of seen coord gap) x y (done-of t join none of seen coord gap (members_of t) shared workers tally of_fits x y end is d)
  done-same x y Done is d = refl
  done-same x y Stopped is d = absurd d
  done-same x y (Fault fault) is d = absurd d

  -- a walk of what was left that was refused is a fault of the crew
  pub over-refused : (tells : Type 0) (fault : SearchFault) (seat : SeatView) (log : R)
      → IsRestRefused (searched t join none of seen (Depth 0) gap) (paths_of left) fault (best_with first.station.best (stations_of rest)) first.station.log seat log
      → (IsSome (seen log).told → tells) → IsCrewFault t gap (skeleton_of coord) workers tells fault
  over-refused tells fault seat log refused telling =
      let ours = searched t join none of seen coord gap in
      let finished = done t join none of seen coord gap shared workers begun first rest left word o ranked bounded root_sound tally of_fits in
      let are = are-here t join none of seen coord gap shared workers begun first rest left word o ranked bounded root_sound tally of_fits in
      let ended = all_done t join none of seen coord gap shared workers begun first rest left word o ranked bounded root_sound tally of_fits in
      let known = known-before ours o.crew.first first.station (stations_of rest) finished in
      let begun_now : IsCrew (members_of t) none seen shared workers (o.crew.first ∷ o.crew.others) = subst (IsCrew (members_of t) none seen shared workers) o.crew.stands o.crew in
      let bag = crew-tasks t ranked bounded root_sound join none of seen coord gap shared workers (o.crew.first ∷ o.crew.others) (first ∷ rest) left begun_now are o.all_left in
      let more = doings ours o.crew.others rest are.1 in
      let bag' = subst (λ (d : Doing). SameBag (all_took (d ∷ more) ++ paths_of left) ([] ∷ all_sent (d ∷ more))) (done-same o.crew.first first.station first.end are.0.ends ended.0) bag in
      let many : 1 < workers = ⊎_elim (λ (none_left : length left ≡ 0). absurd (not-refused none_left)) (λ (h : 1 < workers). h)
      (several-here t join none of seen coord gap shared workers begun first rest left word o ranked bounded root_sound tally of_fits) in
      rest-fault t join none of seen coord gap o.crew.first first.station finished (paths_of left) fault (best_with first.station.best (stations_of rest)) seat log refused
      shared 1 (o.crew.root ∷ []) workers tells o.crew.first_is finished.segments.broken known many
      (rest-once t join none of seen coord gap o.crew.first first.station finished (paths_of left) fault (best_with first.station.best (stations_of rest)) seat log refused
      ranked bounded root_sound finished.segments.broken known more (all-doings ours o.crew.others rest are.1) bag')
      telling
    where
      not-refused : length left ≡ 0 → ⊥
      not-refused e =
          let part = refused.taken_are.weighs (λ _. 1) in
          let a = sum_by-append (λ _. 1) (tasks_of refused.segments) (refused.task ∷ []) in
          let b = ones (paths_of left) in let c = paths-count left in omega arith
