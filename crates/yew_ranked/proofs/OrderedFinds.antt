-- An ordered search in which every worker found no task left has found the answer: its logs, its gathered hand and its sum are right for the tree.
use Rattle.std.proofs.Common.{◌≡◌, ℕ, zero, suc, ◌-◌, ◌≤◌, ◌⊎◌, Some, option_and_then, All, List, [], ◌∷◌, ◌++◌, map, length, refl, ap, ap₂, sym, subst, ◌∙◌, arith}
use Rattle.std.specs.Prelude.{Contains}
use Rattle.std.specs.List.{AllByRecursion, flat_map}
use Rattle.std.proofs.lemmas.List.{map-append}
use Rattle.yew_best.specs.Seats.{SeatView}
use Rattle.yew_laws.specs.Fold.{fold_of, of_member, IsTally}
use Rattle.yew_laws.specs.PathValue.{PathValue}
use Rattle.yew_laws.specs.SearchTree.{SearchTree, at_path}
use Rattle.yew_laws.specs.Tree.{Member, paths as member_paths, IsRanked, IsBounded}
use Rattle.yew_laws.proofs.Folds.{fold-fits, fold-append}
use Rattle.yew_laws.proofs.Members.{AllByRecursion-append}
use Rattle.yew_log.specs.Notes.{Note, visits, cuts, visited_paths}
use Rattle.yew_log.specs.Segment.{entries}
use Rattle.yew_log.specs.Totals.{totals_after}
use Rattle.yew_log.proofs.Growth.{visited-append}
use Rattle.yew_log.proofs.Walks.{AreSmall}
use Rattle.yew_walk.specs.declared.hand.Hand.{Hand}
use Rattle.yew_walk.specs.Hands.{AreVisited}
use Rattle.yew_walk.specs.LogViews.{LogView, log_after}
use Rattle.yew_walk.specs.WorkerLogs.{segments_of}
use Rattle.yew_walk.proofs.PlainRuns.{log_after-told, log_after-totals, log_after-number, fresh-told, small-none}
use Rattle.yew_walk.proofs.Sending.{log_after-append}
use Rattle.yew_crew.specs.CrewSearch.{IsLogOf, AreLogsOf}
use Rattle.yew_crew.specs.Gathering.{IsGathered}
use Rattle.yew_crew.proofs.WholeAnswers.{sum-whole}
use Rattle.yew_ranked.specs.Frontier.{frontier_log}
use Rattle.yew_ranked.specs.Joining.{hands_of, logs_of}
use Rattle.yew_ranked.specs.OrderedSearch.{IsOrderedFound}
use Rattle.yew_ranked.specs.Tasks.{Numbered, tasks_of_tree}
use Rattle.yew_ranked.specs.Whole.{IsFreshLog, AreFresh, IsFirstStation, HasRankedWorked, ranked_stations, best_with, claimed_by, IsRankedSettled, AllDone, AreRankedReports}
use Rattle.yew_ranked.specs.declared.station.RankedStation.{RankedStation}
use Rattle.yew_ranked.specs.declared.station.RankedReport.{RankedReport}
use Rattle.yew_ranked.proofs.AllVisits.{seat_by}
use Rattle.yew_ranked.proofs.HeardOthers.{joined_with}
use Rattle.yew_ranked.proofs.OrderedParts.{IsFinished, AreFinished, finished, worked, works, works-joined, are-parts, gathered-first}
use Rattle.yew_ranked.proofs.WholeVisits.{part, ArePartsOf, walks_by}
use Rattle.yew_ranked.specs.RankedSearch.{RankedJudgement}
use Rattle.yew_ranked.specs.ClaimSeats.{AreBelow}
use Rattle.yew_ranked.proofs.OrderedSums.{done-sum, members_of, works-sum, works-members}
use Rattle.yew_ranked.proofs.WholeCover.{all_notes, whole-cover}
use Rattle.yew_ranked.proofs.WholeLogs.{notes_by, worker_logs, visits-best, whole-attained, whole-logs}

-- a log that was fresh, with its entries
fresh-log : (number : ℕ) (before after : LogView) (notes : List Note) → IsFreshLog number before → after ≡ log_after before notes → IsLogOf number notes after
fresh-log number before after notes fresh is = record {
  told = fresh-told before.told after.told notes fresh.told (ap (λ (l : LogView). l.told) is ∙ log_after-told before notes);
  totals_are = ap (λ (l : LogView). l.totals) is ∙ (log_after-totals before notes (subst AreSmall (sym fresh.totals_are) small-none) ∙ ap (λ u. totals_after u notes) fresh.totals_are);
  number_is = ap (λ (l : LogView). l.number) is ∙ (log_after-number before notes ∙ fresh.number_is);
}

module _ {N S R : Type 0} (t : SearchTree N) (join : S → S → S) (none : S) (of : N → ℕ → S) (seen : R → LogView) (levels : ℕ) where
  abbrev tasks : List Numbered
  tasks = tasks_of_tree t (suc levels)

  abbrev Station : Type 0
  Station = RankedStation S R

  done-log : (before after : Station) (d : IsFinished t join none of seen levels before after) → seen after.log ≡ log_after (seen before.log) (entries (segments_of d.working.walks))
  done-log before after d = ap (λ (s : Station). seen s.log) d.after_is ∙ d.working.log_is

  works-logs : (number : ℕ) (befores afters : List Station) (are : AreFinished t join none of seen levels befores afters) → AreFresh none seen number befores
      → AreLogsOf number (map (notes_by t levels) (works t join none of seen levels befores afters are)) (map seen (logs_of afters))
  works-logs number [] [] are fresh = tt
  works-logs number [] (a ∷ afters) are fresh = absurd are
  works-logs number (b ∷ befores) [] are fresh = absurd are
  works-logs number (b ∷ befores) (a ∷ afters) are fresh =
      (fresh-log number (seen b.log) (seen a.log) (entries (segments_of are.0.working.walks)) fresh.0.log (done-log b a are.0), works-logs (suc number) befores afters are.1 fresh.1)

  works-count : (befores afters : List Station) (are : AreFinished t join none of seen levels befores afters) → length (works t join none of seen levels befores afters are) ≡ length befores
  works-count [] [] are = refl
  works-count [] (a ∷ afters) are = absurd are
  works-count (b ∷ befores) [] are = absurd are
  works-count (b ∷ befores) (a ∷ afters) are = ap suc (works-count befores afters are.1)

  module _ {sound : N → Type 0} (ranked : IsRanked sound t.children t.rank) (bounded : IsBounded sound t.children t.worth t.bound) (root : sound t.root)
      {fits : S → Type 0} (tally : IsTally fits join none) (of_fits : (n : N) (depth : ℕ) → fits (of n depth))
      (workers : ℕ) (first : Station) (others : List Station) (after : Station) (afters : List Station)
      (first_is : IsFirstStation t join none of seen (suc levels) tasks first) (others_are : AreFresh none seen 2 others)
      (done : IsFinished t join none of seen levels first after) (rest : AreFinished t join none of seen levels others afters)
      (none_heard : AllByRecursion (λ x. x ≡ 0) (best_with after.best afters).heard) (count : ℕ) (claims_are : AreBelow count (claimed_by (after ∷ afters)))
      (reads_offered : All (λ x. (x ≡ 0) ⊎ Contains (best_with after.best afters).offered x) (best_with after.best afters).read)
      (workers_are : suc (length others) ≡ workers) (alone : workers ≡ 1 → first.best.share ≡ first.best.best.seats) where
    abbrev visited : List RankedJudgement
    visited = first_is.frontier.visited

    abbrev cut : List RankedJudgement
    cut = first_is.frontier.cut

    abbrev one : part t levels
    one = worked t join none of seen levels first after done

    abbrev more : List (part t levels)
    more = works t join none of seen levels others afters rest

    parts : ArePartsOf t levels visited cut one more
    parts = are-parts t join none of seen levels workers first others after afters first_is others_are done rest none_heard count claims_are

    abbrev notes : List Note
    notes = all_notes t levels ranked root visited cut one more parts

    same-levels : suc levels - 1 ≡ levels
    same-levels = omega arith

    reads : All (λ x. (x ≡ 0) ⊎ Contains (joined_with (seat_by t (suc levels)) one.now more).offered x) (joined_with (seat_by t (suc levels)) one.now more).read
    reads = subst (λ (s : SeatView). All (λ x. (x ≡ 0) ⊎ Contains s.offered x) s.read)
        (ap (λ (s : SeatView). best_with s afters) (ap (λ (s : Station). s.best) done.after_is) ∙ sym (works-joined t join none of seen levels done.now.best others afters rest)) reads_offered

    first-log : IsLogOf 1 (frontier_log t levels ++ notes_by t levels one) (seen after.log)
    first-log =
        fresh-log 1 first_is.begun (seen after.log) (frontier_log t levels ++ entries (segments_of done.working.walks)) first_is.fresh_log
        (done-log first after done ∙ (ap (λ (l : LogView). log_after l (entries (segments_of done.working.walks))) (first_is.log_is ∙ ap (λ k. log_after first_is.begun (frontier_log t k)) same-levels)
        ∙ sym (log_after-append first_is.begun (frontier_log t levels) (entries (segments_of done.working.walks)))))

    abbrev all_members : List (Member N)
    all_members = first_is.frontier.members ++ members_of t join none of seen levels tally of_fits (first ∷ others) (after ∷ afters) (done, rest)

    abbrev fold : List (Member N) → S
    fold ms = fold_of join none (of_member of) ms

    member-fits : (m : Member N) → fits (of_member of m)
    member-fits m = of_fits m.node (length m.path)

    -- the gathered sum is that of all visited nodes
    gathered-sum : (hand : Hand S) → IsGathered join none (hands_of (after ∷ afters)) hand → hand.sum ≡ fold all_members
    gathered-sum hand g =
        let fm = first_is.frontier.members in
        let own = done.working.members in
        let others_ones = members_of t join none of seen levels tally of_fits others afters rest in
        g.sum_is
        ∙ (ap₂ join (done-sum t join none of seen levels tally of_fits first after done ∙ ap (λ x. join x (fold own)) first_is.frontier.sum_is) (works-sum t join none of seen levels tally of_fits 2 others afters rest others_are)
        ∙ (tally.assoc (fold fm) (fold own) (fold others_ones) (fold-fits tally (of_member of) member-fits fm) (fold-fits tally (of_member of) member-fits own) (fold-fits tally (of_member of) member-fits others_ones)
        ∙ (ap (join (fold fm)) (sym (fold-append tally (of_member of) member-fits own others_ones)) ∙ sym (fold-append tally (of_member of) member-fits fm (own ++ others_ones)))))

    frontier-visited : AreVisited t (frontier_log t levels) first_is.frontier.members
    frontier-visited = subst (λ k. AreVisited t (frontier_log t k) first_is.frontier.members) same-levels first_is.frontier.are_visited

    all-members : (member_paths all_members ≡ visited_paths notes) × AllByRecursion (λ (m : Member N). at_path t m.path ≡ Some m.node) all_members
    all-members =
        let rest_ones = members_of t join none of seen levels tally of_fits (first ∷ others) (after ∷ afters) (done, rest) in
        let both = works-members t join none of seen levels tally of_fits (first ∷ others) (after ∷ afters) (done, rest) in (
          map-append (λ (m : Member N). m.path) first_is.frontier.members rest_ones
              ∙ (ap₂ (λ (x y : List (List ℕ)). x ++ y) frontier-visited.paths_are both.0
              ∙ sym (visited-append (frontier_log t levels) (entries (segments_of (flat_map (walks_by t levels) (one ∷ more)))))),
          AllByRecursion-append (λ (m : Member N). at_path t m.path ≡ Some m.node) first_is.frontier.members rest_ones frontier-visited.there both.1,
        )

    -- all that an ordered search finds
    pub ordered-found : (hand : Hand S) (logs : List R) → IsGathered join none (hands_of (after ∷ afters)) hand → logs ≡ logs_of (after ∷ afters) → IsOrderedFound t join none of seen (suc levels) workers hand logs
    ordered-found hand logs g logs_are =
        let answer = gathered-first t join none of seen levels workers first others after afters first_is others_are done rest none_heard count claims_are ranked bounded root hand g in
        record {
          first = answer;
          has_logs = λ path e. record {
            entries = worker_logs t levels ranked bounded root visited cut one more parts;
            are_logs = whole-logs t levels ranked bounded root visited cut one more parts reads workers (option_and_then (λ (p : PathValue). at_path t p.numbers) path)
                (ap suc (works-count others afters rest) ∙ workers_are) alone (visits-best t levels ranked bounded root visited cut one more parts path (e ∙ answer.path_is));
            each = subst (λ (ls : List R). AreLogsOf 1 (worker_logs t levels ranked bounded root visited cut one more parts) (map seen ls)) (sym logs_are) (first-log, works-logs 2 others afters rest others_are);
          };
          sum_is = λ never.
              gathered-sum hand g
              ∙ sum-whole t never 0 (visits notes) ranked root join none tally of of_fits (cuts notes) all_members (whole-cover t levels ranked root visited cut one more parts)
              (whole-attained t levels ranked bounded root visited cut one more parts reads) all-members.1 all-members.0;
        }

  module _ {sound : N → Type 0} (ranked : IsRanked sound t.children t.rank) (bounded : IsBounded sound t.children t.worth t.bound) (root : sound t.root)
      {fits : S → Type 0} (tally : IsTally fits join none) (of_fits : (n : N) (depth : ℕ) → fits (of n depth)) (workers : ℕ) where
    -- the stations and the reports of all workers
    pub reports-found : (first : Station) (others : List Station) (reports : List (RankedReport S R)) → IsFirstStation t join none of seen (suc levels) tasks first → AreFresh none seen 2 others
        → suc (length others) ≡ workers → (workers ≡ 1 → first.best.share ≡ first.best.best.seats)
        → AreRankedReports t join none of seen (suc levels) tasks (first ∷ others) reports → AllDone reports → (s : IsRankedSettled reports)
        → (hand : Hand S) (logs : List R) → IsGathered join none (hands_of (ranked_stations reports)) hand → logs ≡ logs_of (ranked_stations reports) → IsOrderedFound t join none of seen (suc levels) workers hand logs
    reports-found first others [] first_is others_are workers_are alone are all_done s hand logs g logs_are = absurd are
    reports-found first others (r ∷ reports) first_is others_are workers_are alone are all_done s hand logs g logs_are =
        let done = finished t join none of seen levels (first ∷ others) (r ∷ reports) are all_done in
        let head_is : s.first ≡ r = (let e = s.stands in cc) in
        let tail_is : s.rest ≡ reports = (let e = s.stands in cc) in
        let seat : best_with s.first.station.best (ranked_stations s.rest) ≡ best_with r.station.best (ranked_stations reports) =
        ap₂ (λ (a : RankedReport S R) (b : List (RankedReport S R)). best_with a.station.best (ranked_stations b)) head_is tail_is in
        ordered-found ranked bounded root tally of_fits workers first others r.station (ranked_stations reports) first_is others_are done.0 done.1
        (subst (λ (v : SeatView). AllByRecursion (λ x. x ≡ 0) v.heard) seat s.none_heard) s.count s.claimed
        (subst (λ (v : SeatView). All (λ x. (x ≡ 0) ⊎ Contains v.offered x) v.read) seat s.reads_offered) workers_are alone hand logs g logs_are

-- all that all workers have done is a whole search
pub worked-found : {N S R : Type 0} (t : SearchTree N) (join : S → S → S) (none : S) (of : N → ℕ → S) (seen : R → LogView) {sound : N → Type 0} (ranked : IsRanked sound t.children t.rank)
    (bounded : IsBounded sound t.children t.worth t.bound) (root : sound t.root) {fits : S → Type 0} (tally : IsTally fits join none) (of_fits : (n : N) (depth : ℕ) → fits (of n depth))
    → (depth workers : ℕ) (tasks : List Numbered) (reports : List (RankedReport S R)) → 1 ≤ depth → HasRankedWorked t join none of seen depth tasks workers reports → AllDone reports → IsRankedSettled reports
    → (hand : Hand S) (logs : List R) → IsGathered join none (hands_of (ranked_stations reports)) hand → logs ≡ logs_of (ranked_stations reports) → IsOrderedFound t join none of seen depth workers hand logs
worked-found {N} {S} {R} t join none of seen ranked bounded root tally of_fits zero workers tasks reports above w all_done s hand logs g logs_are = absurd (omega (arith, above))
worked-found {N} {S} {R} t join none of seen ranked bounded root tally of_fits (suc levels) workers tasks reports above w all_done s hand logs g logs_are =
    let w' = subst (λ (ts : List Numbered). HasRankedWorked t join none of seen (suc levels) ts workers reports) w.crew.first_is.frontier.tasks_are w in
    reports-found t join none of seen levels ranked bounded root tally of_fits workers w'.crew.first w'.crew.others reports w'.crew.first_is w'.crew.others_are w'.crew.count w'.crew.alone
    (subst (λ (bs : List (RankedStation S R)). AreRankedReports t join none of seen (suc levels) (tasks_of_tree t (suc levels)) bs reports) w'.crew.stands w'.are_reports) all_done s hand logs g logs_are
