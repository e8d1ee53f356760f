-- Why an ordered search was refused: a worker's log had no room for its next entry, or memory ran out.
use Rattle.std.proofs.Common.{◌≡◌, ℕ, suc, ◌+◌, ◌-◌, ◌<◌, ◌≤◌, ◌^◌, Some, None, Option, List, [], ◌∷◌, ◌++◌, map, length, refl, ap, sym, subst, ◌∙◌, append_assoc, arith}
use Rattle.std.specs.Prelude.{IfSome, IsSome}
use Rattle.std.specs.List.{AllByRecursion}
use Rattle.std.proofs.lemmas.Option.{none-some, same_Some}
use Rattle.yew_best.specs.Seats.{SeatView}
use Rattle.yew_crew.specs.Joining.{first_fault}
use Rattle.yew_crew.specs.declared.station.End.{End}
use Rattle.yew_crew.specs.declared.station.End.TheVariants.{Done, Stopped, Fault}
use Rattle.yew_laws.specs.SearchTree.{SearchTree, at_path}
use Rattle.yew_laws.specs.Tree.{IsRanked, IsBounded}
use Rattle.yew_log.specs.Groups.{sequential, in_order}
use Rattle.yew_log.specs.Items.{items_of}
use Rattle.yew_log.specs.Notes.{Note, path_of, path_numbers}
use Rattle.yew_log.specs.Segment.{entries, OneOfAKind}
use Rattle.yew_walk.specs.declared.fault.SearchFault.{SearchFault}
use Rattle.yew_walk.specs.declared.fault.SearchFault.TheVariants.{Memory, AuditFull, TooManyTasks}
use Rattle.yew_walk.specs.declared.keying.Keying.TheVariants.{Ranked}
use Rattle.yew_walk.specs.LogViews.{LogView, log_after}
use Rattle.yew_walk.specs.Scenes.{IsCause}
use Rattle.yew_walk.specs.WorkerLogs.{segments_of}
use Rattle.yew_walk.proofs.PlainRuns.{log_after-told, log_after-number, fresh-told}
use Rattle.yew_walk.proofs.Sending.{log_after-append}
use Rattle.yew_ranked.specs.Frontier.{frontier_log}
use Rattle.yew_ranked.specs.Joining.{fault_in}
use Rattle.yew_ranked.specs.OrderedSearch.{IsOrderedFault}
use Rattle.yew_ranked.specs.RankedSearch.{key_of_judgement}
use Rattle.yew_ranked.specs.Stations.{IsFaulty, IsRankedReport, IsRankedEnd}
use Rattle.yew_ranked.specs.Tasks.{Numbered, tasks_of_tree}
use Rattle.yew_ranked.specs.Whole.{IsFreshStation, AreFresh, IsFirstStation, AreRankedReports, HasRankedWorked}
use Rattle.yew_ranked.specs.declared.station.RankedStation.{RankedStation}
use Rattle.yew_ranked.specs.declared.station.RankedReport.{RankedReport}
use Rattle.yew_ranked.proofs.AllEnds.{fault-stays}
use Rattle.yew_ranked.proofs.BrokenFronts.{all-front, kinds-front}
use Rattle.yew_ranked.proofs.WorkersLogs.{HasNoted, IsWorkersLog, first-log, others-log, noted-with, front-goes}

not-sequential : {X : Type 0} (depth : ℕ) → in_order depth ≡ sequential → X
not-sequential depth e = absurd (cc)

module _ {N : Type 0} (t : SearchTree N) (depth workers number : ℕ) (tells : Type 0) (few : length (items_of t depth) ≤ 2 ^ 20) (before after : LogView) (notes : List Note) where
  -- a worker's log, which was new and had these entries, had no room for its next entry, or memory ran out
  pub ordered-full : (fault : SearchFault) (ahead : List Note) → IsCause fault after ahead
      → IfSome before.told (λ ns. ns ≡ []) → before.number ≡ number → 1 ≤ number → number ≤ workers → after ≡ log_after before notes
      → IsWorkersLog t workers notes → IsWorkersLog t workers (notes ++ ahead) → (IsSome after.told → tells) → IsOrderedFault t depth workers tells fault
  ordered-full Memory ahead cause new number_is low high is log with_ahead telling = tt
  ordered-full (TooManyTasks n) ahead cause new number_is low high is log with_ahead telling = absurd cause
  ordered-full (AuditFull worker es ns) [] cause new number_is low high is log with_ahead telling = absurd cause
  ordered-full (AuditFull worker es ns) (next ∷ more) cause new number_is low high is log with_ahead telling =
      let full = cause.1 in
      let same : full.notes ≡ notes =
      subst (λ (o : Option (List Note)). IfSome o (λ told. told ≡ notes)) full.are_told (fresh-told before.told after.told notes new (ap (λ (l : LogView). l.told) is ∙ log_after-told before notes)) in
      let own : worker ≡ number = cause.0 ∙ (ap (λ (l : LogView). l.number) is ∙ (log_after-number before notes ∙ number_is)) in
      let front : notes ++ next ∷ more ≡ (notes ++ next ∷ []) ++ more = sym (append_assoc notes (next ∷ []) more) in (
        telling (subst IsSome (sym full.are_told) refl),
        (
          omega (arith, own, low),
          omega (arith, own, high),
          (λ many. absurd (omega (arith, many, few))),
          record {
            notes = notes;
            next = next;
            full = record {
              notes = notes;
              are_told = refl;
              entries_are = full.entries_are ∙ ap length same;
              numbers_are = full.numbers_are ∙ ap path_numbers same;
              within = full.within;
              past = full.past;
            };
            in_tree = all-front (λ note. IsSome (at_path t (path_of note))) (notes ++ next ∷ []) more (subst (AllByRecursion (λ note. IsSome (at_path t (path_of note)))) front with_ahead.in_tree);
            one_of_a_kind = kinds-front (notes ++ next ∷ []) more (subst OneOfAKind front with_ahead.one_of_a_kind);
            keeps = log.keeps;
            alone = log.alone;
            sequential_next = λ e. not-sequential depth e;
          },
        ),
      )

module _ {N S R : Type 0} (t : SearchTree N) {sound : N → Type 0} (is_ranked : IsRanked sound t.children t.rank) (bounded : IsBounded sound t.children t.worth t.bound) (root : sound t.root)
    (join : S → S → S) (none : S) (of : N → ℕ → S) (seen : R → LogView) (depth : ℕ) (above : 1 ≤ depth) (workers : ℕ) (few : length (items_of t depth) ≤ 2 ^ 20)
    (tells : Type 0) (telling : (log : R) → IsSome (seen log).told → tells) where
  -- what a worker whose walk was refused has noted, and what it would have with the entry ahead
  record AreNoted (before after : RankedStation S R) (fault : SearchFault) : Type 0 where
    pub notes : List Note
    pub ahead : List Note
    pub mid : SeatView
    pub noted : HasNoted t (tasks_of_tree t depth) before.best mid notes
    pub noted_ahead : HasNoted t (tasks_of_tree t depth) before.best after.best (notes ++ ahead)
    pub log_is : seen after.log ≡ log_after (seen before.log) notes
    pub cause : IsCause fault (seen after.log) ahead

  faulty-noted : (tasks : List Numbered) → tasks ≡ tasks_of_tree t depth → (before after : RankedStation S R) (fault : SearchFault) → IsFaulty t join none of seen tasks fault before after → AreNoted before after fault
  faulty-noted tasks tasks_are before after fault faulty =
      let w = faulty.working in
      let done = entries (segments_of w.walks) in
      let all = faulty.notes ++ faulty.ahead in
      let front = front-goes t (Ranked faulty.task.rank) faulty.now.best after.best faulty.notes faulty.ahead faulty.goes in
      let noted = noted-with t tasks w.places w.walks faulty.place faulty.task before.best faulty.now.best front.0 faulty.notes w.are_walks w.rising w.goes faulty.task_there faulty.above faulty.keeps front.1 in
      let noted_ahead = noted-with t tasks w.places w.walks faulty.place faulty.task before.best faulty.now.best after.best all w.are_walks w.rising w.goes faulty.task_there faulty.above faulty.keeps_ahead faulty.goes in
      record {
        notes = done ++ faulty.notes;
        ahead = faulty.ahead;
        mid = front.0;
        noted = subst (λ (ts : List Numbered). HasNoted t ts before.best front.0 (done ++ faulty.notes)) tasks_are noted;
        noted_ahead = subst (HasNoted t (tasks_of_tree t depth) before.best after.best) (sym (append_assoc done faulty.notes faulty.ahead))
            (subst (λ (ts : List Numbered). HasNoted t ts before.best after.best (done ++ all)) tasks_are noted_ahead);
        log_is = faulty.log_is ∙ (ap (λ l. log_after l faulty.notes) w.log_is ∙ sym (log_after-append (seen before.log) done faulty.notes));
        cause = faulty.cause;
      }

  -- a report whose fault is one of the whole search
  abbrev IsExplained : RankedReport S R → Type 0
  IsExplained report = (fault : SearchFault) → report.end ≡ Fault fault → IsOrderedFault t depth workers tells fault

  -- of a worker that is not the first
  other-explained : (tasks : List Numbered) → tasks ≡ tasks_of_tree t depth → (number : ℕ) (station : RankedStation S R) (report : RankedReport S R) → IsFreshStation none seen number station
      → IsRankedReport t join none of seen tasks station report → 2 ≤ number → number ≤ workers → IsExplained report
  other-explained tasks tasks_are number station report fresh is low high fault e =
      let faulty = subst (IsRankedEnd t join none of seen tasks station report.station) e is.ends in
      let are = faulty-noted tasks tasks_are station report.station fault faulty in
      let several : 1 < workers = omega (arith, low, high) in
      ordered-full t depth workers number tells few (seen station.log) (seen report.station.log) are.notes fault are.ahead are.cause fresh.log.told fresh.log.number_is (omega (arith, low)) high are.log_is
      (others-log t is_ranked bounded root depth above workers station.best are.mid are.notes are.noted several)
      (others-log t is_ranked bounded root depth above workers station.best report.station.best (are.notes ++ are.ahead) are.noted_ahead several)
      (telling report.station.log)

  others-explained : (tasks : List Numbered) → tasks ≡ tasks_of_tree t depth → (number : ℕ) (stations : List (RankedStation S R)) (reports : List (RankedReport S R)) → AreFresh none seen number stations
      → AreRankedReports t join none of seen depth tasks stations reports → 2 ≤ number → number + length stations ≤ suc workers → AllByRecursion IsExplained reports
  others-explained tasks tasks_are number [] [] fresh are low high = tt
  others-explained tasks tasks_are number [] (r ∷ rs) fresh are low high = absurd are
  others-explained tasks tasks_are number (s ∷ ss) [] fresh are low high = absurd are
  others-explained tasks tasks_are number (s ∷ ss) (r ∷ rs) fresh are low high =
      (other-explained tasks tasks_are number s r fresh.0 are.0 low (omega (arith, high)), others-explained tasks tasks_are (suc number) ss rs fresh.1 are.1 (omega (arith, low)) (omega (arith, high)))

  -- of the first worker
  first-explained : (tasks : List Numbered) (station : RankedStation S R) (report : RankedReport S R) → IsFirstStation t join none of seen depth tasks station
      → IsRankedReport t join none of seen tasks station report → 1 ≤ workers → (workers ≡ 1 → station.best.share ≡ station.best.best.seats) → IsExplained report
  first-explained tasks station report first is some share fault e =
      let walked = first.frontier in
      let front = frontier_log t (depth - 1) in
      let faulty = subst (IsRankedEnd t join none of seen tasks station report.station) e is.ends in
      let are = faulty-noted tasks walked.tasks_are station report.station fault faulty in
      let offered : station.best.offered ≡ map key_of_judgement walked.visited =
      ap (λ (s : SeatView). s.offered) first.seat_is ∙ (walked.offered_is ∙ ap (λ keys. keys ++ map key_of_judgement walked.visited) first.none_offered) in
      let log_is : seen report.station.log ≡ log_after first.begun (front ++ are.notes) =
      are.log_is ∙ (ap (λ l. log_after l are.notes) first.log_is ∙ sym (log_after-append first.begun front are.notes)) in
      ordered-full t depth workers 1 tells few first.begun (seen report.station.log) (front ++ are.notes) fault are.ahead are.cause first.fresh_log.told first.fresh_log.number_is (omega arith) some log_is
      (first-log t is_ranked bounded root depth above workers walked.visited station.best are.mid are.notes walked.judgements.visits_are walked.judgements.in_items offered share are.noted)
      (subst (IsWorkersLog t workers) (sym (append_assoc front are.notes are.ahead))
      (first-log t is_ranked bounded root depth above workers walked.visited station.best report.station.best (are.notes ++ are.ahead) walked.judgements.visits_are walked.judgements.in_items offered share are.noted_ahead))
      (telling report.station.log)

module _ {N S R : Type 0} (t : SearchTree N) {sound : N → Type 0} (is_ranked : IsRanked sound t.children t.rank) (bounded : IsBounded sound t.children t.worth t.bound) (root : sound t.root)
    (join : S → S → S) (none : S) (of : N → ℕ → S) (seen : R → LogView) (tells : Type 0) (telling : (log : R) → IsSome (seen log).told → tells) where
  -- each report's fault is one of the whole search
  all-explained : (depth workers : ℕ) (tasks : List Numbered) (first : RankedStation S R) (others : List (RankedStation S R)) (reports : List (RankedReport S R)) → 1 ≤ depth
      → IsFirstStation t join none of seen depth tasks first → AreFresh none seen 2 others → suc (length others) ≡ workers → (workers ≡ 1 → first.best.share ≡ first.best.best.seats)
      → AreRankedReports t join none of seen depth tasks (first ∷ others) reports → AllByRecursion (λ (r : RankedReport S R). (why : SearchFault) → r.end ≡ Fault why → IsOrderedFault t depth workers tells why) reports
  all-explained depth workers tasks first others [] above first_is others_are count share are = absurd are
  all-explained depth workers tasks first others (r ∷ rs) above first_is others_are count share are =
      let few = first_is.frontier.few in (
        first-explained t is_ranked bounded root join none of seen depth above workers few tells telling tasks first r first_is are.0 (omega (arith, count)) share,
        others-explained t is_ranked bounded root join none of seen depth above workers few tells telling tasks first_is.frontier.tasks_are 2 others rs others_are are.1 (omega arith) (omega (arith, count)),
      )

  -- so the fault of the first report that has one is one of the whole search
  first-fault : (P : SearchFault → Type 0) (reports : List (RankedReport S R)) (why : SearchFault) → AllByRecursion (λ (r : RankedReport S R). (own : SearchFault) → r.end ≡ Fault own → P own) reports
      → fault_in None reports ≡ Some why → P why
  first-fault P [] why all e = absurd (none-some why e)
  first-fault P (r ∷ rs) why all e = by (first-fault P rs why all.1) r.end refl e
    where
      by : (fault_in None rs ≡ Some why → P why) → (end : End) → r.end ≡ end → fault_in (first_fault None end) rs ≡ Some why → P why
      by later Done is e = later e
      by later Stopped is e = later e
      by later (Fault own) is e = subst P (same_Some own why (sym (fault-stays own rs) ∙ e)) (all.0 own is)

  pub worked-explained : (depth workers : ℕ) (tasks : List Numbered) (reports : List (RankedReport S R)) (why : SearchFault) → 1 ≤ depth
      → HasRankedWorked t join none of seen depth tasks workers reports → fault_in None reports ≡ Some why → IsOrderedFault t depth workers tells why
  worked-explained depth workers tasks reports why above worked e =
      let crew = worked.crew in
      first-fault (IsOrderedFault t depth workers tells) reports why
      (all-explained depth workers tasks crew.first crew.others reports above crew.first_is crew.others_are crew.count crew.alone
      (subst (λ stations. AreRankedReports t join none of seen depth tasks stations reports) crew.stands worked.are_reports)) e
