-- A fault of a worker is one of its crew: what all workers took and what is left is the root's task and what they sent, so no path has two entries of a kind.
use Rattle.std.proofs.Common.{◌≡◌, ℕ, suc, ◌+◌, ◌≤◌, List, [], ◌∷◌, ◌++◌, ◌∙◌, Some, None, length, refl, sym, ap, subst, arith}
use Rattle.std.specs.Prelude.{IfSome, IsSome}
use Rattle.std.specs.List.{AllByRecursion, sum_by}
use Rattle.std.proofs.lemmas.List.{map-append}
use Rattle.std.proofs.lemmas.List.Sums.{sum_by-append, sum_by-cons}
use Rattle.std.proofs.lemmas.Option.{same_Some}
use Rattle.yew_laws.specs.SearchTree.{SearchTree}
use Rattle.yew_laws.specs.Bag.{SameBag}
use Rattle.yew_laws.specs.Tasks.{members_of}
use Rattle.yew_laws.specs.Tree.{IsRanked, IsBounded}
use Rattle.yew_laws.specs.declared.problem.Task.{Task}
use Rattle.yew_laws.proofs.Bags.{same-map, same-part, part-left, part-trans}
use Rattle.yew_log.specs.Segment.{entries, OneOfAKind}
use Rattle.yew_mail.specs.Closing.{got_by}
use Rattle.yew_pool.specs.Passes.{all_took as all_passed}
use Rattle.yew_stack.specs.Splits.{paths_of}
use Rattle.yew_walk.specs.LogViews.{LogView}
use Rattle.yew_walk.specs.declared.fault.SearchFault.{SearchFault}
use Rattle.yew_crew.specs.CrewSearch.{IsCrewFault}
use Rattle.yew_crew.specs.Crews.{AreReports, stations_of, took_of, put_of, got_of, given_of}
use Rattle.yew_crew.specs.Joining.{first_fault, fault_in, passes_of, seats_of, AreParts}
use Rattle.yew_crew.specs.Reports.{IsEnd, IsDone, IsAlone, Moved}
use Rattle.yew_crew.specs.Resting.{IsAllLeft}
use Rattle.yew_crew.specs.Starting.{IsBegun, AreBegun, IsCrew, HasWorked}
use Rattle.yew_crew.specs.Stations.{Searched, searched, skeleton_of}
use Rattle.yew_crew.specs.declared.coord.Coord.{Coord}
use Rattle.yew_crew.specs.declared.joining.Parts.{Parts}
use Rattle.yew_crew.specs.declared.station.End.{End}
use Rattle.yew_crew.specs.declared.station.End.TheVariants.{Done, Stopped, Fault}
use Rattle.yew_crew.specs.declared.station.Report.{Report}
use Rattle.yew_crew.specs.declared.station.Shared.{Shared}
use Rattle.yew_crew.specs.declared.station.Station.{Station}
use Rattle.yew_crew.proofs.CrewOver.{begun-alone, crew-begun, fault-stays, took-passes, put-passes, got-seats, given-seats}
use Rattle.yew_crew.proofs.FullAudits.{doing_of, part-doing, faulty-crew}
use Rattle.yew_crew.proofs.OnceOnly.{Doing, IsDoing, all_took, all_sent, once-only}
use Rattle.yew_crew.proofs.SegmentSums.{taken-segments}
use Rattle.yew_crew.proofs.WalkedParts.{sent-dealt}

module _ {N S R : Type 0} (s : Searched S R N) where
  -- what a worker did that found no open task
  abbrev pub done_doing : (before after : Station N S R) → IsDone s before after → Doing
  done_doing before after done =
      record { notes = entries done.segments.segments; took = done.work.group.took ++ done.work.group.got; sent = done.work.group.put ++ done.work.group.given }

  done-doing : (before after : Station N S R) (done : IsDone s before after) → IsDoing s.tree (done_doing before after done)
  done-doing before after done =
      let g = done.work.group in
      let are = done.segments in
      let notes = entries are.segments in
      record {
        segments = are.segments;
        cut_up = refl;
        each = are.broken;
        taken_are = record {
          weighs = λ h. (let a = ap (sum_by h) (taken-segments s.tree are.segments are.walks.each) in let b = are.tasks_are.weighs h in omega arith);
        };
        sent_are = record {
          weighs = λ h. (
              let a = are.spawned_are.weighs h in let b = are.handed_are.weighs h in
              let c = sum_by-append h g.put g.given in let d = sent-dealt h notes in omega arith);
        };
      }

  -- what a worker did, however it came to its end
  abbrev pub end_doing : (before after : Station N S R) (end : End) → IsEnd s before after end → Doing
  end_doing before after Done is = done_doing before after is
  end_doing before after Stopped is = doing_of s before after [] is.part
  end_doing before after (Fault fault) is = doing_of s before after is.ahead is.part

  end-doing : (before after : Station N S R) (end : End) → (is : IsEnd s before after end) → IsDoing s.tree (end_doing before after end is)
  end-doing before after Done is = done-doing before after is
  end-doing before after Stopped is = part-doing s before after [] is.part
  end-doing before after (Fault fault) is = part-doing s before after is.ahead is.part

  -- the pass and the mail seat of a worker have grown by what it did
  record HasGrown (before after : Station N S R) (d : Doing) : Type 0 where
    pub took_is : (h : List ℕ → ℕ) → sum_by h (paths_of after.pool.took) + sum_by h (paths_of after.mail.got)
        ≡ (sum_by h (paths_of before.pool.took) + sum_by h (paths_of before.mail.got)) + sum_by h d.took
    pub sent_is : (h : List ℕ → ℕ) → sum_by h (paths_of after.pool.put) + sum_by h (paths_of after.mail.given)
        ≡ (sum_by h (paths_of before.pool.put) + sum_by h (paths_of before.mail.given)) + sum_by h d.sent

  moved-grown : (before after : Station N S R) (took put got given : List (List ℕ)) (d : Doing) → Moved before after took put got given
      → d.took ≡ took ++ got → d.sent ≡ put ++ given → HasGrown before after d
  moved-grown before after took put got given d moved took_are sent_are = record {
    took_is = λ h. (
        let a = moved.took_is.weighs h in let b = moved.got_is.weighs h in
        let c = sum_by-append h (paths_of before.pool.took) took in let e = sum_by-append h (paths_of before.mail.got) got in
        let f = ap (sum_by h) took_are in let g = sum_by-append h took got in omega arith);
    sent_is = λ h. (
        let a = moved.put_is.weighs h in let b = moved.given_is.weighs h in
        let c = sum_by-append h (paths_of before.pool.put) put in let e = sum_by-append h (paths_of before.mail.given) given in
        let f = ap (sum_by h) sent_are in let g = sum_by-append h put given in omega arith);
  }

  end-grown : (before after : Station N S R) (end : End) → (is : IsEnd s before after end) → HasGrown before after (end_doing before after end is)
  end-grown before after Done is =
      let g = is.work.group in moved-grown before after g.took g.put g.got g.given (done_doing before after is) is.work.moved refl refl
  end-grown before after Stopped is =
      let p = is.part in moved-grown before after p.took p.put p.got p.given (doing_of s before after [] p) p.moved refl refl
  end-grown before after (Fault fault) is =
      let p = is.part in moved-grown before after p.took p.put p.got p.given (doing_of s before after is.ahead p) p.moved refl refl

  -- what all workers did, in order
  abbrev pub doings : (befores : List (Station N S R)) (reports : List (Report N S R)) → AreReports s befores reports → List Doing
  doings [] [] are = []
  doings [] (r ∷ rs) are = absurd are
  doings (x ∷ xs) [] are = absurd are
  doings (x ∷ xs) (r ∷ rs) are = end_doing x r.station r.end are.0.ends ∷ doings xs rs are.1

  pub all-doings : (befores : List (Station N S R)) (reports : List (Report N S R)) → (are : AreReports s befores reports)
      → AllByRecursion (IsDoing s.tree) (doings befores reports are)
  all-doings [] [] are = tt
  all-doings [] (r ∷ rs) are = absurd are
  all-doings (x ∷ xs) [] are = absurd are
  all-doings (x ∷ xs) (r ∷ rs) are = (end-doing x r.station r.end are.0.ends, all-doings xs rs are.1)

  -- all passes and mail seats have grown by what all workers did
  record HaveGrown (befores afters : List (Station N S R)) (ds : List Doing) : Type 0 where
    pub took_is : (h : List ℕ → ℕ) → sum_by h (took_of afters) + sum_by h (got_of afters)
        ≡ (sum_by h (took_of befores) + sum_by h (got_of befores)) + sum_by h (all_took ds)
    pub sent_is : (h : List ℕ → ℕ) → sum_by h (put_of afters) + sum_by h (given_of afters)
        ≡ (sum_by h (put_of befores) + sum_by h (given_of befores)) + sum_by h (all_sent ds)

  all-grown : (befores : List (Station N S R)) (reports : List (Report N S R)) → (are : AreReports s befores reports)
      → HaveGrown befores (stations_of reports) (doings befores reports are)
  all-grown [] [] are = record { took_is = λ h. refl; sent_is = λ h. refl }
  all-grown [] (r ∷ rs) are = absurd are
  all-grown (x ∷ xs) [] are = absurd are
  all-grown (x ∷ xs) (r ∷ rs) are =
      let d = end_doing x r.station r.end are.0.ends in
      let ds = doings xs rs are.1 in
      let ys = stations_of rs in
      let here = end-grown x r.station r.end are.0.ends in
      let later = all-grown xs rs are.1 in
      record {
        took_is = λ h. (
            let a = here.took_is h in let b = later.took_is h in let c = sum_by-append h d.took (all_took ds) in
            let e = sum_by-append h (paths_of x.pool.took) (took_of xs) in let f = sum_by-append h (paths_of x.mail.got) (got_of xs) in
            let g = sum_by-append h (paths_of r.station.pool.took) (took_of ys) in
            let i = sum_by-append h (paths_of r.station.mail.got) (got_of ys) in omega arith);
        sent_is = λ h. (
            let a = here.sent_is h in let b = later.sent_is h in let c = sum_by-append h d.sent (all_sent ds) in
            let e = sum_by-append h (paths_of x.pool.put) (put_of xs) in let f = sum_by-append h (paths_of x.mail.given) (given_of xs) in
            let g = sum_by-append h (paths_of r.station.pool.put) (put_of ys) in
            let i = sum_by-append h (paths_of r.station.mail.given) (given_of ys) in omega arith);
      }

-- what passes took and mail seats got, with what is left, is what was put and given
left-makes : {N S R : Type 0} (afters : List (Station N S R)) (left : List (Task N)) → IsAllLeft (passes_of afters) (seats_of afters) left → (h : List ℕ → ℕ)
    → (sum_by h (took_of afters) + sum_by h (got_of afters)) + sum_by h (paths_of left) ≡ sum_by h (put_of afters) + sum_by h (given_of afters)
left-makes {N} {S} {R} afters left all h =
    let path : Task N → List ℕ = λ task. task.path.numbers in
    let pool = all.pool_left in let mail = all.mail_left in
    let a = (same-map path pool.bag).weighs h in
    let b = ap (sum_by h) (map-append path (all_passed (passes_of afters)) pool.rest) in
    let c = sum_by-append h (paths_of (all_passed (passes_of afters))) (paths_of pool.rest) in
    let d = ap (sum_by h) (took-passes afters) in let e = ap (sum_by h) (put-passes afters) in
    let f = (same-map path mail.bag).weighs h in
    let g = ap (sum_by h) (map-append path (got_by (seats_of afters)) mail.rest) in
    let i = sum_by-append h (paths_of (got_by (seats_of afters))) (paths_of mail.rest) in
    let j = ap (sum_by h) (got-seats afters) in let k = ap (sum_by h) (given-seats afters) in
    let left_is : left ≡ pool.rest ++ mail.rest = mail.appended ∙ ap (λ tasks. tasks ++ mail.rest) pool.appended in
    let l = ap (λ tasks. sum_by h (paths_of tasks)) left_is in
    let m = ap (sum_by h) (map-append path pool.rest mail.rest) in
    let n = sum_by-append h (paths_of pool.rest) (paths_of mail.rest) in omega arith

module _ {N S R : Type 0} (t : SearchTree N) {sound : N → Type 0} (ranked : IsRanked sound t.children t.rank)
    (bounded : IsBounded sound t.children t.worth t.bound) (root_sound : sound t.root)
    (join : S → S → S) (none : S) (of : N → ℕ → S) (seen : R → LogView) (coord : Coord) (gap : ℕ) (shared : Shared N) (workers : ℕ) where
  -- what is searched, and how
  abbrev ours : Searched S R N
  ours = searched t join none of seen coord gap

  -- all tasks that were taken or are left are the root's and those that were sent
  pub crew-tasks : (begun : List (Station N S R)) (reports : List (Report N S R)) (left : List (Task N))
      → IsCrew (members_of t) none seen shared workers begun → (are : AreReports ours begun reports)
      → IsAllLeft (passes_of (stations_of reports)) (seats_of (stations_of reports)) left
      → SameBag (all_took (doings ours begun reports are) ++ paths_of left) ([] ∷ all_sent (doings ours begun reports are))
  crew-tasks begun reports left crew are all =
      let ds = doings ours begun reports are in
      let new = crew-begun (members_of t) none seen shared workers begun crew in
      let grown = all-grown ours begun reports are in
      record {
        weighs = λ h. (
            let a = left-makes (stations_of reports) left all h in
            let b = grown.took_is h in let c = grown.sent_is h in
            let d = ap (sum_by h) new.took in let e = ap (sum_by h) new.put in let f = ap (sum_by h) new.got in let g = ap (sum_by h) new.given in
            let i = sum_by-cons h [] [] in let j = sum_by-cons h [] (all_sent ds) in
            let k = sum_by-append h (all_took ds) (paths_of left) in omega arith);
      }

  -- no worker has two entries of a kind for a path
  crew-once : (begun : List (Station N S R)) (reports : List (Report N S R)) (left : List (Task N))
      → IsCrew (members_of t) none seen shared workers begun → (are : AreReports ours begun reports)
      → IsAllLeft (passes_of (stations_of reports)) (seats_of (stations_of reports)) left
      → AllByRecursion (λ (d : Doing). OneOfAKind d.notes) (doings ours begun reports are)
  crew-once begun reports left crew are all =
      let ds = doings ours begun reports are in
      once-only t ranked bounded root_sound ds (all-doings ours begun reports are)
      (part-trans (part-left (all_took ds) (paths_of left)) (same-part (crew-tasks begun reports left crew are all)))

  -- a station as its worker begins at this place: its log is new and has its number, and of a crew of one it is alone
  record IsStarted (place : ℕ) (x : Station N S R) : Type 0 where
    pub new : IfSome (seen x.log).told (λ notes. notes ≡ [])
    pub number_is : (seen x.log).number ≡ place + 1
    pub alone : workers ≡ 1 → IsAlone x

  abbrev AreStarted : ℕ → List (Station N S R) → Type 0
  AreStarted place [] = Unit {0}
  AreStarted place (x ∷ xs) = IsStarted place x × AreStarted (suc place) xs

  begun-started : shared.best.seats ≡ workers → (place made : ℕ) (put : List (Task N)) (x : Station N S R)
      → IsBegun (members_of t) none seen shared place made put x → IsStarted place x
  begun-started seats place made put x is =
      record { new = is.told; number_is = is.log_number; alone = λ one. begun-alone (members_of t) none seen shared place made put x is (seats ∙ one) }

  all-started : shared.best.seats ≡ workers → (place : ℕ) (xs : List (Station N S R)) → AreBegun (members_of t) none seen shared place xs → AreStarted place xs
  all-started seats place [] are = tt
  all-started seats place (x ∷ xs) are = (begun-started seats place 0 [] x are.0, all-started seats (suc place) xs are.1)

  crew-started : (begun : List (Station N S R)) → IsCrew (members_of t) none seen shared workers begun → AreStarted 0 begun × (length begun ≤ workers)
  crew-started begun crew =
      subst (λ xs. AreStarted 0 xs × (length xs ≤ workers)) (sym crew.stands) (
        (begun-started crew.best_seats 0 1 (crew.root ∷ []) crew.first crew.first_is, all-started crew.best_seats 1 crew.others crew.others_are),
        let c = crew.count in omega arith,
      )

  -- the first fault is one of the crew
  found-fault : (tells : Type 0) → ((log : R) → IsSome (seen log).told → tells) → (fault : SearchFault) (place : ℕ)
      (xs : List (Station N S R)) (rs : List (Report N S R))
      → AreStarted place xs → place + length xs ≤ workers → (are : AreReports ours xs rs)
      → AllByRecursion (λ (d : Doing). OneOfAKind d.notes) (doings ours xs rs are)
      → fault_in None rs ≡ Some fault → IsCrewFault t gap (skeleton_of coord) workers tells fault
  found-fault tells telling fault place [] [] started low are once e = absurd (cc)
  found-fault tells telling fault place [] (r ∷ rs) started low are once e = absurd are
  found-fault tells telling fault place (x ∷ xs) [] started low are once e = absurd are
  found-fault tells telling fault place (x ∷ xs) (r ∷ rs) started low are once e =
      by r.end are.0.ends once.0 e (found-fault tells telling fault (suc place) xs rs started.1 (omega arith) are.1 once.1)
    where
      by : (end : End) (is : IsEnd ours x r.station end) → OneOfAKind (end_doing ours x r.station end is).notes
          → fault_in (first_fault None end) rs ≡ Some fault → (fault_in None rs ≡ Some fault → IsCrewFault t gap (skeleton_of coord) workers tells fault)
          → IsCrewFault t gap (skeleton_of coord) workers tells fault
      by Done is one e others = others e
      by Stopped is one e others = others e
      by (Fault own) is one e others =
          let same : Some own ≡ Some fault = sym (fault-stays rs own) ∙ e in
          subst (IsCrewFault t gap (skeleton_of coord) workers tells) (same_Some own fault same)
          (faulty-crew ours x r.station workers (place + 1) tells own is started.0.new started.0.number_is (omega arith) (omega arith)
          started.0.alone (telling r.station.log) one)

  -- The fault of the first worker that has one, after the pool and the mailboxes were ended, is one of the crew
  pub crew-fault : (tells : Type 0) (begun : List (Station N S R)) (reports : List (Report N S R)) (fault : SearchFault) (left : List (Task N))
      → IsCrew (members_of t) none seen shared workers begun
      → AreReports (searched t join none of seen coord gap) begun reports
      → fault_in None reports ≡ Some fault
      → IsAllLeft (passes_of (stations_of reports)) (seats_of (stations_of reports)) left
      → ((log : R) → IsSome (seen log).told → tells)
      → IsCrewFault t gap (skeleton_of coord) workers tells fault
  crew-fault tells begun reports fault left crew are faulty all telling =
      let started = crew-started begun crew in
      found-fault tells telling fault 0 begun reports started.0 (let low = started.1 in omega arith) are (crew-once begun reports left crew are all) faulty

  -- so is the fault of the parts that a crew carried, which has worked
  pub worked-fault : {fits : S → Type 0} (tells : Type 0) (reports : List (Report N S R)) (parts : Parts N S R) (fault : SearchFault) (left : List (Task N))
      → HasWorked (searched t join none of seen coord gap) fits (members_of t) workers shared reports
      → AreParts reports parts
      → parts.fault ≡ Some fault
      → IsAllLeft parts.passes.items parts.seats.items left
      → ((log : R) → IsSome (seen log).told → tells)
      → IsCrewFault t gap (skeleton_of coord) workers tells fault
  worked-fault tells reports parts fault left worked are faulty all telling =
      let stations = stations_of reports in
      crew-fault tells worked.begun reports fault left worked.crew worked.are_reports (sym are.fault ∙ faulty)
      (subst (λ seats. IsAllLeft (passes_of stations) seats left) are.seats (subst (λ passes. IsAllLeft passes parts.seats.items left) are.passes all)) telling
