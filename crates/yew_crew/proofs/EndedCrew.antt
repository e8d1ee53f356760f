-- A crew that came to its end without a fault: what its reports tell, what is left, and what the caller walked of it make up a whole search.
use Rattle.std.proofs.Common.{◌≡◌, ℕ, suc, ◌+◌, ◌^◌, ◌<◌, ◌≤◌, ◌⊎◌, List, [], ◌∷◌, ◌++◌, ◌∙◌, Option, Some, None, All, map, length, refl, sym, ap, ap₂, subst, arith, inl, inr, ⊎_elim, length-append}
use Rattle.std.specs.List.{AllByRecursion, Contains, sum_by}
use Rattle.std.specs.Option.{option_map}
use Rattle.std.proofs.lemmas.List.Elements.{recursion_from_All, All-from_recursion}
use Rattle.std.proofs.lemmas.List.Sums.{sum_by-append, sum_by-cons}
use Rattle.std.proofs.lemmas.Option.{none-some}
use Rattle.yew_best.specs.Seats.{SeatView}
use Rattle.yew_laws.specs.Bag.{SameBag, PartOfBag}
use Rattle.yew_laws.specs.Fold.{IsTally}
use Rattle.yew_laws.specs.Order.{is_path}
use Rattle.yew_laws.specs.SearchTree.{SearchTree, at_path, below}
use Rattle.yew_laws.specs.Tasks.{Members, members_of, IsAmong}
use Rattle.yew_laws.specs.Tree.{IsRanked, IsBounded}
use Rattle.yew_laws.specs.declared.problem.Task.{Task}
use Rattle.yew_laws.proofs.Below.{below-unfolds}
use Rattle.yew_laws.proofs.Members.{AllByRecursion-append, AllByRecursion-map, AllByRecursion-weaker}
use Rattle.yew_laws.proofs.PathTests.{is_path-same, is_path-is}
use Rattle.yew_laws.proofs.TaskMembers.{among-task}
use Rattle.yew_laws.proofs.Weights.{part-all}
use Rattle.yew_log.specs.Notes.{Judgement, paths}
use Rattle.yew_log.specs.Lawful.{tasks_of}
use Rattle.yew_log.specs.Segment.{Segment, entries}
use Rattle.yew_mail.specs.Closing.{AreFor}
use Rattle.yew_pool.specs.Passes.{PassView}
use Rattle.yew_mail.specs.Seats.{SeatView as MailSeatView}
use Rattle.yew_stack.specs.Splits.{paths_of}
use Rattle.yew_walk.specs.LogViews.{LogView}
use Rattle.yew_walk.specs.declared.hand.Hand.{Hand}
use Rattle.yew_crew.specs.Crews.{AreReports, IsCrewWork, IsFresh, stations_of, best_with, tasks_with}
use Rattle.yew_crew.specs.Groups.{Group, taken, sent, together}
use Rattle.yew_crew.specs.Joining.{fault_in, passes_of, seats_of}
use Rattle.yew_crew.specs.OpenSeats.{OpenSeatView, IsExact}
use Rattle.yew_crew.specs.Reports.{IsDone, IsEndDone}
use Rattle.yew_crew.specs.Resting.{IsAllLeft, IsRested}
use Rattle.yew_crew.specs.Starting.{IsBegun, AreBegun, IsCrew}
use Rattle.yew_crew.specs.Stations.{Searched, searched, IsSameStation}
use Rattle.yew_crew.specs.declared.coord.Coord.{Coord}
use Rattle.yew_crew.specs.declared.coord.Coord.TheVariants.{Depth}
use Rattle.yew_crew.specs.declared.station.Report.{Report}
use Rattle.yew_crew.specs.declared.station.Shared.{Shared}
use Rattle.yew_crew.specs.declared.station.Station.{Station}
use Rattle.yew_best.proofs.Heard.{unoffered-nil}
use Rattle.yew_crew.proofs.CrewOver.{before-first, joined-first, HasBegun, crew-begun, begun-fresh, begun-alone, each-begun, done-of, done-all, new-station, all-ended}
use Rattle.yew_crew.proofs.CrewWork.{crew-work}
use Rattle.yew_crew.proofs.Finished.{Finish, all_of}
use Rattle.yew_crew.proofs.GroupLaws.{root-taken}
use Rattle.yew_crew.proofs.KnownBefore.{known-before}
use Rattle.yew_crew.proofs.LeftTasks.{pool-closed, mail-closed}
use Rattle.yew_walk.proofs.NearBest.{at_path-sound}
use Rattle.yew_crew.proofs.RestEnds.{IsRestWork, AreDone, finishes}
use Rattle.yew_crew.proofs.RestWork.{rest-work}
use Rattle.yew_crew.proofs.WholeCrew.{IsCrewEnd, done-worked, all_of-groups}

-- the seat of the first worker is joined to one that has read, offered and heard nothing
abbrev before-first_best : SeatView → SeatView
before-first_best b = record b { share = 0; read = []; offered = []; heard = [] }

module _ {N S R : Type 0} where
  joined-best : (first : Station N S R) (rest : List (Station N S R)) → best_with (before-first_best first.best) (first ∷ rest) ≡ best_with first.best rest
  joined-best first rest =
      let z : 0 + first.best.share ≡ first.best.share = omega arith in
      ap₂ (λ (n : ℕ) (l : List ℕ). best_with (record first.best { share = n; heard = l }) rest) z (unoffered-nil first.best.heard)

  -- a joined seat keeps its own last count
  last-kept : (rest : List (Station N S R)) (seat : OpenSeatView) → ((tasks_with seat rest).last ≡ seat.last) × ((tasks_with seat rest).knew ≡ seat.knew)
  last-kept [] seat = (refl, refl)
  last-kept (s ∷ ss) seat = last-kept ss _

-- where no segment stands for a task, there is none
no-segments : (segments : List Segment) → length (tasks_of segments) ≡ 0 → segments ≡ []
no-segments [] e = refl
no-segments (s ∷ ss) e = absurd (omega arith)

pub ones : {X : Type 0} (xs : List X) → sum_by (λ _. 1) xs ≡ length xs
ones [] = refl
ones (x ∷ xs) = let s = sum_by-cons (λ _. 1) x xs in let r = ones xs in omega arith

pub paths-count : {N : Type 0} (tasks : List (Task N)) → length (paths_of tasks) ≡ length tasks
paths-count [] = refl
paths-count (x ∷ xs) = ap suc (paths-count xs)

-- something lies at or below a path of the tree
abbrev IsThere : {N : Type 0} → SearchTree N → List ℕ → Type 0
IsThere t path = 0 < length (below t path)

module _ {N : Type 0} (t : SearchTree N) {sound : N → Type 0} (ranked : IsRanked sound t.children t.rank) (bounded : IsBounded sound t.children t.worth t.bound) (root_sound : sound t.root) where
  there-at : (path : List ℕ) (n : N) → at_path t path ≡ Some n → IsThere t path
  there-at path n e = let u = ap length (below-unfolds t ranked path n e (at_path-sound t ranked bounded root_sound path n e)) in omega (arith, u)

  there-of : (value : N → ℕ) (path : List ℕ) (v : ℕ) → option_map value (at_path t path) ≡ Some v → IsThere t path
  there-of value path v = by (at_path t path) refl
    where
      by : (found : Option N) → at_path t path ≡ found → option_map value found ≡ Some v → IsThere t path
      by None e w = absurd (none-some v w)
      by (Some n) e w = there-at path n e

  judged-there : (value : N → ℕ) (js : List Judgement) → AllByRecursion (λ (j : Judgement). option_map value (at_path t j.path) ≡ Some j.value) js → AllByRecursion (IsThere t) (paths js)
  judged-there value [] a = tt
  judged-there value (j ∷ js) a = (there-of value j.path j.value a.0, judged-there value js a.1)

  tasks-there : (tasks : List (Task N)) → AllByRecursion (IsAmong (members_of t)) tasks → AllByRecursion (IsThere t) (paths_of tasks)
  tasks-there tasks a = AllByRecursion-map (IsThere t) (λ (task : Task N). task.path.numbers) tasks
      (AllByRecursion-weaker (IsAmong (members_of t)) (λ (task : Task N). IsThere t task.path.numbers)
      (λ task among. there-at task.path.numbers task.node (among-task t ranked root_sound task among).1) tasks a)

module _ {N S R : Type 0} (t : SearchTree N) (join : S → S → S) (none : S) (of : N → ℕ → S) (seen : R → LogView) (coord : Coord) (gap : ℕ) (shared : Shared N) where
  -- What holds of a station and what its worker made of it holds of all stations that reports hand back
  each-after : (Q : Station N S R → Type 0) → ((place made : ℕ) (put : List (Task N)) (b a : Station N S R) → IsBegun (members_of t) none seen shared place made put b → IsSameStation b a → Q a)
      → (place : ℕ) (bs : List (Station N S R)) (rs : List (Report N S R)) → AreBegun (members_of t) none seen shared place bs → AreReports (searched t join none of seen coord gap) bs rs
      → AllByRecursion (λ (r : Report N S R). Q r.station) rs
  each-after Q f place [] [] b a = tt
  each-after Q f place [] (r ∷ rs) b a = absurd a
  each-after Q f place (x ∷ xs) [] b a = absurd a
  each-after Q f place (x ∷ xs) (r ∷ rs) b a = (f place 0 [] x r.station b.0 a.0.same, each-after Q f (suc place) xs rs b.1 a.1)

  pub reports-after : (Q : Station N S R → Type 0) → ((place made : ℕ) (put : List (Task N)) (b a : Station N S R) → IsBegun (members_of t) none seen shared place made put b → IsSameStation b a → Q a)
      → (workers : ℕ) (bs : List (Station N S R)) (rs : List (Report N S R)) → IsCrew (members_of t) none seen shared workers bs → AreReports (searched t join none of seen coord gap) bs rs
      → AllByRecursion (λ (r : Report N S R). Q r.station) rs
  reports-after Q f workers bs [] crew are = tt
  reports-after Q f workers bs (r ∷ rs) crew are =
      let a = subst (λ (l : List (Station N S R)). AreReports (searched t join none of seen coord gap) l (r ∷ rs)) crew.stands are in
      (f 0 1 (crew.root ∷ []) crew.first r.station crew.first_is a.0.same, each-after Q f 1 crew.others rs crew.others_are a.1)

  pub all-after : (Q : Station N S R → Type 0) → ((place made : ℕ) (put : List (Task N)) (b a : Station N S R) → IsBegun (members_of t) none seen shared place made put b → IsSameStation b a → Q a)
      → (workers : ℕ) (bs : List (Station N S R)) (rs : List (Report N S R)) → IsCrew (members_of t) none seen shared workers bs → AreReports (searched t join none of seen coord gap) bs rs → AllByRecursion Q (stations_of rs)
  all-after Q f workers bs rs crew are = AllByRecursion-map Q (λ (r : Report N S R). r.station) rs (reports-after Q f workers bs rs crew are)

  -- a share of 1 each adds up to the number of workers
  ones-after : (f : Station N S R → ℕ) → ((place made : ℕ) (put : List (Task N)) (b a : Station N S R) → IsBegun (members_of t) none seen shared place made put b → IsSameStation b a → f a ≡ 1)
      → (place : ℕ) (bs : List (Station N S R)) (rs : List (Report N S R)) → AreBegun (members_of t) none seen shared place bs → AreReports (searched t join none of seen coord gap) bs rs
      → sum_by f (stations_of rs) ≡ length bs
  ones-after f one place [] [] b a = refl
  ones-after f one place [] (r ∷ rs) b a = absurd a
  ones-after f one place (x ∷ xs) [] b a = absurd a
  ones-after f one place (x ∷ xs) (r ∷ rs) b a =
      let here = one place 0 [] x r.station b.0 a.0.same in let rest = ones-after f one (suc place) xs rs b.1 a.1 in let c = sum_by-cons f r.station (stations_of rs) in omega arith

  pub shares-after : (f : Station N S R → ℕ) → ((place made : ℕ) (put : List (Task N)) (b a : Station N S R) → IsBegun (members_of t) none seen shared place made put b → IsSameStation b a → f a ≡ 1)
      → (workers : ℕ) (bs : List (Station N S R)) (rs : List (Report N S R)) → IsCrew (members_of t) none seen shared workers bs → AreReports (searched t join none of seen coord gap) bs rs
      → sum_by f (stations_of rs) ≡ workers
  shares-after f one workers bs [] crew are = absurd (subst (λ (l : List (Station N S R)). AreReports (searched t join none of seen coord gap) l []) crew.stands are)
  shares-after f one workers bs (r ∷ rs) crew are =
      let a = subst (λ (l : List (Station N S R)). AreReports (searched t join none of seen coord gap) l (r ∷ rs)) crew.stands are in
      let here = one 0 1 (crew.root ∷ []) crew.first r.station crew.first_is a.0.same in let rest = ones-after f one 1 crew.others rs crew.others_are a.1 in
      let c = sum_by-cons f r.station (stations_of rs) in let k = crew.count in omega arith

module _ {N S R : Type 0} (t : SearchTree N) (join : S → S → S) (none : S) (of : N → ℕ → S) (seen : R → LogView) (coord : Coord) (gap : ℕ) (shared : Shared N) (workers : ℕ)
    (begun : List (Station N S R)) (first : Report N S R) (rest : List (Report N S R)) (left : List (Task N)) (word : ℕ) where
  -- All workers have reported, none of them a fault; the count was loaded by the joined seat; and these tasks are all that was left
  pub record AreOver : Type 0 where
    pub crew : IsCrew (members_of t) none seen shared workers begun
    pub are : AreReports (searched t join none of seen coord gap) begun (first ∷ rest)
    pub none_faulty : fault_in None (first ∷ rest) ≡ None
    pub exact : IsExact (tasks_with first.station.tasks (stations_of rest)) word
    pub all_left : IsAllLeft (passes_of (stations_of (first ∷ rest))) (seats_of (stations_of (first ∷ rest))) left
    pub few : length left < 2 ^ 64

  module _ (o : AreOver) {sound : N → Type 0} (ranked : IsRanked sound t.children t.rank) (bounded : IsBounded sound t.children t.worth t.bound) (root_sound : sound t.root)
      {fits : S → Type 0} (tally : IsTally fits join none) (of_fits : (n : N) (depth : ℕ) → fits (of n depth)) where
    abbrev here : Searched S R N
    here = searched t join none of seen coord gap

    pub are-here : AreReports here (o.crew.first ∷ o.crew.others) (first ∷ rest)
    are-here = subst (λ (l : List (Station N S R)). AreReports here l (first ∷ rest)) o.crew.stands o.are

    begun-here : HasBegun (members_of t) none seen shared (o.crew.first ∷ o.crew.others)
    begun-here = subst (HasBegun (members_of t) none seen shared) o.crew.stands (crew-begun (members_of t) none seen shared workers begun o.crew)

    pub all_done : AllByRecursion (λ (r : Report N S R). IsEndDone r.end) (first ∷ rest)
    all_done = all-ended t join none of seen coord gap (members_of t) shared workers tally of_fits begun first rest word o.crew o.are o.none_faulty o.exact

    abbrev pub done : IsDone here o.crew.first first.station
    done = done-of t join none of seen coord gap (members_of t) shared workers tally of_fits o.crew.first first.station first.end are-here.0.ends all_done.0

    others : AreDone here workers tally of_fits 2 o.crew.others (stations_of rest)
    others = done-all t join none of seen coord gap (members_of t) shared workers tally of_fits 1 o.crew.others rest o.crew.others_are are-here.1 all_done.1

    abbrev own : Group N S
    own = done.work.group

    abbrev all_others : Group N S
    all_others = all_of join none (finishes here workers tally of_fits 2 o.crew.others (stations_of rest) others)

    abbrev both : Group N S
    both = together join own all_others

    work : IsCrewWork here both (before-first_best first.station.best) (before-first first.station.tasks) (o.crew.first ∷ o.crew.others) (first.station ∷ stations_of rest)
    work =
        let fs = finishes here workers tally of_fits 2 o.crew.others (stations_of rest) others in
        subst (λ (g : Group N S). IsCrewWork here (together join own g) (before-first_best first.station.best) (before-first first.station.tasks) (o.crew.first ∷ o.crew.others) (first.station ∷ stations_of rest))
        (all_of-groups join none fs)
        (crew-work here tally of_fits (own ∷ map (λ (f : Finish S R N). f.group) fs) (o.crew.first ∷ o.crew.others) (first.station ∷ stations_of rest) (before-first_best first.station.best) (before-first first.station.tasks) (
          begun-fresh (members_of t) none seen shared 0 1 (o.crew.root ∷ []) o.crew.first o.crew.first_is {fits = fits} tally.none_fits,
          each-begun (members_of t) none seen shared (IsFresh fits) (λ place x i. begun-fresh (members_of t) none seen shared place 0 [] x i {fits = fits} tally.none_fits) 1 o.crew.others o.crew.others_are,
        )
        ((done.work, refl), done-worked here workers tally of_fits 2 o.crew.others (stations_of rest) others))

    abbrev pool_rest : List (Task N)
    pool_rest = o.all_left.pool_left.rest

    abbrev mail_rest : List (Task N)
    mail_rest = o.all_left.mail_left.rest

    left-is : left ≡ pool_rest ++ mail_rest
    left-is = o.all_left.mail_left.appended ∙ ap (λ (l : List (Task N)). l ++ mail_rest) o.all_left.pool_left.appended

    pool-here : SameBag (both.took ++ paths_of pool_rest) ([] ∷ both.put)
    pool-here = pool-closed (members_of t) none seen shared here both (before-first_best first.station.best) (before-first first.station.tasks) (o.crew.first ∷ o.crew.others) (first.station ∷ stations_of rest) begun-here work pool_rest o.all_left.pool_left.bag

    mail-here : SameBag (both.got ++ paths_of mail_rest) both.given
    mail-here = mail-closed (members_of t) none seen shared here both (before-first_best first.station.best) (before-first first.station.tasks) (o.crew.first ∷ o.crew.others) (first.station ∷ stations_of rest) begun-here work mail_rest o.all_left.mail_left.bag

    tasks-here : SameBag (taken both ++ (paths_of pool_rest ++ paths_of mail_rest)) ([] ∷ sent both)
    tasks-here = record {
      weighs = λ h. (
          let a = pool-here.weighs h in let b = mail-here.weighs h in
          let c = sum_by-append h (taken both) (paths_of pool_rest ++ paths_of mail_rest) in
          let d = sum_by-append h both.took both.got in let e = sum_by-append h (paths_of pool_rest) (paths_of mail_rest) in
          let f = sum_by-append h both.took (paths_of pool_rest) in let g = sum_by-append h both.got (paths_of mail_rest) in
          let i = sum_by-cons h [] both.put in let j = sum_by-cons h [] (sent both) in let k = sum_by-append h both.put both.given in omega arith);
    }

    passes-for : All (λ (pass : PassView (Task N) (Members N)). pass.members ≡ Some (members_of t)) (passes_of (stations_of (first ∷ rest)))
    passes-for =
        All-from_recursion (λ (pass : PassView (Task N) (Members N)). pass.members ≡ Some (members_of t)) (passes_of (stations_of (first ∷ rest)))
        (AllByRecursion-map (λ (pass : PassView (Task N) (Members N)). pass.members ≡ Some (members_of t)) (λ (x : Station N S R). x.pool) (stations_of (first ∷ rest))
        (all-after t join none of seen coord gap shared (λ x. x.pool.members ≡ Some (members_of t)) (λ place made put b a is same. same.pass_members ∙ ap (λ (p : PassView (Task N) (Members N)). p.members) is.pool_is)
        workers begun (first ∷ rest) o.crew o.are))

    seats-for : AreFor (members_of t) (seats_of (stations_of (first ∷ rest)))
    seats-for =
        AllByRecursion-map (λ (m : MailSeatView (Task N) (Members N)). m.members ≡ Some (members_of t)) (λ (x : Station N S R). x.mail) (stations_of (first ∷ rest))
        (all-after t join none of seen coord gap shared (λ x. x.mail.members ≡ Some (members_of t)) (λ place made put b a is same. same.mail_members ∙ ap (λ (m : MailSeatView (Task N) (Members N)). m.members) is.mail_is)
        workers begun (first ∷ rest) o.crew o.are)

    left-there : AllByRecursion (IsThere t) (paths_of pool_rest ++ paths_of mail_rest)
    left-there =
        AllByRecursion-append (IsThere t) (paths_of pool_rest) (paths_of mail_rest)
        (tasks-there t ranked bounded root_sound pool_rest (recursion_from_All (IsAmong (members_of t)) pool_rest (o.all_left.pool_left.sound_rest (members_of t) passes-for)))
        (tasks-there t ranked bounded root_sound mail_rest (o.all_left.mail_left.are_sound (members_of t) seats-for))

    taken-there : AllByRecursion (IsThere t) (taken both)
    taken-there =
        part-all is_path is_path-same is_path-is (IsThere t) work.balanced.walked
        (AllByRecursion-append (IsThere t) (paths both.visits) (paths both.cuts) (judged-there t ranked bounded root_sound t.worth both.visits work.balanced.worths) (judged-there t ranked bounded root_sound t.bound both.cuts work.balanced.bounds))

    sent-part : PartOfBag (sent both) (taken both ++ (paths_of pool_rest ++ paths_of mail_rest))
    sent-part = record { weighs = λ h. (let a = tasks-here.weighs h in let b = sum_by-cons h [] (sent both) in omega arith) }

    all-there : AllByRecursion (IsThere t) (taken both ++ sent both)
    all-there =
        AllByRecursion-append (IsThere t) (taken both) (sent both) taken-there
        (part-all is_path is_path-same is_path-is (IsThere t) sent-part (AllByRecursion-append (IsThere t) (taken both) (paths_of pool_rest ++ paths_of mail_rest) taken-there left-there))

    -- what the joined seat at the open tasks tells of the group
    made-here : (tasks_with first.station.tasks (stations_of rest)).made ≡ 1 + both.made
    made-here =
        let a = ap (λ (v : OpenSeatView). v.made) (joined-first first.station (stations_of rest)) in let b = work.made_is in let c = begun-here.made in omega arith

    ended-here : (tasks_with first.station.tasks (stations_of rest)).ended ≡ both.ended
    ended-here =
        let a = ap (λ (v : OpenSeatView). v.ended) (joined-first first.station (stations_of rest)) in let b = work.ended_is in let c = begun-here.finished in omega arith

    busy : (0 < both.ended) ⊎ (0 < both.made)
    busy =
        let kept = last-kept (stations_of rest) first.station.tasks in
        ⊎_elim (λ (h : 0 < (tasks_with first.station.tasks (stations_of rest)).ended). inl (let e = ended-here in omega arith))
        (λ (h : 2 ^ 64 ≤ (tasks_with first.station.tasks (stations_of rest)).made). inr (let e = made-here in omega arith))
        (o.exact.last (kept.1 ∙ done.knew (ap (λ (v : OpenSeatView). v.knows) o.crew.first_is.tasks_is)) (kept.0 ∙ done.last_is))

    root-here : Contains (taken both) []
    root-here = root-taken t gap join none of both (paths_of pool_rest ++ paths_of mail_rest) work.balanced tasks-here all-there busy

    -- with one worker, the counts say that nothing is left
    none-left : rest ≡ [] → workers ≡ 1 → length left ≡ 0
    none-left alone one =
        let counts = done.counted
        (ap (λ (v : OpenSeatView). v.share) o.crew.first_is.tasks_is ∙ (sym one ∙ (sym o.crew.open_seats ∙ sym (ap (λ (v : OpenSeatView). v.tasks.seats) o.crew.first_is.tasks_is)))) in
        let made : first.station.tasks.made ≡ 1 + both.made = subst (λ (l : List (Report N S R)). (tasks_with first.station.tasks (stations_of l)).made ≡ 1 + both.made) alone made-here in
        let ended : first.station.tasks.ended ≡ both.ended = subst (λ (l : List (Report N S R)). (tasks_with first.station.tasks (stations_of l)).ended ≡ both.ended) alone ended-here in
        let a = work.balanced.made_are in let b = work.balanced.ended_are in
        let c = tasks-here.weighs (λ _. 1) in let d = ones (taken both ++ (paths_of pool_rest ++ paths_of mail_rest)) in let e = ones ([] ∷ sent both) in
        let f = length-append (taken both) (paths_of pool_rest ++ paths_of mail_rest) in let g = length-append (paths_of pool_rest) (paths_of mail_rest) in
        let h = paths-count pool_rest in let i = paths-count mail_rest in let j = ap length left-is in let k = length-append pool_rest mail_rest in
        let few = o.few in omega arith

    none-more : (bs : List (Station N S R)) (rs : List (Report N S R)) → AreReports here bs rs → bs ≡ [] → rs ≡ []
    none-more [] [] are e = refl
    none-more [] (r ∷ rs) are e = absurd are
    none-more (b ∷ bs) rs are e = absurd (let n = ap length e in omega arith)

    -- so there are several, or nothing is left
    pub several-here : (length left ≡ 0) ⊎ (1 < workers)
    several-here = by o.crew.others refl
      where
        by : (bs : List (Station N S R)) → o.crew.others ≡ bs → (length left ≡ 0) ⊎ (1 < workers)
        by [] e = inl (none-left (none-more o.crew.others rest are-here.1 e) (let c = o.crew.count in let n = ap length e in omega arith))
        by (b ∷ bs) e = inr (let c = o.crew.count in let n = ap length e in omega arith)

    module _ (seat : SeatView) (hand : Hand S) (log : R)
        (rested : IsRested (searched t join none of seen (Depth 0) gap) (paths_of left) (best_with first.station.best (stations_of rest)) first.station.hand first.station.log seat hand log)
        (closed : All (λ x. (x ≡ 0) ⊎ Contains seat.offered x) seat.read) where
      abbrev rested-work : IsRestWork here (entries done.segments.segments) first.station.hand first.station.log hand log
      rested-work = rest-work t join none of seen coord gap (entries done.segments.segments) pool_rest mail_rest left (best_with first.station.best (stations_of rest)) seat first.station.hand hand first.station.log log left-is
          (known-before here o.crew.first first.station (stations_of rest) done) rested

      reads-here : AllByRecursion (λ x. (x ≡ 0) ⊎ Contains (both.offered ++ rested-work.group.offered) x) (both.read ++ rested-work.group.read)
      reads-here =
          let seat0 = sym (joined-best first.station (stations_of rest)) in
          let read : seat.read ≡ both.read ++ rested.group.read = rested.reads ∙ ap (λ (l : List ℕ). l ++ rested.group.read) (ap (λ (b : SeatView). b.read) seat0 ∙ work.reads) in
          let offered : seat.offered ≡ both.offered ++ rested.group.offered = rested.offers ∙ ap (λ (l : List ℕ). l ++ rested.group.offered) (ap (λ (b : SeatView). b.offered) seat0 ∙ work.offers) in
          subst (λ (l : List ℕ). AllByRecursion (λ x. (x ≡ 0) ⊎ Contains l x) (both.read ++ rested.group.read)) offered
          (subst (λ (l : List ℕ). AllByRecursion (λ x. (x ≡ 0) ⊎ Contains seat.offered x) l) read (recursion_from_All (λ x. (x ≡ 0) ⊎ Contains seat.offered x) seat.read closed))

      none-walked : length left ≡ 0 → rested-work.segments ≡ []
      none-walked none =
          let g = length-append (paths_of pool_rest) (paths_of mail_rest) in
          let h = paths-count pool_rest in let i = paths-count mail_rest in let j = ap length left-is in let k = length-append pool_rest mail_rest in
          let bag = rested-work.tasks_are.weighs (λ _. 1) in let l = ones (tasks_of rested-work.segments) in let m = ones (paths_of pool_rest ++ paths_of mail_rest) in
          no-segments rested-work.segments (omega arith)

      pub over-ends : IsCrewEnd here workers tally of_fits o.crew.first first.station o.crew.others (stations_of rest) hand log
      over-ends = record {
        done = done;
        new = new-station t join none of seen coord gap (members_of t) shared workers tally of_fits 0 1 (o.crew.root ∷ []) o.crew.first o.crew.first_is;
        others = others;
        rest = rested-work;
        count = o.crew.count;
        alone = λ one. begun-alone (members_of t) none seen shared 0 1 (o.crew.root ∷ []) o.crew.first o.crew.first_is (o.crew.best_seats ∙ one);
        several = ⊎_elim (λ (none : length left ≡ 0). inl (none-walked none)) (λ (h : 1 < workers). inr h) several-here;
        pool = pool-here;
        mail = mail-here;
        reads = reads-here;
        root = root-here;
      }
