-- A crew in which every worker came to its end: its logs are those of a whole search, its hands hold the best, and their sum is that of the tree where nothing is cut.
use Rattle.std.proofs.Common.{◌≡◌, ℕ, suc, ◌<◌, ◌⊎◌, List, [], ◌∷◌, ◌++◌, ◌∙◌, Option, Some, None, option_and_then, map, length, refl, sym, ap, subst, arith, inl, inr}
use Rattle.std.specs.Prelude.{IfSome}
use Rattle.std.specs.List.{AllByRecursion, Contains}
use Rattle.std.proofs.lemmas.Option.{none-some}
use Rattle.yew_laws.specs.Bag.{SameBag}
use Rattle.yew_laws.specs.Fold.{Fold, IsTally}
use Rattle.yew_laws.specs.Incumbent.{Incumbent}
use Rattle.yew_laws.specs.PathValue.{PathValue}
use Rattle.yew_laws.specs.SearchTree.{SearchTree, at_path}
use Rattle.yew_laws.specs.Tree.{IsRanked, IsBounded}
use Rattle.yew_log.specs.Notes.{Note, Judgement, values, maximum, visits}
use Rattle.yew_log.specs.Segment.{entries}
use Rattle.yew_log.specs.WholeSearch.{IsBestVisit, joined}
use Rattle.yew_walk.specs.Hands.{incumbent_of, numbers_of}
use Rattle.yew_walk.specs.PlainSearch.{NeverCuts}
use Rattle.yew_walk.specs.declared.hand.Hand.{Hand}
use Rattle.yew_walk.specs.Answers.{IsNear}
use Rattle.yew_crew.specs.CrewSearch.{HasCrewLogs}
use Rattle.yew_crew.specs.Gathering.{IsGathered}
use Rattle.yew_crew.specs.Groups.{Group, taken, together, all_together, IsBalanced, IsClosed}
use Rattle.yew_crew.specs.Crews.{AreWorked}
use Rattle.yew_crew.specs.Reports.{IsDone, IsAlone}
use Rattle.yew_crew.specs.Stations.{Searched, skeleton_of}
use Rattle.yew_crew.specs.declared.station.Station.{Station}
use Rattle.yew_walk.proofs.NearAnswers.{best-near}
use Rattle.yew_walk.proofs.BestFinds.{nothing, IsNamedBy, IsBestOf}
use Rattle.yew_crew.proofs.CrewClosed.{closed-all, left-below}
use Rattle.yew_crew.proofs.Finished.{Finish, AreFinished, all_of, notes_of, finished_hands, joined-visits, logs-kept, logs-whole, sums-whole, gathered-best}
use Rattle.yew_crew.proofs.GroupLaws.{idle-balanced, balanced-together, group-covers, group-attained}
use Rattle.yew_crew.proofs.RestEnds.{IsRestWork, IsNew, AreDone, finishes, first-finished, others-finished}
use Rattle.yew_crew.proofs.WholeAnswers.{sum-whole}

-- the node that an incumbent names is one of the best visits
pub names-best : {N : Type 0} (t : SearchTree N) (notes : List Note) (vs : List Judgement) (found : Incumbent) (path : Option PathValue)
    → visits notes ≡ vs → IsBestOf vs found → numbers_of path ≡ found.path
    → IfSome (option_and_then (λ (p : PathValue). at_path t p.numbers) path) (IsBestVisit t notes)
names-best t notes vs found None is best e = tt
names-best {N} t notes vs found (Some p) is best e = by (at_path t p.numbers) refl best.named
  where
    by : (node : Option N) → at_path t p.numbers ≡ node → (found ≡ nothing) ⊎ ((v : Judgement) × IsNamedBy vs found v) → IfSome node (IsBestVisit t notes)
    by None there named = tt
    by (Some n) there (inl none) = absurd (none-some p.numbers (sym (e ∙ ap (λ (i : Incumbent). i.path) none)))
    by (Some n) there (inr named) =
        let v = named.0 in
        let same : Some p.numbers ≡ Some v.path = e ∙ named.1.path_is in
        let at : p.numbers ≡ v.path = cc in
        record {
          visit = v;
          visited = subst (λ (us : List Judgement). Contains us v) (sym is) named.1.there;
          node_there = ap (at_path t) (sym at) ∙ there;
          greatest = sym named.1.worth_is ∙ (best.greatest ∙ ap (λ (us : List Judgement). maximum (values us)) (sym is));
        }

-- where there is one worker there are no others
no-others : {X : Type 0} (xs : List X) (P : X → Type 0) (workers : ℕ) → suc (length xs) ≡ workers → workers ≡ 1 → AllByRecursion P xs
no-others [] P workers count one = tt
no-others (x ∷ xs) P workers count one = absurd (omega arith)

module _ {N S R : Type 0} (s : Searched S R N) (workers : ℕ) {fits : S → Type 0} (tally : IsTally fits s.join s.none) (of_fits : (n : N) (depth : ℕ) → fits (s.of n depth)) where
  -- the groups of workers that came to their ends
  pub done-worked : (number : ℕ) (befores afters : List (Station N S R)) (are : AreDone s workers tally of_fits number befores afters)
      → AreWorked s (map (λ (f : Finish S R N). f.group) (finishes s workers tally of_fits number befores afters are)) befores afters
  done-worked number [] [] are = tt
  done-worked number [] (a ∷ afters) are = absurd are
  done-worked number (b ∷ befores) [] are = absurd are
  done-worked number (b ∷ befores) (a ∷ afters) are = ((are.0.1.work, refl), done-worked (suc number) befores afters are.1)

  finishes-count : (number : ℕ) (befores afters : List (Station N S R)) (are : AreDone s workers tally of_fits number befores afters)
      → length (finishes s workers tally of_fits number befores afters are) ≡ length befores
  finishes-count number [] [] are = refl
  finishes-count number [] (a ∷ afters) are = absurd are
  finishes-count number (b ∷ befores) [] are = absurd are
  finishes-count number (b ∷ befores) (a ∷ afters) are = ap suc (finishes-count (suc number) befores afters are.1)

  finishes-balanced : (number : ℕ) (befores afters : List (Station N S R)) (are : AreDone s workers tally of_fits number befores afters)
      → IsBalanced s.tree s.gap s.join s.none s.of (all_of s.join s.none (finishes s workers tally of_fits number befores afters are))
  finishes-balanced number [] [] are = idle-balanced s.tree s.gap s.join s.none tally s.of of_fits
  finishes-balanced number [] (a ∷ afters) are = absurd are
  finishes-balanced number (b ∷ befores) [] are = absurd are
  finishes-balanced number (b ∷ befores) (a ∷ afters) are =
      balanced-together s.tree s.gap s.join s.none tally s.of of_fits are.0.1.work.group (all_of s.join s.none (finishes s workers tally of_fits (suc number) befores afters are.1)) are.0.1.work.balanced (finishes-balanced (suc number) befores afters are.1)

-- all groups of a list, and those of finished workers, are one
pub all_of-groups : {S R N : Type 0} (join : S → S → S) (none : S) (fs : List (Finish S R N))
    → all_together join none (map (λ (f : Finish S R N). f.group) fs) ≡ all_of join none fs
all_of-groups join none [] = refl
all_of-groups join none (f ∷ fs) = ap (together join f.group) (all_of-groups join none fs)

module _ {N S R : Type 0} (s : Searched S R N) (workers : ℕ) {fits : S → Type 0} (tally : IsTally fits s.join s.none) (of_fits : (n : N) (depth : ℕ) → fits (s.of n depth)) (before after : Station N S R) (befores afters : List (Station N S R)) (hand : Hand S) (log : R) where
  -- The first worker and the others came to their ends, and the caller walked all that they left, in the first one's place
  pub record IsCrewEnd : Type 0 where
    pub done : IsDone s before after
    pub new : IsNew s workers tally of_fits 1 before
    pub others : AreDone s workers tally of_fits 2 befores afters
    pub rest : IsRestWork s (entries done.segments.segments) after.hand after.log hand log
    pub count : suc (length befores) ≡ workers
    pub alone : workers ≡ 1 → IsAlone before
    pub several : (rest.segments ≡ []) ⊎ (1 < workers)
    pub pool : SameBag ((done.work.group.took ++ (all_of s.join s.none (finishes s workers tally of_fits 2 befores afters others)).took) ++ rest.group.took) ([] ∷ (done.work.group.put ++ (all_of s.join s.none (finishes s workers tally of_fits 2 befores afters others)).put))
    pub mail : SameBag ((done.work.group.got ++ (all_of s.join s.none (finishes s workers tally of_fits 2 befores afters others)).got) ++ rest.group.got) (done.work.group.given ++ (all_of s.join s.none (finishes s workers tally of_fits 2 befores afters others)).given)
    pub reads : AllByRecursion (λ x. (x ≡ 0) ⊎ Contains ((done.work.group.offered ++ (all_of s.join s.none (finishes s workers tally of_fits 2 befores afters others)).offered) ++ rest.group.offered) x) ((done.work.group.read ++ (all_of s.join s.none (finishes s workers tally of_fits 2 befores afters others)).read) ++ rest.group.read)
    pub root : Contains (taken (together s.join done.work.group (all_of s.join s.none (finishes s workers tally of_fits 2 befores afters others)))) []

  module _ (e : IsCrewEnd) {sound : N → Type 0} (ranked : IsRanked sound s.tree.children s.tree.rank) (bounded : IsBounded sound s.tree.children s.tree.worth s.tree.bound) (root_sound : sound s.tree.root) where
    -- all workers, in order
    abbrev pub ends : List (Finish S R N)
    ends = record { group = together s.join e.done.work.group e.rest.group; notes = entries (e.done.segments.segments ++ e.rest.segments); hand = hand; log = log } ∷ finishes s workers tally of_fits 2 befores afters e.others

    abbrev whole : Group N S
    whole = all_of s.join s.none ends

    whole-balanced : IsBalanced s.tree s.gap s.join s.none s.of whole
    whole-balanced =
        balanced-together s.tree s.gap s.join s.none tally s.of of_fits (together s.join e.done.work.group e.rest.group) (all_of s.join s.none (finishes s workers tally of_fits 2 befores afters e.others))
        (balanced-together s.tree s.gap s.join s.none tally s.of of_fits e.done.work.group e.rest.group e.done.work.balanced e.rest.balanced) (finishes-balanced s workers tally of_fits 2 befores afters e.others)

    whole-closed : IsClosed whole
    whole-closed = closed-all s.tree s.gap s.join s.none s.of e.done.work.group (all_of s.join s.none (finishes s workers tally of_fits 2 befores afters e.others)) e.rest.group e.pool e.mail e.rest.put_none e.rest.given_none e.reads

    whole-finished : AreFinished s workers 1 ends
    whole-finished = (
      first-finished s workers tally of_fits before after hand log e.done e.rest e.new.sum_none e.new.holds_none e.new.told e.new.totals e.new.number_is
          (left-below s.tree s.gap s.join s.none s.of ranked bounded root_sound e.done.work.group (all_of s.join s.none (finishes s workers tally of_fits 2 befores afters e.others)) e.rest.group whole-balanced whole-closed e.root) e.several e.alone,
      others-finished s workers tally of_fits 2 befores afters e.others (λ one. no-others befores IsAlone workers e.count one),
    )

    module _ (gathered : Hand S) (is_gathered : IsGathered s.join s.none (finished_hands ends) gathered) where
      -- the gathered hand holds the best of all visits
      whole-best : IsBestOf whole.visits (incumbent_of gathered)
      whole-best = gathered-best s workers 1 ends gathered whole-finished is_gathered

      -- a path that is that of the gathered hand answers the search, up to the gap
      pub crew-near : (path : Option PathValue) → numbers_of path ≡ (incumbent_of gathered).path → IsNear s.tree s.gap (incumbent_of gathered).worth path
      crew-near path path_is =
          best-near s.tree ranked bounded root_sound s.gap whole.visits whole.cuts (group-covers s.tree s.gap s.join s.none s.of whole whole-balanced whole-closed) (group-attained s.tree s.gap s.join s.none s.of whole whole-balanced whole-closed) (incumbent_of gathered) path whole-best path_is

      -- the logs that are handed back are those of the whole search, which has visited the solution
      pub crew-logs : (path : Option PathValue) → numbers_of path ≡ (incumbent_of gathered).path
          → HasCrewLogs s.tree s.gap (skeleton_of s.coord) workers (map (λ (f : Finish S R N). s.seen f.log) ends) (option_and_then (λ (p : PathValue). at_path s.tree p.numbers) path)
      crew-logs path path_is = record {
        entries = notes_of ends;
        are_logs =
            logs-whole s workers ends (option_and_then (λ (p : PathValue). at_path s.tree p.numbers) path) whole-finished (ap suc (finishes-count s workers tally of_fits 2 befores afters e.others) ∙ e.count) whole-balanced whole-closed
            (names-best s.tree (joined (notes_of ends)) whole.visits (incumbent_of gathered) path (joined-visits s workers 1 ends whole-finished) whole-best path_is);
        each = logs-kept s workers 1 ends whole-finished;
      }

      -- where nothing is cut, the sum is that of the tree
      pub crew-sum : NeverCuts s.tree → gathered.sum ≡ Fold s.tree s.join s.none s.of
      crew-sum never =
          is_gathered.sum_is ∙ (sums-whole s workers 1 ends whole-finished ∙ (whole-balanced.sum_is
          ∙ sum-whole s.tree never s.gap whole.visits ranked root_sound s.join s.none tally s.of of_fits whole.cuts whole.members (group-covers s.tree s.gap s.join s.none s.of whole whole-balanced whole-closed) (group-attained s.tree s.gap s.join s.none s.of whole whole-balanced whole-closed) whole-balanced.nodes whole-balanced.visited_are))
