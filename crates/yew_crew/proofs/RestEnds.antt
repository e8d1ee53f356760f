-- The first worker, with the segments of rest that the caller walked in its place; and all others.
use Rattle.std.proofs.Common.{◌≡◌, ◌≢◌, ℕ, suc, ◌<◌, ◌⊎◌, false, List, [], ◌∷◌, ◌++◌, ◌∙◌, refl, sym, ap, ap₂, subst, arith, inl, inr, ⊎_elim, append-nil}
use Rattle.std.specs.Prelude.{IfSome}
use Rattle.std.specs.List.{AllByRecursion}
use Rattle.std.proofs.lemmas.List.Sums.{sum_by-cons}
use Rattle.std.proofs.lemmas.List.Concat.{flat_map-append}
use Rattle.yew_laws.specs.Bag.{SameBag}
use Rattle.yew_laws.specs.Fold.{IsTally}
use Rattle.yew_laws.specs.Order.{only, occurs}
use Rattle.yew_laws.specs.SearchTree.{SearchTree}
use Rattle.yew_laws.proofs.Bags.{same-is, same-sym, same-trans, same-append, only-itself}
use Rattle.yew_log.specs.Groups.{HasGroups, NoGroup, SkeletonGroup}
use Rattle.yew_log.specs.HeldValues.{plain, IsLater, HeldIsMaximum, IsJudged}
use Rattle.yew_log.specs.Lawful.{AreWalks, IsRest, MayRest, tasks_of}
use Rattle.yew_log.specs.Notes.{Note, visits, cuts, judgements, visit_in, cut_in, taken_in, sent_in, event_in, taken_paths, sent_paths}
use Rattle.yew_log.specs.Places.{AtEach}
use Rattle.yew_log.specs.Segment.{Segment, entries, entries_in}
use Rattle.yew_log.specs.Totals.{no_totals}
use Rattle.yew_log.proofs.Walks.{walks-append}
use Rattle.yew_walk.specs.LogViews.{log_after}
use Rattle.yew_walk.specs.Hands.{incumbent_of, best_after}
use Rattle.yew_walk.specs.declared.hand.Hand.{Hand}
use Rattle.yew_walk.specs.declared.keying.Keying.TheVariants.{Plain}
use Rattle.yew_walk.proofs.BestVisits.{best_after-append}
use Rattle.yew_walk.proofs.Sending.{log_after-append}
use Rattle.yew_crew.specs.CrewSearch.{IsLogOf}
use Rattle.yew_crew.specs.Groups.{Group, taken, together, IsBalanced}
use Rattle.yew_crew.specs.Reports.{IsDone, IsAlone}
use Rattle.yew_crew.specs.Stations.{Searched, skeleton_of}
use Rattle.yew_crew.specs.declared.coord.Coord.{Coord}
use Rattle.yew_crew.specs.declared.coord.Coord.TheVariants.{Depth, Budget, Steal}
use Rattle.yew_crew.specs.declared.station.Station.{Station}
use Rattle.yew_walk.proofs.BestFinds.{nothing, not_holding}
use Rattle.yew_crew.proofs.CrewWork.{group-fits}
use Rattle.yew_crew.proofs.Finished.{Finish, IsFinished, AreFinished}
use Rattle.yew_crew.proofs.GroupLaws.{same-deals}
use Rattle.yew_crew.proofs.SegmentSums.{taken-segments}
use Rattle.yew_crew.proofs.WorkEnds.{plain-kind, any-shape, new-log, sent-parts, finish, done-finished}

-- any group will do
abbrev AnyGroup : List Note → Note → List Note → Type 0
AnyGroup before event group = Unit {0}

any-groups : (before notes : List Note) → AtEach (λ before note after. AllByRecursion (λ p. Unit {0}) (event_in note)) before notes
any-groups before [] = tt
any-groups before (note ∷ notes) = (units (event_in note), any-groups (before ++ note ∷ []) notes)
  where
    units : (ps : List (List ℕ)) → AllByRecursion (λ p. Unit {0}) ps
    units [] = tt
    units (p ∷ ps) = (tt, units ps)

with-any : {N : Type 0} (t : SearchTree N) (gap : ℕ) (rule : List Note → Note → List Note → Type 0) (segments : List Segment)
    → AreWalks t gap plain rule segments → AreWalks t gap plain AnyGroup segments
with-any t gap rule segments walks = record { each = walks.each; groups = all segments; held_rises = walks.held_rises; due = walks.due }
  where
    all : (segments : List Segment) → AllByRecursion (λ (x : Segment). HasGroups AnyGroup x.body) segments
    all [] = tt
    all (x ∷ xs) = (any-groups [] x.body, all xs)

-- where the root is none of the tasks, each is another
not-root : (segments : List Segment) → occurs [] (tasks_of segments) ≡ 0 → AllByRecursion (λ (x : Segment). x.task ≢ []) segments
not-root [] none = tt
not-root (x ∷ xs) none =
    let c = sum_by-cons (only []) x.task (tasks_of xs) in
    ((λ e. (let o = only-itself [] in let k : ◌≡◌ {A = ℕ} (only [] x.task) 1 = ap (only []) e ∙ o in absurd (omega arith))), not-root xs (omega arith))

rest-segments : (segments : List Segment) → AllByRecursion (λ (x : Segment). x.task ≢ []) segments
    → AllByRecursion (λ (x : Segment). HasGroups NoGroup x.body) segments → AllByRecursion IsRest segments
rest-segments [] a b = tt
rest-segments (x ∷ xs) a b = ((a.0, b.0), rest-segments xs a.1 b.1)

-- the first of several workers may have rest segments
first-may : (coord : Coord) (workers : ℕ) → 1 < workers → MayRest (skeleton_of coord) workers 1
first-may (Depth depth) workers h = (h, refl)
first-may (Budget every) workers h = (h, refl)
first-may (Steal chunk) workers h = (h, refl)

module _ {S R N : Type 0} (s : Searched S R N) where
  -- What the caller walked in the place of a worker whose entries were these: it sent nothing
  pub record IsRestWork (own : List Note) (hand : Hand S) (log : R) (hand' : Hand S) (log' : R) : Type 0 where
    pub group : Group N S
    pub segments : List Segment
    pub balanced : IsBalanced s.tree s.gap s.join s.none s.of group
    pub walks : AreWalks s.tree s.gap plain NoGroup segments
    pub visits_are : group.visits ≡ visits (entries segments)
    pub cuts_are : group.cuts ≡ cuts (entries segments)
    pub tasks_are : SameBag (tasks_of segments) (taken group)
    pub sent_none : sent_paths (entries segments) ≡ []
    pub put_none : group.put ≡ []
    pub given_none : group.given ≡ []
    pub later : AllByRecursion (IsLater own) (judgements (entries segments))
    pub log_is : s.seen log' ≡ log_after (s.seen log) (entries segments)
    pub best_is : incumbent_of hand' ≡ best_after Plain (incumbent_of hand) group.visits
    pub sum_is : hand'.sum ≡ s.join hand.sum group.sum

module _ {N S R : Type 0} (s : Searched S R N) (workers : ℕ) {fits : S → Type 0} (tally : IsTally fits s.join s.none) (of_fits : (n : N) (depth : ℕ) → fits (s.of n depth)) where
  -- the first worker, with what the caller walked in its place
  pub first-finished : (before after : Station N S R) (hand : Hand S) (log : R) → (done : IsDone s before after)
      → (rest : IsRestWork s (entries done.segments.segments) after.hand after.log hand log)
      → before.hand.sum ≡ s.none → before.hand.holds ≡ false → IfSome (s.seen before.log).told (λ ns. ns ≡ []) → (s.seen before.log).totals ≡ no_totals → (s.seen before.log).number ≡ 1
      → occurs [] (taken rest.group) ≡ 0 → (rest.segments ≡ []) ⊎ (1 < workers) → (workers ≡ 1 → IsAlone before)
      → IsFinished s workers 1 (record { group = together s.join done.work.group rest.group; notes = entries (done.segments.segments ++ rest.segments); hand = hand; log = log })
  first-finished before after hand log done rest sum_none holds_none told totals number_is no_root several alone =
      let g = done.work.group in let r = rest.group in
      let segs = done.segments in let own = segs.segments in let more = rest.segments in
      let parts : entries (own ++ more) ≡ entries own ++ entries more = flat_map-append entries_in own more in
      let walks = walks-append s.tree s.gap AnyGroup own more (with-any s.tree s.gap (SkeletonGroup s.tree (skeleton_of s.coord)) own segs.walks) (with-any s.tree s.gap NoGroup more rest.walks) rest.later in
      record {
        visits_are = ap₂ ◌++◌ segs.visits_are rest.visits_are ∙ (sym (flat_map-append visit_in (entries own) (entries more)) ∙ ap visits (sym parts));
        cuts_are = ap₂ ◌++◌ segs.cuts_are rest.cuts_are ∙ (sym (flat_map-append cut_in (entries own) (entries more)) ∙ ap cuts (sym parts));
        taken_are =
            same-trans (same-is (ap taken_paths parts ∙ flat_map-append taken_in (entries own) (entries more)))
            (same-trans (same-append (same-trans (same-is (taken-segments s.tree own segs.walks.each)) (same-sym segs.tasks_are)) (same-trans (same-is (taken-segments s.tree more rest.walks.each)) rest.tasks_are)) (same-deals g.took g.got r.took r.got));
        sent_are =
            same-trans (same-is (ap sent_paths parts ∙ flat_map-append sent_in (entries own) (entries more)))
            (same-trans (same-append (sent-parts (entries own) g.put g.given segs.spawned_are segs.handed_are) (same-is (rest.sent_none ∙ sym (ap₂ ◌++◌ rest.put_none rest.given_none)))) (same-deals g.put g.given r.put r.given));
        lawful = record {
          segments = own ++ more;
          cut_up = refl;
          each = walks.each;
          groups = record {
            own = own;
            rest = more;
            own_first = refl;
            groups = segs.walks.groups;
            rest_segments = rest-segments more (not-root more ((rest.tasks_are.weighs (only [])) ∙ no_root)) rest.walks.groups;
            may_rest = ⊎_elim (λ (e : more ≡ []). inl e) (λ (h : 1 < workers). inr (first-may s.coord workers h)) several;
            shape = any-shape s.tree s.coord workers 1 (own ++ more);
          };
          held_rises = walks.held_rises;
          due = subst (λ kind. IsJudged s.tree s.gap kind (entries (own ++ more))) (sym (plain-kind s.coord)) walks.due;
          alone = λ e. ⊎_elim
              (λ (none : more ≡ []). subst (λ (xs : List Segment). HeldIsMaximum (entries xs)) (sym (ap (λ xs. own ++ xs) none ∙ append-nil own)) (segs.alone (alone e)))
              (λ (h : 1 < workers). absurd (omega arith)) several;
        };
        log_is = subst (λ ns. IsLogOf 1 ns (s.seen log)) (sym parts) (new-log 1 (s.seen before.log) (s.seen log) (entries own ++ entries more) told totals number_is
            (rest.log_is ∙ (ap (λ l. log_after l (entries more)) segs.log_is ∙ sym (log_after-append (s.seen before.log) (entries own) (entries more)))));
        best_is =
            rest.best_is ∙ (ap (λ i. best_after Plain i r.visits) (done.hand.best_is ∙ ap (λ i. best_after Plain i g.visits) (not_holding before.hand holds_none)) ∙ sym (best_after-append Plain nothing g.visits r.visits));
        sum_is = rest.sum_is ∙ ap (λ x. s.join x r.sum) (done.work.sum_is ∙ (ap (λ x. s.join x g.sum) sum_none ∙ tally.unit g.sum (group-fits s tally of_fits g done.work.balanced)));
      }

  -- a station as it began, for its log and its hand
  pub record IsNew (number : ℕ) (before : Station N S R) : Type 0 where
    pub sum_none : before.hand.sum ≡ s.none
    pub holds_none : before.hand.holds ≡ false
    pub told : IfSome (s.seen before.log).told (λ ns. ns ≡ [])
    pub totals : (s.seen before.log).totals ≡ no_totals
    pub number_is : (s.seen before.log).number ≡ number

  -- the other workers, from this number on
  abbrev pub AreDone : ℕ → List (Station N S R) → List (Station N S R) → Type 0
  AreDone number [] [] = Unit {0}
  AreDone number [] (after ∷ afters) = ⊥
  AreDone number (before ∷ befores) [] = ⊥
  AreDone number (before ∷ befores) (after ∷ afters) = (IsNew number before × IsDone s before after) × AreDone (suc number) befores afters

  abbrev pub finishes : (number : ℕ) (befores afters : List (Station N S R)) → AreDone number befores afters → List (Finish S R N)
  finishes number [] [] are = []
  finishes number [] (after ∷ afters) are = []
  finishes number (before ∷ befores) [] are = []
  finishes number (before ∷ befores) (after ∷ afters) are = finish are.0.1.work.group are.0.1.segments.segments after ∷ finishes (suc number) befores afters are.1

  pub others-finished : (number : ℕ) (befores afters : List (Station N S R)) (are : AreDone number befores afters)
      → (workers ≡ 1 → AllByRecursion IsAlone befores) → AreFinished s workers number (finishes number befores afters are)
  others-finished number [] [] are alone = tt
  others-finished number [] (a ∷ afters) are alone = tt
  others-finished number (b ∷ befores) [] are alone = tt
  others-finished number (b ∷ befores) (a ∷ afters) are alone =
      let new = are.0.0 in
      (done-finished s workers tally of_fits number b a are.0.1 new.sum_none new.holds_none new.told new.totals new.number_is (λ e. (alone e).0), others-finished (suc number) befores afters are.1 (λ e. (alone e).1))
