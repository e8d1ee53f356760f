-- What a worker has done that was told to stop: a part of what its tasks are.
use Rattle.std.proofs.Common.{◌≡◌, ℕ, List, [], ◌∷◌, ◌++◌, map, refl, sym, ap, subst, append-nil, arith}
use Rattle.std.specs.Prelude.{true}
use Rattle.std.specs.List.{AllByRecursion, flat_map, sum_by}
use Rattle.std.proofs.lemmas.List.Sums.{sum_by-append}
use Rattle.std.proofs.lemmas.List.Concat.{flat_map-append}
use Rattle.yew_laws.specs.Bag.{PartOfBag}
use Rattle.yew_laws.specs.SearchTree.{SearchTree, below}
use Rattle.yew_laws.proofs.Bags.{same-flat_map}
use Rattle.yew_laws.proofs.Members.{AllByRecursion-weaker}
use Rattle.yew_log.specs.HeldValues.{plain, HeldRises, HeldIsMaximum, IsJudged}
use Rattle.yew_log.specs.Lawful.{tasks_of, IsBrokenLog}
use Rattle.yew_log.specs.Notes.{taken_paths}
use Rattle.yew_log.specs.Places.{AtEach}
use Rattle.yew_log.specs.Segment.{Segment, entries, entries_in, IsSegment, IsBroken, Begins, covered_paths}
use Rattle.yew_walk.specs.LogViews.{LogView}
use Rattle.yew_walk.proofs.WorkerLogs.{walks-rise, walks-judged, walks-exact}
use Rattle.yew_crew.specs.Reports.{IsPartWork, IsStopped}
use Rattle.yew_crew.specs.Stations.{Searched, searched}
use Rattle.yew_crew.specs.Working.{gap_walk, IsWalkSegment, IsWorking}
use Rattle.yew_crew.specs.declared.coord.Coord.{Coord}
use Rattle.yew_crew.specs.declared.station.Station.{Station}
use Rattle.yew_crew.proofs.SegmentSums.{weigh-segments, weigh-covered, taken-segments}
use Rattle.yew_crew.proofs.WalkedParts.{sent-dealt}
use Rattle.yew_crew.proofs.WorkDone.{gap-segments, gap-rise, gap-each, all-gap, each-segment}

-- no segment is without entries
pub whole-bodies : {N : Type 0} (t : SearchTree N) (before segments : List Segment) → AllByRecursion (IsSegment t) segments → AtEach (λ b s a. s.body ≡ [] → a ≡ []) before segments
whole-bodies t before [] a = tt
whole-bodies t before (s ∷ ss) a = ((λ none. absurd (subst (Begins s.task) none a.0.begins)), whole-bodies t (before ++ s ∷ []) ss a.1)

module _ {N S R : Type 0} (t : SearchTree N) (join : S → S → S) (none : S) (of : N → ℕ → S) (seen : R → LogView) (coord : Coord) (gap : ℕ) where
  pub work-part : (rest : List (List ℕ)) (first now : Station N S R) → IsWorking (searched t join none of seen coord gap) rest first now → IsPartWork (searched t join none of seen coord gap) [] first now
  work-part rest first now w =
      let s : Searched S R N = searched t join none of seen coord gap in
      let notes = entries w.segments in
      let are = each-segment s w.segments w.walks in
      let is = gap-segments gap w.segments in
      let keys = gap-rise gap w.segments in
      let same : notes ++ [] ≡ notes = append-nil notes in
      let kept : IsBrokenLog t gap plain notes = record {
        segments = w.segments;
        cut_up = refl;
        each = AllByRecursion-weaker (IsWalkSegment s) (IsBroken t) (λ x p. p.is_broken) w.segments w.walks;
        only_last = whole-bodies t [] w.segments are;
        held_rises = subst (λ l. HeldRises (entries l)) is (walks-rise t (map (gap_walk gap) w.segments) first.best now.best w.goes keys
            (all-gap gap (λ x. HeldRises (entries_in x)) w.segments (AllByRecursion-weaker (IsWalkSegment s) (λ x. HeldRises (entries_in x)) (λ x p. p.rises) w.segments w.walks)));
        due = subst (λ l. IsJudged t gap plain (entries l)) is (walks-judged t gap plain (map (gap_walk gap) w.segments) first.best now.best (gap-each gap w.segments) w.goes keys
            (all-gap gap (λ x. IsJudged t gap plain (entries_in x)) w.segments (AllByRecursion-weaker (IsWalkSegment s) (λ x. IsJudged t gap plain (entries_in x)) (λ x p. p.judged) w.segments w.walks)));
      } in
      record {
        notes = notes;
        took = w.took;
        put = w.put;
        got = w.got;
        given = w.given;
        moved = w.moved;
        log_is = w.log_is;
        part = subst (λ l. PartOfBag (covered_paths t l) (flat_map (below t) (w.took ++ w.got))) (sym same) record {
          weighs = λ h. (
              let a = weigh-covered t h notes in
              let b = weigh-segments t h w.segments are in
              let c = (same-flat_map (below t) w.taken_are).weighs h in
              let d = ap (λ l. sum_by h l) (flat_map-append (below t) (tasks_of w.segments) rest) in
              let e = sum_by-append h (flat_map (below t) (tasks_of w.segments)) (flat_map (below t) rest) in omega arith);
        };
        taken_are = subst (λ l. PartOfBag (taken_paths l) (w.took ++ w.got)) (sym same) record {
          weighs = λ h. (
              let a = ap (λ l. sum_by h l) (taken-segments t w.segments are) in
              let b = w.taken_are.weighs h in
              let c = sum_by-append h (tasks_of w.segments) rest in omega arith);
        };
        sent_are = record {
          weighs = λ h. (
              let a = w.spawned_are.weighs h in let b = w.handed_are.weighs h in let c = sum_by-append h w.put w.given in let d = sent-dealt h notes in omega arith);
        };
        keeps = kept;
        keeps_ahead = subst (IsBrokenLog t gap plain) (sym same) kept;
        alone = λ a. subst HeldIsMaximum (sym same) (subst (λ l. HeldIsMaximum (entries l)) is (walks-exact t (map (gap_walk gap) w.segments) first.best now.best w.goes keys a.none_offered a.whole));
      }

  pub work-stopped : (rest : List (List ℕ)) (first now : Station N S R) → IsWorking (searched t join none of seen coord gap) rest first now → now.tasks.saw ≡ true → IsStopped (searched t join none of seen coord gap) first now
  work-stopped rest first now w saw = record { part = work-part rest first now w; saw = saw; no_stop = w.no_stop }
