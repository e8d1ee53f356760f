-- What a worker has done that found no open task: a group that keeps the equations, and the segments of its log.
use Rattle.std.proofs.Common.{◌≡◌, ℕ, ◌+◌, ◌∙◌, List, [], ◌∷◌, ◌++◌, map, length, refl, sym, ap, subst, append-nil, arith}
use Rattle.std.specs.Prelude.{◌%◌, ◌^◌, true, Some}
use Rattle.std.specs.List.{AllByRecursion, flat_map, sum_by}
use Rattle.std.proofs.lemmas.List.{length-append}
use Rattle.std.proofs.lemmas.List.Sums.{sum_by-append, sum_by-cons}
use Rattle.std.proofs.lemmas.List.Concat.{flat_map-append}
use Rattle.yew_laws.specs.Bag.{SameBag}
use Rattle.yew_laws.specs.Fold.{fold_of, of_member}
use Rattle.yew_laws.specs.SearchTree.{SearchTree, below}
use Rattle.yew_laws.proofs.Bags.{same-refl, same-flat_map, same-trans, same-is}
use Rattle.yew_laws.proofs.Members.{AllByRecursion-weaker}
use Rattle.yew_log.specs.HeldValues.{plain, HeldRises, HeldIsMaximum, IsJudged}
use Rattle.yew_log.specs.Lawful.{tasks_of}
use Rattle.yew_log.specs.Notes.{Note, taken, visited, cut, spawned, handed, ended, Judgement, paths, values, held_values, visits, cuts, judgements, visit_in, cut_in, sent_paths}
use Rattle.yew_log.specs.Segment.{Segment, entries, entries_in, IsSegment, IsBroken}
use Rattle.yew_walk.specs.LogViews.{LogView}
use Rattle.yew_walk.specs.Keys.{gap_in}
use Rattle.yew_walk.specs.WorkerLogs.{KeyedSegment, segments_of, KeysRise, ComesFirst}
use Rattle.yew_walk.proofs.WorkerLogs.{walks-rise, walks-judged, walks-exact}
use Rattle.yew_crew.specs.Groups.{Group}
use Rattle.yew_crew.specs.Reports.{IsGroupWork, AreSegments, IsDone}
use Rattle.yew_crew.specs.Stations.{Searched, searched}
use Rattle.yew_crew.specs.Working.{gap_walk, IsWalkSegment, IsWorking}
use Rattle.yew_crew.specs.declared.coord.Coord.{Coord}
use Rattle.yew_crew.specs.declared.station.Station.{Station}
use Rattle.yew_crew.proofs.SegmentSums.{weigh-segments, judged-segments, all-segments, has-gone_on}
use Rattle.yew_crew.proofs.WalkedParts.{sent-dealt, same-length}

pub gap-segments : (gap : ℕ) (segments : List Segment) → segments_of (map (gap_walk gap) segments) ≡ segments
gap-segments gap [] = refl
gap-segments gap (s ∷ ss) = ap (λ l. s ∷ l) (gap-segments gap ss)

gap-first : (gap : ℕ) (segments : List Segment) (w : Segment) → AllByRecursion (λ (x : KeyedSegment). ComesFirst (gap_walk gap w).keying x.keying) (map (gap_walk gap) segments)
gap-first gap [] w = tt
gap-first gap (s ∷ ss) w = (refl, gap-first gap ss w)

pub gap-rise : (gap : ℕ) (segments : List Segment) → KeysRise (map (gap_walk gap) segments)
gap-rise gap [] = tt
gap-rise gap (s ∷ ss) = (gap-first gap ss s, gap-rise gap ss)

pub gap-each : (gap : ℕ) (segments : List Segment) → AllByRecursion (λ (x : KeyedSegment). gap_in x.keying ≡ gap) (map (gap_walk gap) segments)
gap-each gap [] = tt
gap-each gap (s ∷ ss) = (refl, gap-each gap ss)

pub all-gap : (gap : ℕ) (Q : Segment → Type 0) (segments : List Segment) → AllByRecursion Q segments → AllByRecursion (λ (x : KeyedSegment). Q x.segment) (map (gap_walk gap) segments)
all-gap gap Q [] a = tt
all-gap gap Q (s ∷ ss) a = (a.0, all-gap gap Q ss a.1)

-- the held values of the entries, in order, are as a bag those of the visits and of the cuts
pub held-dealt : (weight : ℕ → ℕ) (notes : List Note) → sum_by weight (held_values (judgements notes)) ≡ sum_by weight (held_values (visits notes ++ cuts notes))
held-dealt weight [] = refl
held-dealt weight (visited p w held ∷ notes) =
    let r = held-dealt weight notes in
    let a = sum_by-cons weight held (held_values (judgements notes)) in
    let b = sum_by-cons weight held (held_values (visits notes ++ cuts notes)) in omega arith
held-dealt weight (cut p bound held ∷ notes) =
    let r = held-dealt weight notes in
    let a = sum_by-cons weight held (held_values (judgements notes)) in
    let b = held_values-append (visits notes) (cuts notes) in
    let c = held_values-append (visits notes) (record { path = p; value = bound; held = held } ∷ cuts notes) in
    let d = sum_by-cons weight held (held_values (cuts notes)) in
    omega arith
  where
    held_values-append : (js ks : List Judgement) → sum_by weight (held_values (js ++ ks)) ≡ sum_by weight (held_values js) + sum_by weight (held_values ks)
    held_values-append [] ks = omega arith
    held_values-append (j ∷ js) ks =
        let e = sum_by-cons weight j.held (held_values (js ++ ks)) in let f = sum_by-cons weight j.held (held_values js) in let g = held_values-append js ks in omega arith
held-dealt weight (taken p ∷ notes) = held-dealt weight notes
held-dealt weight (spawned p ∷ notes) = held-dealt weight notes
held-dealt weight (handed p ∷ notes) = held-dealt weight notes
held-dealt weight (ended p ∷ notes) = held-dealt weight notes

pub each-segment : {S R N : Type 0} (s : Searched S R N) (segments : List Segment) → AllByRecursion (IsWalkSegment s) segments → AllByRecursion (IsSegment s.tree) segments
each-segment s segments a = AllByRecursion-weaker (IsWalkSegment s) (IsSegment s.tree) (λ x p. p.is_segment) segments a

module _ {N S R : Type 0} (t : SearchTree N) (join : S → S → S) (none : S) (of : N → ℕ → S) (seen : R → LogView) (coord : Coord) (gap : ℕ) where
  -- the group of a worker that has nothing left to walk
  abbrev pub group-of : (first now : Station N S R) → IsWorking (searched t join none of seen coord gap) [] first now → Group N S
  group-of first now w = record {
    took = w.took;
    got = w.got;
    put = w.put;
    given = w.given;
    visits = visits (entries w.segments);
    cuts = cuts (entries w.segments);
    members = w.members;
    made = length w.put + length w.given;
    ended = length w.segments;
    offered = values (visits (entries w.segments));
    read = held_values (judgements (entries w.segments));
    sum = fold_of join none (of_member of) w.members;
  }

  pub work-group : (first now : Station N S R) → IsWorking (searched t join none of seen coord gap) [] first now → IsGroupWork (searched t join none of seen coord gap) first now
  work-group first now w =
      let s : Searched S R N = searched t join none of seen coord gap in
      let notes = entries w.segments in
      let are = each-segment s w.segments w.walks in
      let gone = has-gone_on t gap w.segments first.best now.best w.goes in
      let all_taken : SameBag (w.took ++ w.got) (tasks_of w.segments) = same-trans w.taken_are (same-is (append-nil (tasks_of w.segments))) in
      let sent_are : SameBag (w.put ++ w.given) (sent_paths notes) = record {
        weighs = λ h. (
            let a = w.spawned_are.weighs h in let b = w.handed_are.weighs h in let c = sum_by-append h w.put w.given in let d = sent-dealt h notes in omega arith);
      } in
      record {
        group = group-of first now w;
        balanced = record {
          covered = record {
            weighs = λ h. (
                let a = sum_by-append h (paths (visits notes)) (flat_map (below t) (paths (cuts notes) ++ (w.put ++ w.given))) in
                let b = ap (λ l. sum_by h l) (flat_map-append (below t) (paths (cuts notes)) (w.put ++ w.given)) in
                let c = sum_by-append h (flat_map (below t) (paths (cuts notes))) (flat_map (below t) (w.put ++ w.given)) in
                let d = (same-flat_map (below t) sent_are).weighs h in
                let e = weigh-segments t h w.segments are in
                let f = (same-flat_map (below t) all_taken).weighs h in omega arith);
          };
          walked = record {
            weighs = λ h. (
                let a = judged-segments t h w.segments are in let b = all_taken.weighs h in let c = sum_by-append h (paths (visits notes)) (paths (cuts notes)) in omega arith);
          };
          worths = all-segments _ visit_in w.segments (AllByRecursion-weaker (IsSegment t) _ (λ x p. p.valued.worths) w.segments are);
          bounds = all-segments _ cut_in w.segments (AllByRecursion-weaker (IsSegment t) _ (λ x p. p.valued.bounds) w.segments are);
          permitted = all-segments _ cut_in w.segments (AllByRecursion-weaker (IsWalkSegment s) _ (λ x p. p.judged.cuts_permitted) w.segments w.walks);
          inner = all-segments _ cut_in w.segments (AllByRecursion-weaker (IsWalkSegment s) _ (λ x p. p.judged.cuts_below) w.segments w.walks);
          made_are = sym (length-append w.put w.given);
          ended_are = sym (same-length all_taken ∙ count w.segments);
          offered_are = same-refl (values (visits notes));
          read_are = record { weighs = λ h. held-dealt h notes };
          nodes = w.are_visited.there;
          visited_are = w.are_visited.paths_are;
          sum_is = refl;
        };
        moved = w.moved;
        reads = gone.reads;
        offers = gone.offers;
        made_is = w.made_is;
        ended_is = w.ended_is;
        sum_is = w.sum_is;
      }
    where
      count : (segments : List Segment) → length (tasks_of segments) ≡ length segments
      count [] = refl
      count (x ∷ xs) = let r = count xs in omega arith

  -- and its segments are those of its log
  pub work-segments : (first now : Station N S R) → (w : IsWorking (searched t join none of seen coord gap) [] first now) → AreSegments (searched t join none of seen coord gap) (group-of first now w) first now
  work-segments first now w =
      let s : Searched S R N = searched t join none of seen coord gap in
      let are = each-segment s w.segments w.walks in
      let is = gap-segments gap w.segments in
      let keys = gap-rise gap w.segments in
      record {
        segments = w.segments;
        walks = record {
          each = are;
          groups = AllByRecursion-weaker (IsWalkSegment s) _ (λ x p. p.groups) w.segments w.walks;
          held_rises = subst (λ l. HeldRises (entries l)) is (walks-rise t (map (gap_walk gap) w.segments) first.best now.best w.goes keys
              (all-gap gap (λ x. HeldRises (entries_in x)) w.segments (AllByRecursion-weaker (IsWalkSegment s) _ (λ x p. p.rises) w.segments w.walks)));
          due = subst (λ l. IsJudged t gap plain (entries l)) is (walks-judged t gap plain (map (gap_walk gap) w.segments) first.best now.best (gap-each gap w.segments) w.goes keys
              (all-gap gap (λ x. IsJudged t gap plain (entries_in x)) w.segments (AllByRecursion-weaker (IsWalkSegment s) _ (λ x p. p.judged) w.segments w.walks)));
        };
        broken = AllByRecursion-weaker (IsWalkSegment s) (IsBroken t) (λ x p. p.is_broken) w.segments w.walks;
        visits_are = refl;
        cuts_are = refl;
        tasks_are = same-trans w.taken_are (same-is (append-nil (tasks_of w.segments)));
        spawned_are = w.spawned_are;
        handed_are = w.handed_are;
        log_is = w.log_is;
        alone = λ a. subst (λ l. HeldIsMaximum (entries l)) is (walks-exact t (map (gap_walk gap) w.segments) first.best now.best w.goes keys a.none_offered a.whole);
        looks = w.looks;
      }

  pub work-done : (first now : Station N S R) → IsWorking (searched t join none of seen coord gap) [] first now → now.tasks.last ≡ Some 0 → (first.tasks.knows ≡ true → now.tasks.knew ≡ true)
      → (first.tasks.share ≡ first.tasks.tasks.seats → now.tasks.made % 2 ^ 64 ≡ now.tasks.ended % 2 ^ 64) → IsDone (searched t join none of seen coord gap) first now
  unfolding work-group
  work-done first now w last knew counted = record {
    work = work-group first now w;
    segments = work-segments first now w;
    hand = record { best_is = w.best_is; space = w.space };
    last_is = last;
    knew = knew;
    counted = counted;
    no_stop = w.no_stop;
  }

  -- these are the group and the segments of the worker's own entries
  pub work-group-is : (first now : Station N S R) → (w : IsWorking (searched t join none of seen coord gap) [] first now) → (work-group first now w).group ≡ group-of first now w
  unfolding work-group
  work-group-is first now w = refl

  pub work-segments-are : (first now : Station N S R) → (w : IsWorking (searched t join none of seen coord gap) [] first now) → (work-segments first now w).segments ≡ w.segments
  unfolding work-segments
  work-segments-are first now w = refl
