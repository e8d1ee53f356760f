-- A worker at work: what it has done so far, and what one more walk adds to it.
use Rattle.std.specs.Prelude.{◌≡◌, ℕ, ◌+◌, ◌≤◌, true, List, [], ◌++◌, map, length}
use Rattle.std.specs.List.{AllByRecursion}
use Rattle.yew_laws.specs.Bag.{SameBag, PartOfBag}
use Rattle.yew_laws.specs.Fold.{fold_of, of_member}
use Rattle.yew_laws.specs.SearchTree.{below}
use Rattle.yew_laws.specs.Tree.{Member}
use Rattle.yew_log.specs.Groups.{HasGroups, SkeletonGroup}
use Rattle.yew_log.specs.HeldValues.{plain, HeldRises, IsJudged}
use Rattle.yew_log.specs.Lawful.{IsBrokenWalk, tasks_of}
use Rattle.yew_log.specs.Notes.{Note, visits, spawned_paths, handed_paths, sent_paths}
use Rattle.yew_log.specs.Segment.{Segment, segment, entries, entries_in, covered_paths, IsSegment, IsBroken}
use Rattle.yew_mail.specs.Views.{first_of}
use Rattle.yew_mail.specs.declared.boxes.Seen.{Seen}
use Rattle.yew_mail.specs.declared.view.Found.{Found}
use Rattle.yew_walk.specs.declared.fault.SearchFault.{SearchFault}
use Rattle.yew_walk.specs.declared.keying.Keying.TheVariants.{Plain, Gap}
use Rattle.yew_walk.specs.Hands.{incumbent_of, best_after, AreVisited}
use Rattle.yew_walk.specs.LogViews.{log_after}
use Rattle.yew_walk.specs.Scenes.{IsCause}
use Rattle.yew_walk.specs.Seats.{SeatGoes}
use Rattle.yew_walk.specs.WorkerLogs.{KeyedSegment, SeatGoesOn}
use Rattle.yew_crew.specs.Looks.{AreLooksOf, HasLooked}
use Rattle.yew_crew.specs.Outlets.{looks_at}
use Rattle.yew_crew.specs.Reports.{Moved}
use Rattle.yew_crew.specs.Stations.{Searched, skeleton_of, IfSteal, IsSameStation}
use Rattle.yew_crew.specs.declared.station.Station.{Station}

-- the segment of a walk that permits a gap
abbrev pub gap_walk : ℕ → Segment → KeyedSegment
gap_walk gap s = record { keying = Gap gap; segment = s }

module _ {S R N : Type 0} (s : Searched S R N) where
  -- The segment of a walk, alone: it keeps the rules, also those of a segment that may have been broken off, and has the groups of the coordination
  pub record IsWalkSegment (seg : Segment) : Type 0 where
    pub is_segment : IsSegment s.tree seg
    pub is_broken : IsBroken s.tree seg
    pub groups : HasGroups (SkeletonGroup s.tree (skeleton_of s.coord)) seg.body
    pub rises : HeldRises (entries_in seg)
    pub judged : IsJudged s.tree s.gap plain (entries_in seg)

module _ {N S R : Type 0} (s : Searched S R N) where
  -- one walk of this task, counted as ended
  pub record IsStep (path : List ℕ) (before after : Station N S R) : Type 0 where
    pub body : List Note
    pub members : List (Member N)
    pub put : List (List ℕ)
    pub given : List (List ℕ)
    pub walk : IsWalkSegment s (segment path body)
    pub moved : Moved before after [] put [] given
    pub spawned_are : SameBag put (spawned_paths body)
    pub handed_are : SameBag given (handed_paths body)
    pub goes : SeatGoes s.tree (Gap s.gap) before.best (entries_in (segment path body)) after.best
    pub log_is : s.seen after.log ≡ log_after (s.seen before.log) (entries_in (segment path body))
    pub are_visited : AreVisited s.tree body members
    pub sum_is : after.hand.sum ≡ s.join before.hand.sum (fold_of s.join s.none (of_member s.of) members)
    pub best_is : incumbent_of after.hand ≡ best_after Plain (incumbent_of before.hand) (visits body)
    pub made_is : after.tasks.made ≡ before.tasks.made + (length put + length given)
    pub ended_is : after.tasks.ended ≡ before.tasks.ended + 1
    pub no_stop : after.tasks.stops ≡ before.tasks.stops
    pub knows : before.tasks.knows ≡ true → after.tasks.knows ≡ true
    pub same : IsSameStation before after
    pub space : 65535 ≤ after.hand.path.space
    pub looks : IfSteal s.coord (λ part. (looks : List Seen) × (after.mail.found ≡ before.mail.found ++ looks_at (first_of before.mail.numbers) looks) × AreLooksOf s.tree part body looks)

  -- A walk of this task that was refused: what was noted of it is a part of its tree, and what was sent was noted. Where the log was full, the entry that it has no room for is ahead
  pub record IsBrokenStep (path : List ℕ) (fault : SearchFault) (before after : Station N S R) : Type 0 where
    pub notes : List Note
    pub ahead : List Note
    pub put : List (List ℕ)
    pub given : List (List ℕ)
    pub moved : Moved before after [] put [] given
    pub log_is : s.seen after.log ≡ log_after (s.seen before.log) notes
    pub keeps : IsBrokenWalk s.tree s.gap plain path notes
    pub keeps_ahead : IsBrokenWalk s.tree s.gap plain path (notes ++ ahead)
    pub part : PartOfBag (covered_paths s.tree (notes ++ ahead)) (below s.tree path)
    pub goes : SeatGoes s.tree (Gap s.gap) before.best (notes ++ ahead) after.best
    pub sent_are : PartOfBag (put ++ given) (sent_paths notes)
    pub cause : IsCause fault (s.seen after.log) ahead
    pub no_stop : after.tasks.stops ≡ before.tasks.stops
    pub same : IsSameStation before after

  -- What a worker has done so far: it has walked segments, one for each task that it took, but for the rest that it has still to walk
  pub record IsWorking (rest : List (List ℕ)) (first now : Station N S R) : Type 0 where
    pub segments : List Segment
    pub members : List (Member N)
    pub took : List (List ℕ)
    pub put : List (List ℕ)
    pub got : List (List ℕ)
    pub given : List (List ℕ)
    pub walks : AllByRecursion (IsWalkSegment s) segments
    pub moved : Moved first now took put got given
    pub taken_are : SameBag (took ++ got) (tasks_of segments ++ rest)
    pub spawned_are : SameBag put (spawned_paths (entries segments))
    pub handed_are : SameBag given (handed_paths (entries segments))
    pub goes : SeatGoesOn s.tree first.best (map (gap_walk s.gap) segments) now.best
    pub log_is : s.seen now.log ≡ log_after (s.seen first.log) (entries segments)
    pub are_visited : AreVisited s.tree (entries segments) members
    pub sum_is : now.hand.sum ≡ s.join first.hand.sum (fold_of s.join s.none (of_member s.of) members)
    pub best_is : incumbent_of now.hand ≡ best_after Plain (incumbent_of first.hand) (visits (entries segments))
    pub made_is : now.tasks.made ≡ first.tasks.made + (length put + length given)
    pub ended_is : now.tasks.ended ≡ first.tasks.ended + length segments
    pub no_stop : now.tasks.stops ≡ first.tasks.stops
    pub knows : first.tasks.knows ≡ true → now.tasks.knows ≡ true
    pub same : IsSameStation first now
    pub space : 65535 ≤ now.hand.path.space
    pub looks : IfSteal s.coord (λ part. (found : List Found) × (now.mail.found ≡ first.mail.found ++ found) × HasLooked s.tree part found segments)
