-- What contracts say of a worker's report.
use Rattle.std.specs.Prelude.{◌≡◌, ℕ, ◌+◌, ◌%◌, ◌^◌, ◌≤◌, true, List, [], ◌++◌, Some}
use Rattle.std.specs.List.{AllByRecursion, flat_map}
use Rattle.yew_laws.specs.Bag.{SameBag, PartOfBag}
use Rattle.yew_laws.specs.SearchTree.{below}
use Rattle.yew_log.specs.Groups.{SkeletonGroup}
use Rattle.yew_log.specs.HeldValues.{plain, HeldIsMaximum}
use Rattle.yew_log.specs.Lawful.{AreWalks, IsBrokenLog, tasks_of}
use Rattle.yew_log.specs.Notes.{Note, visits, cuts, taken_paths, spawned_paths, handed_paths, sent_paths}
use Rattle.yew_log.specs.Segment.{Segment, entries, covered_paths, IsBroken}
use Rattle.yew_mail.specs.declared.view.Found.{Found}
use Rattle.yew_stack.specs.Splits.{paths_of}
use Rattle.yew_walk.specs.declared.fault.SearchFault.{SearchFault}
use Rattle.yew_walk.specs.declared.keying.Keying.TheVariants.{Plain}
use Rattle.yew_walk.specs.Hands.{incumbent_of, best_after}
use Rattle.yew_walk.specs.LogViews.{log_after}
use Rattle.yew_walk.specs.Scenes.{IsCause}
use Rattle.yew_crew.specs.Groups.{Group, taken, IsBalanced}
use Rattle.yew_crew.specs.Looks.{HasLooked}
use Rattle.yew_crew.specs.Stations.{Searched, skeleton_of, IfSteal, IsSameStation}
use Rattle.yew_crew.specs.declared.station.Station.{Station}
use Rattle.yew_crew.specs.declared.station.Report.{Report}
use Rattle.yew_crew.specs.declared.station.End.{End}
use Rattle.yew_crew.specs.declared.station.End.TheVariants.{Done, Stopped, Fault}

-- the worker's own walk was not refused
abbrev pub HasNoFault : End → Type 0
HasNoFault Done = Unit {0}
HasNoFault Stopped = Unit {0}
HasNoFault (Fault fault) = ⊥

-- the worker found no open task
abbrev pub IsEndDone : End → Type 0
IsEndDone Done = Unit {0}
IsEndDone Stopped = ⊥
IsEndDone (Fault fault) = ⊥

module _ {N S R : Type 0} where
  -- The incumbent seat is the only one and had read and offered nothing
  pub record IsAlone (before : Station N S R) : Type 0 where
    pub whole : before.best.share ≡ before.best.best.seats
    pub none_read : before.best.read ≡ []
    pub none_offered : before.best.offered ≡ []

  -- The pass and the mail seat have taken and sent more tasks, of these paths
  pub record Moved (before after : Station N S R) (took put got given : List (List ℕ)) : Type 0 where
    pub took_is : SameBag (paths_of after.pool.took) (paths_of before.pool.took ++ took)
    pub put_is : SameBag (paths_of after.pool.put) (paths_of before.pool.put ++ put)
    pub got_is : SameBag (paths_of after.mail.got) (paths_of before.mail.got ++ got)
    pub given_is : SameBag (paths_of after.mail.given) (paths_of before.mail.given ++ given)

  module _ (s : Searched S R N) where
    -- The worker has done what some group has done, which keeps the equations: its seats, its pass and its sum have grown by what the group did
    pub record IsGroupWork (before after : Station N S R) : Type 0 where
      pub group : Group N S
      pub balanced : IsBalanced s.tree s.gap s.join s.none s.of group
      pub moved : Moved before after group.took group.put group.got group.given
      pub reads : after.best.read ≡ before.best.read ++ group.read
      pub offers : after.best.offered ≡ before.best.offered ++ group.offered
      pub made_is : after.tasks.made ≡ before.tasks.made + group.made
      pub ended_is : after.tasks.ended ≡ before.tasks.ended + group.ended
      pub sum_is : after.hand.sum ≡ s.join before.hand.sum group.sum

    -- What the worker noted is one segment for each task that the group took, with the groups of the coordination. Each keeps also the rules of a segment that may have been broken off. The tasks that are noted as Spawned are those put, and those noted as Handed are those given
    pub record AreSegments (group : Group N S) (before after : Station N S R) : Type 0 where
      pub segments : List Segment
      pub walks : AreWalks s.tree s.gap plain (SkeletonGroup s.tree (skeleton_of s.coord)) segments
      pub broken : AllByRecursion (IsBroken s.tree) segments
      pub visits_are : group.visits ≡ visits (entries segments)
      pub cuts_are : group.cuts ≡ cuts (entries segments)
      pub tasks_are : SameBag (taken group) (tasks_of segments)
      pub spawned_are : SameBag group.put (spawned_paths (entries segments))
      pub handed_are : SameBag group.given (handed_paths (entries segments))
      pub log_is : s.seen after.log ≡ log_after (s.seen before.log) (entries segments)
      pub alone : IsAlone before → HeldIsMaximum (entries segments)
      pub looks : IfSteal s.coord (λ part. (found : List Found) × (after.mail.found ≡ before.mail.found ++ found) × HasLooked s.tree part found segments)

    -- the hand holds the best of what it held and of these visits, with its path, which still has its space
    pub record IsHandAfter (group : Group N S) (before after : Station N S R) : Type 0 where
      pub best_is : incumbent_of after.hand ≡ best_after Plain (incumbent_of before.hand) group.visits
      pub space : 65535 ≤ after.hand.path.space

    -- a worker that found no open task: its last load of the count gave 0, at which it knew of a made task if it knew of one before
    pub record IsDone (before after : Station N S R) : Type 0 where
      pub work : IsGroupWork before after
      pub segments : AreSegments work.group before after
      pub hand : IsHandAfter work.group before after
      pub last_is : after.tasks.last ≡ Some 0
      pub knew : before.tasks.knows ≡ true → after.tasks.knew ≡ true
      pub counted : before.tasks.share ≡ before.tasks.tasks.seats → after.tasks.made % 2 ^ 64 ≡ after.tasks.ended % 2 ^ 64
      pub no_stop : after.tasks.stops ≡ before.tasks.stops

    -- What is said of a worker that came to no end of its own: its entries are segments of tasks that it took, of which the last may have been broken off. Where the next entry is still ahead, the same holds with it
    pub record IsPartWork (ahead : List Note) (before after : Station N S R) : Type 0 where
      pub notes : List Note
      pub took : List (List ℕ)
      pub put : List (List ℕ)
      pub got : List (List ℕ)
      pub given : List (List ℕ)
      pub moved : Moved before after took put got given
      pub log_is : s.seen after.log ≡ log_after (s.seen before.log) notes
      pub part : PartOfBag (covered_paths s.tree (notes ++ ahead)) (flat_map (below s.tree) (took ++ got))
      pub taken_are : PartOfBag (taken_paths (notes ++ ahead)) (took ++ got)
      pub sent_are : PartOfBag (put ++ given) (sent_paths notes)
      pub keeps : IsBrokenLog s.tree s.gap plain notes
      pub keeps_ahead : IsBrokenLog s.tree s.gap plain (notes ++ ahead)
      pub alone : IsAlone before → HeldIsMaximum (notes ++ ahead)

    -- a worker that was told to stop
    pub record IsStopped (before after : Station N S R) : Type 0 where
      pub part : IsPartWork [] before after
      pub saw : after.tasks.saw ≡ true
      pub no_stop : after.tasks.stops ≡ before.tasks.stops

    -- a worker whose own walk was refused: it told the others to stop. Where its log was full, the entry that it has no room for is ahead
    pub record IsFaulty (fault : SearchFault) (before after : Station N S R) : Type 0 where
      pub ahead : List Note
      pub part : IsPartWork ahead before after
      pub cause : IsCause fault (s.seen after.log) ahead
      pub one_stop : after.tasks.stops ≡ before.tasks.stops + 1

    -- why a worker came to its end
    abbrev pub IsEnd : Station N S R → Station N S R → End → Type 0
    IsEnd before after Done = IsDone before after
    IsEnd before after Stopped = IsStopped before after
    IsEnd before after (Fault fault) = IsFaulty fault before after

    -- what a report says of the station that a worker was given
    pub record IsReport (before : Station N S R) (report : Report N S R) : Type 0 where
      pub same : IsSameStation before report.station
      pub ends : IsEnd before report.station report.end
