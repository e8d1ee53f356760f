-- What a worker of an ordered search carries, what it has done, and what its report says.
use Rattle.std.specs.Prelude.{◌≡◌, ℕ, ◌+◌, ◌<◌, ◌≤◌, true, List, [], ◌∷◌, ◌++◌, Some, map, length, slice_get}
use Rattle.std.specs.List.{AllByRecursion}
use Rattle.yew_crew.specs.declared.station.End.{End}
use Rattle.yew_crew.specs.declared.station.End.TheVariants.{Done, Stopped, Fault}
use Rattle.yew_laws.specs.Fold.{fold_of, of_member}
use Rattle.yew_laws.specs.Incumbent.{Incumbent}
use Rattle.yew_laws.specs.SearchTree.{SearchTree}
use Rattle.yew_laws.specs.Tree.{Member}
use Rattle.yew_log.specs.Groups.{HasGroups, NoGroup}
use Rattle.yew_log.specs.HeldValues.{ranked, HeldRises, IsJudged}
use Rattle.yew_log.specs.Lawful.{IsBrokenWalk}
use Rattle.yew_log.specs.Notes.{Note, visits}
use Rattle.yew_log.specs.Segment.{entries, entries_in, IsSegment, IsBroken}
use Rattle.yew_walk.specs.Hands.{incumbent_of, best_after, AreVisited}
use Rattle.yew_walk.specs.LogViews.{LogView, log_after}
use Rattle.yew_walk.specs.Scenes.{IsCause}
use Rattle.yew_walk.specs.Seats.{SeatGoes}
use Rattle.yew_walk.specs.WorkerLogs.{KeyedSegment, segments_of, SeatGoesOn}
use Rattle.yew_walk.specs.declared.fault.SearchFault.{SearchFault}
use Rattle.yew_walk.specs.declared.keying.Keying.TheVariants.{Ranked}
use Rattle.yew_ranked.specs.Tasks.{Numbered}
use Rattle.yew_ranked.specs.declared.station.RankedStation.{RankedStation}
use Rattle.yew_ranked.specs.declared.station.RankedReport.{RankedReport}
use Rattle.yew_ranked.specs.declared.station.RankedShared.{RankedShared}

-- the best visit after walks, one after another, each by its own keys
abbrev pub best_along : Incumbent → List KeyedSegment → Incumbent
best_along incumbent [] = incumbent
best_along incumbent (walk ∷ walks) = best_along (best_after walk.keying incumbent (visits walk.segment.body)) walks

-- numbers that rise
abbrev pub AreRising : List ℕ → Type 0
AreRising [] = Unit {0}
AreRising (x ∷ xs) = AllByRecursion (λ y. x < y) xs × AreRising xs

module _ {N : Type 0} (t : SearchTree N) where
  -- The walk of a task, with the keys of its number: a whole segment, which keeps also the rules of one that may have been broken off, and shares nothing out
  pub record IsTaskWalk (task : Numbered) (walk : KeyedSegment) : Type 0 where
    pub keys : walk.keying ≡ Ranked task.rank
    pub task_is : walk.segment.task ≡ task.path
    pub is_segment : IsSegment t walk.segment
    pub is_broken : IsBroken t walk.segment
    pub groups : HasGroups NoGroup walk.segment.body
    pub rises : HeldRises (entries_in walk.segment)
    pub judged : IsJudged t 0 ranked (entries_in walk.segment)

  -- these walks are those of the tasks at these places of the list, in order
  abbrev pub AreTaskWalks : List Numbered → List ℕ → List KeyedSegment → Type 0
  AreTaskWalks tasks [] [] = Unit {0}
  AreTaskWalks tasks [] (walk ∷ walks) = ⊥
  AreTaskWalks tasks (place ∷ places) [] = ⊥
  AreTaskWalks tasks (place ∷ places) (walk ∷ walks) = ((task : Numbered) × (slice_get tasks place ≡ Some task) × IsTaskWalk task walk) × AreTaskWalks tasks places walks

module _ {S R : Type 0} where
  -- the seats of the station are of the shared objects, it claims by a share of 1, its hand has space for any path, and its sum fits
  pub record IsRankedReady (fits : S → Type 0) (shared : RankedShared) (station : RankedStation S R) : Type 0 where
    pub of_best : station.best.best ≡ shared.best
    pub of_claims : station.claims.claims ≡ shared.claims
    pub of_stop : station.stop.tasks ≡ shared.stop
    pub one_share : station.claims.share ≡ 1
    pub none_claimed : station.claims.claimed ≡ []
    pub space : 65535 ≤ station.hand.path.space
    pub fits_sum : fits station.hand.sum

  -- whatever a worker did, its number, the objects of its seats and their shares are those that they were
  pub record IsSameStation (before after : RankedStation S R) : Type 0 where
    pub number : after.number ≡ before.number
    pub best : after.best.best ≡ before.best.best
    pub best_share : after.best.share ≡ before.best.share
    pub claims : after.claims.claims ≡ before.claims.claims
    pub claims_share : after.claims.share ≡ before.claims.share
    pub stop : after.stop.tasks ≡ before.stop.tasks
    pub stop_share : after.stop.share ≡ before.stop.share

module _ {N S R : Type 0} (t : SearchTree N) (join : S → S → S) (none : S) (of : N → ℕ → S) (seen : R → LogView) (tasks : List Numbered) where
  -- What a worker has done so far: it has walked the tasks at the places that it claimed, in rising order
  pub record IsWorking (before now : RankedStation S R) : Type 0 where
    pub places : List ℕ
    pub walks : List KeyedSegment
    pub members : List (Member N)
    pub claims_are : now.claims.claimed ≡ before.claims.claimed ++ places
    pub rising : AreRising places
    pub are_walks : AreTaskWalks t tasks places walks
    pub goes : SeatGoesOn t before.best walks now.best
    pub log_is : seen now.log ≡ log_after (seen before.log) (entries (segments_of walks))
    pub are_visited : AreVisited t (entries (segments_of walks)) members
    pub sum_is : now.hand.sum ≡ join before.hand.sum (fold_of join none (of_member of) members)
    pub best_is : incumbent_of now.hand ≡ best_along (incumbent_of before.hand) walks
    pub no_stop : now.stop.stops ≡ before.stop.stops
    pub same : IsSameStation before now
    pub space : 65535 ≤ now.hand.path.space

  -- The worker found no task left: what it has done, and one more claim, which is past the last task
  pub record IsDone (before after : RankedStation S R) : Type 0 where
    pub now : RankedStation S R
    pub last : ℕ
    pub working : IsWorking before now
    pub past : length tasks ≤ last
    pub after_is : after ≡ record now { claims = record now.claims { claimed = now.claims.claimed ++ last ∷ [] }; stop = after.stop }
    pub no_stop : after.stop.stops ≡ now.stop.stops
    pub of_stop : after.stop.tasks ≡ now.stop.tasks
    pub stop_share : after.stop.share ≡ now.stop.share

  -- the worker was told to stop
  pub record IsStopped (before after : RankedStation S R) : Type 0 where
    pub saw : after.stop.saw ≡ true
    pub no_stop : after.stop.stops ≡ before.stop.stops

  -- The worker's own walk was refused, and it told the others to stop: behind the tasks that it has walked there is a part of one more. Where its log was full, the entry that it has no room for is ahead
  pub record IsFaulty (fault : SearchFault) (before after : RankedStation S R) : Type 0 where
    pub now : RankedStation S R
    pub working : IsWorking before now
    pub place : ℕ
    pub task : Numbered
    pub task_there : slice_get tasks place ≡ Some task
    pub above : AllByRecursion (λ p. p < place) working.places
    pub notes : List Note
    pub ahead : List Note
    pub goes : SeatGoes t (Ranked task.rank) now.best (notes ++ ahead) after.best
    pub log_is : seen after.log ≡ log_after (seen now.log) notes
    pub keeps : IsBrokenWalk t 0 ranked task.path notes
    pub keeps_ahead : IsBrokenWalk t 0 ranked task.path (notes ++ ahead)
    pub cause : IsCause fault (seen after.log) ahead
    pub one_stop : after.stop.stops ≡ before.stop.stops + 1

  -- why a worker came to its end
  abbrev pub IsRankedEnd : RankedStation S R → RankedStation S R → End → Type 0
  IsRankedEnd before after Done = IsDone before after
  IsRankedEnd before after Stopped = IsStopped before after
  IsRankedEnd before after (Fault fault) = IsFaulty fault before after

  -- what a report says of the station that a worker was given
  pub record IsRankedReport (before : RankedStation S R) (report : RankedReport S R) : Type 0 where
    pub same : IsSameStation before report.station
    pub ends : IsRankedEnd before report.station report.end
