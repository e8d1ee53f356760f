-- A worker of an ordered search between two tasks: what the walk of one task leaves, and what one turn leaves.
use Rattle.std.specs.Prelude.{◌≡◌, ℕ, ◌<◌, ◌≤◌, List, ◌++◌, length}
use Rattle.yew_laws.specs.Fold.{fold_of, of_member}
use Rattle.yew_laws.specs.SearchTree.{SearchTree}
use Rattle.yew_laws.specs.Tree.{Member}
use Rattle.yew_log.specs.HeldValues.{ranked}
use Rattle.yew_log.specs.Lawful.{IsBrokenWalk}
use Rattle.yew_log.specs.Notes.{Note, visits}
use Rattle.yew_log.specs.Segment.{segment, entries_in}
use Rattle.yew_walk.specs.declared.fault.SearchFault.{SearchFault}
use Rattle.yew_walk.specs.declared.keying.Keying.TheVariants.{Ranked}
use Rattle.yew_walk.specs.Hands.{incumbent_of, best_after, AreVisited}
use Rattle.yew_walk.specs.LogViews.{LogView, log_after}
use Rattle.yew_walk.specs.Scenes.{IsCause}
use Rattle.yew_walk.specs.Seats.{SeatGoes}
use Rattle.yew_walk.specs.WorkerLogs.{KeyedSegment}
use Rattle.yew_ranked.specs.Stations.{IsTaskWalk, IsSameStation, IsWorking, IsRankedEnd}
use Rattle.yew_ranked.specs.Tasks.{Numbered}
use Rattle.yew_ranked.specs.declared.station.RankedStation.{RankedStation}
use Rattle.yew_ranked.specs.declared.worker.Turn.{Turn}
use Rattle.yew_ranked.specs.declared.worker.Turn.TheVariants.{Walked, Ended}

-- the walk of a task with these entries behind the Taken entry
abbrev pub ranked_walk : Numbered → List Note → KeyedSegment
ranked_walk task body = record { keying = Ranked task.rank; segment = segment task.path body }

module _ {N S R : Type 0} (t : SearchTree N) (join : S → S → S) (none : S) (of : N → ℕ → S) (seen : R → LogView) where
  -- a walk changes the seat at the incumbent word, the hand and the log, and nothing else
  pub record IsMoved (before after : RankedStation S R) : Type 0 where
    pub is_after : after ≡ record before { best = after.best; hand = after.hand; log = after.log }
    pub best : after.best.best ≡ before.best.best
    pub best_share : after.best.share ≡ before.best.share

  -- the walk of this task came to its end
  pub record IsTaskStep (task : Numbered) (before after : RankedStation S R) : Type 0 where
    pub body : List Note
    pub members : List (Member N)
    pub is_walk : IsTaskWalk t task (ranked_walk task body)
    pub goes : SeatGoes t (Ranked task.rank) before.best (entries_in (segment task.path body)) after.best
    pub log_is : seen after.log ≡ log_after (seen before.log) (entries_in (segment task.path body))
    pub are_visited : AreVisited t body members
    pub sum_is : after.hand.sum ≡ join before.hand.sum (fold_of join none (of_member of) members)
    pub best_is : incumbent_of after.hand ≡ best_after (Ranked task.rank) (incumbent_of before.hand) (visits body)
    pub moved : IsMoved before after
    pub space : 65535 ≤ after.hand.path.space

  -- the walk of this task was refused. Where the log was full, the entry that it has no room for is ahead
  pub record IsBrokenStep (task : Numbered) (fault : SearchFault) (before after : RankedStation S R) : Type 0 where
    pub notes : List Note
    pub ahead : List Note
    pub goes : SeatGoes t (Ranked task.rank) before.best (notes ++ ahead) after.best
    pub log_is : seen after.log ≡ log_after (seen before.log) notes
    pub keeps : IsBrokenWalk t 0 ranked task.path notes
    pub keeps_ahead : IsBrokenWalk t 0 ranked task.path (notes ++ ahead)
    pub cause : IsCause fault (seen after.log) ahead
    pub moved : IsMoved before after

  module _ (tasks : List Numbered) where
    -- after a turn the worker has walked one task more, or has come to its end
    abbrev pub IsTurned : RankedStation S R → RankedStation S R → Turn → Type 0
    IsTurned first now Walked = IsWorking t join none of seen tasks first now
    IsTurned first now (Ended end) = IsSameStation first now × IsRankedEnd t join none of seen tasks first now end

-- where a task was walked, its place was claimed
abbrev pub ClaimsMore : {S R : Type 0} → RankedStation S R → RankedStation S R → Turn → Type 0
ClaimsMore before after Walked = length before.claims.claimed < length after.claims.claimed
ClaimsMore before after (Ended end) = Unit {0}
