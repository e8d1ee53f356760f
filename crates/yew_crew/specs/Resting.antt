-- What all workers leave, and what the caller walks of it in the first worker's place.
use Rattle.std.specs.Prelude.{◌≡◌, ℕ, List, [], ◌∷◌, ◌++◌, map}
use Rattle.yew_best.specs.Seats.{SeatView}
use Rattle.yew_laws.specs.Bag.{SameBag, PartOfBag}
use Rattle.yew_laws.specs.SearchTree.{below}
use Rattle.yew_laws.specs.Tasks.{Members, IsAmong}
use Rattle.yew_laws.specs.declared.problem.Task.{Task}
use Rattle.yew_log.specs.Groups.{NoGroup}
use Rattle.yew_log.specs.HeldValues.{plain}
use Rattle.yew_log.specs.Lawful.{AreWalks, IsBrokenLog, IsBrokenWalk, tasks_of}
use Rattle.yew_log.specs.Notes.{Note, visits, cuts, sent_paths}
use Rattle.yew_log.specs.Segment.{Segment, entries, covered_paths}
use Rattle.yew_mail.specs.Closing as mail
use Rattle.yew_mail.specs.Seats as seats
use Rattle.yew_pool.specs.Passes as pool
use Rattle.yew_walk.specs.declared.fault.SearchFault.{SearchFault}
use Rattle.yew_walk.specs.declared.hand.Hand.{Hand}
use Rattle.yew_walk.specs.declared.keying.Keying.TheVariants.{Plain, Gap}
use Rattle.yew_walk.specs.Hands.{incumbent_of, best_after}
use Rattle.yew_walk.specs.LogViews.{log_after}
use Rattle.yew_walk.specs.Scenes.{IsCause}
use Rattle.yew_walk.specs.Seats.{SeatGoes}
use Rattle.yew_walk.specs.WorkerLogs.{SeatGoesOn}
use Rattle.yew_crew.specs.Groups.{Group, taken, IsBalanced}
use Rattle.yew_crew.specs.Stations.{Searched}
use Rattle.yew_crew.specs.Working.{gap_walk}

-- these tasks are all that the passes left, and behind them all that the mail seats left
pub record IsAllLeft {N : Type 0} (passes : List (pool.PassView (Task N) (Members N))) (seats : List (seats.SeatView (Task N) (Members N))) (left : List (Task N)) : Type 0 where
  pub of_passes : List (Task N)
  pub pool_left : pool.IsLeft IsAmong passes [] of_passes
  pub mail_left : mail.IsLeft IsAmong seats of_passes left

module _ {S R N : Type 0} (s : Searched S R N) where
  -- What the caller walked, of tasks with these paths, with this seat, hand and log: it sent nothing
  pub record IsRested (paths : List (List ℕ)) (seat : SeatView) (hand : Hand S) (log : R) (seat' : SeatView) (hand' : Hand S) (log' : R) : Type 0 where
    pub group : Group N S
    pub segments : List Segment
    pub balanced : IsBalanced s.tree s.gap s.join s.none s.of group
    pub walks : AreWalks s.tree s.gap plain NoGroup segments
    pub visits_are : group.visits ≡ visits (entries segments)
    pub cuts_are : group.cuts ≡ cuts (entries segments)
    pub tasks_are : SameBag (tasks_of segments) (taken group)
    pub took_is : SameBag group.took paths
    pub got_none : group.got ≡ []
    pub sent_none : sent_paths (entries segments) ≡ []
    pub put_none : group.put ≡ []
    pub given_none : group.given ≡ []
    pub goes : SeatGoesOn s.tree seat (map (gap_walk s.gap) segments) seat'
    pub reads : seat'.read ≡ seat.read ++ group.read
    pub offers : seat'.offered ≡ seat.offered ++ group.offered
    pub log_is : s.seen log' ≡ log_after (s.seen log) (entries segments)
    pub best_is : incumbent_of hand' ≡ best_after Plain (incumbent_of hand) group.visits
    pub sum_is : hand'.sum ≡ s.join hand.sum group.sum

  -- What the caller noted of tasks with these paths, with this seat and log, where one of its walks was refused
  -- First come the segments of the walks that came to their ends, which sent nothing, and then the notes of the one that
  -- was broken off, which are a part of its task's tree. Where the log was full, the entry that it has no room for is ahead
  pub record IsRestRefused (paths : List (List ℕ)) (fault : SearchFault) (seat : SeatView) (log : R) (seat' : SeatView) (log' : R) : Type 0 where
    pub segments : List Segment
    pub task : List ℕ
    pub notes : List Note
    pub ahead : List Note
    pub walks : AreWalks s.tree s.gap plain NoGroup segments
    pub sent_none : sent_paths (entries segments) ≡ []
    pub taken_are : PartOfBag (tasks_of segments ++ task ∷ []) paths
    pub broken : IsBrokenWalk s.tree s.gap plain task (notes ++ ahead)
    pub part : PartOfBag (covered_paths s.tree (notes ++ ahead)) (below s.tree task)
    pub keeps : IsBrokenLog s.tree s.gap plain (entries segments ++ notes)
    pub keeps_ahead : IsBrokenLog s.tree s.gap plain (entries segments ++ (notes ++ ahead))
    pub between : SeatView
    pub goes : SeatGoesOn s.tree seat (map (gap_walk s.gap) segments) between
    pub goes_last : SeatGoes s.tree (Gap s.gap) between (notes ++ ahead) seat'
    pub log_is : s.seen log' ≡ log_after (s.seen log) (entries segments ++ notes)
    pub cause : IsCause fault (s.seen log') ahead
