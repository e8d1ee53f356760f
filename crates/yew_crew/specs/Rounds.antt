-- A worker that steals, as it stands between its rounds, and what a round leaves.
use Rattle.std.specs.Prelude.{ℕ, List}
use Rattle.yew_crew.specs.Outlets.{HandingView}
use Rattle.yew_crew.specs.Reports.{IsEnd}
use Rattle.yew_crew.specs.Stations.{Searched, IsSameStation, station}
use Rattle.yew_crew.specs.Working.{IsWorking}
use Rattle.yew_crew.specs.declared.station.Station.{Station}
use Rattle.yew_crew.specs.declared.steal_worker.Round.{Round}
use Rattle.yew_crew.specs.declared.steal_worker.Round.TheVariants.{On, Idle, Ended}
use Rattle.yew_crew.specs.declared.steal_worker.Thief.{Thief}

-- the station of a worker that steals: its outlet has the seats at the mailboxes and at the open tasks
abbrev pub thief_station : {P N S R : Type 0} → Thief (HandingView P N) N S R → Station N S R
thief_station thief = station thief.number thief.best thief.pool thief.outlet.seat thief.outlet.tasks thief.hand thief.log

-- a fact where the worker has not come to its end
abbrev pub OnGoing : Round → Type 0 → Type 0
OnGoing On fact = fact
OnGoing Idle fact = fact
OnGoing (Ended end) fact = Unit {0}

module _ {N S R : Type 0} (s : Searched S R N) where
  -- after a round the worker has these tasks still to walk, or has come to its end
  abbrev pub IsRound : List (List ℕ) → Station N S R → Station N S R → Round → Type 0
  IsRound rest first now On = IsWorking s rest first now
  IsRound rest first now Idle = IsWorking s rest first now
  IsRound rest first now (Ended end) = IsSameStation first now × IsEnd s first now end
