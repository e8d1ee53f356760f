-- A worker that spawns, as it stands between its turns, and what a turn leaves.
use Rattle.std.specs.Prelude.{[]}
use Rattle.yew_crew.specs.Outlets.{SpawningView}
use Rattle.yew_crew.specs.Reports.{IsEnd}
use Rattle.yew_crew.specs.Stations.{Searched, IsSameStation, station}
use Rattle.yew_crew.specs.Working.{IsWorking}
use Rattle.yew_crew.specs.declared.spawn_worker.Spawner.{Spawner}
use Rattle.yew_crew.specs.declared.spawn_worker.Turn.{Turn}
use Rattle.yew_crew.specs.declared.spawn_worker.Turn.TheVariants.{Walked, Idle, Ended}
use Rattle.yew_crew.specs.declared.station.Station.{Station}

-- the station of a worker that spawns: its outlet has the pass and the seat at the open tasks
abbrev pub station_of : {P N S R : Type 0} → Spawner (SpawningView P N) N S R → Station N S R
station_of spawner = station spawner.number spawner.best spawner.outlet.pass spawner.mail spawner.outlet.tasks spawner.hand spawner.log

module _ {N S R : Type 0} (s : Searched S R N) where
  -- after a turn the worker has nothing left to walk, or has come to its end
  abbrev pub IsTurned : Station N S R → Station N S R → Turn → Type 0
  IsTurned first now Walked = IsWorking s [] first now
  IsTurned first now Idle = IsWorking s [] first now
  IsTurned first now (Ended end) = IsSameStation first now × IsEnd s first now end
