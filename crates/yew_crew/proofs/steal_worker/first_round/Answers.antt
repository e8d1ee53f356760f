use Rattle.std.proofs.Common.{[]}
use Rattle.yew_laws.specs.SearchTree.{search_tree}
use Rattle.yew_walk.specs.LogViews.{log_view}
use Rattle.yew_crew.specs.Rounds.{thief_station}
use Rattle.yew_crew.specs.Stations.{searched}
use Rattle.yew_crew.specs.declared.coord.Coord.TheVariants.{Steal}
use Rattle.yew_crew.proofs.SoundTasks.{sound-task}
use Rattle.yew_crew.proofs.WorkTurns.{work-took}
use Rattle.yew_crew.proofs.steal_worker.first_round.Goals as goal

pub task_round-requires-clause-task : goal.task_round-requires-clause-task
task_round-requires-clause-task g c κs within =
    sound-task g.P.Problem c.args.problem.now (g.P.Problem.ranked c.args.problem.now) c.requires.root c.args.thief.now.pool.members c.requires.members c.in-Task.task c.in-Task.ensures.task.1

pub returns-in-Task-clause-round : goal.returns-in-Task-clause-round
returns-in-Task-clause-round g c = λ first fits w.
    c.task_round.ensures.round [] first fits
    (work-took (searched (search_tree g.P.Problem c.args.problem.now) (g.T.Tally.join c.args.tally.now) (g.T.Tally.none c.args.tally.now) (g.T.Tally.of c.args.tally.now)
    (λ l. log_view (g.R.Recorder.told l) (g.R.Recorder.totals l) (g.R.Recorder.number l)) (Steal c.args.chunk) c.args.gap) [] first (thief_station c.args.thief.now) c.take.new.pass c.in-Task.task w c.in-Task.ensures.task.0)
